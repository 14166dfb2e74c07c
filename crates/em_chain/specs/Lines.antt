-- The chains of all paths that posts name.
--     chain_at t p       the chain of p; empty where none is held
--     merged_in f t      for each path whose chain begins below f, its first pair
--     IsHeld f t ps      the chain of each path is its pair in merged_in, if it has one, and the pairs of the posts from f on; the
--                        posts below f have no changes
--     IsLines m t        no chain that is held is empty, each has its path's parent beside it, and m is the index of the paths
use Rattle.std.specs.Prelude.{◌≡◌, ◌≢◌, ℕ, List, [], Option, Some, None, filter_map, option_map}
use Rattle.std.specs.List.{cons_option}
use Rattle.std.specs.Ordering.{nat_cmp}
use Rattle.std.specs.Cmp.Lexicographic.{slice_cmp}
use Rattle.std.specs.FinMap.{FinMap, get, entries, from_sorted}
use Rattle.em_path.specs.Paths.{parent_text}
use Rattle.em_tree.specs.Index.{Children, IsIndex}
use Rattle.em_chain.specs.declared.lines.PathChain.{PathChain}
use Rattle.em_chain.specs.Pairs.{Pairs}
use Rattle.em_chain.specs.Posts.{Posts, Merged}
use Rattle.em_chain.specs.Chains.{chain_of, head_below}
use Rattle.em_chain.specs.Floors.{kept, live_from}

abbrev pub LineTable : Type 0
LineTable = FinMap (slice_cmp nat_cmp) PathChain

abbrev pub chain_in : Option PathChain → Pairs
chain_in None = []
chain_in (Some line) = line.chain

abbrev pub chain_at : LineTable → List ℕ → Pairs
chain_at t p = chain_in (get t p)

abbrev pub merged_in : ℕ → LineTable → Merged
merged_in f t = from_sorted (filter_map (λ e. option_map (λ x. (e.0, x)) (head_below f e.1.chain)) (entries t))

pub record IsHeld (f : ℕ) (t : LineTable) (ps : Posts) : Type 0 where
  pub fits : (p : List ℕ) → chain_at t p ≡ cons_option (head_below f (chain_at t p)) (chain_of (live_from f ps) p)
  pub emptied : (j : ℕ) → get ps j ≡ kept f j (get ps j)

pub record IsLines (m : Children) (t : LineTable) : Type 0 where
  pub filled : (p : List ℕ) (line : PathChain) → get t p ≡ Some line → line.chain ≢ []
  pub homed : (p : List ℕ) (line : PathChain) → get t p ≡ Some line → line.above ≡ parent_text p
  pub indexed : IsIndex m t
