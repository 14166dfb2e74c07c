-- What a post does to the chain of one path, as its changes go by.
--     names es p              the changes es name p
--     keeps d p               there are changes d, and they name p
--     written j p es c        c with what es make p at the job j
--     dropped j d p es c      c without the job j, if es name p and d doesn't
--     Roomed j c d            d is c, or has a pair of the job j more
--     cut_at j p es c         c from the job j on, if es name p
use Rattle.std.specs.Prelude.{◌≡◌, ℕ, Bool, false, not, ◌&&◌, ◌⊎◌, if◌then◌else◌, List, [], ◌∷◌, Option, Some, None, is_some}
use Rattle.std.specs.Ordering.{nat_cmp, eq_by_cmp}
use Rattle.std.specs.Cmp.Lexicographic.{slice_cmp}
use Rattle.std.specs.FinMap.{find, put, contains_key, entries}
use Rattle.em_tree.specs.declared.node.Node.{Node}
use Rattle.em_tree.specs.Trees.{Changes}
use Rattle.em_chain.specs.declared.post.Post.{Post}
use Rattle.em_chain.specs.Pairs.{Pairs}
use Rattle.em_chain.specs.Chains.{from_job, roomed, without}

abbrev pub ChangeList : Type 0
ChangeList = List (List ℕ × Option Node)

abbrev pub names : ChangeList → List ℕ → Bool
names es p = is_some (find (slice_cmp nat_cmp) p es)

abbrev pub keeps : Option Changes → List ℕ → Bool
keeps None p = false
keeps (Some d) p = contains_key d p

abbrev pub written : ℕ → List ℕ → ChangeList → Pairs → Pairs
written j p [] c = c
written j p (e ∷ es) c = written j p es (if eq_by_cmp (slice_cmp nat_cmp) p e.0 then put nat_cmp j e.1 c else c)

abbrev pub dropped : ℕ → Option Changes → List ℕ → ChangeList → Pairs → Pairs
dropped j d p [] c = c
dropped j d p (e ∷ es) c = dropped j d p es (if eq_by_cmp (slice_cmp nat_cmp) p e.0 && not (keeps d e.0) then without j c else c)

abbrev pub dropped_by : ℕ → Option Changes → List ℕ → Option Post → Pairs → Pairs
dropped_by j d p None c = c
dropped_by j d p (Some post) c = dropped j d p (entries post.delta) c

abbrev pub Roomed : ℕ → Pairs → Pairs → Type 0
Roomed j c d = (d ≡ c) ⊎ (d ≡ roomed j c)

abbrev pub cut_at : ℕ → List ℕ → ChangeList → Pairs → Pairs
cut_at j p es c = if names es p then from_job j c else c
