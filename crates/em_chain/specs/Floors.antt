-- Posts whose changes are merged below a floor.
--     live v                what the jobs from the floor on have posted
--     chain_over v p        where a job's change of p is merged, that job and what it made p; then the pairs of the live posts
--     last_over v j p       the greatest of these jobs below j
--     change_over v j p     what that job makes p
--     table_over v j        the start's table, what is merged laid over it, and then the live posts of the jobs below j
--     looked_over v j q     what job j is answered
--     entries_of v          how many pairs of a path and a job stand in merged and in the live posts
--     IsMerged c ps f v     v has its floor at f: of the jobs below, merged has for each path the last pair of its chain c, and posts
--                           the outcomes alone; the posts of the others are those of ps
--     IsRaised v f w        w is v with its floor at f
--     IsAt b f v            v is what b has posted, with its floor at f
use Rattle.std.specs.Prelude.{◌≡◌, ◌+◌, ℕ, Bool, not, List, Option, map, option_map, nat_lt, if◌then◌else◌}
use Rattle.std.specs.List.{cons_option, sum_by}
use Rattle.std.specs.FinMap.{get, entries, empty, len, retain_keys}
use Rattle.em_tree.specs.declared.node.Node.{Node}
use Rattle.em_tree.specs.declared.question.Question.{Question}
use Rattle.em_tree.specs.declared.question.Answer.{Answer}
use Rattle.em_tree.specs.declared.outcome.Outcome.{Outcome}
use Rattle.em_tree.specs.Trees.{Table, changed_all}
use Rattle.em_tree.specs.Answers.{answer_on}
use Rattle.em_chain.specs.declared.post.Post.{Post}
use Rattle.em_chain.specs.Pairs.{Pairs}
use Rattle.em_chain.specs.Posts.{Posts, Posted, Merged, Floored}
use Rattle.em_chain.specs.Chains.{chain_of, last_below}
use Rattle.em_chain.specs.Looking.{below, laid_all, outcome_below}

abbrev pub is_live : ℕ → ℕ → Bool
is_live f j = not (nat_lt j f)

abbrev pub live_from : ℕ → Posts → Posts
live_from f ps = retain_keys ps (is_live f)

abbrev pub live : Floored → Posts
live v = live_from v.floor v.posts

abbrev pub chain_over : Floored → List ℕ → Pairs
chain_over v p = cons_option (get v.merged p) (chain_of (live v) p)

abbrev pub last_over : Floored → ℕ → List ℕ → Option ℕ
last_over v j p = option_map (λ e. e.0) (last_below j (chain_over v p))

abbrev pub change_over : Floored → ℕ → List ℕ → Option (Option Node)
change_over v j p = option_map (λ e. e.1) (last_below j (chain_over v p))

abbrev pub merged_over : Merged → Table → Table
merged_over m t = changed_all (map (λ e. (e.0, e.1.1)) (entries m)) t

abbrev pub table_over : Floored → ℕ → Table
table_over v j = laid_all (below j (entries (live v))) (merged_over v.merged v.start.tree)

abbrev pub outcome_over : Floored → ℕ → ℕ → Option Outcome
outcome_over v j k = outcome_below (record { start = v.start; posts = v.posts }) j k

unfoldable pub looked_over : Floored → ℕ → Question → Answer
looked_over v j q = answer_on (table_over v j) (outcome_over v j) q

abbrev pub entries_of : Floored → ℕ
entries_of v = len v.merged + sum_by (λ e. len e.1.delta) (entries (live v))

abbrev pub emptied : Post → Post
emptied p = record { delta = empty; outcome = p.outcome }

-- below the floor the outcome alone
abbrev pub kept : ℕ → ℕ → Option Post → Option Post
kept f j o = if nat_lt j f then option_map emptied o else o

pub record IsMerged (c : List ℕ → Pairs) (ps : Posts) (f : ℕ) (v : Floored) : Type 0 where
  pub floor : v.floor ≡ f
  pub merged : (p : List ℕ) → get v.merged p ≡ last_below f (c p)
  pub posts : (j : ℕ) → get v.posts j ≡ kept f j (get ps j)

pub record IsRaised (v : Floored) (f : ℕ) (w : Floored) : Type 0 where
  pub start : w.start ≡ v.start
  pub rest : IsMerged (chain_over v) v.posts f w

pub record IsAt (b : Posted) (f : ℕ) (v : Floored) : Type 0 where
  pub start : v.start ≡ b.start
  pub rest : IsMerged (chain_of b.posts) b.posts f v
