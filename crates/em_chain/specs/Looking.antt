-- What a job is answered under the posts of the jobs below it.
--     below j ps            the posts of the jobs below j, in order of number
--     laid_all ps t         their changes laid over a table, one after another
--     table_below v j       the start's table with them; it need not be a tree
--     outcome_below v j k   how job k ended, by its post
--     looked v j q          the answer
use Rattle.std.specs.Prelude.{ℕ, List, [], ◌∷◌, Option, None, option_map, nat_lt, if◌then◌else◌}
use Rattle.std.specs.List.{filter}
use Rattle.std.specs.FinMap.{get, entries}
use Rattle.em_tree.specs.declared.outcome.Outcome.{Outcome}
use Rattle.em_tree.specs.declared.question.Question.{Question}
use Rattle.em_tree.specs.declared.question.Answer.{Answer}
use Rattle.em_tree.specs.Trees.{Table, laid_over}
use Rattle.em_tree.specs.Answers.{answer_on}
use Rattle.em_chain.specs.declared.post.Post.{Post}
use Rattle.em_chain.specs.Posts.{Posted}

abbrev pub below : ℕ → List (ℕ × Post) → List (ℕ × Post)
below j ps = filter (λ p. nat_lt p.0 j) ps

-- the last one is laid last
abbrev pub laid_all : List (ℕ × Post) → Table → Table
laid_all [] t = t
laid_all (p ∷ ps) t = laid_all ps (laid_over p.1.delta t)

abbrev pub table_below : Posted → ℕ → Table
table_below v j = laid_all (below j (entries v.posts)) v.start.tree

-- the outcomes are those that were posted; how jobs ended in the start isn't looked at
abbrev pub outcome_below : Posted → ℕ → ℕ → Option Outcome
outcome_below v j k = if nat_lt k j then option_map (λ p. p.outcome) (get v.posts k) else None

unfoldable pub looked : Posted → ℕ → Question → Answer
looked v j q = answer_on (table_below v j) (outcome_below v j) q
