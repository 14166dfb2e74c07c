-- What jobs have posted over a start.
--     Posts        the posts, by the jobs' numbers
--     Posted       posts over a start
--     Merged       for each path, a job, and what it made the path
--     Floored      posts over a start, where the changes of the jobs below a floor are merged: of them merged has the last one
--                  for each path, and posts the outcomes alone
use Rattle.std.specs.Prelude.{ℕ, Option}
use Rattle.std.specs.Ordering.{nat_cmp}
use Rattle.std.specs.Cmp.Lexicographic.{slice_cmp}
use Rattle.std.specs.FinMap.{FinMap}
use Rattle.em_tree.specs.declared.node.Node.{Node}
use Rattle.em_tree.specs.declared.state.State.{State}
use Rattle.em_chain.specs.declared.post.Post.{Post}

abbrev pub Posts : Type 0
Posts = FinMap nat_cmp Post

pub record Posted : Type 0 where
  pub start : State
  pub posts : Posts

abbrev pub Merged : Type 0
Merged = FinMap (slice_cmp nat_cmp) (ℕ × Option Node)

pub record Floored : Type 0 where
  pub start : State
  pub floor : ℕ
  pub merged : Merged
  pub posts : Posts
