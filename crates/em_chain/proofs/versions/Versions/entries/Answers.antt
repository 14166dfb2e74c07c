use Rattle.std.proofs.Common.{◌∙◌, ap, ℕ, List, arith}
use Rattle.std.specs.List.{filter, sum_by}
use Rattle.std.specs.FinMap.{len, from_entries}
use Rattle.em_chain.specs.declared.post.Post.{Post}
use Rattle.em_chain.specs.Floors.{is_live}
use Rattle.em_chain.proofs.Flooring.{entries-live}
use Rattle.em_chain.proofs.Posting.{post_entries}
use Rattle.em_chain.proofs.versions.Versions.entries.Goals as goal

pub returns : goal.returns
returns c = rw (← c.self.view_is) (
    let f = c.self.inside.floor in
    let es = c.self.inside.posts.entries in
    let live = ap (λ (l : List (ℕ × Post)). sum_by (λ e. len e.1.delta) l) (entries-live f (from_entries es) ∙ ap (filter (λ e. is_live f e.0)) (post_entries es c.self.invariant.0)) in
    let a = c.count_below-merged.ensures in
    let b = c.count_live.ensures in
    let at = c.saturating_add.ensures in
    omega (arith, a, b, at, live))
