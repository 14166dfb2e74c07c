use Rattle.std.proofs.Common.{◌∙◌, Some, None}
use Rattle.std.specs.FinMap.{from_entries}
use Rattle.em_chain.specs.Posts.{Posted}
use Rattle.em_chain.proofs.Posting.{outcome_at, post_found}
use Rattle.em_chain.proofs.versions.Versions.outcome.Goals as goal

pub returns-in-Some : goal.returns-in-Some
returns-in-Some c = rw (← c.self.view_is) (
    let v : Posted = record { start = c.self.inside.start; posts = from_entries c.self.inside.posts.entries } in
    outcome_at v c.args.job c.args.k (Some c.in-Some.post.now) c.if-k-job.false (c.in-Some.ensures.value ∙ post_found c.self.inside.posts.entries c.args.k))

pub returns-in-None : goal.returns-in-None
returns-in-None c = rw (← c.self.view_is) (
    let v : Posted = record { start = c.self.inside.start; posts = from_entries c.self.inside.posts.entries } in
    outcome_at v c.args.job c.args.k None c.if-k-job.false (c.in-None.ensures.value ∙ post_found c.self.inside.posts.entries c.args.k))
