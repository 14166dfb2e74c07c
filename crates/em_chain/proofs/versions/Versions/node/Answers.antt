use Rattle.std.proofs.Common.{◌∙◌, ◌≤◌, sym, ap, subst}
use Rattle.std.specs.FinMap.{get}
use Rattle.em_tree.proofs.Laying.{over}
use Rattle.em_chain.specs.Posts.{Floored}
use Rattle.em_chain.proofs.Flooring.{lies_below}
use Rattle.em_chain.proofs.Posting.{stands, lies_seen}
use Rattle.std.specs.FinMap.{from_entries}
use Rattle.em_chain.proofs.versions.Versions.node.Goals as goal

pub returns-in-Some : goal.returns-in-Some
returns-in-Some c =
    let v = c.args.self.now in
    let le = subst (λ (w : Floored). w.floor ≤ c.args.job) (sym c.self.view_is) c.requires in
    let lies = subst (λ (w : Floored). lies_below (get w.merged c.args.p.now) c.args.job) c.self.view_is (lies_seen c.self.inside.start c.self.inside.floor c.self.inside.lines (from_entries c.self.inside.posts.entries) c.args.job c.args.p.now le) in
    c.as_ref.ensures.value ∙ ap (λ o. over o (get v.start.tree c.args.p.now)) c.in-Some.ensures ∙ sym (stands v c.args.job c.args.p.now lies)

pub returns-in-None : goal.returns-in-None
returns-in-None c =
    let v = c.args.self.now in
    let le = subst (λ (w : Floored). w.floor ≤ c.args.job) (sym c.self.view_is) c.requires in
    let lies = subst (λ (w : Floored). lies_below (get w.merged c.args.p.now) c.args.job) c.self.view_is (lies_seen c.self.inside.start c.self.inside.floor c.self.inside.lines (from_entries c.self.inside.posts.entries) c.args.job c.args.p.now le) in
    c.get.ensures.node ∙ ap (λ (w : Floored). get w.start.tree c.args.p.now) c.self.view_is
    ∙ ap (λ o. over o (get v.start.tree c.args.p.now)) c.in-None.ensures ∙ sym (stands v c.args.job c.args.p.now lies)
