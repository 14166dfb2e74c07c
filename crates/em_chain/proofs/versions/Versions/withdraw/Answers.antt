use Rattle.std.proofs.Common.{◌≤◌, ◌∙◌, ap, subst, sym}
use Rattle.std.specs.FinMap.{from_entries}
use Rattle.em_chain.specs.Posts.{Posts, Merged, Floored}
use Rattle.em_chain.specs.Lines.{merged_in}
use Rattle.em_chain.proofs.Posting.{post_taken, withdraw_held, withdraw_merged}
use Rattle.em_chain.proofs.versions.Versions.withdraw.Goals as goal

pub invariant_of-self : goal.invariant_of-self
invariant_of-self c =
    let le = subst (λ (w : Floored). w.floor ≤ c.args.job) (sym c.self.view_is) c.requires in (
      c.remove-old.ensures.ordered,
      withdraw_held c.self.inside.floor c.self.inside.posts c.self.inside.lines c.args.job le c.self.invariant.1 c.remove-old.new.self c.drop_old.new.lines c.remove-old.result c.remove-old.ensures.value c.drop_old.ensures c.remove-old.ensures.updates,
    )

pub returns : goal.returns
returns c =
    let le = subst (λ (w : Floored). w.floor ≤ c.args.job) (sym c.self.view_is) c.requires in
    rw (← c.self.view_is) (
    let with : Merged → Posts → Floored = λ m ps. record { start = c.self.inside.start; floor = c.self.inside.floor; merged = m; posts = ps } in
    ap (λ (m : Merged). with m (from_entries c.remove-old.new.self.entries)) (withdraw_merged c.self.inside.floor c.self.inside.posts c.self.inside.lines c.args.job le c.self.invariant.1 c.remove-old.new.self c.drop_old.new.lines c.remove-old.result c.remove-old.ensures.value c.drop_old.ensures c.remove-old.ensures.updates)
    ∙ ap (with (merged_in c.self.inside.floor c.self.inside.lines)) (post_taken c.self.inside.posts c.remove-old.new.self c.args.job c.remove-old.ensures.updates))
