use Rattle.std.proofs.Common.{refl, ◌∙◌, sym, ap}
use Rattle.em_tree.specs.declared.node.Kind.TheVariants as kind
use Rattle.em_view.specs.declared.no.DeskNo.TheVariants as no
use Rattle.em_view.proofs.Performing.{then, leave, refused, ran_out}
use Rattle.em_view.proofs.Looking.{sound_still}
use Rattle.em_view.proofs.Editing.{other_goes, kind_seen}
use Rattle.em_view.proofs.desk.Desk.remove_at.Goals as goal

pub returns-in_default-clause-performs : goal.returns-in_default-clause-performs
returns-in_default-clause-performs g c = rw (sym c.in_ok-above.ensures.ok ∙ c.in_default.is) refused

pub returns-in_err-kind_below-clause-performs : goal.returns-in_err-kind_below-clause-performs
returns-in_err-kind_below-clause-performs g c = rw (sym c.in_ok-above.ensures.ok ∙ c.in-Some.is) (leave _ c.from_residual-in_err-kind_below.ensures.1 c.in_err-kind_below.ensures.performs)

pub take_away-requires-clause-sound : goal.take_away-requires-clause-sound
take_away-requires-clause-sound g c = (sound_still c.args.self.now c.kind_below.new.self _ c.in_ok-kind_below.ensures.still c.in_ok-kind_below.ensures.performs.grows.grew c.requires.sound)

pub take_away-requires-clause-gone : goal.take_away-requires-clause-gone
take_away-requires-clause-gone g c = other_goes c.kind_below.new.self c.args.q.now kind.File (λ e. cc) (λ e. cc) (sound_still c.args.self.now c.kind_below.new.self _ c.in_ok-kind_below.ensures.still c.in_ok-kind_below.ensures.performs.grows.grew c.requires.sound).fits (kind_seen {tells = g.V.View.tells} c.args.self.now c.kind_below.new.self kind.File c.args.q.now (ap (λ w. w.changes) c.in_ok-kind_below.ensures.still) (rw c.in-File.is at c.in_ok-kind_below.ensures.performs))

pub take_away-requires-in-Link-clause-sound : goal.take_away-requires-in-Link-clause-sound
take_away-requires-in-Link-clause-sound g c = (sound_still c.args.self.now c.kind_below.new.self _ c.in_ok-kind_below.ensures.still c.in_ok-kind_below.ensures.performs.grows.grew c.requires.sound)

pub take_away-requires-in-Link-clause-gone : goal.take_away-requires-in-Link-clause-gone
take_away-requires-in-Link-clause-gone g c = other_goes c.kind_below.new.self c.args.q.now kind.Link (λ e. cc) (λ e. cc) (sound_still c.args.self.now c.kind_below.new.self _ c.in_ok-kind_below.ensures.still c.in_ok-kind_below.ensures.performs.grows.grew c.requires.sound).fits (kind_seen {tells = g.V.View.tells} c.args.self.now c.kind_below.new.self kind.Link c.args.q.now (ap (λ w. w.changes) c.in_ok-kind_below.ensures.still) (rw c.in-Link.is at c.in_ok-kind_below.ensures.performs))

pub remove_dir-requires-clause-sound : goal.remove_dir-requires-clause-sound
remove_dir-requires-clause-sound g c = (sound_still c.args.self.now c.kind_below.new.self _ c.in_ok-kind_below.ensures.still c.in_ok-kind_below.ensures.performs.grows.grew c.requires.sound)

pub remove_dir-requires-clause-seen : goal.remove_dir-requires-clause-seen
remove_dir-requires-clause-seen g c = (kind_seen {tells = g.V.View.tells} c.args.self.now c.kind_below.new.self kind.Dir c.args.q.now (ap (λ w. w.changes) c.in_ok-kind_below.ensures.still) (rw c.in-Dir.is at c.in_ok-kind_below.ensures.performs))

pub returns-in-Absent-clause-performs : goal.returns-in-Absent-clause-performs
returns-in-Absent-clause-performs g c = rw (sym c.in_ok-above.ensures.ok ∙ c.in-Some.is) (then _ c.in_ok-kind_below.ensures.performs (rw c.in-Absent.is refused))

pub returns-in-File-clause-performs : goal.returns-in-File-clause-performs
returns-in-File-clause-performs g c = rw (sym c.in_ok-above.ensures.ok ∙ c.in-Some.is) (then _ c.in_ok-kind_below.ensures.performs (rw c.in-File.is c.take_away.ensures.performs))

pub returns-in-Dir-clause-performs : goal.returns-in-Dir-clause-performs
returns-in-Dir-clause-performs g c = rw (sym c.in_ok-above.ensures.ok ∙ c.in-Some.is) (then _ c.in_ok-kind_below.ensures.performs (rw c.in-Dir.is c.remove_dir.ensures.performs))

pub returns-in-Link-clause-performs : goal.returns-in-Link-clause-performs
returns-in-Link-clause-performs g c = rw (sym c.in_ok-above.ensures.ok ∙ c.in-Some.is) (then _ c.in_ok-kind_below.ensures.performs (rw c.in-Link.is c.take_away-in-Link.ensures.performs))

pub returns-in_err-above-clause-performs : goal.returns-in_err-above-clause-performs
returns-in_err-above-clause-performs g c = ran_out no.NoMemory refl (rw c.in_err-above.ensures.only at c.from_residual.ensures.1)
