use Rattle.std.proofs.Common.{ap, Some, None}
use Rattle.em_view.specs.Rows.{take_away}
use Rattle.em_view.proofs.Performing.{then, leave}
use Rattle.em_view.proofs.Looking.{applied, room_paid}
use Rattle.em_view.proofs.Editing.{remove_fits}
use Rattle.em_view.proofs.Fitting.{paths_becomes, not_above}
use Rattle.em_view.proofs.desk.Desk.take_away.Goals as goal

pub returns-in_err-pay-clause-performs : goal.returns-in_err-pay-clause-performs
unfolding take_away
returns-in_err-pay-clause-performs g c = leave _ c.from_residual.ensures.1 c.in_err-pay.ensures.performs

pub change-requires-clause-apart : goal.change-requires-clause-apart
change-requires-clause-apart g c = rw c.in_ok-copy.ensures (not_above c.args.q.now c.args.above c.requires.parent)

pub change-requires-clause-room : goal.change-requires-clause-room
change-requires-clause-room g c = room_paid c.args.self.now c.pay.new.self _ c.requires.sound.room c.in_ok-pay.ensures.ok.0 c.in_ok-pay.ensures.ok.1

pub change-requires-clause-fits : goal.change-requires-clause-fits
change-requires-clause-fits g c = rw (c.in_ok-copy.ensures, ap (λ d. d.usage) c.in_ok-pay.ensures.ok.0, ap (λ d. d.work.changes) c.in_ok-pay.ensures.ok.0) (remove_fits c.args.self.now c.args.q.now c.args.above _ c.requires.sound.fits c.requires.parent c.requires.gone)

pub change-requires-clause-paths : goal.change-requires-clause-paths
change-requires-clause-paths g c = rw (c.in_ok-copy.ensures, ap (λ d. d.work.changes) c.in_ok-pay.ensures.ok.0) (paths_becomes c.args.q.now None (Some c.args.above) _ _ c.requires.sound.paths c.requires.path c.text-text.ensures.path)

pub returns-clause-performs : goal.returns-clause-performs
unfolding take_away
returns-clause-performs g c =
    let made = applied {tells = g.V.View.tells} c.pay.new.self c.change.new.self c.in_ok-copy.field-0 None (Some c.args.above) c.change.result c.change.ensures.ok c.change.ensures.err c.change.ensures.only in
    then _ c.in_ok-pay.ensures.performs (rw c.in_ok-copy.ensures at made)
