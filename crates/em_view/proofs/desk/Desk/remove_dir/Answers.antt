use Rattle.std.proofs.Common.{sym, ap}
use Rattle.em_view.specs.Rows.{remove_dir}
use Rattle.em_view.proofs.Performing.{then, exit, leave, finish, refused}
use Rattle.em_view.proofs.Looking.{sound_still}
use Rattle.em_view.proofs.Editing.{dir_goes}
use Rattle.em_view.proofs.desk.Desk.remove_dir.Goals as goal

pub returns-in_err-names-clause-performs : goal.returns-in_err-names-clause-performs
unfolding remove_dir
returns-in_err-names-clause-performs g c = leave _ c.from_residual.ensures.1 c.in_err-names.ensures.performs

pub returns-in-Some-clause-performs : goal.returns-in-Some-clause-performs
unfolding remove_dir
returns-in-Some-clause-performs g c = then _ c.in_ok-names.ensures.performs (rw (sym c.in-Some.ensures) (exit _ refused))

pub take_away-requires-clause-sound : goal.take_away-requires-clause-sound
take_away-requires-clause-sound g c = sound_still c.args.self.now c.names_below.new.self _ c.in_ok-names.ensures.still c.in_ok-names.ensures.performs.grows.grew c.requires.sound

pub take_away-requires-clause-gone : goal.take_away-requires-clause-gone
take_away-requires-clause-gone g c = dir_goes c.args.self.now c.names_below.new.self c.args.q.now _ c.requires.sound.fits c.requires.sound.paths c.requires.seen (ap (λ w. w.changes) c.in_ok-names.ensures.still) c.in_ok-names.ensures.performs (sym c.in_default.ensures)

pub returns-clause-performs : goal.returns-clause-performs
unfolding remove_dir
returns-clause-performs g c = then _ c.in_ok-names.ensures.performs (rw (sym c.in_default.ensures) (then _ finish c.take_away.ensures.performs))
