use Rattle.std.proofs.Common.{inr, refl, sym, ap, ◌∙◌}
use Rattle.em_view.specs.declared.no.DeskNo.TheVariants as no
use Rattle.em_view.specs.Rows.{make_link_at}
use Rattle.em_view.proofs.Performing.{then, exit, leave, finish, refused, ran_out}
use Rattle.em_view.proofs.Looking.{dir_fits, apart, above_path, applied, numbered, room_paid, sound_still}
use Rattle.em_view.proofs.Fitting.{paths_becomes}
use Rattle.em_view.proofs.desk.Desk.make_link_at.Goals as goal

pub returns-in_err-spot-clause-performs : goal.returns-in_err-spot-clause-performs
unfolding make_link_at
returns-in_err-spot-clause-performs g c = leave _ c.from_residual-in_err-spot.ensures.1 c.in_err-spot.ensures.performs

pub returns-in-Some-clause-performs : goal.returns-in-Some-clause-performs
unfolding make_link_at
returns-in-Some-clause-performs g c = then _ c.in_ok-spot.ensures.performs (rw (sym c.in-Some.ensures) (exit _ refused))

pub returns-in_err-pay-clause-performs : goal.returns-in_err-pay-clause-performs
unfolding make_link_at
returns-in_err-pay-clause-performs g c = then _ c.in_ok-spot.ensures.performs (rw (sym c.in_default.ensures) (then _ finish (leave _ c.from_residual-in_err-pay.ensures.1 (rw c.blocks-2.ensures at c.in_err-pay.ensures.performs))))

pub change-requires-clause-apart : goal.change-requires-clause-apart
change-requires-clause-apart g c = rw c.in_ok-copy.ensures (apart c.args.q.now _ (inr c.in_ok-above.ensures.ok))

pub change-requires-clause-room : goal.change-requires-clause-room
change-requires-clause-room g c = room_paid c.look.new.self c.pay.new.self _ (sound_still c.args.self.now c.look.new.self _ c.in_ok-spot.ensures.still c.in_ok-spot.ensures.performs.grows.grew c.requires.sound).room c.in_ok-pay.ensures.ok.0 c.in_ok-pay.ensures.ok.1

pub change-requires-clause-fits : goal.change-requires-clause-fits
change-requires-clause-fits g c = rw c.in_ok-copy.ensures (dir_fits c.args.self.now c.look.new.self c.pay.new.self c.args.q.now c.in_ok-spot.spot _ c.requires.path c.requires.sound.fits
    c.in_ok-spot.ensures.performs (ap (λ d. d.usage) c.in_ok-pay.ensures.ok.0) (c.in_ok-pay.ensures.still ∙ ap (λ w. w.changes) c.in_ok-spot.ensures.still) (inr c.in_ok-above.ensures.ok) _ _ (sym c.in_default.ensures))

pub change-requires-clause-paths : goal.change-requires-clause-paths
change-requires-clause-paths g c = rw (c.in_ok-copy.ensures, c.in_ok-pay.ensures.still, ap (λ w. w.changes) c.in_ok-spot.ensures.still) (paths_becomes c.args.q.now _ _ _ _ c.requires.sound.paths c.requires.path (above_path c.in_ok-above.above _ c.in_ok-above.ensures.path (inr refl)))

pub returns-clause-performs : goal.returns-clause-performs
unfolding make_link_at
returns-clause-performs g c =
    let made = applied {tells = g.V.View.tells} c.pay.new.self c.change.new.self _ _ _ c.change.result c.change.ensures.ok c.change.ensures.err c.change.ensures.only in
    then _ c.in_ok-spot.ensures.performs (rw (sym c.in_default.ensures) (then _ finish (then _ (rw c.blocks-2.ensures at c.in_ok-pay.ensures.performs) (then _ (numbered c.pay.new.self c.number-stamp.result c.number-stamp.ensures) (rw (c.in_ok-copy.ensures, c.new-text.ensures, c.in_ok-from_slice.ensures, c.in_ok-above.ensures.ok) at made)))))

pub returns-in_err-above-clause-performs : goal.returns-in_err-above-clause-performs
returns-in_err-above-clause-performs g c = ran_out no.NoMemory refl (rw c.in_err-above.ensures.only at c.from_residual.ensures.1)
