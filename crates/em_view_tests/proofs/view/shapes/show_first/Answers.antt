use Rattle.std.proofs.Common.{refl}
use Rattle.em_view.specs.Examples.{show, show_first, with_first, itself}
use Rattle.em_view.proofs.Doing.{within_ok, within_err}
use Rattle.em_view_tests.proofs.view.shapes.show_first.Goals as goal

pub returns-in-Ok : goal.returns-in-Ok
unfolding show_first
returns-in-Ok g c = within_ok (λ s. s.0) with_first itself (show c.args.p.now) c.args.outputs.now c.in-Ok.ensures

pub returns-in-Err : goal.returns-in-Err
unfolding show_first
returns-in-Err g c = within_err (λ s. s.0) with_first itself (show c.args.p.now) c.args.outputs.now (λ x. refl) (λ h. refl) c.in-Err.ensures
