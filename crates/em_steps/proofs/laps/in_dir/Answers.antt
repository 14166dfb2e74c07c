use Rattle.std.proofs.Common.{◌∙◌, sym, refl}
use Rattle.em_view.proofs.Doing.{then_s, exit_s, owned_s, out_s, below_ok, below_err}
use Rattle.em_job.specs.Stops as stops
use Rattle.em_job.proofs.Stopping.{desk_free}
use Rattle.em_steps.proofs.laps.in_dir.Goals as goal

pub returns-in_err-dir-clause-does : goal.returns-in_err-dir-clause-does
returns-in_err-dir-clause-does g c = out_s _ refl c.from_residual.ensures.1

pub returns-in_default-clause-does : goal.returns-in_default-clause-does
returns-in_default-clause-does g c = rw (sym (rw c.bytes.ensures at c.in_ok-dir.ensures) ∙ c.in_default.is) (owned_s _ (rw c.bytes-in_default.ensures at c.refuse_dir.ensures.works))

pub returns-in-Ok-clause-does : goal.returns-in-Ok-clause-does
returns-in-Ok-clause-does g c = rw (sym (rw c.bytes.ensures at c.in_ok-dir.ensures) ∙ c.in-Some.is) (then_s _ (below_ok (stops.of_desk c.args.place.now) c.in-Ok.ensures.performs) (owned_s _ c.by_kind.ensures.works))

pub returns-in-Err-clause-does : goal.returns-in-Err-clause-does
returns-in-Err-clause-does g c = rw (sym (rw c.bytes.ensures at c.in_ok-dir.ensures) ∙ c.in-Some.is) (exit_s _ (below_err (stops.of_desk c.args.place.now) (desk_free c.args.place.now) c.of_desk.ensures c.in-Err.ensures.performs))
