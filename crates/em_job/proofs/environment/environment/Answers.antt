use Rattle.std.proofs.Common.{◌≡◌, ◌∙◌, [], get_or, refl, sym}
use Rattle.em_view.proofs.Doing.{finish_s, out_s, more_s, stop_s, end_s}
use Rattle.em_base.proofs.Lemmas.{cell, none_at}
use Rattle.em_job.specs.Carrying.{environment}
use Rattle.em_job.proofs.Entries.{ok_is, all_is_places}
use Rattle.em_job.proofs.environment.environment.Goals as goal

pub returns-in_err-env : goal.returns-in_err-env
returns-in_err-env g c = out_s _ refl c.from_residual.ensures.1

pub loop-i-init : goal.loop-i-init
loop-i-init g c =
    let e : c.in_ok-env.env ≡ [] = ok_is (sym c.in_ok-env.was ∙ c.new.ensures) in
    rw (e, c.handed-places.ensures, all_is_places c.args.job.now c.args.autos.now c.args.place.now []) (λ new u r p. p)

pub returns-in_err-env-2 : goal.returns-in_err-env-2
unfolding environment
returns-in_err-env-2 g c = let left = cell c.handed-places.result.now c.loop-i.i-index (get_or c.handed-places.result.now c.loop-i.i-index 0) c.loop-i-test.true refl in
    stop_s _ (rw left at c.loop-i.invariant) c.from_residual-in_err-env-2.ensures.1 c.in_err-env-2.ensures

pub loop-i-preserved : goal.loop-i-preserved
loop-i-preserved g c = let left = cell c.handed-places.result.now c.loop-i.i-index (get_or c.handed-places.result.now c.loop-i.i-index 0) c.loop-i-test.true refl in
    more_s _ (rw left at c.loop-i.invariant) c.in_ok-env-2.ensures

pub returns : goal.returns
unfolding environment
returns g c = end_s (rw (none_at c.handed-places.result.now c.loop-i.i-index c.loop-i-test.false) at c.loop-i.invariant) finish_s
