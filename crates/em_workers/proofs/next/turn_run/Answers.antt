use Rattle.em_engine.specs.Fronts.{next_of}
use Rattle.em_workers.proofs.Turning.{found_each, found_same}
use Rattle.em_workers.proofs.next.turn_run.Goals as goal

pub returns-in_ok-commit_run-in-Same-clause-cause : goal.returns-in_ok-commit_run-in-Same-clause-cause
returns-in_ok-commit_run-in-Same-clause-cause g c = found_same _ _ _ (next_of c.args.front.now) _ _ _ c.in_ok-verdict.ensures c.in-Same.is

pub returns-in_default-clause-cause : goal.returns-in_default-clause-cause
returns-in_default-clause-cause g c = found_each _ _ _ (next_of c.args.front.now) _ _ _ _ c.in_ok-verdict.ensures c.rerun_for.ensures.cause
