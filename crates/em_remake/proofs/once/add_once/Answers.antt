use Rattle.em_plan.proofs.Asked.{there_more}
use Rattle.em_remake.proofs.once.add_once.Goals as goal

pub returns-in_ok-push-clause-there : goal.returns-in_ok-push-clause-there
returns-in_ok-push-clause-there c = rw (c.in_ok-push.ensures.ok, c.in_ok-insert.ensures.ok, c.in_ok-from_slice.ensures, c.in_ok-from_slice-2.ensures) (there_more c.args.there.now c.args.names.now c.undotted-name.result.now c.requires)
