use Rattle.em_view.proofs.Doing.{finish_s}
use Rattle.em_command.proofs.Words.{run_named, run_none}
use Rattle.em_command.proofs.command.run.Goals as goal

pub returns-in-Some : goal.returns-in-Some
returns-in-Some g c = run_named _ _ _ _ c.in-Some.ensures.value (rw c.bytes.ensures at c.by_refusal.ensures)

pub returns-in-None : goal.returns-in-None
returns-in-None g c = run_none _ _ c.args.words.now c.in-None.ensures.value (rw (c.plain.ensures, c.begun.ensures) finish_s)
