use Rattle.em_view.proofs.Performing.{then, leave, finish}
use Rattle.em_utility.proofs.Trying.{gave_by, gave_none}
use Rattle.em_command.specs.Streams.{source_of}
use Rattle.em_command.proofs.streams.source_of.Goals as goal

pub returns-in_err-path : goal.returns-in_err-path
unfolding source_of
returns-in_err-path g c = leave _ c.from_residual.ensures.1 (gave_none c.in_err-path.ensures)

pub returns-then-is_null : goal.returns-then-is_null
unfolding source_of
returns-then-is_null g c = then _ (gave_by c.in_ok-path.ensures) (rw (← c.is_null.ensures, c.if-is_null.true) finish)

pub returns : goal.returns
unfolding source_of
returns g c = then _ (gave_by c.in_ok-path.ensures) (rw (← c.is_null.ensures, c.if-is_null.false) c.open_file.ensures)
