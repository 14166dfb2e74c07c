use Rattle.em_script.specs.Lines.{Unexpected, Unclosed}
use Rattle.em_script.proofs.line.ShellLine.read.Goals as goal

pub returns-in-Ok : goal.returns-in-Ok
returns-in-Ok c = c.in-Ok.ensures.tree

pub returns-in-Err-Unexpected : goal.returns-in-Err-Unexpected
returns-in-Err-Unexpected c = Unexpected _ (rw c.in-Err-Unexpected.field-0-is at c.in-Err-Unexpected.ensures.fault)

pub returns-in-Err-Unclosed : goal.returns-in-Err-Unclosed
returns-in-Err-Unclosed c = Unclosed _ (rw c.in-Err-Unclosed.field-0-is at c.in-Err-Unclosed.ensures.fault)

pub returns-in-Err-Refused : goal.returns-in-Err-Refused
returns-in-Err-Refused c = record { at = _; fault = rw c.in-Err-Refused.field-0-is at c.in-Err-Refused.ensures.fault }
