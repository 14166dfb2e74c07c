use Rattle.std.proofs.Common.{arith}
use Rattle.em_syntax.proofs.Variants.{is_bytes, is_value, is_argument, is_end, is_output}
use Rattle.em_word.proofs.passing.scripts_with.Goals as goal

pub returns-in-Bytes : goal.returns-in-Bytes
returns-in-Bytes c = rw (is_bytes c.args.piece.now c.in-Bytes.field-0 c.in-Bytes.is) (omega arith)

pub returns-in-Value : goal.returns-in-Value
returns-in-Value c = rw (is_value c.args.piece.now c.in-Value.field-0 c.in-Value.is) (omega arith)

pub returns-in-Argument : goal.returns-in-Argument
returns-in-Argument c = rw (is_argument c.args.piece.now c.in-Argument.field-0 c.in-Argument.is) (omega arith)

pub returns-in-End : goal.returns-in-End
returns-in-End c = rw (is_end c.args.piece.now c.in-End.is) (omega arith)

pub returns-in_ok-more-in-Output : goal.returns-in_ok-more-in-Output
returns-in_ok-more-in-Output c = rw (is_output c.args.piece.now c.in-Output.field-0 c.in-Output.is) (omega (arith, c.in_ok-more-in-Output.ensures))
