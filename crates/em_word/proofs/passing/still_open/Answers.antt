use Rattle.std.proofs.Common.{◌∙◌, ◌-◌, ap, sym, arith}
use Rattle.em_word.specs.Passing.{still_open}
use Rattle.em_word.proofs.Counting.{bytes_nest, value_nests, argument_nests, end_nests, output_nests, stays_open}
use Rattle.em_word.proofs.passing.still_open.Goals as goal

pub returns-in-Bytes : goal.returns-in-Bytes
returns-in-Bytes c = stays_open c.args.before c.requires ∙ sym (ap (λ x. still_open x (c.args.before - 1)) (bytes_nest c.args.piece.now c.in-Bytes.field-0 c.in-Bytes.is))

pub returns-in-Value : goal.returns-in-Value
returns-in-Value c = stays_open c.args.before c.requires ∙ sym (ap (λ x. still_open x (c.args.before - 1)) (value_nests c.args.piece.now c.in-Value.field-0 c.in-Value.is))

pub returns-in-End : goal.returns-in-End
returns-in-End c = sym (ap (λ x. still_open x (c.args.before - 1)) (end_nests c.args.piece.now c.in-End.is))

pub returns-in-Output : goal.returns-in-Output
returns-in-Output c = stays_open c.args.before c.requires ∙ sym (ap (λ x. still_open x (c.args.before - 1)) (output_nests c.args.piece.now c.in-Output.field-0 c.in-Output.is))

pub returns-in_ok-more-in-Argument : goal.returns-in_ok-more-in-Argument
returns-in_ok-more-in-Argument c = rw (argument_nests c.args.piece.now c.in-Argument.field-0 c.in-Argument.is) (omega (arith, c.in_ok-more-in-Argument.ensures, c.requires))
