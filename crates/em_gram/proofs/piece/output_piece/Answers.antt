use Rattle.em_gram.proofs.Holding.{output_some, output_none, output_nesting}
use Rattle.em_gram.proofs.piece.output_piece.Goals as goal

pub returns-in-Some-clause-spells : goal.returns-in-Some-clause-spells
returns-in-Some-clause-spells c = λ us rest. rw c.in-Some.is (output_some c.args.quoted c.in-Some.script us rest)

pub returns-in-Some-clause-nesting : goal.returns-in-Some-clause-nesting
returns-in-Some-clause-nesting c = output_nesting c.args.quoted c.in-Some.script

pub returns-in-None-clause-spells : goal.returns-in-None-clause-spells
returns-in-None-clause-spells c = λ us rest. rw c.in-None.is (output_none c.args.quoted c.no_commands.result us rest c.no_commands.ensures)

pub returns-in-None-clause-nesting : goal.returns-in-None-clause-nesting
returns-in-None-clause-nesting c = output_nesting c.args.quoted c.no_commands.result
