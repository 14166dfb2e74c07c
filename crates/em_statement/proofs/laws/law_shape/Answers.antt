use Rattle.em_statement.specs.Shapes.{shape}
use Rattle.em_statement.proofs.Blotted.{shape_blotted, blotted_length}
use Rattle.em_statement.proofs.laws.law_shape.Goals as goal

pub returns-clause-bytes : goal.returns-clause-bytes
returns-clause-bytes c = shape_blotted

pub returns-clause-places : goal.returns-clause-places
returns-clause-places c = λ text. blotted_length (shape text) text (shape_blotted text)
