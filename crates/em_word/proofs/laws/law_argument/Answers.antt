use Rattle.std.proofs.Common.{[], refl}
use Rattle.em_syntax.specs.declared.tree.WordPiece.{out-WordPiece}
use Rattle.em_word.proofs.Meaning.{closed_first, value_begun}
use Rattle.em_word.proofs.laws.law_argument.Goals as goal

pub returns : goal.returns
returns c = λ begin end value inside rest is closed ends parts. value_begun (out-WordPiece begin).quoted value.name inside end closed (closed_first inside closed) ends [] parts rest begin value.form value refl refl refl is
