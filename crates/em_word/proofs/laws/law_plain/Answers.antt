use Rattle.std.proofs.Common.{[], refl, ap}
use Rattle.em_syntax.specs.declared.tree.WordPiece.{out-WordPiece}
use Rattle.em_word.specs.Words.{plan, taken_up}
use Rattle.em_word.proofs.laws.law_plain.Goals as goal

pub returns-clause-bytes : goal.returns-clause-bytes
returns-clause-bytes c = λ piece text rest parts is. ap (λ w. taken_up w (out-WordPiece piece).quoted [] parts (λ m us qs. plan m us qs rest)) is

pub returns-clause-value : goal.returns-clause-value
returns-clause-value c = λ piece value rest parts is. ap (λ w. taken_up w (out-WordPiece piece).quoted [] parts (λ m us qs. plan m us qs rest)) is

pub returns-clause-output : goal.returns-clause-output
returns-clause-output c = λ piece s rest parts is. ap (λ w. taken_up w (out-WordPiece piece).quoted [] parts (λ m us qs. plan m us qs rest)) is

pub returns-clause-nothing : goal.returns-clause-nothing
returns-clause-nothing c = λ parts. refl
