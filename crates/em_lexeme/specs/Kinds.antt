-- What a lexeme that stands outside of all words is as a token.
use Rattle.em_lexeme.specs.declared.lexeme.TokenKind.{TokenKind}
use Rattle.em_lexeme.specs.declared.lexeme.TokenKind as kind
use Rattle.em_lexeme.specs.declared.lexeme.What.{What}
use Rattle.em_lexeme.specs.declared.lexeme.What.TheVariants.{Newline, Number}

abbrev pub kind_of : What → TokenKind
kind_of Newline = kind.TheVariants.Newline
kind_of (Number n) = kind.TheVariants.Number
kind_of _ = kind.TheVariants.Operator
