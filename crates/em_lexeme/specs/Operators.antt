-- Operators.
use Rattle.std.specs.Prelude.{ℕ, ◌==◌, ◌&&◌, ◌||◌, Option, Some, None, if◌then◌else◌}
use Rattle.em_base.specs.declared.construct.Construct.TheVariants.{HereDocument, Redirection}
use Rattle.em_base.specs.declared.construct.Construct.{Construct}
use Rattle.em_lexeme.specs.declared.lexeme.Lexeme.{Lexeme}
use Rattle.em_lexeme.specs.declared.lexeme.What.TheVariants.{Semicolon, CaseEnd, Ampersand, AndIf, OrIf, Pipe, Number, Less, Great, DoubleGreat, GreatAnd}
use Rattle.em_lexeme.specs.declared.lexeme.What.{What}

-- the operators of two bytes
abbrev pub pair : ℕ → ℕ → Option What
pair a b =
    if (a == 59) && (b == 59) then Some CaseEnd
    else if (a == 38) && (b == 38) then Some AndIf
    else if (a == 124) && (b == 124) then Some OrIf
    else if (a == 62) && (b == 62) then Some DoubleGreat
    else if (a == 62) && (b == 38) then Some GreatAnd
    else None

-- `<<`; `<&` `<>` `>|`
abbrev pub refused_pair : ℕ → ℕ → Option Construct
refused_pair a b =
    if (a == 60) && (b == 60) then Some HereDocument
    else if ((a == 60) && ((b == 38) || (b == 62))) || ((a == 62) && (b == 124)) then Some Redirection
    else None

-- an operator of one byte
abbrev pub single : ℕ → What
single a =
    if a == 59 then Semicolon
    else if a == 38 then Ampersand
    else if a == 124 then Pipe
    else if a == 60 then Less
    else Great

-- where a lexeme is a descriptor 0
abbrev pub zero_in : What → ℕ → Option ℕ
zero_in (Number n) at = if n == 0 then Some at else None
zero_in _ at = None

abbrev pub zero_at : Option Lexeme → Option ℕ
zero_at None = None
zero_at (Some l) = zero_in l.what l.span.start
