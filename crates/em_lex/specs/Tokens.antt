-- The tokens of a line: what stands outside of all words, and whole words.
--     tokens_of line     the tokens, where the line has no fault, or the leftmost fault
use Rattle.std.specs.Prelude.{ℕ, List, Option, Some, None, Result, Ok, Err}
use Rattle.em_lexeme.specs.declared.lexeme.Lexeme.{Lexeme}
use Rattle.em_lexeme.specs.declared.lexeme.Token.{Token}
use Rattle.em_lexeme.specs.declared.no.LexNo.{LexNo}
use Rattle.em_lex.specs.Lexing.{lexed}
use Rattle.em_lexeme.specs.Outer.{tokens_from}

abbrev pub tokens_or : Option LexNo → List Lexeme → Result (List Token) LexNo
tokens_or None items = Ok (tokens_from 0 0 items)
tokens_or (Some fault) items = Err fault

unfoldable pub tokens_of : List ℕ → Result (List Token) LexNo
tokens_of line = tokens_or (lexed line).stop (lexed line).items
