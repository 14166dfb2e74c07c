-- A word that is being read: its pieces so far, and how many arguments are open behind them.
use Rattle.std.specs.Prelude.{◌≡◌, ℕ, ◌==◌, Bool, not, List, map, Some}
use Rattle.em_lexeme.specs.declared.lexeme.What.{What}
use Rattle.em_token.specs.Words.{word_goes_on}
use Rattle.em_token.specs.Shell.{Expr}
use Rattle.em_gram.specs.Patterns.{piece_spelling}
use Rattle.em_gram.specs.declared.nest.Nest.{Nest}
use Rattle.em_syntax.specs.Nesting.{Nesting, open_after}
use Rattle.em_syntax.specs.declared.tree.WordPiece.{WordPiece}

abbrev pub piece_pattern : WordPiece → Expr
piece_pattern p = (piece_spelling p).pattern

abbrev pub piece_nesting : WordPiece → Nesting
piece_nesting p = (piece_spelling p).nesting

-- what was read so far
abbrev pub nest_parts : Nest → List Expr
nest_parts n = map piece_pattern n.pieces.items

abbrev pub nest_depth : Nest → ℕ
nest_depth n = n.open_arguments

-- so many are open
abbrev pub IsCounted : Nest → Type 0
IsCounted n = open_after 0 (map piece_nesting n.pieces.items) ≡ Some n.open_arguments

abbrev pub may_go_on : ℕ → List What → Bool
may_go_on open_arguments ts = word_goes_on (not (open_arguments == 0)) ts
