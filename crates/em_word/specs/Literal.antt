-- Words that are one text in any shell: a piece of bytes that are quoted, or of which none parts
-- fields or is of a pattern.
use Rattle.std.specs.Prelude.{ℕ, ◌==◌, ◌&&◌, ◌||◌, Bool, not, List, [], ◌∷◌, length, Option, Some, None, if◌then◌else◌}
use Rattle.std.specs.List.{list_all}
use Rattle.em_syntax.specs.declared.tree.Command.TheOpen.{WordWhat-F}
use Rattle.em_syntax.specs.declared.tree.Word.{Word, out-Word}
use Rattle.em_syntax.specs.declared.tree.WordPiece.{WordPiece, out-WordPiece}
use Rattle.em_syntax.specs.Pieces.{What, what_in}
use Rattle.em_fields.specs.Parts.{is_space}

-- `*`, `?` and `[` begin patterns
abbrev pub is_ordinary : ℕ → Bool
is_ordinary b = not (is_space b || ((b == 42) || ((b == 63) || (b == 91))))

abbrev pub is_plain : List ℕ → Bool
is_plain text = not (length text == 0) && list_all is_ordinary text

abbrev pub stands_alone : Bool → List ℕ → Bool
stands_alone quoted text = quoted || is_plain text

abbrev pub text_in : What → Bool → Option (List ℕ)
text_in (WordWhat-F.Bytes text) quoted = if stands_alone quoted text then Some text else None
text_in _ quoted = None

abbrev pub text_of_pieces : List WordPiece → Option (List ℕ)
text_of_pieces (p ∷ []) = text_in (what_in p) (out-WordPiece p).quoted
text_of_pieces _ = None

abbrev pub literal_of : Word → Option (List ℕ)
literal_of w = text_of_pieces (out-Word w).pieces.items
