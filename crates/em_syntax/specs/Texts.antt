-- Words that are one piece of bytes, quoted or not.
use Rattle.std.specs.Prelude.{ℕ, List, [], ◌∷◌, Option, Some, None}
use Rattle.em_syntax.specs.declared.tree.Command.TheOpen.{WordWhat-F}
use Rattle.em_syntax.specs.declared.tree.Word.{Word, out-Word}
use Rattle.em_syntax.specs.declared.tree.WordPiece.{WordPiece}
use Rattle.em_syntax.specs.Pieces.{What, what_in}

abbrev pub bytes_what : What → Option (List ℕ)
bytes_what (WordWhat-F.Bytes text) = Some text
bytes_what _ = None

abbrev pub bytes_in : WordPiece → Option (List ℕ)
bytes_in p = bytes_what (what_in p)

abbrev pub bytes_of_pieces : List WordPiece → Option (List ℕ)
bytes_of_pieces (p ∷ []) = bytes_in p
bytes_of_pieces _ = None

abbrev pub bytes_of : Word → Option (List ℕ)
bytes_of w = bytes_of_pieces (out-Word w).pieces.items
