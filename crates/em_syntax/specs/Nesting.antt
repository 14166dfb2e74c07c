-- How the pieces of a word nest: an `Argument` opens the argument of a value, and an `End` closes
-- the innermost one.
--     IsClosed ps       each `End` belongs to an `Argument` before it, and none is left open
--     open_after n ns   how many are open behind these, where n were before them
use Rattle.std.specs.Prelude.{◌≡◌, ℕ, zero, suc, List, [], ◌∷◌, ◌++◌, Option, Some, None}
use Rattle.em_syntax.specs.declared.tree.Command.TheOpen.{WordWhat-F}
use Rattle.em_syntax.specs.declared.tree.WordPiece.{WordPiece}
use Rattle.em_syntax.specs.Pieces.{What, what_in}

pub data Nesting : Type 0 where
  Stays : Nesting
  Opens : Nesting
  Closes : Nesting

abbrev pub nesting_in : What → Nesting
nesting_in (WordWhat-F.Argument v) = Opens
nesting_in WordWhat-F.End = Closes
nesting_in _ = Stays

abbrev pub nesting_of : WordPiece → Nesting
nesting_of p = nesting_in (what_in p)

pub data IsClosed : List WordPiece → Type 0 where
  nothing : IsClosed []
  plain : (p : WordPiece) (ps : List WordPiece) → nesting_of p ≡ Stays → IsClosed ps → IsClosed (p ∷ ps)
  argument : (p : WordPiece) (inside : List WordPiece) (e : WordPiece) (ps : List WordPiece) →
      nesting_of p ≡ Opens → IsClosed inside → nesting_of e ≡ Closes → IsClosed ps → IsClosed (p ∷ inside ++ e ∷ ps)

-- none where an `End` belongs to no `Argument`
abbrev pub open_after : ℕ → List Nesting → Option ℕ
open_after n [] = Some n
open_after n (Stays ∷ ns) = open_after n ns
open_after n (Opens ∷ ns) = open_after (suc n) ns
open_after zero (Closes ∷ ns) = None
open_after (suc n) (Closes ∷ ns) = open_after n ns
