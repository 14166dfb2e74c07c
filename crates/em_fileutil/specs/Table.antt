-- The file utilities, one line each: the name, what it is, and the letters of its options.
use Rattle.std.specs.Prelude.{ℕ, Bool, List, [], ◌∷◌, Option, codes}
use Rattle.std.specs.List.{find}
use Rattle.std.specs.Str.{bytes_eq}
use Rattle.em_fileutil.specs.declared.table.FileUtility.{FileUtility}
use Rattle.em_fileutil.specs.declared.table.FileUtility.TheVariants.{Copy, Move, Remove, MakeDirectory, RemoveDirectory, Touch, ListDirectory, MakeLink, ReadLink}
use Rattle.em_fileutil.specs.declared.table.UtilityRow.{UtilityRow}

pub record Row : Type 0 where
  pub name : List ℕ
  pub utility : FileUtility
  pub letters : List ℕ

abbrev pub row : List ℕ → FileUtility → List ℕ → Row
row name utility letters = record { name = name; utility = utility; letters = letters }

abbrev pub table : List Row
table =
    row (codes "cp") Copy (codes "fr")
    ∷ row (codes "mv") Move (codes "f")
    ∷ row (codes "rm") Remove (codes "fr")
    ∷ row (codes "mkdir") MakeDirectory (codes "p")
    ∷ row (codes "rmdir") RemoveDirectory []
    ∷ row (codes "touch") Touch (codes "c")
    ∷ row (codes "ls") ListDirectory (codes "1ad")
    ∷ row (codes "ln") MakeLink (codes "fs")
    ∷ row (codes "readlink") ReadLink []
    ∷ []

-- the row of the code's entry
abbrev pub row_of : UtilityRow → Row
row_of e = record { name = e.name.now; utility = e.utility; letters = e.letters.now }

abbrev pub is_named : List ℕ → Row → Bool
is_named name r = bytes_eq r.name name

unfoldable pub utility_of : List ℕ → Option Row
utility_of name = find (is_named name) table
