-- The functions of make, one line each.
--     table                 name, what kind of function it is, the least and the greatest number of arguments
--     function_of name      the row of this name
use Rattle.std.specs.Prelude.{ℕ, Bool, List, [], ◌∷◌, Option, Some, None, codes}
use Rattle.std.specs.List.{find}
use Rattle.std.specs.Str.{bytes_eq}
use Rattle.em_expand.specs.declared.table.FunctionKind.{FunctionKind}
use Rattle.em_expand.specs.declared.table.FunctionKind.TheVariants.{Refused, If, Or, And, Foreach, Call, Plain}
use Rattle.em_expand.specs.declared.table.SimpleFunction.TheVariants.{Text, Name, Wildcard, Value, Origin, Flavour, Eval, Info, Warning, Error}
use Rattle.em_expand.specs.declared.table.FunctionRow.{FunctionRow}

pub record Row : Type 0 where
  pub name : List ℕ
  pub function : FunctionKind
  -- how many arguments it needs
  pub least : ℕ
  -- how many it has at most, where there is a limit: the last one takes all commas behind it
  pub greatest : Option ℕ

abbrev pub row : List ℕ → FunctionKind → ℕ → Option ℕ → Row
row name function least greatest = record { name = name; function = function; least = least; greatest = greatest }

abbrev pub table : List Row
table =
    row (codes "subst") (Plain Text) 3 (Some 3)
    ∷ row (codes "patsubst") (Plain Text) 3 (Some 3)
    ∷ row (codes "strip") (Plain Text) 1 (Some 1)
    ∷ row (codes "words") (Plain Text) 1 (Some 1)
    ∷ row (codes "firstword") (Plain Text) 1 (Some 1)
    ∷ row (codes "lastword") (Plain Text) 1 (Some 1)
    ∷ row (codes "findstring") (Plain Text) 2 (Some 2)
    ∷ row (codes "filter") (Plain Text) 2 (Some 2)
    ∷ row (codes "filter-out") (Plain Text) 2 (Some 2)
    ∷ row (codes "sort") (Plain Text) 1 (Some 1)
    ∷ row (codes "word") (Plain Text) 2 (Some 2)
    ∷ row (codes "wordlist") (Plain Text) 3 (Some 3)
    ∷ row (codes "dir") (Plain Name) 1 (Some 1)
    ∷ row (codes "notdir") (Plain Name) 1 (Some 1)
    ∷ row (codes "suffix") (Plain Name) 1 (Some 1)
    ∷ row (codes "basename") (Plain Name) 1 (Some 1)
    ∷ row (codes "addsuffix") (Plain Name) 2 (Some 2)
    ∷ row (codes "addprefix") (Plain Name) 2 (Some 2)
    ∷ row (codes "join") (Plain Name) 2 (Some 2)
    ∷ row (codes "wildcard") (Plain Wildcard) 1 (Some 1)
    ∷ row (codes "if") If 2 (Some 3)
    ∷ row (codes "or") Or 1 None
    ∷ row (codes "and") And 1 None
    ∷ row (codes "foreach") Foreach 3 (Some 3)
    ∷ row (codes "call") Call 1 None
    ∷ row (codes "value") (Plain Value) 1 (Some 1)
    ∷ row (codes "origin") (Plain Origin) 1 (Some 1)
    ∷ row (codes "flavor") (Plain Flavour) 1 (Some 1)
    ∷ row (codes "eval") (Plain Eval) 1 (Some 1)
    ∷ row (codes "info") (Plain Info) 1 (Some 1)
    ∷ row (codes "warning") (Plain Warning) 1 (Some 1)
    ∷ row (codes "error") (Plain Error) 1 (Some 1)
    ∷ row (codes "shell") Refused 1 None
    ∷ row (codes "file") Refused 1 None
    ∷ row (codes "guile") Refused 1 None
    ∷ row (codes "realpath") Refused 1 None
    ∷ row (codes "abspath") Refused 1 None
    ∷ row (codes "let") Refused 1 None
    ∷ row (codes "intcmp") Refused 1 None
    ∷ []

abbrev pub is_named : List ℕ → Row → Bool
is_named name r = bytes_eq r.name name

unfoldable pub function_of : List ℕ → Option Row
function_of name = find (is_named name) table

-- the row that the code has for a function
abbrev pub row_of : FunctionRow → Row
row_of e = record { name = e.name.now; function = e.function; least = e.least; greatest = e.greatest }
