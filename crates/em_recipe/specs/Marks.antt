-- What stands in front of a recipe's line: blanks, and the marks `@` (the line isn't echoed), `-`
-- (its failure is ignored) and `+` (it runs also under `-n`).
--     marks line     the marks that stand there
--     bare line      the line without them
--     either a b     the marks of both
--     Includes a b   a has each mark of b
use Rattle.std.specs.Prelude.{ℕ, ◌==◌, ◌||◌, Bool, IsTrue, List, take, drop}
use Rattle.std.specs.List.{prefix_len, list_any}
use Rattle.em_base.specs.Blanks.{is_blank}
use Rattle.em_recipe.specs.declared.mark.Marks.{Marks}

abbrev pub is_mark : ℕ → Bool
is_mark b = is_blank b || ((b == 64) || ((b == 45) || (b == 43)))

abbrev pub has : ℕ → List ℕ → Bool
has mark line = list_any (λ b. b == mark) (take (prefix_len is_mark line) line)

abbrev pub marks : List ℕ → Marks
marks line = record { silent = has 64 line; lenient = has 45 line; forced = has 43 line }

abbrev pub bare : List ℕ → List ℕ
bare line = drop (prefix_len is_mark line) line

abbrev pub either : Marks → Marks → Marks
either a b = record { silent = a.silent || b.silent; lenient = a.lenient || b.lenient; forced = a.forced || b.forced }

abbrev pub Includes : Marks → Marks → Type 0
Includes a b = (IsTrue b.silent → IsTrue a.silent) × (IsTrue b.lenient → IsTrue a.lenient) × (IsTrue b.forced → IsTrue a.forced)
