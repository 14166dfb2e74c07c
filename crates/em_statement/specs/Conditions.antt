-- The conditions of `ifeq`, `ifneq`, `ifdef` and `ifndef`.
--     sides_of text            the two texts of `(A,B)`, or of `"A" "B"` in quotes of either kind
--     condition_by k text      the condition that the text behind this keyword is, if that begins one
-- A comma and a closing bracket are looked for outside references and outside brackets within the
-- text.
use Rattle.std.specs.Prelude.{ℕ, zero, suc, ◌==◌, ◌||◌, Bool, true, false, List, [], ◌∷◌, take, Option, Some, None, option_map, option_and_then, if◌then◌else◌}
use Rattle.std.specs.List.{position}
use Rattle.em_base.specs.Blanks.{trimmed_start, trimmed_end}
use Rattle.em_statement.specs.declared.condition.Sides.{Sides}
use Rattle.em_statement.specs.declared.condition.Condition.{Condition}
use Rattle.em_statement.specs.declared.condition.Condition.TheVariants.{Same, Different, Defined, Undefined, Malformed}
use Rattle.em_statement.specs.declared.keyword.Keyword.{Keyword}
use Rattle.em_statement.specs.declared.keyword.Keyword.TheVariants as keyword
use Rattle.em_statement.specs.Shapes.{shape}
use Rattle.em_statement.specs.Split.{behind, is_empty}

-- how many brackets are open behind a byte
abbrev pub deeper : ℕ → ℕ → ℕ
deeper b depth = if b == 40 then suc depth else depth

-- where this byte first stands outside brackets; nowhere behind a bracket that closes more than was
-- opened
abbrev pub outer : ℕ → ℕ → List ℕ → Option ℕ
outer stop depth [] = None
outer stop zero (b ∷ bs) =
    if b == stop then Some 0
    else if b == 41 then None
    else option_map suc (outer stop (deeper b zero) bs)
outer stop (suc depth) (b ∷ bs) =
    if b == 41 then option_map suc (outer stop depth bs)
    else option_map suc (outer stop (deeper b (suc depth)) bs)

-- the second text, up to the bracket that closes; nothing but blanks stands behind it
abbrev pub closed : List ℕ → List ℕ → ℕ → Option Sides
closed left text at =
    if is_empty (behind at text) then Some (record { left = left; right = trimmed_start (take at text) }) else None

abbrev pub right_side : List ℕ → List ℕ → Option Sides
right_side left text = option_and_then (closed left text) (outer 41 0 (shape text))

-- blanks round the comma are dropped
abbrev pub bracketed : List ℕ → Option Sides
bracketed text = option_and_then (λ at. right_side (trimmed_end (take at text)) (behind at text)) (outer 44 0 (shape text))

-- a text in quotes, and what stands behind it without blanks before it
abbrev pub unquoted : List ℕ → Option (List ℕ × List ℕ)
unquoted [] = None
unquoted (q ∷ text) =
    if (q == 34) || (q == 39)
    then option_map (λ at. (take at text, trimmed_start (behind at text))) (position (λ b. b == q) text)
    else None

abbrev pub second_quoted : List ℕ → Option (List ℕ × List ℕ) → Option Sides
second_quoted left None = None
second_quoted left (Some p) = if is_empty p.1 then Some (record { left = left; right = p.0 }) else None

abbrev pub quoted : Option (List ℕ × List ℕ) → Option Sides
quoted None = None
quoted (Some p) = second_quoted p.0 (unquoted p.1)

abbrev pub sides_of : List ℕ → Option Sides
sides_of [] = None
sides_of (b ∷ text) = if b == 40 then bracketed text else quoted (unquoted (b ∷ text))

abbrev pub compared : Bool → Option Sides → Condition
compared same None = Malformed
compared same (Some sides) = if same then Same sides else Different sides

-- of a line that begins with this keyword, if it begins a condition
unfoldable pub condition_by : Option Keyword → List ℕ → Option Condition
condition_by (Some keyword.Ifeq) text = Some (compared true (sides_of text))
condition_by (Some keyword.Ifneq) text = Some (compared false (sides_of text))
condition_by (Some keyword.Ifdef) text = Some (Defined text)
condition_by (Some keyword.Ifndef) text = Some (Undefined text)
condition_by _ text = None
