-- Assignments: `NAME OPERATOR VALUE`.
--     sign_of shape          the operator that stands in front of any other colon, outside references
--     assignment_of m text   the assignment that the text is, if it is one
use Rattle.std.specs.Prelude.{ℕ, ◌+◌, ◌-◌, ◌==◌, ◌||◌, nat_eq, Bool, List, take, drop, Option, Some, None, option_map, option_and_then, codes, if◌then◌else◌}
use Rattle.std.specs.List.{position, starts_with, ends_with}
use Rattle.em_base.specs.Blanks.{trimmed, trimmed_start}
use Rattle.em_statement.specs.declared.assignment.Operator.{Operator}
use Rattle.em_statement.specs.declared.assignment.Operator.TheVariants.{Recursive, Simple, IfUndefined, Append, Shell, Posix}
use Rattle.em_statement.specs.declared.assignment.Sign.{Sign}
use Rattle.em_statement.specs.declared.assignment.Assignment.{Assignment}
use Rattle.em_statement.specs.declared.assignment.Modifiers.{Modifiers}
use Rattle.em_statement.specs.Shapes.{shape}

abbrev pub is_mark : ℕ → Bool
is_mark b = (b == 61) || (b == 58)

abbrev pub found_sign : ℕ → ℕ → Operator → Option Sign
found_sign start end operator = Some (record { start = start; end = end; operator = operator })

-- `=` alone, or with the byte before it: `?=`, `+=`, `!=`
abbrev pub at_equals : ℕ → List ℕ → Option Sign
at_equals at before =
    if ends_with nat_eq before (codes "?") then found_sign (at - 1) (at + 1) IfUndefined
    else if ends_with nat_eq before (codes "+") then found_sign (at - 1) (at + 1) Append
    else if ends_with nat_eq before (codes "!") then found_sign (at - 1) (at + 1) Shell
    else found_sign at (at + 1) Recursive

-- a colon that belongs to an operator, or another one
abbrev pub at_colon : ℕ → List ℕ → Option Sign
at_colon at rest =
    if starts_with nat_eq rest (codes ":=") then found_sign at (at + 2) Simple
    else if starts_with nat_eq rest (codes "::=") then found_sign at (at + 3) Simple
    else if starts_with nat_eq rest (codes ":::=") then found_sign at (at + 4) Posix
    else None

abbrev pub at_mark : List ℕ → ℕ → Option Sign
at_mark shape at =
    if starts_with nat_eq (drop at shape) (codes "=") then at_equals at (take at shape)
    else at_colon at (drop at shape)

-- the first `=` or `:` decides
abbrev pub sign_of : List ℕ → Option Sign
sign_of shape = option_and_then (at_mark shape) (position is_mark shape)

-- blanks round the name and the operator are dropped, those at the end of the value stay
abbrev pub assignment_at : Modifiers → List ℕ → Sign → Assignment
assignment_at m text s = record {
  modifiers = m;
  name = trimmed (take s.start text);
  operator = s.operator;
  value = trimmed_start (drop s.end text);
}

unfoldable pub assignment_of : Modifiers → List ℕ → Option Assignment
assignment_of m text = option_map (assignment_at m text) (sign_of (shape text))
