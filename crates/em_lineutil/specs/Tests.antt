-- `test`: the form of an expression, by the number of its words, and what it says of words alone.
--     unary_of op, binary_of op      the operator of this name
--     stripped n ws       the expression behind each `!`, and whether it is negated; n tells it of those before
--     form_of ws          its form
use Rattle.std.specs.Prelude.{ℕ, ◌==◌, ◌&&◌, ◌||◌, Bool, true, false, not, is_some, List, [], ◌∷◌, Option, Some, None, codes, if◌then◌else◌, ℤ}
use Rattle.std.specs.Str.{bytes_eq}
use Rattle.std.specs.Ordering.{int_cmp, is_eq, is_lt, is_gt}
use Rattle.std.specs.declared.cmp.Ordering.{Ordering}
use Rattle.em_lineutil.specs.declared.test.Unary.{Unary}
use Rattle.em_lineutil.specs.declared.test.Unary.TheVariants as unary
use Rattle.em_lineutil.specs.declared.test.Relation.{Relation}
use Rattle.em_lineutil.specs.declared.test.Relation.TheVariants as relation
use Rattle.em_lineutil.specs.declared.test.Binary.{Binary}
use Rattle.em_lineutil.specs.declared.test.Binary.TheVariants as binary
use Rattle.em_lineutil.specs.declared.test.Form.{Form}
use Rattle.em_lineutil.specs.declared.test.Form.TheVariants as form

abbrev pub unary_of : List ℕ → Option Unary
unary_of op =
    if bytes_eq op (codes "-n") then Some unary.Filled
    else if bytes_eq op (codes "-z") then Some unary.Empty
    else if bytes_eq op (codes "-e") then Some unary.Exists
    else if bytes_eq op (codes "-f") then Some unary.IsFile
    else if bytes_eq op (codes "-d") then Some unary.IsDir
    else if bytes_eq op (codes "-s") then Some unary.HasBytes
    else if bytes_eq op (codes "-h") then Some unary.IsLink
    else if bytes_eq op (codes "-L") then Some unary.IsLink
    else None

abbrev pub binary_of : List ℕ → Option Binary
binary_of op =
    if bytes_eq op (codes "=") then Some binary.Same
    else if bytes_eq op (codes "!=") then Some binary.Other
    else if bytes_eq op (codes "-eq") then Some (binary.Number relation.Equal)
    else if bytes_eq op (codes "-ne") then Some (binary.Number relation.Unequal)
    else if bytes_eq op (codes "-lt") then Some (binary.Number relation.Below)
    else if bytes_eq op (codes "-le") then Some (binary.Number relation.AtMost)
    else if bytes_eq op (codes "-gt") then Some (binary.Number relation.Above)
    else if bytes_eq op (codes "-ge") then Some (binary.Number relation.AtLeast)
    else if bytes_eq op (codes "-nt") then Some binary.Newer
    else if bytes_eq op (codes "-ot") then Some binary.Older
    else None

-- modes aren't known
abbrev pub mode_letter : List ℕ → Option ℕ
mode_letter op =
    if bytes_eq op (codes "-r") then Some 114
    else if bytes_eq op (codes "-w") then Some 119
    else if bytes_eq op (codes "-x") then Some 120
    else None

-- three words with a binary operator in the middle
abbrev pub is_compared : List (List ℕ) → Bool
is_compared (a ∷ op ∷ b ∷ []) = is_some (binary_of op)
is_compared _ = false

-- a `!` before an expression of the other words
abbrev pub is_negated : List (List ℕ) → Bool
is_negated (w ∷ v ∷ ws) = bytes_eq w (codes "!") && not (is_compared (w ∷ v ∷ ws))
is_negated _ = false

abbrev pub stripped : Bool → List (List ℕ) → Bool × List (List ℕ)
stripped n [] = (n, [])
stripped n (w ∷ ws) = if is_negated (w ∷ ws) then stripped (not n) ws else (n, w ∷ ws)

abbrev pub mode_form : Option ℕ → Form
mode_form None = form.Syntax
mode_form (Some letter) = form.Letter letter

abbrev pub unary_form : Option Unary → List ℕ → Form
unary_form None op = mode_form (mode_letter op)
unary_form (Some u) op = form.Unary u

abbrev pub binary_form : Option Binary → Form
binary_form None = form.Syntax
binary_form (Some b) = form.Binary b

abbrev pub form_of : List (List ℕ) → Form
form_of (w ∷ []) = form.Word
form_of (op ∷ w ∷ []) = unary_form (unary_of op) op
form_of (a ∷ op ∷ b ∷ []) = binary_form (binary_of op)
form_of _ = form.Syntax

abbrev pub by_order : Relation → Ordering → Bool
by_order relation.Equal r = is_eq r
by_order relation.Unequal r = not (is_eq r)
by_order relation.Below r = is_lt r
by_order relation.AtMost r = not (is_gt r)
by_order relation.Above r = is_gt r
by_order relation.AtLeast r = not (is_lt r)

abbrev pub is_related : Relation → ℤ → ℤ → Bool
is_related r a b = by_order r (int_cmp a b)
