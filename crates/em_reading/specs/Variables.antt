-- What assignments and directives make of the variables.
--     assigned vars a name value      after an assignment of this name, whose value is expanded where it has to be
--     undefined, marked, unmarked     after `undefine`, `export`, `unexport` of a name
--     has_text vars name              the variable has a text that isn't empty
use Rattle.std.specs.Prelude.{ℕ, ◌==◌, nat_lt, not, Bool, true, false, List, [], ◌∷◌, ◌++◌, length, fold, Option, Some, None, if◌then◌else◌}
use Rattle.std.specs.Option.{option_map_or}
use Rattle.em_vars.specs.Entries.{Entries, value_of, with_value, without, keeps, rank}
use Rattle.em_vars.specs.declared.var.Var.{Var}
use Rattle.em_vars.specs.declared.var.Flavour.{Flavour}
use Rattle.em_vars.specs.declared.var.Flavour.TheVariants as flavour
use Rattle.em_vars.specs.declared.var.Origin.{Origin}
use Rattle.em_vars.specs.declared.var.Origin.TheVariants as origin
use Rattle.em_statement.specs.declared.assignment.Modifiers.{Modifiers}
use Rattle.em_statement.specs.declared.assignment.Operator.{Operator}
use Rattle.em_statement.specs.declared.assignment.Operator.TheVariants as operator

-- a variable of a higher origin keeps its value
abbrev pub set : Entries → List ℕ → Var → Entries
set vars name v = if keeps (value_of vars name) v then vars else with_value vars name v

-- `override` ranks above the command line
abbrev pub origin_of : Bool → Origin
origin_of overriding = if overriding then origin.Override else origin.File

abbrev pub was_exported : Option Var → Bool
was_exported old = option_map_or (λ v. v.exported) old false

abbrev pub has_text : Entries → List ℕ → Bool
has_text vars name = option_map_or (λ v. not (length v.text == 0)) (value_of vars name) false

-- ---- assignments

abbrev pub is_simple_flavour : Flavour → Bool
is_simple_flavour flavour.Simple = true
is_simple_flavour flavour.Recursive = false

abbrev pub is_simple : Option Var → Bool
is_simple old = option_map_or (λ v. is_simple_flavour v.flavour) old false

-- whether the value is expanded when it is assigned
abbrev pub is_expanded : Operator → Option Var → Bool
is_expanded operator.Recursive old = false
is_expanded operator.IfUndefined old = false
is_expanded operator.Append old = is_simple old
is_expanded _ old = true

abbrev pub var : Origin → Flavour → Bool → List ℕ → Var
var o f exported text = record { flavour = f; origin = o; text = text; exported = exported }

-- `+=` adds a space and the text, and acts as `=` where nothing is there
abbrev pub appended : Origin → Option Var → List ℕ → Var
appended o None value = var o flavour.Recursive false value
appended o (Some v) value = var o v.flavour v.exported (v.text ++ 32 ∷ value)

-- `?=` leaves a variable that is there
abbrev pub if_undefined : Origin → Option Var → List ℕ → Option Var
if_undefined o None value = Some (var o flavour.Recursive false value)
if_undefined o (Some v) value = None

abbrev pub new_value : Origin → Operator → Option Var → List ℕ → Option Var
new_value o operator.Recursive old value = Some (var o flavour.Recursive (was_exported old) value)
new_value o operator.Simple old value = Some (var o flavour.Simple (was_exported old) value)
new_value o operator.IfUndefined old value = if_undefined o old value
new_value o operator.Append old value = Some (appended o old value)
new_value o _ old value = None

abbrev pub set_if : Entries → List ℕ → Option Var → Entries
set_if vars name None = vars
set_if vars name (Some v) = set vars name v

-- `export`: a variable that isn't there is defined as empty
abbrev pub exported : Option Var → Var
exported None = var origin.File flavour.Simple true []
exported (Some v) = record v { exported = true }

abbrev pub marked : Entries → List ℕ → Entries
marked vars name = set vars name (exported (value_of vars name))

abbrev pub assigned : Entries → Modifiers → Operator → List ℕ → List ℕ → Entries
assigned vars m o name value =
    if m.exported
    then marked (set_if vars name (new_value (origin_of m.overriding) o (value_of vars name) value)) name
    else set_if vars name (new_value (origin_of m.overriding) o (value_of vars name) value)

-- ---- directives on names

abbrev pub unmarked_by : Entries → List ℕ → Option Var → Entries
unmarked_by vars name None = vars
unmarked_by vars name (Some v) = set vars name (record v { exported = false })

abbrev pub unmarked : Entries → List ℕ → Entries
unmarked vars name = unmarked_by vars name (value_of vars name)

abbrev pub all_marked : Entries → List (List ℕ) → Entries
all_marked vars names = fold marked vars names

abbrev pub all_unmarked : Entries → List (List ℕ) → Entries
all_unmarked vars names = fold unmarked vars names

abbrev pub ranks_above : Entries → List ℕ → Bool → Bool
ranks_above vars name overriding = option_map_or (λ v. nat_lt (rank (origin_of overriding)) (rank v.origin)) (value_of vars name) false

-- `undefine` leaves a variable of a higher origin
abbrev pub undefined : Bool → Entries → List ℕ → Entries
undefined overriding vars name = if ranks_above vars name overriding then vars else without vars name
