-- Variables, as the list of their names and values in order of first definition.
--     rank o             how origins rank
--     value_of es n      the variable of this name
--     with_value es n v      the list with v for the name: at its place, or at the end where it wasn't there
--     without es n       the list without the name
use Rattle.std.specs.Prelude.{◌≡◌, ℕ, Bool, false, not, nat_lt, List, [], ◌∷◌, Option, Some, None, if◌then◌else◌}
use Rattle.std.specs.List.{filter}
use Rattle.std.specs.Str.{bytes_eq}
use Rattle.em_vars.specs.declared.var.Var.{Var}
use Rattle.em_vars.specs.declared.var.Origin.{Origin}
use Rattle.em_vars.specs.declared.var.Origin.TheVariants.{Automatic, CommandLine, Default, File, Override}

abbrev pub Entries : Type 0
Entries = List (List ℕ × Var)

-- what is automatic ranks above all, and a default below all
abbrev pub rank : Origin → ℕ
rank Default = 0
rank File = 1
rank CommandLine = 2
rank Override = 3
rank Automatic = 4

abbrev pub value_of : Entries → List ℕ → Option Var
value_of [] n = None
value_of (e ∷ es) n = if bytes_eq n e.0 then Some e.1 else value_of es n

-- the variable that is there keeps its value against one of a lower origin
abbrev pub keeps : Option Var → Var → Bool
keeps None v = false
keeps (Some old) v = nat_lt (rank v.origin) (rank old.origin)

abbrev pub with_value : Entries → List ℕ → Var → Entries
with_value [] n v = (n, v) ∷ []
with_value (e ∷ es) n v = if bytes_eq n e.0 then (n, v) ∷ es else e ∷ with_value es n v

abbrev pub without : Entries → List ℕ → Entries
without es n = filter (λ e. not (bytes_eq n e.0)) es

-- each name stands once
abbrev pub AreDistinct : Entries → Type 0
AreDistinct [] = Unit {0}
AreDistinct (e ∷ es) = (value_of es e.0 ≡ None) × AreDistinct es
