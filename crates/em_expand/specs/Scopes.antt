-- Where a text stands: the names that are bound there, and the variables that are being expanded,
-- the innermost first.
--     bound frames name       what the innermost `foreach` or `call` that binds the name binds it to
--     is_open frames name     the recursive variable of this name is being expanded
use Rattle.std.specs.Prelude.{ℕ, ◌==◌, Bool, false, ◌||◌, List, [], ◌∷◌, slice_get, unwrap_or, Option, Some, None, option_map, if◌then◌else◌}
use Rattle.std.specs.Str.{bytes_eq}
use Rattle.em_base.specs.Blanks.{trimmed}
use Rattle.em_base.specs.Numbers.{number_of}
use Rattle.em_expand.specs.declared.scope.Scope.{Scope, Top, Each', Called', Within'}

pub data Frame : Type 0 where
  -- a turn of `foreach`: the name, and the word that it stands for
  each : List ℕ → List ℕ → Frame
  -- a `call`: its arguments, the first of them the name that is called
  called : List (List ℕ) → Frame
  -- the text of the recursive variable of this name
  within : List ℕ → Frame

-- the n-th argument; one that isn't there is empty
abbrev pub nth : ℕ → List (List ℕ) → List ℕ
nth n args = unwrap_or (slice_get args n) []

-- what a call binds a number to: 0 to the name that is called, without blanks at its ends
abbrev pub argument : List (List ℕ) → ℕ → List ℕ
argument args n = if n == 0 then trimmed (nth n args) else nth n args

-- in a call each number is a name
abbrev pub argument_of : List (List ℕ) → List ℕ → Option (List ℕ)
argument_of args name = option_map (argument args) (number_of 4294967295 name)

abbrev pub or_else : Option (List ℕ) → Option (List ℕ) → Option (List ℕ)
or_else (Some t) other = Some t
or_else None other = other

abbrev pub bound : List Frame → List ℕ → Option (List ℕ)
bound [] name = None
bound (each this word ∷ frames) name = if bytes_eq this name then Some word else bound frames name
bound (called args ∷ frames) name = or_else (argument_of args name) (bound frames name)
bound (within this ∷ frames) name = bound frames name

abbrev pub is_open : List Frame → List ℕ → Bool
is_open [] name = false
is_open (each this word ∷ frames) name = is_open frames name
is_open (called args ∷ frames) name = is_open frames name
is_open (within this ∷ frames) name = bytes_eq this name || is_open frames name

-- the frames of the code's scopes
abbrev pub frames_of : Scope → List Frame
frames_of Top = []
frames_of (Each' name word p outer) = each name.now word.now ∷ frames_of outer
frames_of (Called' args p outer) = called args.now ∷ frames_of outer
frames_of (Within' name p outer) = within name.now ∷ frames_of outer
