-- Words of the laws.
--     Begins front whole       a list begins with another one
--     state_of r               the state at an end, with a value or an error
--     in_front front m         the text that steps give, with another one in front of it
--     joined m n               the text that the first steps give, and behind it that of the others
use Rattle.std.specs.Prelude.{◌≡◌, ℕ, List, ◌++◌, Result, Ok, Err}
use Rattle.em_view.specs.Steps.{Steps, done}
use Rattle.em_view.specs.Do.{◌>>=◌}

abbrev pub Begins : {A : Type 0} → List A → List A → Type 0
Begins {A} front whole = (rest : List A) × (whole ≡ front ++ rest)

abbrev pub state_of : {S E A : Type 0} → Result (A × S) (E × S) → S
state_of (Ok p) = p.1
state_of (Err p) = p.1

abbrev pub in_front : {S E : Type 0} → List ℕ → Steps S E (List ℕ) → Steps S E (List ℕ)
in_front front m = do
  text ← m
  done (front ++ text)

abbrev pub joined : {S E : Type 0} → Steps S E (List ℕ) → Steps S E (List ℕ) → Steps S E (List ℕ)
joined m n = do
  first ← m
  in_front first n
