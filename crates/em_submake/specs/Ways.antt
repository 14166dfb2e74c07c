-- What a job may come to that runs makes within it. Its texts are read by a relation, the grammar,
-- and so this is a relation as well: from what was written so far, by an oracle and from a
-- workspace, to an end.
--     Ended A                a value, or the outcome with which all makes end, with what was written by then; and the workspace
--     Ways A                 the ends to which it may come
--     and_then, done, stop, put, pick      ways put together, as steps are
--     only m                 the one end of steps that can't fail
--     tried m                steps whose error is looked at
--     settled r              how a job ended, and what was written by then
use Rattle.std.specs.Prelude.{◌≡◌, ℕ, Bool, true, false, List, ◌++◌, Result, Ok, Err}
use Rattle.em_base.specs.declared.memory.NoMemory.{NoMemory}
use Rattle.em_tree.specs.declared.outcome.Outcome.{Outcome}
use Rattle.em_view.specs.Actions.{Workspace, Oracle}
use Rattle.em_view.specs.Steps.{Steps}

abbrev pub Ended : Type 0 → Type 0
Ended A = Result (A × List ℕ) (Outcome × List ℕ) × Workspace

abbrev pub Ways : Type 0 → Type 1
Ways A = List ℕ → Oracle → Workspace → Ended A → Type 0

abbrev pub goes_on : {A B : Type 0} → Result (A × List ℕ) (Outcome × List ℕ) → Workspace → (A → Ways B) → Oracle → Ended B → Type 0
goes_on (Ok p) w k o z = k p.0 p.1 o w z
goes_on (Err p) w k o z = z ≡ (Err p, w)

-- one after the other, unless the first ends all makes
abbrev pub and_then : {A B : Type 0} → Ways A → (A → Ways B) → Ways B
and_then {A} {B} m k = λ out o w z. (y : Ended A) × (m out o w y × goes_on y.0 y.1 k o z)

abbrev pub done : {A : Type 0} → A → Ways A
done a = λ out o w z. z ≡ (Ok (a, out), w)

-- all makes end
abbrev pub stop : {A : Type 0} → Outcome → Ways A
stop e = λ out o w z. z ≡ (Err (e, out), w)

abbrev pub put : List ℕ → Ways (Unit {0})
put text = λ out o w z. z ≡ (Ok (tt, out ++ text), w)

abbrev pub pick : {A : Type 0} → Bool → Ways A → Ways A → Ways A
pick true m k = m
pick false m k = k

-- want of memory is no end that a definition comes to
abbrev pub IsOnly : {A : Type 0} → Result (A × List ℕ) (NoMemory × List ℕ) → Workspace → Ended A → Type 0
IsOnly (Ok p) w z = z ≡ (Ok p, w)
IsOnly (Err p) w z = ⊥

abbrev pub only : {A : Type 0} → Steps (List ℕ) NoMemory A → Ways A
only m = λ out o w z. IsOnly (m out o w).0 (m out o w).1 z

abbrev pub looked : {S E A : Type 0} → Result (A × S) (E × S) → Result (Result A E × S) (NoMemory × S)
looked (Ok p) = Ok (Ok p.0, p.1)
looked (Err p) = Ok (Err p.0, p.1)

unfoldable pub tried : {S E A : Type 0} → Steps S E A → Steps S NoMemory (Result A E)
tried m = λ s o w. (looked (m s o w).0, (m s o w).1)

abbrev pub settled : Result (Outcome × List ℕ) (Outcome × List ℕ) → Outcome × List ℕ
settled (Ok p) = p
settled (Err p) = p
