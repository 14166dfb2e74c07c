-- The meanings of a spec whose job is told as steps over a desk of its own, with what it says as
-- their state.
--     fresh base job units       the workspace of a job that has done nothing yet
--     end_in end r               how the job ended: by its outcome, or by the one that its error comes to
--     effect_by, used_by         what the steps make of a state, and the fuel that they take there
--     IsToldBy .. s              that is what the spec makes of the state
use Rattle.std.specs.Prelude.{◌≡◌, ℕ, ◌-◌, List, [], Result, Ok, Err}
use Rattle.std.specs.FinMap as map
use Rattle.em_tree.specs.declared.outcome.Outcome.{Outcome}
use Rattle.em_tree.specs.declared.state.State.{State}
use Rattle.em_view.specs.declared.effect.Effect.{Effect}
use Rattle.em_view.specs.Actions.{Workspace, snapshot}
use Rattle.em_view.specs.Steps.{Steps}

abbrev pub fresh : ℕ → ℕ → ℕ → Workspace
fresh base job units = record { base = base; job = job; given = units; fuel = units; count = 0; changes = map.empty; asked = [] }

abbrev pub end_in : {E : Type 0} → (E → Outcome) → Result Outcome E → Outcome
end_in end (Ok o) = o
end_in end (Err e) = end e

-- what is left of the job when its steps have ended: also what was made and said before an error
-- stands
abbrev pub left_by : {E : Type 0} → (E → Outcome) → Result (Outcome × List ℕ) (E × List ℕ) → Workspace → Effect
left_by end (Ok p) w = record { changes = w.changes; output = p.1; outcome = p.0 }
left_by end (Err p) w = record { changes = w.changes; output = p.1; outcome = end p.0 }

unfoldable pub effect_by : {E : Type 0} → (E → Outcome) → Steps (List ℕ) E Outcome → Workspace → State → Effect
effect_by end steps w s = left_by end (steps [] (snapshot s) w).0 (steps [] (snapshot s) w).1

unfoldable pub used_by : {E : Type 0} → Steps (List ℕ) E Outcome → Workspace → State → ℕ
used_by steps w s = w.given - (steps [] (snapshot s) w).1.fuel

-- the spec makes of the state what the steps make of it
abbrev pub IsToldBy : {S E : Type 0} → (S → State → Effect → ℕ → Type 0) → S → (E → Outcome) → Steps (List ℕ) E Outcome → Workspace → State → Type 0
IsToldBy makes spec end steps w s = makes spec s (effect_by end steps w s) (used_by steps w s)
