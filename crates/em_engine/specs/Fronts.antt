-- What contracts see of a front, and that it stands where the serial run stands.
--     Standing             the start, the state now, the jobs, whether the run has ended; of each committed job its fuel and its delta
--     next_of v            the spec of the next job
--     named_last ds p      the place of the last of these deltas that names the path
--     last_among ds q      the place of the last that changes what the question asks
--     last_change v q      the last committed job that does
--     committed ends v r   what it is with a run of the next job committed
--     Stands .. v made     the committed jobs have run so in the serial run, and the front stands behind them
--     IsStanding .. v      some effects are such
use Rattle.std.specs.Prelude.{◌≡◌, ◌<◌, ◌+◌, ◌^◌, ℕ, Bool, List, [], ◌∷◌, ◌++◌, length, map, Option, Some, None, is_some, IfSome, slice_get, nat_lt, if◌then◌else◌}
use Rattle.std.specs.FinMap.{get}
use Rattle.em_tree.specs.declared.outcome.Outcome.{Outcome}
use Rattle.em_tree.specs.declared.state.State.{State}
use Rattle.em_tree.specs.declared.question.Question.{Question}
use Rattle.em_tree.specs.declared.question.Question.TheVariants as ask
use Rattle.em_tree.specs.Trees.{Changes}
use Rattle.em_view.specs.declared.effect.Effect.{Effect}
use Rattle.em_view.specs.Serial.{after}
use Rattle.em_run.specs.declared.run.Parts.{Parts}
use Rattle.em_run.specs.Runs.{effect_in}
use Rattle.em_run.specs.Serial.{Made, state_after, Ran, is_early}

pub record Standing (S : Type 0) : Type 0 where
  pub start : State
  pub state : State
  pub specs : List S
  pub ended : Bool
  pub fuel : List ℕ
  pub deltas : List Changes

abbrev pub next_of : {S : Type 0} → Standing S → Option S
next_of v = if v.ended then None else slice_get v.specs (length v.deltas)

-- where the deltas are those of the jobs from n on, and before them it was `found`
abbrev pub last_from : Option ℕ → ℕ → List Changes → List ℕ → Option ℕ
last_from found n [] p = found
last_from found n (d ∷ ds) p = last_from (if is_some (get d p) then Some n else found) (n + 1) ds p

abbrev pub named_last : List Changes → List ℕ → Option ℕ
named_last ds p = last_from None 0 ds p

-- of a job's outcome it is that job
abbrev pub last_among : List Changes → Question → Option ℕ
last_among ds (ask.Kind p) = named_last ds p
last_among ds (ask.Stamp p) = named_last ds p
last_among ds (ask.Content p) = named_last ds p
last_among ds (ask.Names p) = named_last ds p
last_among ds (ask.Link p) = named_last ds p
last_among ds (ask.Outcome k) = if nat_lt k (length ds) then Some k else None

abbrev pub last_change : {S : Type 0} → Standing S → Question → Option ℕ
last_change v q = last_among v.deltas q

abbrev pub committed : {S : Type 0} → (S → Outcome → Bool) → Standing S → Parts S → Standing S
committed ends v r = record v { state = after (effect_in r) v.state; ended = ends r.spec r.outcome; fuel = v.fuel ++ r.fuel ∷ []; deltas = v.deltas ++ r.delta ∷ [] }

module _ {S : Type 0} (makes : S → State → Effect → ℕ → Type 0) (ends : S → Outcome → Bool) where
  pub record Stands (v : Standing S) (made : List Made) : Type 0 where
    pub ran : Ran makes ends v.start v.specs made
    pub ended_is : v.ended ≡ is_early makes ends v.specs made
    pub state_is : v.state ≡ state_after v.start made
    pub fuel_is : v.fuel ≡ map (λ m. m.fuel) made
    pub deltas_are : v.deltas ≡ map (λ m. m.effect.changes) made

  pub record IsStanding (v : Standing S) : Type 0 where
    pub made : List Made
    pub stands : Stands v made
    pub bare : v.start.outcomes ≡ []
    pub small : length v.specs < 2 ^ 32

-- spec i has the number i
abbrev pub AreNumbered : {S : Type 0} → (S → ℕ) → List S → Type 0
AreNumbered job_of specs = (i : ℕ) → IfSome (slice_get specs i) (λ s. job_of s ≡ i)
