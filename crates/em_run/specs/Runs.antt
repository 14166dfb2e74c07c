-- Runs: what was recorded of a job, and what its spec makes of states. What a spec makes of a state
-- is a relation: `makes a s e n` says that job a may have the effect e on the state s and take n
-- units of fuel there.
--     MeansSame .. a b     two specs with the same number and ends, which make the same
--     effect_in r          what a run holds, as an effect
--     Gives .. r s         the spec of a run makes of a state what the run holds
--     IsValid .. r         it does so of each state that agrees with every entry of the run's usage
use Rattle.std.specs.Prelude.{◌≡◌, ℕ, Bool}
use Rattle.em_tree.specs.declared.outcome.Outcome.{Outcome}
use Rattle.em_tree.specs.declared.state.State.{State}
use Rattle.em_tree.specs.Answers.{Agrees}
use Rattle.em_tree.specs.Trees.{IsTree, laid_over}
use Rattle.em_view.specs.declared.effect.Effect.{Effect}
use Rattle.em_run.specs.declared.run.Parts.{Parts}

pub record MeansSame {S : Type 0} (job_of : S → ℕ) (ends_after : S → Outcome → Bool) (makes : S → State → Effect → ℕ → Type 0) (a b : S) : Type 0 where
  pub number : job_of a ≡ job_of b
  pub ends : (o : Outcome) → ends_after a o ≡ ends_after b o
  pub effects : (s : State) (e : Effect) (n : ℕ) → makes a s e n → makes b s e n

abbrev pub effect_in : {S : Type 0} → Parts S → Effect
effect_in r = record { changes = r.delta; output = r.output; outcome = r.outcome }

pub record Gives {S : Type 0} (makes : S → State → Effect → ℕ → Type 0) (r : Parts S) (s : State) : Type 0 where
  pub effect : makes r.spec s (effect_in r) r.fuel
  -- laid over the state's tree, the changes give a tree
  pub fits : IsTree (laid_over r.delta s.tree)

pub record IsValid {S : Type 0} (makes : S → State → Effect → ℕ → Type 0) (r : Parts S) : Type 0 where
  pub gives : (s : State) → IsTree s.tree → Agrees s r.usage → Gives makes r s
