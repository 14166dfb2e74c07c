-- The stages of jobs, and which of them may be claimed.
--     is_over s, is_free s   the job has ended; nobody has claimed it
--     CanClaim waits stages j      the job is free, and all that it waits for has ended
--     Finds w c              c is what a worker is to do, where nobody has stopped the board
use Rattle.std.specs.Prelude.{◌≡◌, ◌≢◌, ◌<◌, ℕ, List, [], Option, Some, None, Bool, true, false, IsTrue, All, slice_get, slice_index_or}
use Rattle.em_engine.specs.declared.ready.Claim.{Claim}
use Rattle.em_engine.specs.declared.ready.Claim.TheVariants as found
use Rattle.em_engine.specs.declared.ready.JobStage.{JobStage}
use Rattle.em_engine.specs.declared.ready.JobStage.TheVariants as stage

pub record Waiting : Type 0 where
  pub waits : List (List ℕ)
  pub stages : List JobStage

abbrev pub is_over : Option JobStage → Bool
is_over None = false
is_over (Some stage.Free) = false
is_over (Some stage.Claimed) = false
is_over (Some stage.Ended) = true
is_over (Some stage.Settled) = true

abbrev pub is_free : Option JobStage → Bool
is_free None = false
is_free (Some stage.Free) = true
is_free (Some stage.Claimed) = false
is_free (Some stage.Ended) = false
is_free (Some stage.Settled) = false

abbrev pub CanClaim : List (List ℕ) → List JobStage → ℕ → Type 0
CanClaim waits stages j = (slice_get stages j ≡ Some stage.Free) × All (λ k. IsTrue (is_over (slice_get stages k))) (slice_index_or waits j [])

-- the least of the jobs that can be claimed
pub record IsLeast (w : Waiting) (j : ℕ) : Type 0 where
  pub here : CanClaim w.waits w.stages j
  pub below : (k : ℕ) → k < j → ¬ CanClaim w.waits w.stages k

-- a job is free, but none can be claimed
pub record IsHeld (w : Waiting) : Type 0 where
  pub waiting : (k : ℕ) × (slice_get w.stages k ≡ Some stage.Free)
  pub none : (k : ℕ) → ¬ CanClaim w.waits w.stages k

abbrev pub Finds : Waiting → Claim → Type 0
Finds w (found.Job j) = IsLeast w j
Finds w found.Done = (k : ℕ) → slice_get w.stages k ≢ Some stage.Free
Finds w found.NotYet = IsHeld w
