-- What is kept beside the stages, so that the least job that can be claimed is found at once.
--     times k ks            how often k stands in ks
--     pending stages ks     how many of the jobs ks haven't ended
--     flag fs j             the flag of job j
--     IsMarked ss left fs   a job is flagged where it is free and waits for none that hasn't ended
--     Kept, IsReady         the fields, and what holds of them
use Rattle.std.specs.Prelude.{◌≡◌, ◌<◌, ◌≤◌, ◌^◌, ◌==◌, ◌&&◌, ℕ, List, [], Bool, false, not, Some, length, slice_get, slice_index_or}
use Rattle.std.specs.List.{count_by}
use Rattle.em_engine.specs.declared.ready.JobStage.{JobStage}
use Rattle.em_engine.specs.Stages.{is_over, is_free}

abbrev pub times : ℕ → List ℕ → ℕ
times k ks = count_by (λ i. i == k) ks

abbrev pub pending : List JobStage → List ℕ → ℕ
pending stages ks = count_by (λ k. not (is_over (slice_get stages k))) ks

abbrev pub flag : List Bool → ℕ → Bool
flag fs j = slice_index_or fs j false

abbrev pub IsMarked : List JobStage → List ℕ → List Bool → Type 0
IsMarked stages left flagged = (j : ℕ) → flag flagged j ≡ (is_free (slice_get stages j) && (slice_index_or left j 0 == 0))

pub record Kept : Type 0 where
  pub waits : List (List ℕ)
  pub stages : List JobStage
  pub left : List ℕ
  pub waiters : List (List ℕ)
  pub flagged : List Bool
  pub free : ℕ

pub record IsReady (r : Kept) : Type 0 where
  pub small : length r.waits < 2 ^ 32
  pub stages_len : length r.stages ≡ length r.waits
  pub left_len : length r.left ≡ length r.waits
  pub waiters_len : length r.waiters ≡ length r.waits
  pub room : length r.waits ≤ length r.flagged
  pub left_is : (j : ℕ) → slice_index_or r.left j 0 ≡ pending r.stages (slice_index_or r.waits j [])
  pub waiters_are : (j k : ℕ) → times j (slice_index_or r.waiters k []) ≡ times k (slice_index_or r.waits j [])
  pub flagged_is : IsMarked r.stages r.left r.flagged
  pub free_is : r.free ≡ count_by (λ s. is_free (Some s)) r.stages
