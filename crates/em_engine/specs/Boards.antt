-- What contracts see of a board, and what its fields keep.
--     stage_of p           what the journal says of a job in this phase
--     Seen                 what contracts see: the start, what each job waits for, the journal, the phases
--     told b               what the journal comes to
--     AreTied phases ps    each run that was posted is one of its job, and what it makes is posted
--     Held, IsBoard        the fields, and what holds of them: the journal is legal, the phases and what is posted are its replay,
--                          where the posts of the settled jobs are merged, and there is room for the events that may still come
use Rattle.std.specs.Prelude.{◌≡◌, ◌<◌, ◌≤◌, ◌+◌, ◌^◌, ℕ, List, [], Option, Some, None, Bool, true, false, All, slice_get, slice_index_or, map, length}
use Rattle.std.specs.FinMap.{get}
use Rattle.em_tree.specs.declared.state.State.{State}
use Rattle.em_tree.specs.declared.question.Entry.{Entry}
use Rattle.em_chain.specs.Posts.{Posts, Floored}
use Rattle.em_chain.specs.Floors.{IsAt}
use Rattle.em_run.specs.declared.run.Parts.{Parts}
use Rattle.em_engine.specs.declared.event.Event.{Event}
use Rattle.em_engine.specs.declared.event.Phase.{Phase}
use Rattle.em_engine.specs.declared.event.Phase.TheVariants as phase
use Rattle.em_engine.specs.declared.ready.JobStage.{JobStage}
use Rattle.em_engine.specs.declared.ready.JobStage.TheVariants as stage
use Rattle.em_engine.specs.Journal.{Replay, first, replay, IsLegal, owed_of, asked_of}

abbrev pub stage_of : {S : _} → Phase S → JobStage
stage_of phase.Free = stage.Free
stage_of phase.Claimed = stage.Claimed
stage_of phase.Fronted = stage.Claimed
stage_of (phase.Posted r) = stage.Ended
stage_of phase.GivenUp = stage.Ended
stage_of phase.Taken = stage.Ended
stage_of phase.Settled = stage.Settled

-- whether the board still has what the job asked
abbrev pub is_kept : {S : _} → Option (Phase S) → Bool
is_kept None = false
is_kept (Some phase.Free) = true
is_kept (Some phase.Claimed) = true
is_kept (Some phase.Fronted) = true
is_kept (Some (phase.Posted r)) = true
is_kept (Some phase.GivenUp) = true
is_kept (Some phase.Taken) = false
is_kept (Some phase.Settled) = false

pub record Seen (S : Type 0) : Type 0 where
  pub start : State
  pub waits : List (List ℕ)
  pub journal : List Event
  pub phases : List (Phase S)

abbrev pub told : {S : _} → Seen S → Replay
told b = replay (first (length b.waits)) b.journal

abbrev pub stages : {S : _} → Seen S → List JobStage
stages b = map stage_of b.phases

pub record IsTied {S : Type 0} (job_of : S → ℕ) (ps : Posts) (j : ℕ) (r : Parts S) : Type 0 where
  pub job : job_of r.spec ≡ j
  pub post : get ps j ≡ Some (record { delta = r.delta; outcome = r.outcome })

abbrev pub AreTied : {S : Type 0} → (S → ℕ) → List (Phase S) → Posts → Type 0
AreTied job_of phases ps = (j : ℕ) (r : Parts _) → slice_get phases j ≡ Some (phase.Posted r) → IsTied job_of ps j r

pub record Held (S : Type 0) : Type 0 where
  pub start : State
  pub versions : Floored
  pub waits : List (List ℕ)
  pub stages : List JobStage
  pub phases : List (Phase S)
  pub asked : List (List Entry)
  pub settled : ℕ
  pub stopped : Bool
  pub owed : ℕ
  pub journal : List Event
  pub len : ℕ
  pub cap : ℕ

abbrev pub posted : {S : _} → Held S → Posts
posted h = (replay (first (length h.waits)) h.journal).posts

-- what the fields say that the journal comes to
abbrev pub now : {S : _} → Held S → Replay
now h = record { stages = map stage_of h.phases; posts = posted h; settled = h.settled; stopped = h.stopped }

pub record IsBoard {S : _} (h : Held S) : Type 0 where
  pub replayed : replay (first (length h.waits)) h.journal ≡ now h
  pub versions : IsAt (record { start = h.start; posts = posted h }) h.settled h.versions
  pub legal : IsLegal h.start h.waits (first (length h.waits)) h.journal
  pub staged : h.stages ≡ map stage_of h.phases
  pub owed_is : h.owed ≡ owed_of (now h)
  pub room : h.len + h.owed ≤ h.cap
  pub small : length h.waits < 2 ^ 32
  pub phases_len : length h.phases ≡ length h.waits
  pub asked_len : length h.asked ≡ length h.waits
  pub asked_is : (j : ℕ) → is_kept (slice_get h.phases j) ≡ true → slice_index_or h.asked j [] ≡ asked_of j h.journal
  -- the jobs below the next to be settled are settled
  pub below : (k : ℕ) → k < h.settled → slice_get h.phases k ≡ Some phase.Settled
  -- a job waits for jobs below it
  pub lower : (j : ℕ) → All (λ k. k < j) (slice_index_or h.waits j [])
