-- The journal of a board, and what makes it legal. Each event is judged by the events before it.
--     Replay               what a journal comes to: the stage of each job, what is posted, how many jobs are settled, whether it is stopped
--     after r e            what it comes to with one event more
--     May start waits r e  the event may come next
--     replay r es          what it comes to after the events
--     IsLegal start waits r es     each event may come where it stands
--     asked_of j es        what job j asked and was answered, in order
--     owed_of r            how many events may still come, but for asks
use Rattle.std.specs.Prelude.{◌≡◌, ◌⊎◌, ◌==◌, ◌+◌, ℕ, List, [], ◌∷◌, ◌++◌, Some, Bool, true, false, slice_get, slice_set, replicate, if◌then◌else◌}
use Rattle.std.specs.List.{sum_by}
use Rattle.std.specs.FinMap.{empty, insert}
use Rattle.em_tree.specs.declared.state.State.{State}
use Rattle.em_tree.specs.declared.question.Entry.{Entry}
use Rattle.em_chain.specs.Posts.{Posts}
use Rattle.em_chain.specs.Looking.{looked}
use Rattle.em_engine.specs.declared.event.Event.{Event}
use Rattle.em_engine.specs.declared.event.Event.TheVariants as event
use Rattle.em_engine.specs.declared.ready.JobStage.{JobStage}
use Rattle.em_engine.specs.declared.ready.JobStage.TheVariants as stage
use Rattle.em_engine.specs.Stages.{CanClaim}

pub record Replay : Type 0 where
  pub stages : List JobStage
  pub posts : Posts
  pub settled : ℕ
  pub stopped : Bool

-- n free jobs
abbrev pub first : ℕ → Replay
first n = record { stages = replicate n stage.Free; posts = empty; settled = 0; stopped = false }

abbrev pub after : Replay → Event → Replay
after r (event.Claim j) = record r { stages = slice_set r.stages j stage.Claimed }
after r (event.Ask j e) = r
after r (event.Publish j d o) = record r { stages = slice_set r.stages j stage.Ended; posts = insert r.posts j (record { delta = d; outcome = o }) }
after r (event.GiveUp j) = record r { stages = slice_set r.stages j stage.Ended }
after r (event.Settle j d o) = record r { stages = slice_set r.stages j stage.Settled; posts = insert r.posts j (record { delta = d; outcome = o }); settled = r.settled + 1 }
after r event.Stop = record r { stopped = true }

-- claimed, and not ended
abbrev pub IsRunning : Replay → ℕ → Type 0
IsRunning r j = slice_get r.stages j ≡ Some stage.Claimed

-- claimed, and the next to be settled
abbrev pub IsNext : Replay → ℕ → Type 0
IsNext r j = (j ≡ r.settled) × ((slice_get r.stages j ≡ Some stage.Claimed) ⊎ (slice_get r.stages j ≡ Some stage.Ended))

abbrev pub May : State → List (List ℕ) → Replay → Event → Type 0
May start waits r (event.Claim j) = CanClaim waits r.stages j
May start waits r (event.Ask j e) = IsRunning r j × (e.answer ≡ looked (record { start = start; posts = r.posts }) j e.question)
May start waits r (event.Publish j d o) = IsRunning r j
May start waits r (event.GiveUp j) = IsRunning r j
May start waits r (event.Settle j d o) = IsNext r j
May start waits r event.Stop = r.stopped ≡ false

abbrev pub replay : Replay → List Event → Replay
replay r [] = r
replay r (e ∷ es) = replay (after r e) es

abbrev pub IsLegal : State → List (List ℕ) → Replay → List Event → Type 0
IsLegal start waits r [] = Unit {0}
IsLegal start waits r (e ∷ es) = May start waits r e × IsLegal start waits (after r e) es

-- what one event, and what all of them, asked for a job
abbrev pub asked_in : ℕ → Event → List Entry
asked_in j (event.Ask k e) = if k == j then e ∷ [] else []
asked_in j _ = []

abbrev pub asked_of : ℕ → List Event → List Entry
asked_of j [] = []
asked_of j (e ∷ es) = asked_in j e ++ asked_of j es

-- a claim, an end, a settlement
abbrev pub weight_of : JobStage → ℕ
weight_of stage.Free = 3
weight_of stage.Claimed = 2
weight_of stage.Ended = 1
weight_of stage.Settled = 0

abbrev pub stop_weight : Bool → ℕ
stop_weight true = 0
stop_weight false = 1

abbrev pub owed_of : Replay → ℕ
owed_of r = sum_by weight_of r.stages + stop_weight r.stopped
