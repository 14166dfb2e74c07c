-- What the calls of a board do.
use Rattle.std.specs.Prelude.{◌≡◌, ◌≢◌, ◌⊎◌, ℕ, List, [], ◌∷◌, ◌++◌, Option, Some, None, Bool, true, false, slice_get, slice_set}
use Rattle.em_tree.specs.declared.question.Question.{Question}
use Rattle.em_tree.specs.declared.question.Answer.{Answer}
use Rattle.em_tree.specs.declared.question.Entry.{Entry}
use Rattle.em_chain.specs.Looking.{looked}
use Rattle.em_engine.specs.declared.event.Event.{Event}
use Rattle.em_engine.specs.declared.event.Event.TheVariants as event
use Rattle.em_engine.specs.declared.event.Phase.{Phase}
use Rattle.em_engine.specs.declared.event.Phase.TheVariants as phase
use Rattle.em_engine.specs.declared.ready.Claim.{Claim}
use Rattle.em_engine.specs.declared.ready.Claim.TheVariants as found
use Rattle.em_engine.specs.declared.event.Taken.{Taken}
use Rattle.em_engine.specs.declared.event.Taken.TheVariants as taken
use Rattle.em_engine.specs.Stages.{IsLeast, IsHeld}
use Rattle.em_engine.specs.declared.ready.JobStage.TheVariants as stage
use Rattle.em_engine.specs.Journal.{asked_of}
use Rattle.em_engine.specs.Boards.{Seen, told, stages}

abbrev pub entry : Question → Answer → Entry
entry q a = record { question = q; answer = a }

-- a journal of one event more
abbrev pub noted : {S : _} → Seen S → Event → Seen S
noted b e = record b { journal = b.journal ++ e ∷ [] }

-- and a job's new phase
abbrev pub moved : {S : _} → Seen S → Event → ℕ → Phase S → Seen S
moved b e j p = record b { journal = b.journal ++ e ∷ []; phases = slice_set b.phases j p }

-- a job's new phase alone
abbrev pub put : {S : _} → Seen S → ℕ → Phase S → Seen S
put b j p = record b { phases = slice_set b.phases j p }

-- what a job is answered now
abbrev pub answer_now : {S : _} → Seen S → ℕ → Question → Answer
answer_now b j q = looked (record { start = b.start; posts = (told b).posts }) j q

-- what a worker is told to do
abbrev pub Claims : {S : _} → Seen S → Seen S → Claim → Type 0
Claims old new (found.Job j) = ((told old).stopped ≡ false) × IsLeast (record { waits = old.waits; stages = stages old }) j × (new ≡ moved old (event.Claim j) j phase.Claimed)
Claims old new found.Done = (((told old).stopped ≡ true) ⊎ ((k : ℕ) → slice_get (stages old) k ≢ Some stage.Free)) × (new ≡ old)
Claims old new found.NotYet = ((told old).stopped ≡ false) × IsHeld (record { waits = old.waits; stages = stages old }) × (new ≡ old)

-- what a worker has left may be taken
abbrev pub can_take : {S : _} → Option (Phase S) → Bool
can_take None = false
can_take (Some phase.Free) = false
can_take (Some phase.Claimed) = true
can_take (Some phase.Fronted) = false
can_take (Some (phase.Posted r)) = true
can_take (Some phase.GivenUp) = true
can_take (Some phase.Taken) = false
can_take (Some phase.Settled) = false

-- the committer has it
abbrev pub can_settle : {S : _} → Option (Phase S) → Bool
can_settle None = false
can_settle (Some phase.Free) = false
can_settle (Some phase.Claimed) = false
can_settle (Some phase.Fronted) = true
can_settle (Some (phase.Posted r)) = false
can_settle (Some phase.GivenUp) = false
can_settle (Some phase.Taken) = true
can_settle (Some phase.Settled) = false

-- what a job in this phase leaves, with what it asked
abbrev pub left_by : {S : _} → Phase S → List Entry → Taken S
left_by (phase.Posted r) asked = taken.Run r asked
left_by _ asked = taken.GivenUp

abbrev pub Takes : {S : _} → Seen S → Seen S → ℕ → Taken S → Type 0
Takes old new j (taken.Run r asked) = (slice_get old.phases j ≡ Some (phase.Posted r)) × (asked ≡ asked_of j old.journal) × (new ≡ put old j phase.Taken)
Takes old new j taken.GivenUp = (slice_get old.phases j ≡ Some phase.GivenUp) × (new ≡ put old j phase.Taken)
Takes old new j taken.NotYet = (slice_get old.phases j ≡ Some phase.Claimed) × (new ≡ old)
