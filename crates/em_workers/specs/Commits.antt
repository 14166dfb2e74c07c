-- What the committer does with several jobs.
--     given n ls           what is lent of the next n jobs, where ls is what the lender has
--     settled_by js ms     the jobs with what they changed and how they ended
--     Delivers done ..     what comes of one job: it is settled, where its output was printed
--     Serves .. before after       what was lent of the jobs that were committed, that these were asked for and no other, and that
--                          they were settled
--     Commits .. v w ..    the jobs that were committed between two stands of the front, with all that came of it
use Rattle.std.specs.Prelude.{◌≡◌, ◌⊎◌, ◌+◌, ℕ, zero, suc, Bool, List, [], ◌∷◌, ◌++◌, length, map, take, drop, Option, None, Some, Result, Ok, Err, OnOk}
use Rattle.em_host.specs.Outside.{Outside, Tells}
use Rattle.em_tree.specs.declared.outcome.Outcome.{Outcome}
use Rattle.em_tree.specs.declared.state.State.{State}
use Rattle.em_view.specs.declared.effect.Effect.{Effect}
use Rattle.em_run.specs.Serial.{Made, state_after, outputs_of}
use Rattle.em_engine.specs.declared.event.Taken.{Taken}
use Rattle.em_engine.specs.declared.note.Note.{Note}
use Rattle.em_engine.specs.Fronts.{Standing, Stands}
use Rattle.em_workers.specs.declared.no.BuildNo.{BuildNo}
use Rattle.em_workers.specs.declared.settled.Settled.{Settled}
use Rattle.em_workers.specs.Notes.{AreNotes, AreTurns}
use Rattle.em_workers.specs.Printing.{Said}
use Rattle.em_workers.specs.Lending.{Lending, Both, asked_all}

abbrev pub given : {A : Type 0} → ℕ → List (Option A) → List (Option A)
given zero ls = []
given (suc n) [] = None ∷ given n []
given (suc n) (l ∷ ls) = l ∷ given n ls

-- the jobs that are left, from front on
abbrev pub rest_of : {S : Type 0} → Standing S → List S
rest_of v = drop (length v.deltas) v.specs

abbrev pub note_in : Result (Option Note) BuildNo → List Note
note_in (Ok (Some note)) = note ∷ []
note_in _ = []

abbrev pub notes_in : Result (List Note) BuildNo → List Note
notes_in (Ok notes) = notes
notes_in (Err e) = []

pub record Delivers {S A : Type 0} (done : Settled) (end : Result A BuildNo) (before after : Lending S) : Type 0 where
  pub lends : after.lends ≡ before.lends
  pub asked : after.asked ≡ before.asked
  pub more : List Settled
  pub unsettled : List Settled
  pub all : done ∷ [] ≡ more ++ unsettled
  pub settled : after.settled ≡ before.settled ++ more
  pub whole : OnOk end (unsettled ≡ [])

module _ {S : Type 0} (job_of : S → ℕ) where
  abbrev pub settled_by : List S → List Made → List Settled
  settled_by js [] = []
  settled_by [] (m ∷ ms) = []
  settled_by (j ∷ js) (m ∷ ms) = record { job = job_of j; delta = m.effect.changes; outcome = m.effect.outcome } ∷ settled_by js ms

  -- on Ok all of them were settled, else the first ones; after an error one more may have been
  -- asked for
  pub record Serves {A : Type 0} (jobs : List S) (lent : List (Option (Taken S))) (made : List Made) (end : Result A BuildNo) (before after : Lending S) : Type 0 where
    pub lent_is : lent ≡ given (length made) before.lends
    pub asks : ℕ
    pub few : (asks ≡ length made) ⊎ (asks ≡ length made + 1)
    pub exact : OnOk end (asks ≡ length made)
    pub left : after.lends ≡ drop asks before.lends
    pub asked : after.asked ≡ asked_all (map job_of (take asks jobs)) before.asked
    pub more : List Settled
    pub unsettled : List Settled
    pub all : settled_by jobs made ≡ more ++ unsettled
    pub settled : after.settled ≡ before.settled ++ more
    pub whole : OnOk end (unsettled ≡ [])

module _ {S : Type 0} (job_of : S → ℕ) (eq : S → S → Bool) (makes : S → State → Effect → ℕ → Type 0) (ends : S → Outcome → Bool) where
  -- v, w: the front before and after; a, b: the lender; x, y: the host
  pub record Commits {A : Type 0} (notes : List Note) (end : Result A BuildNo) (v w : Standing S) (a b : Option (Lending S)) (x y : Option Outside) : Type 0 where
    -- of each job its effect on the state that the jobs before it left
    pub made : List Made
    pub lent : List (Option (Taken S))
    pub start : w.start ≡ v.start
    pub specs : w.specs ≡ v.specs
    pub state : w.state ≡ state_after v.state made
    pub deltas : w.deltas ≡ v.deltas ++ map (λ m. m.effect.changes) made
    -- with the jobs before them they have run so in the serial run
    pub stands : (before : List Made) → Stands makes ends v before → Stands makes ends w (before ++ made)
    -- each note says what is so
    pub noted : OnOk end (AreNotes v.state v.deltas made notes)
    -- and is that of what was lent
    pub turns : OnOk end (AreTurns job_of eq v.state v.deltas (rest_of v) lent made notes)
    pub served : Both (Serves job_of (rest_of v) lent made end) a b
    -- on Ok each output was printed, in order, else all of them but that of the last job, of which some was said
    pub printed : Tells (Said (outputs_of made) end) x y
