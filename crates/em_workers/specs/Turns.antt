-- What the committer does with one job.
--     effect_of c          what was committed, as an effect
--     IsCommitted .. c     c is what the next job makes of the front's state, and the front stands behind it
--     cause_of .. found    why a job is run again of which such a run was found
--     Finds .. lent        why a job is run again of which this was lent; none where it is run once
--     IsNote .. n          the note of this
use Rattle.std.specs.Prelude.{◌≡◌, ℕ, Bool, List, [], ◌∷◌, ◌++◌, Option, Some, None, slice_get, option_map}
use Rattle.em_tree.specs.declared.outcome.Outcome.{Outcome}
use Rattle.em_tree.specs.declared.question.Entry.{Entry}
use Rattle.em_tree.specs.declared.state.State.{State}
use Rattle.em_tree.specs.Answers.{answer}
use Rattle.em_tree.specs.Trees.{Changes}
use Rattle.em_view.specs.declared.effect.Effect.{Effect}
use Rattle.em_view.specs.Serial.{after}
use Rattle.em_run.specs.declared.run.Parts.{Parts}
use Rattle.em_engine.specs.declared.event.Taken.{Taken}
use Rattle.em_engine.specs.declared.event.Taken.TheVariants as taken
use Rattle.em_engine.specs.declared.note.Cause.{Cause}
use Rattle.em_engine.specs.declared.note.Cause.TheVariants as cause
use Rattle.em_engine.specs.declared.note.Note.{Note}
use Rattle.em_engine.specs.declared.note.Verdict.{Verdict}
use Rattle.em_engine.specs.declared.note.Verdict.TheVariants as found
use Rattle.em_engine.specs.Fronts.{Standing, last_among}
use Rattle.em_engine.specs.Verdicts.{IsVerdict}
use Rattle.em_workers.specs.declared.next.Committed.{Committed}

abbrev pub effect_of : Committed → Effect
effect_of c = record { changes = c.delta; output = c.output; outcome = c.outcome }

-- the front behind it
abbrev pub behind : {S : Type 0} → Bool → Standing S → Committed → Standing S
behind ended v c = record v { state = after (effect_of c) v.state; ended = ended; fuel = v.fuel ++ c.fuel ∷ []; deltas = v.deltas ++ c.delta ∷ [] }

pub record IsCommitted {S : Type 0} (makes : S → State → Effect → ℕ → Type 0) (ends : S → Outcome → Bool) (v w : Standing S) (next : S) (c : Committed) : Type 0 where
  pub made : makes next v.state (effect_of c) c.fuel
  pub stands : w ≡ behind (ends next c.outcome) v c

-- ---- the note

-- on a state that these changes led to the entry's answer is another
abbrev pub differ : State → List Changes → ℕ → Entry → Cause
differ s ds place e = cause.Differ place e.question e.answer (answer s e.question) (last_among ds e.question)

abbrev pub cause_of : {S : Type 0} → State → List Changes → Parts S → List Entry → Verdict → Option Cause
cause_of s ds r asked found.Same = None
cause_of s ds r asked found.Foreign = Some cause.Foreign
cause_of s ds r asked (found.Strange i) = Some (cause.Strange i (slice_get asked i) (slice_get r.usage i))
cause_of s ds r asked (found.Differ i) = option_map (differ s ds i) (slice_get r.usage i)

module _ {S : Type 0} (eq : S → S → Bool) (s : State) (ds : List Changes) (next : S) where
  -- a run that was answered so
  pub record IsFound (r : Parts S) (asked : List Entry) (why : Option Cause) : Type 0 where
    pub verdict : Verdict
    pub is : IsVerdict eq s next r asked verdict
    pub why_is : why ≡ cause_of s ds r asked verdict

  -- nothing was lent: the committer has run the job alone
  abbrev pub Finds : Option (Taken S) → Option Cause → Type 0
  Finds None why = why ≡ None
  Finds (Some taken.GivenUp) why = why ≡ Some cause.WantOfMemory
  Finds (Some (taken.Run r asked)) why = IsFound r asked why
  Finds (Some taken.NotYet) why = ⊥

abbrev pub runs_for : Option Cause → ℕ
runs_for None = 1
runs_for (Some why) = 2

pub record IsNote {S : Type 0} (job_of : S → ℕ) (eq : S → S → Bool) (s : State) (ds : List Changes) (next : S) (lent : Option (Taken S)) (n : Note) : Type 0 where
  pub job : n.job ≡ job_of next
  pub runs : n.runs ≡ runs_for n.cause
  pub cause : Finds eq s ds next lent n.cause
