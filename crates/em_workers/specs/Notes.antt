-- The notes of a build: one for each job that was committed, in order.
--     IsCause s ds c       what a cause says is so, on the state s that these changes led to
--     AreNotes s ds ..     each job was run once, or twice and for a cause that is so
--     AreTurns ..          the notes are those of what was lent of each job
use Rattle.std.specs.Prelude.{◌≡◌, ◌≢◌, ℕ, Bool, List, [], ◌∷◌, ◌++◌, Option, IfSome, length}
use Rattle.em_tree.specs.declared.state.State.{State}
use Rattle.em_tree.specs.Answers.{answer}
use Rattle.em_tree.specs.Trees.{Changes}
use Rattle.em_view.specs.Serial.{after}
use Rattle.em_run.specs.Serial.{Made}
use Rattle.em_engine.specs.declared.event.Taken.{Taken}
use Rattle.em_engine.specs.declared.note.Cause.{Cause}
use Rattle.em_engine.specs.declared.note.Cause.TheVariants as cause
use Rattle.em_engine.specs.declared.note.Note.{Note}
use Rattle.em_engine.specs.Fronts.{last_among}
use Rattle.em_workers.specs.Turns.{runs_for, IsNote}

-- the first run was answered otherwise; `after` is the last job before this one that changed what
-- was asked
pub record Differs (s : State) (ds : List Changes) (question : _) (recorded now : _) (after : Option ℕ) : Type 0 where
  pub other : recorded ≢ now
  pub now_is : now ≡ answer s question
  pub after_is : after ≡ last_among ds question

abbrev pub IsCause : State → List Changes → Cause → Type 0
IsCause s ds (cause.Differ place question recorded now after) = Differs s ds question recorded now after
IsCause s ds (cause.Strange place board run) = board ≢ run
IsCause s ds cause.Foreign = Unit {0}
IsCause s ds cause.WantOfMemory = Unit {0}

pub record IsNoteOf (s : State) (ds : List Changes) (n : Note) : Type 0 where
  pub job : n.job ≡ length ds
  pub runs : n.runs ≡ runs_for n.cause
  pub cause : IfSome n.cause (IsCause s ds)

abbrev pub AreNotes : State → List Changes → List Made → List Note → Type 0
AreNotes s ds [] [] = Unit {0}
AreNotes s ds (m ∷ ms) (n ∷ ns) = IsNoteOf s ds n × AreNotes (after m.effect s) (ds ++ m.effect.changes ∷ []) ms ns
AreNotes s ds _ _ = ⊥

module _ {S : Type 0} (job_of : S → ℕ) (eq : S → S → Bool) where
  abbrev pub AreTurns : State → List Changes → List S → List (Option (Taken S)) → List Made → List Note → Type 0
  AreTurns s ds jobs [] [] [] = Unit {0}
  AreTurns s ds (j ∷ js) (l ∷ ls) (m ∷ ms) (n ∷ ns) = IsNote job_of eq s ds j l n × AreTurns (after m.effect s) (ds ++ m.effect.changes ∷ []) js ls ms ns
  AreTurns s ds _ _ _ _ = ⊥
