-- What a job's steps come to inside a turn.
--     halts       steps have stopped, which is told and ends the job
--     unpaused    such an end is no pause
--     lost        memory ran out behind steps
--     lacking     or before any
--     pauses      a line has come to the make that it begins
--     read_all    the texts of all lines are read
--     idle        a job that waits or has ended
--     heard_plot  a job that has heard how its line's make ended goes on by that
use Rattle.std.proofs.Common.{◌≡◌, ℕ, List, [], ◌∷◌, ◌++◌, map, drop, Result, Ok, Err, refl, sym, ap, subst, ◌∙◌, ◌⊎◌, inl, inr, append_assoc, append-nil}
use Rattle.std.specs.Prelude.{IfOk, IsErrAnd}
use Rattle.em_base.specs.declared.memory.NoMemory.{NoMemory}
use Rattle.em_view.specs.Performs.{DeskState, Told}
use Rattle.em_view.specs.Steps.{Does}
use Rattle.em_tree.specs.declared.outcome.Outcome.TheVariants as outcome
use Rattle.em_expand.specs.declared.spoken.Spoken.{Spoken}
use Rattle.em_exec.specs.declared.turn.SubLine.{SubLine}
use Rattle.em_exec.specs.declared.turn.Turn.{Turn}
use Rattle.em_script.specs.Strands.{Meaning, meaning_of, Back, Status, Spent, Plot, Going, from_output, to, Turned}
use Rattle.em_script.proofs.Strands.{stopped_t, lost_t, short_t, read_t, over_t, pause_t}
use Rattle.em_task.specs.declared.job.Job.{Job}
use Rattle.em_steps.specs.declared.laps.Lap.TheVariants as lap
use Rattle.em_steps.specs.declared.steps.Halfway.{Halfway}
use Rattle.em_steps.specs.declared.steps.Progress.{Progress}
use Rattle.em_steps.specs.declared.steps.Progress.TheVariants as progress
use Rattle.em_steps.specs.declared.steps.Stage.{Stage}
use Rattle.em_steps.specs.declared.steps.Stage.TheVariants as stage
use Rattle.em_job.specs.declared.prepare.Placed.{Placed}
use Rattle.em_job.specs.declared.ready.ParsedLine.{ParsedLine}
use Rattle.em_job.specs.declared.stop.JobStop.{JobStop}
use Rattle.em_job.specs.Carrying.{AreRead}
use Rattle.em_job.specs.Deciding.{Known}
use Rattle.em_job.specs.Effects.{saying}
use Rattle.em_job.specs.Stops.{Acts, is_free}
use Rattle.em_steps.specs.Laps.{said, close, by_lap, lines_plot, read_plot, meant, going_at, going_by, back_by}
use Rattle.em_steps.specs.Pausing.{turn_in, IsProgress, IsStopped, IfPaused, heard}

module _ {V A : Type 0} {tells : V → Told} {old new : DeskState V} {s t : Spoken} {stop : JobStop} {m : Acts A} (j : Job) (depth : ℕ) (k : A → Going Spoken) (u : Spoken) where
  pub halts : (r : Result Progress NoMemory) → Does is_free tells old new s t (Err stop) m → IfOk r (λ p. IsStopped j stop t u p) → IsProgress tells old new s u j depth r (to (close j) m k)
  halts (Ok p) did is = stopped_t (close j) k is.plain (ap (λ (q : Progress). turn_in (Ok q)) is.ended) is.told did
  halts (Err e) did is = lost_t did

pub unpaused : (P : SubLine → Type 0) (j : Job) (stop : JobStop) (t u : Spoken) (r : Result Progress NoMemory) → IfOk r (λ p. IsStopped j stop t u p) → IfPaused r P
unpaused P j stop t u (Ok (progress.Ended o)) is = tt
unpaused P j stop t u (Ok (progress.Paused h line)) is = absurd (let e : progress.Paused h line ≡ progress.Ended (close j stop t).0 = is.ended in cc)
unpaused P j stop t u (Err e) is = tt

module _ {V A : Type 0} {tells : V → Told} {old new : DeskState V} {s t : Spoken} {q : Result A JobStop} {m : Acts A} (P : NoMemory → Type 0) (j : Job) (depth : ℕ) (g : Going Spoken) (u : Spoken) where
  pub lost : (r : Result Progress NoMemory) → IsErrAnd r P → Does is_free tells old new s t q m → IsProgress tells old new s u j depth r g
  lost (Ok p) is did = absurd is
  lost (Err e) is did = lost_t did

module _ {V : Type 0} {tells : V → Told} {d : DeskState V} {s : Spoken} (P : NoMemory → Type 0) (j : Job) (depth : ℕ) (g : Going Spoken) (u : Spoken) where
  pub lacking : (r : Result Progress NoMemory) → IsErrAnd r P → IsProgress tells d d s u j depth r g
  lacking (Ok p) is = absurd is
  lacking (Err e) is = short_t

module _ {V : Type 0} {tells : V → Told} {d : DeskState V} {s : Spoken} (j : Job) (depth : ℕ) where
  pub pauses : (h : Halfway) (line : SubLine) (r : ParsedLine) (rest : List ParsedLine) → drop h.at h.lines ≡ r ∷ rest
      → IsProgress tells d d s s j depth (Ok (progress.Paused h line)) (by_lap j depth h.opened r.placed (lines_plot j depth h.opened (map meant rest)) (lap.Begins h.env line))
  pauses h line r rest left = pause_t said (ap {B = Back → Plot} (λ (xs : List ParsedLine) (b : Back). from_output saying (going_at j depth h.opened h.env xs b)) left)

module _ {V : Type 0} {tells : V → Told} {old new : DeskState V} {s : Spoken} {after : List ℕ} {r : Result Turn NoMemory} {back : Back → Plot} (j : Job) (depth : ℕ) where
  pub read_all : (ps : List Placed) (rs : List ParsedLine) (so_far : List (Placed × Meaning)) (k : List (Placed × Meaning) → Going Spoken) → AreRead ps rs → Turned tells old new s after r (k (so_far ++ map meant rs)) back
      → Turned tells old new s after r (read_plot j depth ps so_far k) back
  read_all [] [] so_far k all p = subst (λ (xs : List (Placed × Meaning)). Turned tells old new s after r (k xs) back) (append-nil so_far) p
  read_all [] (q ∷ rs) so_far k all p = absurd all
  read_all (x ∷ ps) [] so_far k all p = absurd all
  read_all (x ∷ ps) (q ∷ rs) so_far k all p =
      let same : so_far ++ meant q ∷ map meant rs ≡ (so_far ++ (x, meaning_of q.line) ∷ []) ++ map meant rs =
      ap (λ (y : Placed). so_far ++ (y, meaning_of q.line) ∷ map meant rs) all.0 ∙ sym (append_assoc so_far ((x, meaning_of q.line) ∷ []) (map meant rs)) in
      let next : Turned tells old new s after r (k ((so_far ++ (x, meaning_of q.line) ∷ []) ++ map meant rs)) back = subst (λ (xs : List (Placed × Meaning)). Turned tells old new s after r (k xs) back) same p in
      read_t (λ m. read_plot j depth ps (so_far ++ (x, m) ∷ []) k) (record { line = q.line; read = all.1.0; is = refl })
      (read_all ps rs (so_far ++ (x, meaning_of q.line) ∷ []) k all.1.1 next)

-- a job that waits for a make, or that has ended, has nothing left to do
pub idle : {V : Type 0} {tells : V → Told} {d : DeskState V} {s : Spoken} (j : Job) (depth : ℕ) (known : Known) (now : Stage) → ((h : Halfway) × now ≡ stage.Waiting h) ⊎ (now ≡ stage.Closed)
    → IsProgress tells d d s s j depth (Ok (progress.Ended outcome.Made)) (going_by j depth known now)
idle j depth known now (inl h) = rw h.1 (over_t said)
idle j depth known now (inr e) = rw e (over_t said)

-- what is left of a job that has heard of its line's make
pub heard_plot : (j : Job) (depth : ℕ) (known : Known) (now : Stage) (b : Back) → from_output saying (going_by j depth known (heard now b)) ≡ from_output saying (back_by j depth now b)
heard_plot j depth known stage.Fresh b = refl
heard_plot j depth known (stage.Waiting h) (Status n) = refl
heard_plot j depth known (stage.Waiting h) Spent = refl
heard_plot j depth known (stage.Answered h n) b = refl
heard_plot j depth known (stage.Spent h) b = refl
heard_plot j depth known stage.Closed b = refl
