-- What a build has shown: a job that was run again since an earlier job changed what it had asked
-- needs that job's target.
--     learnt jobs notes      the pairs that the notes show and that can stand in a history
use Rattle.std.specs.Prelude.{ℕ, List, Option, Some, None, slice_get, filter_map}
use Rattle.std.specs.Option.{option_and_then}
use Rattle.em_history.specs.Histories.{Pair, collected}
use Rattle.em_plan.specs.declared.planned.PlanJob.{PlanJob}
use Rattle.em_engine.specs.declared.note.Cause.{Cause}
use Rattle.em_engine.specs.declared.note.Cause.TheVariants as cause
use Rattle.em_engine.specs.declared.note.Note.{Note}

-- the job that had changed what was asked
abbrev pub changer_in : Option Cause → Option ℕ
changer_in (Some (cause.Differ place question recorded now after)) = after
changer_in _ = None

abbrev pub targets : Option PlanJob → Option PlanJob → Option Pair
targets (Some made) (Some needed) = Some (made.target, needed.target)
targets _ _ = None

module _ (jobs : List PlanJob) where
  abbrev pub pair_of : Note → Option Pair
  pair_of note = targets (slice_get jobs note.job) (option_and_then (slice_get jobs) (changer_in note.cause))

  unfoldable pub learnt : List Note → List Pair
  learnt notes = collected (filter_map pair_of notes)
