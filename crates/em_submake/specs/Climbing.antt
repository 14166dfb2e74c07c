-- What is left of all levels of makes, as the code goes through them.
--     Went ..               a desk and an output have come to an end of these ways
--     GoesW ..              the same in continuation form, for the loop
--     climb levels a        what is left of the levels once the innermost job has ended so
--     rest_of j levels      what is left of the innermost job, and of them
--     IsSound v             the level's running job is one of its plan's, of which there are not too many; its variables are its book's
--     Goes_by, IsTurned     a step without the desk, and one with it, have come to a next job or to the end
--     weight                what gets less with each turn
use Rattle.std.specs.Prelude.{◌≡◌, ℕ, suc, ◌+◌, ◌-◌, ◌*◌, ◌<◌, ◌≤◌, List, [], ◌∷◌, ◌++◌, drop, length, All, Result, Ok, Err, IfOk}
use Rattle.em_base.specs.declared.memory.NoMemory.{NoMemory}
use Rattle.em_tree.specs.declared.outcome.Outcome.{Outcome}
use Rattle.em_view.specs.Actions.{Workspace, Oracle, AgreesFrom}
use Rattle.em_view.specs.Performs.{DeskState, Told, Grows}
use Rattle.em_rules.specs.declared.book.Book.{Book}
use Rattle.em_plan.specs.declared.planned.Plan.{Plan}
use Rattle.em_exec.specs.declared.turn.SubLine.{SubLine}
use Rattle.em_script.specs.Strands.{Back, Plot, IsSent}
use Rattle.em_submake.specs.declared.ground.Ground.{Ground}
use Rattle.em_submake.specs.declared.ground.Ground.TheVariants as ground
use Rattle.em_submake.specs.declared.levels.Level.{Level}
use Rattle.em_submake.specs.declared.levels.Next.{Next}
use Rattle.em_submake.specs.declared.levels.Next.TheVariants as next
use Rattle.em_submake.specs.Ways.{Ended, Ways, and_then, done, settled}
use Rattle.em_submake.specs.Submakes.{after_job, jobs_from, deeper_at, whole}

-- there is such an end, with this outcome, output and workspace
abbrev pub Ends : Ways Outcome → List ℕ → Oracle → Workspace → Outcome → List ℕ → Workspace → Type 0
Ends m out o w a after v = (z : Ended Outcome) × (m out o w z × ((settled z.0 ≡ (a, after)) × (z.1 ≡ v)))

pub record Went {V : Type 0} (tells : V → Told) (old new : DeskState V) (before after : List ℕ) (result : Result Outcome NoMemory) (ways : Ways Outcome) : Type 0 where
  pub grows : Grows tells old new
  -- whatever answers these asks so makes the ways come to this end; memory may be short at any time
  pub plain : (o : Oracle) → AgreesFrom (length old.work.asked) o grows.entries → IfOk result (λ a. Ends ways before o old.work a after new.work)

abbrev pub GoesW : {V : Type 0} → (V → Told) → DeskState V → DeskState V → List ℕ → List ℕ → Ways Outcome → Ways Outcome → Type 0
GoesW {V} tells first here s t whole rest = (new : DeskState V) (after : List ℕ) (r : Result Outcome NoMemory) → Went tells here new t after r rest → Went tells first new s after r whole

-- what comes to an end from the second output comes to it from the first one
abbrev pub Leads : List ℕ → List ℕ → Ways Outcome → Ways Outcome → Type 0
Leads s t m k = (o : Oracle) (w : Workspace) (z : Ended Outcome) → k t o w z → m s o w z

module _ (job_of : SubLine → Plan → ℕ → Book → List Outcome → Plot) {J : Type 0} (plot : J → Plot) (back : J → Back → Plot) where
  -- the jobs of a level that are left behind the first so many
  abbrev pub others : ℕ → Level J → List Outcome → Ways Back
  others left v os = jobs_from job_of (deeper_at job_of left) v.line v.book v.plan (drop (length os) v.plan.jobs) os

  abbrev pub level_rest : ℕ → Level J → Outcome → Ways Back
  level_rest left v a = after_job job_of v.line v.book v.plan v.ended a (others left v (v.ended ++ a ∷ []))

  abbrev pub climb : List (Level J) → Outcome → Ways Outcome
  climb [] a = done a
  climb (v ∷ vs) a = and_then (level_rest (8 - length (v ∷ vs)) v a) (λ b. and_then (whole (deeper_at job_of (8 - length vs)) (back v.job b)) (climb vs))

  unfoldable pub rest_of : J → List (Level J) → Ways Outcome
  rest_of j vs = and_then (whole (deeper_at job_of (8 - length vs)) (plot j)) (climb vs)

  -- a line's make, and what is left of its job and of the levels around it
  abbrev pub waits : J → List (Level J) → Ways Back → Ways Outcome
  waits j vs m = and_then m (λ b. and_then (whole (deeper_at job_of (8 - length vs)) (back j b)) (climb vs))

-- its plan has not too many jobs
abbrev pub IsFew : Ground → Type 0
IsFew (ground.Planned book plan) = length plan.jobs ≤ 65536
IsFew _ = Unit {0}

pub record IsSound {J : Type 0} (v : Level J) : Type 0 where
  pub runs : length v.ended < length v.plan.jobs
  pub few : length v.plan.jobs ≤ 65536
  pub vars : v.vars ≡ v.book.vars
  pub sent : IsSent v.line

abbrev pub AreSound : {J : Type 0} → List (Level J) → Type 0
AreSound {J} vs = (length vs ≤ 8) × All (λ (v : Level J). IsSound v) vs

abbrev pub room : {J : Type 0} → List (Level J) → ℕ
room [] = 0
room (v ∷ vs) = suc (length v.plan.jobs - length v.ended) + room vs

module _ (job_of : SubLine → Plan → ℕ → Book → List Outcome → Plot) {J : Type 0} (plot : J → Plot) (back : J → Back → Plot) where
  -- what is to be done goes on by this job, or is done
  abbrev pub Goes_by : List ℕ → List ℕ → Ways Outcome → List (Level J) → Result (Next J) NoMemory → Type 0
  Goes_by s t m levels (Ok (next.Job j)) = Leads s t m (rest_of job_of plot back j levels) × AreSound levels
  Goes_by s t m levels (Ok (next.Done a)) = (o : Oracle) (w : Workspace) → Ends m s o w a t w
  Goes_by s t m levels (Err e) = Unit {0}

  abbrev pub IsTurned : {V : Type 0} → (V → Told) → DeskState V → DeskState V → List ℕ → List ℕ → Ways Outcome → List (Level J) → Result (Next J) NoMemory → Type 0
  IsTurned tells old new s t whole levels (Ok (next.Job j)) = GoesW tells old new s t whole (rest_of job_of plot back j levels) × AreSound levels
  IsTurned tells old new s t whole levels (Ok (next.Done a)) = Went tells old new s t (Ok a) whole
  IsTurned tells old new s t whole levels (Err e) = Went tells old new s t (Err e) whole

abbrev pub Smaller : {J : Type 0} → ℕ → ℕ → Result (Next J) NoMemory → Type 0
Smaller old new (Ok (next.Job j)) = new < old
Smaller old new _ = Unit {0}

-- a level more has at most 65,536 jobs, and a line that begins one has taken fuel
abbrev pub weight : {J : Type 0} → ℕ → List (Level J) → ℕ
weight fuel vs = fuel * 131072 + room vs
