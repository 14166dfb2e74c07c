-- A job with the makes that its lines begin, and with theirs. Such a make reads its makefiles and
-- plans in the state that its line sees; its jobs run one after another, and what they change and
-- use is changed and used by the job of the line.
--     ground l               the makefiles and the plan of the make that a line begins, with what is said of them; or how it has ended already
--     known_of os p          of these outcomes those for which a job asks, one for each time that it asks
--     close ..               the make has ended: what is said of its goals, and its status
--     jobs_from ..           the jobs that are left, once these outcomes are there
--     deeper_at left l       the make that the line begins, where so many levels more may stand
--     spun, whole            what is left of a job, with the make of each line at which it pauses
--     made plot              a job of the outermost make
use Rattle.std.specs.Prelude.{◌≡◌, ℕ, zero, suc, Bool, true, false, List, [], ◌∷◌, ◌++◌, length, map, Result, Ok, Err, slice_index_or, if◌then◌else◌}
use Rattle.std.specs.List.{flat_map, list_any}
use Rattle.em_base.specs.declared.memory.NoMemory.{NoMemory}
use Rattle.em_base.specs.declared.place.Place.{Place}
use Rattle.em_tree.specs.declared.outcome.Outcome.{Outcome}
use Rattle.em_tree.specs.declared.outcome.Outcome.TheVariants as outcome
use Rattle.em_view.specs.Actions.{Oracle}
use Rattle.em_view.specs.Steps as steps
use Rattle.em_view.specs.Steps.{Steps, own, below}
use Rattle.em_view.specs.Do.{◌>>=◌}
use Rattle.em_rules.specs.declared.book.Book.{Book}
use Rattle.em_plan.specs.declared.planned.Plan.{Plan}
use Rattle.em_plan.specs.declared.planned.PlanJob.{PlanJob}
use Rattle.em_plan.specs.declared.planned.Pre.{Pre}
use Rattle.em_plan.specs.declared.no.PlanNo.{PlanNo}
use Rattle.em_plan.specs.declared.no.PlanNo.TheVariants as plan_no
use Rattle.em_plan.specs.Walking.{planned_through}
use Rattle.em_reading.specs.declared.no.MakefileFault.{MakefileFault}
use Rattle.em_reading.specs.declared.no.MakefileFault.TheVariants as fault
use Rattle.em_reading.specs.declared.no.ReadNo.{ReadNo}
use Rattle.em_reading.specs.declared.no.ReadNo.TheVariants.{At, NoMemory as OutOfMemory}
use Rattle.em_reader.specs.Makefiles.{reading}
use Rattle.em_closing.specs.Closing.{closing, goals_of, is_faulty}
use Rattle.em_closing.specs.Refusals.{fault_line, plan_line}
use Rattle.em_task.specs.Endings.{ends_after, flags_of}
use Rattle.em_exec.specs.declared.turn.SubLine.{SubLine}
use Rattle.em_script.specs.Strands.{Meaning, IsMeant, Back, Status, Spent, Strand, Over, Pause, Read, Plot}
use Rattle.em_submake.specs.declared.ground.Ground.{Ground}
use Rattle.em_submake.specs.declared.ground.Ground.TheVariants as ground
use Rattle.em_submake.specs.Ways.{Ended, Ways, and_then, done, stop, put, pick, only, tried}

-- ---- reading and planning

abbrev pub Said : Type 0 → Type 0
Said A = Steps (List ℕ) NoMemory A

-- a value, behind what is said
abbrev pub saying : {A : Type 0} → List ℕ → A → Said A
saying text a = own (λ out. Ok (a, out ++ text))

-- a refusal is printed, and the line has status 2
abbrev pub refused : List ℕ → Said Ground
refused text = saying text (ground.Ended 2)

-- what planning says is lost where it has spent the fuel
abbrev pub by_plan : Book → Result Plan PlanNo → Said Ground
by_plan book (Ok plan) = saying plan.notes (ground.Planned book plan)
by_plan book (Err plan_no.Spent) = steps.done ground.Spent
by_plan book (Err e) = refused (plan_line book.found e)

abbrev pub is_spent : MakefileFault → Bool
is_spent fault.Spent = true
is_spent _ = false

abbrev pub unread_as : MakefileFault → Ground
unread_as f = if is_spent f then ground.Spent else ground.Ended 2

abbrev pub unread_line : Place → MakefileFault → List ℕ
unread_line p f = if is_spent f then [] else fault_line p f

-- what reading has said stands
abbrev pub by_book : SubLine → Result Book ReadNo → Said Ground
by_book l (Ok book) = tried (below (λ e. e) (planned_through book l.order.goals l.shell.cwd)) >>= by_plan book
by_book l (Err (At p f)) = saying (unread_line p f) (unread_as f)
-- this comes of no reading
by_book l (Err OutOfMemory) = refused []

unfoldable pub ground_of : SubLine → Said Ground
ground_of l = tried (reading l.order l.shell.cwd l.shell.vars) >>= by_book l

-- ---- its jobs

-- each job waits for jobs with lower numbers, which have outcomes
abbrev pub outcome_in : List Outcome → ℕ → Outcome
outcome_in os i = slice_index_or os i outcome.Spent

abbrev pub known_in : List Outcome → List Pre → List Outcome
known_in os ps = flat_map (λ (p : Pre). map (outcome_in os) p.jobs) ps

abbrev pub known_of : List Outcome → PlanJob → List Outcome
known_of os p = known_in os p.normal ++ known_in os p.order

-- a job that ends so ends all makes
abbrev pub ends_all : Outcome → Bool
ends_all (outcome.Refused c p) = true
ends_all outcome.Spent = true
ends_all _ = false

abbrev pub status_of : List Outcome → ℕ
status_of os = if list_any is_faulty os then 2 else 0

abbrev pub close : SubLine → Book → Plan → List Outcome → Bool → Ways Back
close l book plan os early = and_then (put (closing l.order.silent plan os (goals_of book l.order.goals) early)) (λ u. done (Status (status_of os)))

-- ---- a job's strand

abbrev pub spun : (SubLine → Ways Back) → Strand → Oracle → Ended Outcome → Type 0
spun deeper (Over a out w) o z = z ≡ (Ok (a, out), w)
spun deeper (Pause l out w k) o z = and_then (deeper l) (λ b t p v. spun deeper (k b t p v) p) out o w z
spun deeper (Read text k) o z = (m : Meaning) × (IsMeant text m × spun deeper (k m) o z)

unfoldable pub whole : (SubLine → Ways Back) → Plot → Ways Outcome
whole deeper plot = λ out o w z. spun deeper (plot out o w) o z

module _ (job_of : SubLine → Plan → ℕ → Book → List Outcome → Plot) where
  -- what follows a job that has ended so, behind these outcomes
  abbrev pub after_job : SubLine → Book → Plan → List Outcome → Outcome → Ways Back → Ways Back
  after_job l book plan os a rest = pick (ends_all a) (stop a) (pick (ends_after (flags_of l.order) a) (close l book plan (os ++ a ∷ []) true) rest)

  abbrev pub jobs_from : (SubLine → Ways Back) → SubLine → Book → Plan → List PlanJob → List Outcome → Ways Back
  jobs_from deeper l book plan [] os = close l book plan os false
  jobs_from deeper l book plan (p ∷ ps) os = and_then (whole deeper (job_of l plan (length os) book (known_of os p))) (λ a. after_job l book plan os a (jobs_from deeper l book plan ps (os ++ a ∷ [])))

  abbrev pub by_ground : (SubLine → Ways Back) → SubLine → Ground → Ways Back
  by_ground deeper l (ground.Planned book plan) = jobs_from deeper l book plan plan.jobs []
  by_ground deeper l (ground.Ended status) = done (Status status)
  by_ground deeper l ground.Spent = done Spent

  -- a line for which no level is left has status 2; a job that minds its depth has refused it before
  abbrev pub deeper_at : ℕ → SubLine → Ways Back
  deeper_at zero l = done (Status 2)
  deeper_at (suc left) l = and_then (only (ground_of l)) (by_ground (deeper_at left) l)

  abbrev pub made : Plot → Ways Outcome
  made plot = whole (deeper_at 8) plot
