-- Whether a job remakes its targets: what it asks of its prerequisites' jobs and of stamps, and what
-- follows from that.
--     prerequisites known j   the outcomes of all jobs of the prerequisites, normal ones and then order-only ones
--     stamp_of cwd name       the stamp of what the name says; a name that is no path is absent and isn't asked
--     stamps_of cwd names ..  the stamps of these names, in order, behind those so far
--     newer_among ..          the normal prerequisites that make remaking due
--     is_due, decision        remaking is due; what becomes of the job
use Rattle.std.specs.Prelude.{ℕ, nat_lt, ◌==◌, Bool, true, false, not, ◌&&◌, ◌||◌, List, [], ◌∷◌, ◌++◌, length, drop, slice_get, Option, Some, None, if◌then◌else◌}
use Rattle.std.specs.Option.{option_map}
use Rattle.std.specs.List.{list_any}
use Rattle.std.specs.Str.{bytes_eq}
use Rattle.em_path.specs.declared.path.PathNo.{PathNo}
use Rattle.em_path.specs.Reading.{read_fault, resolved_text}
use Rattle.em_tree.specs.declared.outcome.Outcome.{Outcome}
use Rattle.em_tree.specs.declared.outcome.Outcome.TheVariants as outcome
use Rattle.em_view.specs.Actions.{spend}
use Rattle.em_view.specs.Rows.{stamp_at}
use Rattle.em_view.specs.Rows as rows
use Rattle.em_view.specs.Steps.{done, below}
use Rattle.em_view.specs.Do.{◌>>=◌}
use Rattle.em_plan.specs.declared.planned.Pre.{Pre}
use Rattle.em_rules.specs.declared.rule.RecipeLine.{RecipeLine}
use Rattle.em_recipe.specs.Automatic.{names_of}
use Rattle.em_task.specs.declared.job.Job.{Job}
use Rattle.em_job.specs.declared.awaiting.Awaited.{Awaited}
use Rattle.em_job.specs.declared.awaiting.Ending.{Ending}
use Rattle.em_job.specs.declared.due.JobDecision.{JobDecision}
use Rattle.em_job.specs.declared.due.JobDecision.TheVariants.{Ended, NoRule, Remake}
use Rattle.em_job.specs.Stops.{Acts, early}

-- the outcomes of prerequisites with which a job goes on
abbrev pub goes_on : Option Outcome → Bool
goes_on (Some outcome.Upto) = true
goes_on (Some outcome.Counted) = true
goes_on (Some outcome.Made) = true
goes_on _ = false

-- those that make remaking due by themselves: one that counts as updated, and under `-n` one whose
-- recipe would have run
abbrev pub is_renewed : Bool → Option Outcome → Bool
is_renewed dry (Some outcome.Counted) = true
is_renewed dry (Some outcome.Made) = dry
is_renewed dry _ = false

abbrev pub ending_of : Bool → Option Outcome → Ending
ending_of dry o = record { fine = goes_on o; renewed = is_renewed dry o }

-- the outcomes that a job is told, one for each job about which it asks, in the order in which it
-- asks; without them it asks the desk
abbrev pub Known : Type 0
Known = Option (List Outcome)

-- those that are left once so many were taken
abbrev pub later : ℕ → Known → Known
later n known = option_map (drop n) known

abbrev pub behind : List Pre → Known → Known
behind [] known = known
behind (p ∷ ps) known = behind ps (later (length p.jobs) known)

-- what it is told costs a unit, as the desk's answer does
abbrev pub outcome_by : Known → ℕ → Acts (Option Outcome)
outcome_by None job = below early (rows.outcome job)
outcome_by (Some os) job = below early (spend 1) >>= (λ u. done (slice_get os 0))

-- how the job of this number ended
unfoldable pub await_job : Known → Bool → ℕ → Acts Ending
await_job known dry job = do
  o ← outcome_by known job
  done (ending_of dry o)

-- what the ends of two jobs mean together: a job goes on with both, and one is enough to make
-- remaking due
abbrev pub together : Ending → Ending → Ending
together e x = record { fine = e.fine && x.fine; renewed = e.renewed || x.renewed }

-- what the jobs of these numbers mean, all of them, with what was so far
abbrev pub await_jobs : Known → Bool → List ℕ → Ending → Acts Ending
await_jobs known dry [] so_far = done so_far
await_jobs known dry (k ∷ ks) so_far = do
  e ← await_job known dry k
  await_jobs (later 1 known) dry ks (together so_far e)

-- before the first job
abbrev pub unasked : Ending
unasked = record { fine = true; renewed = false }

abbrev pub awaited : Pre → Ending → Awaited
awaited p e = record { name = p.name; renewed = e.renewed }

-- the prerequisites so far, and whether the job goes on with all of them
abbrev pub await_normal : Known → Bool → List Pre → List Awaited → Bool → Acts (List Awaited × Bool)
await_normal known dry [] so_far fine = done (so_far, fine)
await_normal known dry (p ∷ ps) so_far fine = do
  e ← await_jobs known dry p.jobs unasked
  await_normal (later (length p.jobs) known) dry ps (so_far ++ awaited p e ∷ []) (fine && e.fine)

abbrev pub await_order : Known → List Pre → Bool → Acts Bool
await_order known [] fine = done fine
await_order known (p ∷ ps) fine = do
  e ← await_jobs known false p.jobs unasked
  await_order (later (length p.jobs) known) ps (fine && e.fine)

unfoldable pub prerequisites : Known → Job → Acts (List Awaited × Bool)
prerequisites known j = do
  normal ← await_normal known j.flags.dry j.plan.normal [] true
  fine ← await_order (behind j.plan.normal known) j.plan.order normal.1
  done (normal.0, fine)

abbrev pub path_by : Option PathNo → List ℕ → List ℕ → Option (List ℕ)
path_by None cwd name = Some (resolved_text cwd name)
path_by (Some fault) cwd name = None

-- the path that a name says, if it says one
abbrev pub path_of : List ℕ → List ℕ → Option (List ℕ)
path_of cwd name = path_by (read_fault cwd name) cwd name

abbrev pub stamp_by : Option (List ℕ) → Acts (Option ℕ)
stamp_by None = done None
stamp_by (Some p) = below early (stamp_at p)

unfoldable pub stamp_of : List ℕ → List ℕ → Acts (Option ℕ)
stamp_of cwd name = stamp_by (path_of cwd name)

abbrev pub stamps_of : List ℕ → List (List ℕ) → List (Option ℕ) → Acts (List (Option ℕ))
stamps_of cwd [] so_far = done so_far
stamps_of cwd (name ∷ names) so_far = do
  stamp ← stamp_of cwd name
  stamps_of cwd names (so_far ++ stamp ∷ [])

abbrev pub same_stamp : Option ℕ → Option ℕ → Bool
same_stamp None None = true
same_stamp (Some a) (Some b) = a == b
same_stamp a b = false

abbrev pub is_phony : Job → List ℕ → Bool
is_phony j name = list_any (λ p. bytes_eq p name) j.phony

-- a target that is there has a stamp below this one; an equal one isn't below it
abbrev pub precedes : ℕ → Option ℕ → Bool
precedes other None = false
precedes other (Some own) = nat_lt own other

-- a prerequisite that is absent, or newer than one of the targets
abbrev pub is_later : List (Option ℕ) → Option ℕ → Bool
is_later owns None = true
is_later owns (Some other) = list_any (precedes other) owns

abbrev pub is_newer : Job → List (Option ℕ) → Awaited → Option ℕ → Bool
is_newer j owns a stamp = is_phony j a.name || (a.renewed || is_later owns stamp)

abbrev pub with_newer : Bool → List (List ℕ) → List ℕ → List (List ℕ)
with_newer is names name = if is then names ++ name ∷ [] else names

abbrev pub newer_among : Job → List (Option ℕ) → List Awaited → List (List ℕ) → Acts (List (List ℕ))
newer_among j owns [] so_far = done so_far
newer_among j owns (a ∷ more) so_far = do
  stamp ← stamp_of j.cwd a.name
  newer_among j owns more (with_newer (is_newer j owns a stamp) so_far a.name)

abbrev pub is_absent : Option ℕ → Bool
is_absent None = true
is_absent (Some stamp) = false

abbrev pub is_one_absent : List (Option ℕ) → Bool
is_one_absent owns = list_any is_absent owns

-- a double-colon rule without normal prerequisites
abbrev pub is_unbound : Job → Bool
is_unbound j = j.plan.double && (length j.plan.normal == 0)

abbrev pub is_due : Job → List (Option ℕ) → List (List ℕ) → Bool
is_due j owns newer = j.flags.always || (j.plan.phony || (is_one_absent owns || (is_unbound j || nat_lt 0 (length newer))))

-- what made remaking due: all prerequisites where a target is absent, and under `-B`
abbrev pub reasons : Job → List (Option ℕ) → List (List ℕ) → List (List ℕ)
reasons j owns newer = if j.flags.always || is_one_absent owns then names_of j.plan.normal else newer

abbrev pub without_recipe : Bool → Outcome
without_recipe true = outcome.Counted
without_recipe false = outcome.Upto

abbrev pub by_recipe : Option (List RecipeLine) → Bool → Bool → JobDecision
by_recipe None due question = Ended (without_recipe due)
by_recipe (Some lines) false question = Ended outcome.Upto
by_recipe (Some lines) true true = Ended outcome.Made
by_recipe (Some lines) true false = Remake

-- targets that are neither phony nor have a rule
abbrev pub unruled : Bool → JobDecision
unruled true = NoRule
unruled false = Ended outcome.Upto

abbrev pub decision : Job → List (Option ℕ) → List (List ℕ) → JobDecision
decision j owns newer = if not (j.plan.phony || j.plan.ruled) then unruled (is_one_absent owns) else by_recipe j.plan.recipe (is_due j owns newer) j.flags.question
