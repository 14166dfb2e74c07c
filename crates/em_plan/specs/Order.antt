-- The serial order: each unit that the goals reach, once, behind all its prerequisites that aren't
-- on the walk's stack; goals and prerequisites from left to right, the units of a name in order.
--     is_open stack n, is_known stack w n      n is a target of an open unit; it is one, or has jobs
--     units_left says stack w name             the units of the name that have no number
--     visit says left stack w name     what was walked so far, with a name that the walk comes to, and before it all that it needs
--     visit_all says goals w           the same for each goal
-- `says known n` tells the units of n in order, where `known` tells which names are open or have jobs;
-- the stack has the units that are open, the innermost first; `left` is how many more may be open.
use Rattle.std.specs.Prelude.{◌≡◌, true, false, ℕ, zero, suc, ◌+◌, ◌||◌, nat_lt, Bool, List, [], ◌∷◌, ◌++◌, length, drop, codes, slice_get, Option, option_map, Result, Ok, Err, if◌then◌else◌}
use Rattle.std.specs.List.{list_any}
use Rattle.em_plan.specs.declared.making.Need.{Need}
use Rattle.em_plan.specs.declared.making.Making.{Making}
use Rattle.em_plan.specs.declared.planned.PlanJob.{PlanJob}
use Rattle.em_plan.specs.declared.walk.Walked.{Walked}
use Rattle.em_plan.specs.declared.no.PlanNo.{PlanNo}
use Rattle.em_plan.specs.declared.no.PlanNo.TheVariants.{TooManyJobs}
use Rattle.em_plan.specs.Once.{is_among}
use Rattle.em_plan.specs.Jobs.{numbers_of, job_of}

-- the most jobs of a plan
abbrev pub limit : ℕ
limit = 65536

abbrev pub Walking : Type 0
Walking = Result Walked PlanNo

abbrev pub and_then : Walking → (Walked → Walking) → Walking
and_then (Ok w) next = next w
and_then (Err e) next = Err e

abbrev pub Says : Type 0
Says = (List ℕ → Bool) → List ℕ → List Making

-- an open unit: the name from which the walk came into it, and its targets
pub record Open : Type 0 where
  pub trigger : List ℕ
  pub targets : List (List ℕ)

abbrev pub opened : List ℕ → Making → Open
opened name m = record { trigger = name; targets = m.targets }

abbrev pub is_open : List Open → List ℕ → Bool
is_open stack n = list_any (λ u. is_among u.targets n) stack

-- no target of an open unit is one of a unit around it
abbrev pub AreApart : List Open → Type 0
AreApart [] = Unit {0}
AreApart (u ∷ stack) = ((q : List ℕ) → is_among u.targets q ≡ true → is_open stack q ≡ false) × AreApart stack

-- it is a target of a job
abbrev pub numbered : List PlanJob → List ℕ → Bool
numbered jobs n = nat_lt 0 (length (numbers_of jobs n))

abbrev pub is_known : List Open → Walked → List ℕ → Bool
is_known stack w n = is_open stack n || numbered w.jobs n

-- `emake: Circular T <- P dependency dropped.`
abbrev pub note : List ℕ → List ℕ → List ℕ
note t p = codes "emake: Circular " ++ t ++ codes " <- " ++ p ++ codes " dependency dropped.\n"

abbrev pub noted : List ℕ → List ℕ → Walked → Walked
noted t p w = record w { notes = w.notes ++ note t p }

-- the name from which the walk came to the innermost unit
abbrev pub from_in : List Open → Option (List ℕ)
from_in stack = option_map (λ u. u.trigger) (slice_get stack 0)

-- the unit gets the next number
abbrev pub with_job : Open → List Open → Making → Walked → Walked
with_job u stack m w = record w { jobs = w.jobs ++ job_of (is_open (u ∷ stack)) (numbers_of w.jobs) u.trigger (from_in stack) m ∷ [] }

-- the walk comes to a prerequisite of a unit: one that is open is dropped, with a note
abbrev pub meet : (Walked → List ℕ → Walking) → Open → List Open → Walked → List ℕ → Walking
meet visit u stack w n = if is_open (u ∷ stack) n then Ok (noted u.trigger n w) else visit w n

-- each prerequisite that is left in turn, then the unit itself
abbrev pub finish : (Walked → List ℕ → Walking) → Open → List Open → Making → List Need → Walked → Walking
finish visit u stack m [] w = Ok (with_job u stack m w)
finish visit u stack m (n ∷ ns) w = and_then (meet visit u stack w n.name) (finish visit u stack m ns)

-- a further unit has to be among the first 65,536
abbrev pub has_room : List Open → Walked → Bool
has_room stack w = nat_lt (length w.jobs + length stack) limit

-- into these units of a name, one after another
abbrev pub enter : (List Open → Walked → List ℕ → Walking) → List Open → List ℕ → List Making → Walked → Walking
enter visit stack name [] w = Ok w
enter visit stack name (m ∷ ms) w =
    if has_room stack w then and_then (finish (visit (opened name m ∷ stack)) (opened name m) stack m m.needs w) (enter visit stack name ms)
    else Err TooManyJobs

-- the first ones have a number, as many as the name has jobs
abbrev pub units_left : Says → List Open → Walked → List ℕ → List Making
units_left says stack w name = drop (length (numbers_of w.jobs name)) (says (is_known stack w) name)

abbrev pub no_room : List Open → Walked → List ℕ → Walking
no_room stack w name = Err TooManyJobs

unfoldable pub visit : Says → ℕ → List Open → Walked → List ℕ → Walking
visit says zero stack w name = enter no_room stack name (units_left says stack w name) w
visit says (suc left) stack w name = enter (visit says left) stack name (units_left says stack w name) w

abbrev pub nothing_walked : Walked
nothing_walked = record { jobs = []; notes = [] }

-- the goals from left to right
abbrev pub visit_all : Says → List (List ℕ) → Walked → Walking
visit_all says [] w = Ok w
visit_all says (g ∷ gs) w = and_then (visit says limit [] w g) (visit_all says gs)
