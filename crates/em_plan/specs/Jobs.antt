-- The jobs of a plan.
--     numbers_of jobs n              the numbers of the jobs that have n among their targets, from 0
--     pres is_open numbers needs     the prerequisites that aren't open, with their jobs
--     waits_for ps earlier           their jobs and the earlier ones in rising order, once each
--     job_of ..                      the job of a unit, where the walk came to it at a name, and to this from a name or as a goal
use Rattle.std.specs.Prelude.{ℕ, ◌+◌, Bool, not, List, [], ◌∷◌, ◌++◌, map, Option, if◌then◌else◌}
use Rattle.std.specs.List.{filter, flat_map}
use Rattle.std.specs.Ordering.{nat_cmp}
use Rattle.std.specs.FinMap as map_of
use Rattle.em_plan.specs.declared.making.Need.{Need}
use Rattle.em_plan.specs.declared.making.Making.{Making}
use Rattle.em_plan.specs.declared.planned.Pre.{Pre}
use Rattle.em_plan.specs.declared.planned.PlanJob.{PlanJob}
use Rattle.em_plan.specs.Once.{is_among}

abbrev pub numbers_from : ℕ → List PlanJob → List ℕ → List ℕ
numbers_from i [] n = []
numbers_from i (j ∷ js) n = if is_among j.targets n then i ∷ numbers_from (i + 1) js n else numbers_from (i + 1) js n

-- of a name with double-colon rules several, else at most one
abbrev pub numbers_of : List PlanJob → List ℕ → List ℕ
numbers_of jobs n = numbers_from 0 jobs n

abbrev pub pre : (List ℕ → List ℕ) → Need → Pre
pre numbers n = record { name = n.name; jobs = numbers n.name }

-- one that is open was dropped
abbrev pub remaining : (List ℕ → Bool) → List Need → List Need
remaining is_open needs = filter (λ n. not (is_open n.name)) needs

abbrev pub pres : (List ℕ → Bool) → (List ℕ → List ℕ) → List Need → List Pre
pres is_open numbers needs = map (pre numbers) (remaining is_open needs)

abbrev pub normal_ones : List Need → List Need
normal_ones needs = filter (λ n. not n.order) needs

abbrev pub order_only_ones : List Need → List Need
order_only_ones needs = filter (λ n. n.order) needs

abbrev pub jobs_in : List Pre → List ℕ
jobs_in ps = flat_map (λ p. p.jobs) ps

-- the keys of the finite map that has these numbers
abbrev pub rising : List ℕ → List ℕ
rising ks = map_of.keys (map_of.from_entries {X = Unit {0}} {R = nat_cmp} (map (λ k. (k, tt)) ks))

abbrev pub waits_for : List Pre → List ℕ → List ℕ
waits_for ps earlier = rising (jobs_in ps ++ earlier)

-- a double-colon rule waits for the earlier ones of its name
abbrev pub earlier_ones : Bool → List ℕ → List ℕ
earlier_ones double numbers = if double then numbers else []

abbrev pub job_of : (List ℕ → Bool) → (List ℕ → List ℕ) → List ℕ → Option (List ℕ) → Making → PlanJob
job_of is_open numbers trigger from m = record {
  target = trigger;
  targets = m.targets;
  double = m.double;
  normal = pres is_open numbers (normal_ones m.needs);
  order = pres is_open numbers (order_only_ones m.needs);
  stem = m.stem;
  recipe = m.recipe;
  ruled = m.ruled;
  phony = m.phony;
  needed_by = from;
  waits = waits_for (pres is_open numbers m.needs) (earlier_ones m.double (numbers trigger));
}
