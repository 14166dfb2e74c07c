-- What is left to do of a walk, and its marks: these speak of the code's own steps.
--     opens frames                     the units that are open, the innermost first
--     after units stack n ms w         these units of a name are entered
--     resume units frames w            these units are finished, from the innermost on
--     AreMarked marks stack jobs       a name is marked where it is open or has jobs
--     weight frames jobs               more steps than the walk can still take
--     Steps asks a b units frames before after      one step, from one moment of who answers to a later one
use Rattle.std.specs.Prelude.{◌≡◌, ℕ, suc, ◌+◌, ◌-◌, ◌*◌, ◌^◌, ◌<◌, ◌≤◌, ◌&&◌, Bool, true, false, List, [], ◌∷◌, ◌++◌, map, length, drop, Option, Some, None, is_some, Ok, if◌then◌else◌}
use Rattle.std.specs.FinMap.{FinMap, get}
use Rattle.std.specs.Ordering.{nat_cmp}
use Rattle.std.specs.Cmp.Lexicographic.{slice_cmp}
use Rattle.em_plan.specs.declared.planned.PlanJob.{PlanJob}
use Rattle.em_plan.specs.declared.walk.WalkFrame.{WalkFrame}
use Rattle.em_plan.specs.declared.marks.VisitMark.{VisitMark}
use Rattle.em_plan.specs.declared.walk.Walk.{Walk}
use Rattle.em_plan.specs.declared.walk.Walked.{Walked}
use Rattle.em_plan.specs.declared.making.Making.{Making}
use Rattle.em_plan.specs.Jobs.{numbers_of}
use Rattle.em_implicit.specs.Asking.{Asking, Had, Asks, Follows}
use Rattle.em_plan.specs.Order.{limit, Walking, Open, AreApart, opened, is_open}
use Rattle.em_plan.specs.Walking.{Units, walked_then, finishing, entering, visiting}

abbrev pub open_by : WalkFrame → Open
open_by f = opened f.target f.making

abbrev pub opens : List WalkFrame → List Open
opens = map open_by

unfoldable pub reach : Units → List Open → Walked → List ℕ → Asking Walking
reach units stack = visiting units (limit - length stack) stack

-- into these units of a name, one after another
unfoldable pub after : Units → List Open → List ℕ → List Making → Walked → Asking Walking
after units stack n ms w = entering (visiting units (limit - suc (length stack))) stack n ms w

-- the prerequisites that are left of the innermost unit, then the unit, then the units around it
unfoldable pub resume : Units → List WalkFrame → Walked → Asking Walking
resume units [] w = Had (Ok w)
resume units (f ∷ fs) w = walked_then
    (finishing (reach units (opens (f ∷ fs))) (open_by f) (opens fs) f.making (drop f.next f.making.needs) w)
    (resume units fs)

-- ---- marks

abbrev pub Marks : Type 0
Marks = FinMap (slice_cmp nat_cmp) VisitMark

abbrev pub mark_by : Bool → List ℕ → Option VisitMark
mark_by true ks = Some (record { begun = true; jobs = ks })
mark_by false [] = None
mark_by false (k ∷ ks) = Some (record { begun = false; jobs = k ∷ ks })

abbrev pub mark_of : List Open → List PlanJob → List ℕ → Option VisitMark
mark_of stack jobs n = mark_by (is_open stack n) (numbers_of jobs n)

abbrev pub open_mark : Option VisitMark → Bool
open_mark None = false
open_mark (Some m) = m.begun

abbrev pub jobs_mark : Option VisitMark → List ℕ
jobs_mark None = []
jobs_mark (Some m) = m.jobs

-- what the marks tell of a name
abbrev pub open_in : Marks → List ℕ → Bool
open_in marks n = open_mark (get marks n)

abbrev pub numbers_in : Marks → List ℕ → List ℕ
numbers_in marks n = jobs_mark (get marks n)

abbrev pub known_in : Marks → List ℕ → Bool
known_in marks n = is_some (get marks n)

-- the mark of a target of a unit that is opened, and that gets this number
abbrev pub opening : Bool → Option VisitMark → Option VisitMark
opening own m = if own then Some (record { begun = true; jobs = jobs_mark m }) else m

abbrev pub closing : ℕ → Bool → Option VisitMark → Option VisitMark
closing k own m = if own && open_mark m then Some (record { begun = false; jobs = jobs_mark m ++ k ∷ [] }) else m

pub record AreMarked (marks : Marks) (stack : List Open) (jobs : List PlanJob) : Type 0 where
  pub told : (n : List ℕ) → get marks n ≡ mark_of stack jobs n
  pub apart : AreApart stack
  pub few : length jobs + length stack ≤ limit

-- the marks of a walk on its way, where these units are open
abbrev pub IsMarked : List Open → Walk → Type 0
IsMarked stack w = AreMarked w.marks stack w.walked.jobs

-- ---- steps

-- the prerequisites that are left, and one step more for each unit that is open
abbrev pub room : List WalkFrame → ℕ
room [] = 0
room (f ∷ fs) = length (drop f.next f.making.needs) + 1 + room fs

unfoldable pub weight : List WalkFrame → List PlanJob → ℕ
weight fs jobs = (limit - (length jobs + length fs)) * 2 ^ 65 + room fs

-- a step asks some of the questions that are left; those that are left then are the others, and there is less to do
pub record Steps {T : Type 0} (asks : Asks T) (a b : T) (units : Units) (frames : List WalkFrame) (before : Walked) (after : Walk) : Type 0 where
  pub marked : IsMarked (opens after.begun) after
  pub end : Follows asks a b (resume units frames before) (resume units after.begun after.walked)
  pub less : weight after.begun after.walked.jobs < weight frames before.jobs
