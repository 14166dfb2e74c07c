-- The walk as questions: `visit` and `plan_of`, where who is asked may answer each question as he likes. At a name that has
-- no unit yet, no recipe and no double-colon rules, and isn't phony, the walk asks what the search for a pattern rule asks.
--     Units                             what is asked for a name's units from a place on, where `known` tells which names are open or numbered
--     asking rules patterns cwd         the same, as makefiles say; a double-colon name's units hang on no question
--     walked_then x k                   one walk after another
--     visiting units left stack w name  what was walked so far, with a name that the walk comes to, and before it all that it needs
--     visiting_all units goals w        the same for each goal
--     plan_asking book goals cwd        the plan of a book for goals
--     of_desk e                         what keeps a desk from an answer, as it keeps the plan
--     planned_through book goals cwd    the plan over a desk
--     is_want e                         the one error that may come freely
--     Fails .., Comes ..                a walk failed so; the plan came out so
use Rattle.std.specs.Prelude.{◌≡◌, ℕ, zero, suc, Bool, true, false, List, [], ◌∷◌, drop, length, map, slice_get, Option, Some, None, Result, Ok, Err, if◌then◌else◌}
use Rattle.em_rules.specs.declared.book.Book.{Book}
use Rattle.em_rules.specs.declared.rule.Rule.{Rule}
use Rattle.em_rules.specs.Rules.{numbers_of as rules_of, recipe_rule, is_phony}
use Rattle.em_rules.specs.Groups.{is_double}
use Rattle.em_view.specs.declared.no.DeskNo.{DeskNo}
use Rattle.em_view.specs.declared.no.DeskNo.TheVariants as desk
use Rattle.em_view.specs.Actions.{Action, ◌>>=◌, done, fail, lift}
use Rattle.em_implicit.specs.declared.seek.Found.{Found}
use Rattle.em_implicit.specs.Asking.{Asking, Had, and_then, acted, Asks, Follows, Stops}
use Rattle.em_implicit.specs.Seeking.{seeking}
use Rattle.em_plan.specs.declared.making.Need.{Need}
use Rattle.em_plan.specs.declared.making.Making.{Making}
use Rattle.em_plan.specs.declared.making.RuleContext.{RuleContext}
use Rattle.em_plan.specs.declared.planned.Plan.{Plan}
use Rattle.em_plan.specs.declared.walk.Walked.{Walked}
use Rattle.em_plan.specs.declared.no.PlanNo.{PlanNo}
use Rattle.em_plan.specs.declared.no.PlanNo.TheVariants as no
use Rattle.em_plan.specs.Once.{each_once}
use Rattle.em_plan.specs.Makings.{double_unit, ruled_unit, unruled_unit}
use Rattle.em_plan.specs.Jobs.{numbers_of}
use Rattle.em_plan.specs.Order.{limit, Walking, Open, opened, is_open, is_known, noted, with_job, has_room, nothing_walked}
use Rattle.em_plan.specs.Plans.{asked, as_plan}

-- ---- the units of a name

abbrev pub Units : Type 0
Units = (List ℕ → Bool) → List ℕ → ℕ → Asking (List Making)

abbrev pub single : Making → Asking (List Making)
single m = Had (m ∷ [])

module _ (rules patterns : List Rule) (cwd : List ℕ) where
  -- a phony name isn't looked up among the pattern rules
  abbrev pub found_asking : List ℕ → Asking (Option Found)
  found_asking name = if is_phony rules name then Had None else seeking rules patterns cwd name

  module _ (known : List ℕ → Bool) (name : List ℕ) where
    abbrev pub unruled_by : Option Found → Asking Making
    unruled_by f = Had (unruled_unit known rules patterns name f)

    abbrev pub unit_by : Option ℕ → Asking Making
    unit_by (Some k) = Had (ruled_unit known rules name k)
    unit_by None = and_then (found_asking name) unruled_by

    abbrev pub unit_asking : Asking Making
    unit_asking = unit_by (recipe_rule rules name)

    -- a name without double-colon rules has one unit
    abbrev pub single_from : ℕ → Asking (List Making)
    single_from zero = and_then unit_asking single
    single_from (suc k) = Had []

    abbrev pub double_from : ℕ → Asking (List Making)
    double_from place = Had (drop place (map (double_unit rules name) (rules_of rules name)))

  unfoldable pub asking : Units
  asking known name place = if is_double rules name then double_from known name place else single_from known name place

unfoldable pub asks_for : RuleContext → Units
asks_for m = asking m.book.now.rules m.book.now.patterns m.cwd.now

-- ---- the walk

abbrev pub if_walked : (Walked → Asking Walking) → Walking → Asking Walking
if_walked next (Ok w) = next w
if_walked next (Err e) = Had (Err e)

abbrev pub walked_then : Asking Walking → (Walked → Asking Walking) → Asking Walking
walked_then x next = and_then x (if_walked next)

-- the walk comes to a prerequisite of a unit: one that is open is dropped, with a note
abbrev pub meeting : (Walked → List ℕ → Asking Walking) → Open → List Open → Walked → List ℕ → Asking Walking
meeting visit u stack w n = if is_open (u ∷ stack) n then Had (Ok (noted u.trigger n w)) else visit w n

-- each prerequisite that is left in turn, then the unit itself
abbrev pub finishing : (Walked → List ℕ → Asking Walking) → Open → List Open → Making → List Need → Walked → Asking Walking
finishing visit u stack m [] w = Had (Ok (with_job u stack m w))
finishing visit u stack m (n ∷ ns) w = walked_then (meeting visit u stack w n.name) (finishing visit u stack m ns)

-- into these units of a name, one after another
abbrev pub entering : (List Open → Walked → List ℕ → Asking Walking) → List Open → List ℕ → List Making → Walked → Asking Walking
entering visit stack name [] w = Had (Ok w)
entering visit stack name (m ∷ ms) w =
    if has_room stack w then walked_then (finishing (visit (opened name m ∷ stack)) (opened name m) stack m m.needs w) (entering visit stack name ms)
    else Had (Err no.TooManyJobs)

-- the first ones have a number, as many as the name has jobs
abbrev pub units_asked : Units → List Open → Walked → List ℕ → Asking (List Making)
units_asked units stack w name = units (is_known stack w) name (length (numbers_of w.jobs name))

abbrev pub no_visit : List Open → Walked → List ℕ → Asking Walking
no_visit stack w name = Had (Err no.TooManyJobs)

-- the name's units are asked for before it is seen whether there is room for one
unfoldable pub visiting : Units → ℕ → List Open → Walked → List ℕ → Asking Walking
visiting units zero stack w name = and_then (units_asked units stack w name) (λ ms. entering no_visit stack name ms w)
visiting units (suc left) stack w name = and_then (units_asked units stack w name) (λ ms. entering (visiting units left) stack name ms w)

-- the goals from left to right
abbrev pub visiting_all : Units → List (List ℕ) → Walked → Asking Walking
visiting_all units [] w = Had (Ok w)
visiting_all units (g ∷ gs) w = walked_then (visiting units limit [] w g) (visiting_all units gs)

-- ---- the plan

abbrev pub as_asked : List (List ℕ) → Walking → Asking (Result Plan PlanNo)
as_asked goals r = Had (as_plan goals r)

abbrev pub planning : Units → List (List ℕ) → Asking (Result Plan PlanNo)
planning units [] = Had (Err no.NoTargets)
planning units (g ∷ gs) = and_then (visiting_all units (each_once [] (g ∷ gs)) nothing_walked) (as_asked (each_once [] (g ∷ gs)))

unfoldable pub plan_asking : Book → List (List ℕ) → List ℕ → Asking (Result Plan PlanNo)
plan_asking book goals cwd = planning (asking book.rules book.patterns cwd) (asked goals book.default_goal)

-- a question of the walk is refused for want of fuel or memory alone
abbrev pub of_desk : DeskNo → PlanNo
of_desk desk.Spent = no.Spent
of_desk desk.NoMemory = no.NoMemory
of_desk (desk.File f) = no.NoMemory

abbrev pub given : Result Plan PlanNo → Action PlanNo Plan
given (Ok p) = done p
given (Err e) = fail e

unfoldable pub planned_through : Book → List (List ℕ) → List ℕ → Action PlanNo Plan
planned_through book goals cwd = lift of_desk (acted (plan_asking book goals cwd)) >>= given

abbrev pub is_want : PlanNo → Bool
is_want no.NoMemory = true
is_want _ = false

-- ---- what the code's calls come to

-- these are questions for a name's units, and this is the first of the units that they came to
abbrev pub Offers : {T : Type 0} → Asks T → T → T → Result (Option Making) DeskNo → Asking (List Making) → Type 0
Offers asks a b (Ok o) x = (ms : List Making) × (slice_get ms 0 ≡ o) × Follows asks a b x (Had ms)
Offers asks a b (Err e) x = Stops asks a b e x

abbrev pub Fails : {T : Type 0} → Asks T → T → T → Asking Walking → PlanNo → Type 0
Fails asks a b x no.NoMemory = Stops asks a b desk.NoMemory x
Fails asks a b x no.Spent = Stops asks a b desk.Spent x
Fails asks a b x no.TooManyJobs = Follows asks a b x (Had (Err no.TooManyJobs))
Fails asks a b x no.NoTargets = ⊥

abbrev pub Comes : {T : Type 0} → Asks T → T → T → Result Plan PlanNo → Asking (Result Plan PlanNo) → Type 0
Comes asks a b (Ok p) x = Follows asks a b x (Had (Ok p))
Comes asks a b (Err no.NoMemory) x = Stops asks a b desk.NoMemory x
Comes asks a b (Err no.Spent) x = Stops asks a b desk.Spent x
Comes asks a b (Err no.TooManyJobs) x = Follows asks a b x (Had (Err no.TooManyJobs))
Comes asks a b (Err no.NoTargets) x = Follows asks a b x (Had (Err no.NoTargets))
