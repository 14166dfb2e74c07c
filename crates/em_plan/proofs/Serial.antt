-- What a walk leaves, whatever is said of names.
--     Added w v          jobs are added, each made from those in front of it
--     job_at, pres_before, waits_rise, waits_below      what follows for each job
--     visit_few, plan_few      there are at most so many
--     once_double        two jobs of one trigger
use Rattle.std.proofs.Common.{◌≡◌, ◌⊎◌, inl, inr, ℕ, zero, suc, ◌+◌, ◌<◌, ◌≤◌, Bool, true, false, cond, ◌||◌, nat_lt, not, List, [], ◌∷◌, ◌++◌, map, length, drop, Option, Some, None, Ok, Err, refl, sym, ap, subst, ◌∙◌, arith, append_assoc, length-append, slice_get, get_or, IsSomeAnd}
use Rattle.std.specs.List.{All, AllByRecursion, Contains, filter, flat_map}
use Rattle.std.specs.List.Sorted.{IsStrictlySortedBy}
use Rattle.std.specs.Ordering.{nat_cmp}
use Rattle.std.specs.FinMap.{nat_cmp-IsAntisymmetric}
use Rattle.std.proofs.lemmas.Cmp.{nat_cmp_total}
use Rattle.std.proofs.lemmas.List.{append-nil}
use Rattle.std.proofs.lemmas.Option.{slice_get_within}
use Rattle.std.proofs.lemmas.List.Concat.{flat_map-cons}
use Rattle.std.proofs.lemmas.List.Elements.{Contains-append_cases}
use borrow.Author.Tests.{ltb-true}
use Rattle.em_base.proofs.Lemmas.{by_cases, in_order_has, in_order_rises}
use Rattle.em_plan.specs.declared.making.Need.{Need}
use Rattle.em_plan.specs.declared.making.Making.{Making}
use Rattle.em_plan.specs.declared.planned.Pre.{Pre}
use Rattle.em_plan.specs.declared.planned.Plan.{Plan}
use Rattle.em_plan.specs.declared.planned.PlanJob.{PlanJob}
use Rattle.em_plan.specs.declared.walk.Walked.{Walked}
use Rattle.em_plan.specs.declared.no.PlanNo.TheVariants.{NoTargets, TooManyJobs}
use Rattle.em_plan.specs.Once.{each_once, is_among}
use Rattle.em_plan.specs.Jobs.{numbers_from, numbers_of, pre, remaining, pres, jobs_in, earlier_ones, job_of}
use Rattle.em_plan.specs.Order.{limit, Says, Walking, Open, opened, and_then, is_open, meet, finish, enter, visit, visit_all, has_room, with_job, noted, no_room, from_in, units_left, nothing_walked}
use Rattle.em_plan.specs.Plans.{as_plan, plan_for}
use Rattle.em_plan.specs.Serial.{AreEach, IsMade, AreMade, IsNext, StandsBefore}
use Rattle.em_plan.specs.Units.{IsUnits}
use Rattle.em_plan.proofs.Lists.{at_place, each_place}
use Rattle.em_plan.proofs.Keeping.{each_append, goals_serial}

-- ---- jobs are added

pub record Added (w v : Walked) : Type 0 where
  pub more : List PlanJob
  pub jobs : v.jobs ≡ w.jobs ++ more
  pub made : AreMade w.jobs more

added_same : (w v : Walked) → v.jobs ≡ w.jobs → Added w v
added_same w v e = record { more = []; jobs = e ∙ sym (append-nil w.jobs); made = tt }

added_both : (w u v : Walked) → Added w u → Added u v → Added w v
added_both w u v a b = record {
  more = a.more ++ b.more;
  jobs = b.jobs ∙ ap (λ (js : List PlanJob). js ++ b.more) a.jobs ∙ append_assoc w.jobs a.more b.more;
  made = each_append IsMade w.jobs a.more b.more a.made (subst (λ (js : List PlanJob). AreMade js b.more) a.jobs b.made);
}

added_job : (u : Open) (stack : List Open) (m : Making) (w : Walked) → Added w (with_job u stack m w)
added_job u stack m w = record {
  more = job_of (is_open (u ∷ stack)) (numbers_of w.jobs) u.trigger (from_in stack) m ∷ [];
  jobs = refl;
  made = (record { is_open = is_open (u ∷ stack); making = m; is = refl }, tt);
}

abbrev Adds : (Walked → List ℕ → Walking) → Type 0
Adds visit = (w v : Walked) (n : List ℕ) → visit w n ≡ Ok v → Added w v

finish_adds : (visit : Walked → List ℕ → Walking) (u : Open) (stack : List Open) (m : Making) → Adds visit → (ns : List Need) (w v : Walked) → finish visit u stack m ns w ≡ Ok v → Added w v
finish_adds visit u stack m h [] w v e = subst (λ (x : Walked). Added w x) (let s : with_job u stack m w ≡ v = cc in s) (added_job u stack m w)
finish_adds visit u stack m h (n ∷ ns) w v e = by_open (is_open (u ∷ stack) n.name) e (λ x. finish_adds visit u stack m h ns x v)
  where
    by_visit : (r : Walking) → visit w n.name ≡ r → and_then r (finish visit u stack m ns) ≡ Ok v → ((x : Walked) → finish visit u stack m ns x ≡ Ok v → Added x v) → Added w v
    by_visit (Err x) is g rest = absurd (let b : Err x ≡ Ok v = g in cc)
    by_visit (Ok x) is g rest = added_both w x v (h w x n.name is) (rest x g)

    by_open : (b : Bool) → and_then (cond b (Ok (noted u.trigger n.name w)) (visit w n.name)) (finish visit u stack m ns) ≡ Ok v → ((x : Walked) → finish visit u stack m ns x ≡ Ok v → Added x v) → Added w v
    by_open true g rest = added_both w (noted u.trigger n.name w) v (added_same w (noted u.trigger n.name w) refl) (rest (noted u.trigger n.name w) g)
    by_open false g rest = by_visit (visit w n.name) refl g rest

enter_adds : (visit : List Open → Walked → List ℕ → Walking) (stack : List Open) → ((u : Open) → Adds (visit (u ∷ stack))) → (n : List ℕ) (ms : List Making) (w v : Walked) → enter visit stack n ms w ≡ Ok v → Added w v
enter_adds visit stack h n [] w v e = added_same w v (ap (λ (x : Walked). x.jobs) (let s : v ≡ w = cc in s))
enter_adds visit stack h n (m ∷ ms) w v e = by_room (has_room stack w) e (λ x. enter_adds visit stack h n ms x v)
  where
    by_unit : (r : Walking) → finish (visit (opened n m ∷ stack)) (opened n m) stack m m.needs w ≡ r → and_then r (enter visit stack n ms) ≡ Ok v → ((x : Walked) → enter visit stack n ms x ≡ Ok v → Added x v) → Added w v
    by_unit (Err x) is g rest = absurd (let b : Err x ≡ Ok v = g in cc)
    by_unit (Ok x) is g rest = added_both w x v (finish_adds (visit (opened n m ∷ stack)) (opened n m) stack m (h (opened n m)) m.needs w x is) (rest x g)

    by_room : (b : Bool) → cond b (and_then (finish (visit (opened n m ∷ stack)) (opened n m) stack m m.needs w) (enter visit stack n ms)) (Err TooManyJobs) ≡ Ok v
        → ((x : Walked) → enter visit stack n ms x ≡ Ok v → Added x v) → Added w v
    by_room false g rest = absurd (let b : Err TooManyJobs ≡ Ok v = g in cc)
    by_room true g rest = by_unit (finish (visit (opened n m ∷ stack)) (opened n m) stack m m.needs w) refl g rest

visit_adds : (says : Says) (left : ℕ) (stack : List Open) → Adds (visit says left stack)
unfolding visit
visit_adds says zero stack w v n e = enter_adds no_room stack (λ u x y q g. absurd (let b : Err TooManyJobs ≡ Ok y = g in cc)) n (units_left says stack w n) w v e
visit_adds says (suc left) stack w v n e = enter_adds (visit says left) stack (λ u. visit_adds says left (u ∷ stack)) n (units_left says stack w n) w v e

goals_add : (says : Says) (goals : List (List ℕ)) (w v : Walked) → visit_all says goals w ≡ Ok v → Added w v
goals_add says [] w v e = added_same w v (ap (λ (x : Walked). x.jobs) (let s : v ≡ w = cc in s))
goals_add says (g ∷ gs) w v e = by_visit (visit says limit [] w g) refl e (λ x. goals_add says gs x v)
  where
    by_visit : (r : Walking) → visit says limit [] w g ≡ r → and_then r (visit_all says gs) ≡ Ok v → ((x : Walked) → visit_all says gs x ≡ Ok v → Added x v) → Added w v
    by_visit (Err x) is h rest = absurd (let b : Err x ≡ Ok v = h in cc)
    by_visit (Ok x) is h rest = added_both w x v (visit_adds says limit [] w x g is) (rest x h)

-- ---- plans

-- a plan's jobs and notes are those of a walk from goals
pub plan_walked : (says : Says) (goals : List (List ℕ)) (p : Plan) → plan_for says goals ≡ Ok p
    → visit_all says (each_once [] goals) nothing_walked ≡ Ok (record { jobs = p.jobs; notes = p.notes })
plan_walked says [] p e = absurd (let b : Err NoTargets ≡ Ok p = e in cc)
plan_walked says (g ∷ gs) p e = by_walk (visit_all says (each_once [] (g ∷ gs)) nothing_walked) refl e
  where
    by_walk : (r : Walking) → visit_all says (each_once [] (g ∷ gs)) nothing_walked ≡ r → as_plan (each_once [] (g ∷ gs)) r ≡ Ok p
        → visit_all says (each_once [] (g ∷ gs)) nothing_walked ≡ Ok (record { jobs = p.jobs; notes = p.notes })
    by_walk (Err x) is h = absurd (let b : Err x ≡ Ok p = h in cc)
    by_walk (Ok w) is h =
        let same_jobs : w.jobs ≡ p.jobs = cc in
        let same_notes : w.notes ≡ p.notes = cc in
        is ∙ rw (← same_jobs, ← same_notes) refl

-- where there are too many jobs the walk finds no room
pub plan_failed : (says : Says) (goals : List (List ℕ)) → plan_for says goals ≡ Err TooManyJobs → visit_all says (each_once [] goals) nothing_walked ≡ Err TooManyJobs
plan_failed says [] e = absurd (let b : Err NoTargets ≡ Err TooManyJobs = e in cc)
plan_failed says (g ∷ gs) e = by_walk (visit_all says (each_once [] (g ∷ gs)) nothing_walked) refl e
  where
    by_walk : (r : Walking) → visit_all says (each_once [] (g ∷ gs)) nothing_walked ≡ r → as_plan (each_once [] (g ∷ gs)) r ≡ Err TooManyJobs
        → visit_all says (each_once [] (g ∷ gs)) nothing_walked ≡ Err TooManyJobs
    by_walk (Err x) is h = let same_error : x ≡ TooManyJobs = cc in is ∙ ap Err same_error
    by_walk (Ok w) is h = absurd (let b : as_plan (each_once [] (g ∷ gs)) (Ok w) ≡ Err TooManyJobs = h in cc)

pub plan_made : (says : Says) (goals : List (List ℕ)) (p : Plan) → plan_for says goals ≡ Ok p → AreMade [] p.jobs
plan_made says goals p e =
    let a = goals_add says (each_once [] goals) nothing_walked (record { jobs = p.jobs; notes = p.notes }) (plan_walked says goals p e) in
    subst (AreMade []) (sym a.jobs) a.made

-- ---- what follows for each job

-- a job with those in front of it
pub record Standing (Next : List PlanJob → PlanJob → Type 0) (before jobs : List PlanJob) (k : ℕ) (job : PlanJob) : Type 0 where
  pub front : List PlanJob
  pub behind : List PlanJob
  pub parts : before ++ jobs ≡ front ++ job ∷ behind
  pub place : length front ≡ length before + k
  pub next : Next front job

pub job_at : (Next : List PlanJob → PlanJob → Type 0) (before jobs : List PlanJob) (k : ℕ) (job : PlanJob) → AreEach Next before jobs → slice_get jobs k ≡ Some job → Standing Next before jobs k job
job_at Next before [] zero job h at = absurd (let b : None ≡ Some job = at in cc)
job_at Next before [] (suc k) job h at = absurd (let b : None ≡ Some job = at in cc)
job_at Next before (j ∷ js) zero job h at =
    let same_job : j ≡ job = cc in
    record {
      front = before;
      behind = js;
      parts = ap (λ (x : PlanJob). before ++ x ∷ js) same_job;
      place = omega arith;
      next = subst (λ (x : PlanJob). Next before x) same_job h.0;
    }
job_at Next before (j ∷ js) (suc k) job h at =
    let s = job_at Next (before ++ j ∷ []) js k job h.1 at in
    record {
      front = s.front;
      behind = s.behind;
      parts = sym (append_assoc before (j ∷ []) js) ∙ s.parts;
      place = s.place ∙ rw (length-append before (j ∷ [])) (omega arith);
      next = s.next;
    }

-- a number of a name is the place of a job that has it among its targets
pub number_place : (jobs : List PlanJob) (i : ℕ) (name : List ℕ) (k : ℕ) → Contains (numbers_from i jobs name) k → (d : ℕ) × (k ≡ i + d) × (d < length jobs) × (job : PlanJob) × (slice_get jobs d ≡ Some job) × (is_among job.targets name ≡ true)
number_place [] i name k c = absurd (let l : c.0 < 0 = c.1 in omega arith)
number_place (j ∷ js) i name k c = by_target (number_place js (i + 1) name k) c
  where
    Place : Type 0
    Place = (d : ℕ) × (k ≡ i + d) × (d < suc (length js)) × (job : PlanJob) × (slice_get (j ∷ js) d ≡ Some job) × (is_among job.targets name ≡ true)

    Rest : Type 0
    Rest = Contains (numbers_from (i + 1) js name) k → (d : ℕ) × (k ≡ i + 1 + d) × (d < length js) × (job : PlanJob) × (slice_get js d ≡ Some job) × (is_among job.targets name ≡ true)

    later : Rest → Contains (numbers_from (i + 1) js name) k → Place
    later rest there = let r = rest there in (suc r.0, (let s : k ≡ i + 1 + r.0 = r.1 in omega (arith, s)), (let l : r.0 < length js = r.2 in omega (arith, l)), r.3, r.4, r.5)

    by_place : Rest → is_among j.targets name ≡ true → Contains (i ∷ numbers_from (i + 1) js name) k → Place
    by_place rest is (zero, l, e) = (0, (let s : i ≡ k = e in omega (arith, s)), omega arith, j, refl, is)
    by_place rest is (suc d, l, e) = later rest (d, (let low : suc d < suc (length (numbers_from (i + 1) js name)) = l in omega (arith, low)), e)

    by_target : Rest → Contains (cond (is_among j.targets name) (i ∷ numbers_from (i + 1) js name) (numbers_from (i + 1) js name)) k → Place
    by_target rest c = by_cases (is_among j.targets name)
        (λ b. is_among j.targets name ≡ b → Contains (cond b (i ∷ numbers_from (i + 1) js name) (numbers_from (i + 1) js name)) k → Place)
        (λ _ is here. by_place rest is here) (λ _ _ there. later rest there) refl c

-- a name that is a target of one of the jobs has a number
numbers_have : (jobs : List PlanJob) (at i : ℕ) (job : PlanJob) (n : List ℕ) → slice_get jobs i ≡ Some job → is_among job.targets n ≡ true → 0 < length (numbers_from at jobs n)
numbers_have [] at zero job n e own = absurd (let b : None ≡ Some job = e in cc)
numbers_have [] at (suc i) job n e own = absurd (let b : None ≡ Some job = e in cc)
numbers_have (j ∷ js) at zero job n e own = let this : j ≡ job = cc in let there : is_among j.targets n ≡ true = ap (λ (x : PlanJob). is_among x.targets n) this ∙ own in rw there (omega arith)
numbers_have (j ∷ js) at (suc i) job n e own = by_case (is_among j.targets n) (numbers_have js (at + 1) i job n e own)
  where
    by_case : (b : Bool) → 0 < length (numbers_from (at + 1) js n) → 0 < length (cond b (at ∷ numbers_from (at + 1) js n) (numbers_from (at + 1) js n))
    by_case true h = omega arith
    by_case false h = h

contains_at : (ks : List ℕ) (i k : ℕ) → slice_get ks i ≡ Some k → Contains ks k
contains_at [] zero k e = absurd (let b : None ≡ Some k = e in cc)
contains_at [] (suc i) k e = absurd (let b : None ≡ Some k = e in cc)
contains_at (x ∷ ks) zero k e = (0, omega arith, (let s : x ≡ k = cc in s))
contains_at (x ∷ ks) (suc i) k e = let r = contains_at ks i k e in (suc r.0, (let l : r.0 < length ks = r.1 in omega arith), r.2)

get_front : {X : Type 0} (xs ys : List X) (i : ℕ) (x : X) → slice_get xs i ≡ Some x → slice_get (xs ++ ys) i ≡ Some x
get_front [] ys zero x e = absurd (let b : None ≡ Some x = e in cc)
get_front [] ys (suc i) x e = absurd (let b : None ≡ Some x = e in cc)
get_front (y ∷ xs) ys zero x e = e
get_front (y ∷ xs) ys (suc i) x e = get_front xs ys i x e

get_back : {X : Type 0} (xs ys : List X) (i : ℕ) (x : X) → i < length xs → slice_get (xs ++ ys) i ≡ Some x → slice_get xs i ≡ Some x
get_back [] ys i x l e = absurd (omega arith)
get_back (y ∷ xs) ys zero x l e = e
get_back (y ∷ xs) ys (suc i) x l e = get_back xs ys i x (omega arith) e

pre_jobs : (numbers : List ℕ → List ℕ) (ns : List Need) (i : ℕ) (p : Pre) → slice_get (map (pre numbers) ns) i ≡ Some p → p.jobs ≡ numbers p.name
pre_jobs numbers [] zero p e = absurd (let b : None ≡ Some p = e in cc)
pre_jobs numbers [] (suc i) p e = absurd (let b : None ≡ Some p = e in cc)
pre_jobs numbers (n ∷ ns) zero p e = let this : pre numbers n ≡ p = cc in subst (λ (x : Pre). x.jobs ≡ numbers x.name) this refl
pre_jobs numbers (n ∷ ns) (suc i) p e = pre_jobs numbers ns i p e

module _ (jobs : List PlanJob) (made : AreMade [] jobs) where
  -- the numbers of a name in front of a job
  below : (k : ℕ) (job : PlanJob) (s : Standing IsMade [] jobs k job) (name : List ℕ) (i : ℕ) → Contains (numbers_of s.front name) i → (i < k) × IsSomeAnd (slice_get jobs i) (λ job. is_among job.targets name ≡ true)
  below k job s name i c =
      let d = number_place s.front 0 name i c in
      let place : i ≡ d.0 = omega (arith, d.1) in
      let there : slice_get jobs i ≡ Some d.3 = ap (slice_get jobs) place ∙ ap (λ (js : List PlanJob). slice_get js d.0) s.parts ∙ get_front s.front (job ∷ s.behind) d.0 d.3 d.4 in
      ((let low : d.0 < length s.front = d.2 in let so_many : length s.front ≡ 0 + k = s.place in omega arith), rw there d.5)

  in_front : (k : ℕ) (job : PlanJob) (s : Standing IsMade [] jobs k job) (p : Pre) → p.jobs ≡ numbers_of s.front p.name → StandsBefore jobs k p
  in_front k job s p are = subst (All (λ i. (i < k) × IsSomeAnd (slice_get jobs i) (λ job. is_among job.targets p.name ≡ true))) (sym are)
      (each_place (λ i. (i < k) × IsSomeAnd (slice_get jobs i) (λ job. is_among job.targets p.name ≡ true)) (numbers_of s.front p.name) (λ d i at. below k job s p.name i (contains_at (numbers_of s.front p.name) d i at)))

  pub pres_before : (k : ℕ) (job : PlanJob) → slice_get jobs k ≡ Some job
      → ((i : ℕ) (p : Pre) → slice_get job.normal i ≡ Some p → StandsBefore jobs k p) × ((i : ℕ) (p : Pre) → slice_get job.order i ≡ Some p → StandsBefore jobs k p)
  pres_before k job at =
      let s = job_at IsMade [] jobs k job made at in (
        λ i p e. in_front k job s p (pre_jobs (numbers_of s.front) _ i p (ap (λ (x : PlanJob). slice_get x.normal i) (sym s.next.is) ∙ e)),
        λ i p e. in_front k job s p (pre_jobs (numbers_of s.front) _ i p (ap (λ (x : PlanJob). slice_get x.order i) (sym s.next.is) ∙ e)),
      )

  -- all numbers that a job waits for
  waited : (k : ℕ) (job : PlanJob) → Standing IsMade [] jobs k job → List ℕ
  waited k job s = jobs_in (pres s.next.is_open (numbers_of s.front) s.next.making.needs) ++ earlier_ones s.next.making.double (numbers_of s.front job.target)

  pub waits_rise : (k : ℕ) (job : PlanJob) → slice_get jobs k ≡ Some job → IsStrictlySortedBy nat_cmp job.waits
  unfolding job_at waited
  waits_rise k job at =
      let s = job_at IsMade [] jobs k job made at in
      subst (λ (x : PlanJob). IsStrictlySortedBy nat_cmp x.waits) (sym s.next.is) (in_order_rises nat_cmp (waited k job s))

  -- a number among the waits is that of a prerequisite or of an earlier rule for the name
  pub waits_below : (k : ℕ) (job : PlanJob) → slice_get jobs k ≡ Some job → (q : ℕ) → Contains job.waits q → q < k
  unfolding job_at waited
  waits_below k job at q c =
      let s = job_at IsMade [] jobs k job made at in
      let there : Contains (waited k job s) q = (in_order_has nat_cmp nat_cmp_total nat_cmp-IsAntisymmetric (waited k job s) q).0 (subst (λ (x : PlanJob). Contains x.waits q) s.next.is c) in
      by_part s (Contains-append_cases (jobs_in (pres s.next.is_open (numbers_of s.front) s.next.making.needs)) (earlier_ones s.next.making.double (numbers_of s.front job.target)) q there)
    where
      -- it stands among the numbers of one of them
      job_in : (ps : List Pre) (q : ℕ) → Contains (flat_map (λ (p : Pre). p.jobs) ps) q → (i : ℕ) × (p : Pre) × (slice_get ps i ≡ Some p) × Contains p.jobs q
      job_in [] q c = absurd (let l : c.0 < 0 = c.1 in omega arith)
      job_in (p ∷ ps) q c = by_first (job_in ps q) (Contains-append_cases p.jobs (flat_map (λ (p : Pre). p.jobs) ps) q (subst (λ js. Contains js q) (flat_map-cons (λ (p : Pre). p.jobs) p ps) c))
        where
          by_first : (Contains (flat_map (λ (p : Pre). p.jobs) ps) q → (i : ℕ) × (x : Pre) × (slice_get ps i ≡ Some x) × Contains x.jobs q)
              → Contains p.jobs q ⊎ Contains (flat_map (λ (p : Pre). p.jobs) ps) q → (i : ℕ) × (x : Pre) × (slice_get (p ∷ ps) i ≡ Some x) × Contains x.jobs q
          by_first rest (inl here) = (0, p, refl, here)
          by_first rest (inr later) = let r = rest later in (suc r.0, r.1, r.2, r.3)

      earlier : (b : Bool) (ks : List ℕ) → Contains (earlier_ones b ks) q → Contains ks q
      earlier true ks c = c
      earlier false ks c = absurd (let l : c.0 < 0 = c.1 in omega arith)

      by_part : (s : Standing IsMade [] jobs k job) → Contains (jobs_in (pres s.next.is_open (numbers_of s.front) s.next.making.needs)) q ⊎ Contains (earlier_ones s.next.making.double (numbers_of s.front job.target)) q → q < k
      by_part s (inl here) =
          let i = job_in (pres s.next.is_open (numbers_of s.front) s.next.making.needs) q here in
          (below k job s i.1.name q (subst (λ ks. Contains ks q) (pre_jobs (numbers_of s.front) (remaining s.next.is_open s.next.making.needs) i.0 i.1 i.2) i.3)).0
      by_part s (inr own) = (below k job s job.target q (earlier s.next.making.double (numbers_of s.front job.target) own)).0

-- two jobs of one trigger are both of double-colon rules
pub once_double : (says : Says) → IsUnits says → (goals : List (List ℕ)) (p : Plan) → plan_for says goals ≡ Ok p
    → (i k : ℕ) (a b : PlanJob) → slice_get p.jobs i ≡ Some a → slice_get p.jobs k ≡ Some b → i < k → a.target ≡ b.target → (a.double ≡ true) × (b.double ≡ true)
once_double says facts goals p e i k a b ai bk low is =
    let jobs : List PlanJob = p.jobs in
    let serial = goals_serial says facts (each_once [] goals) (record { jobs = p.jobs; notes = p.notes }) (plan_walked says goals p e) in
    let sa = job_at (IsNext says) [] p.jobs i a serial ai in
    let sb = job_at (IsNext says) [] p.jobs k b serial bk in
    let there : slice_get sb.front i ≡ Some a = get_back sb.front (b ∷ sb.behind) i a (let n : length sb.front ≡ 0 + k = sb.place in omega arith) (sym (ap (λ (js : List PlanJob). slice_get js i) sb.parts) ∙ ai) in
    let own : is_among a.targets a.target ≡ true = ap (λ (x : PlanJob). is_among x.targets a.target) sa.next.is
    ∙ at_place (λ (m : Making). is_among m.targets a.target ≡ true) (says sa.next.known a.target) (length (numbers_of sa.front a.target)) sa.next.making (facts.own sa.next.known a.target) sa.next.at in
    let some : 0 < length (numbers_of sb.front b.target) = numbers_have sb.front 0 i a b.target there (ap (is_among a.targets) (sym is) ∙ own) in
    let within : length (numbers_of sb.front b.target) < length (says sb.next.known b.target) = slice_get_within (says sb.next.known b.target) (length (numbers_of sb.front b.target)) sb.next.making sb.next.at in
    let many : 1 < length (says sb.next.known b.target) = omega (arith, some, within) in
    let many_a : 1 < length (says sa.next.known a.target) = subst (λ (n : List ℕ). 1 < length (says sa.next.known n)) (sym is) (so_many (facts.alone sb.next.known sa.next.known b.target) many) in (
      ap (λ (x : PlanJob). x.double) sa.next.is ∙ (at_place (λ (m : Making). (m.double ≡ true) × (m.targets ≡ a.target ∷ [])) (says sa.next.known a.target) (length (numbers_of sa.front a.target)) sa.next.making (facts.double sa.next.known a.target many_a) sa.next.at).0,
      ap (λ (x : PlanJob). x.double) sb.next.is ∙ (at_place (λ (m : Making). (m.double ≡ true) × (m.targets ≡ b.target ∷ [])) (says sb.next.known b.target) (length (numbers_of sb.front b.target)) sb.next.making (facts.double sb.next.known b.target many) sb.next.at).0,
    )
  where
    so_many : {xs ys : List Making} → (xs ≡ ys) ⊎ ((length xs ≡ 1) × (length ys ≡ 1)) → 1 < length xs → 1 < length ys
    so_many (inl same_list) l = subst (λ (zs : List Making). 1 < length zs) same_list l
    so_many (inr one) l = absurd (omega (arith, one.0, l))
