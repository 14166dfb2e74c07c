-- The levels of makes, one turn after another.
--     by_lead, by_desk     a step without the desk, from ways that lead to others; and the same behind steps over a desk
--     behind_turn          a step over the desk, behind others
--     ended_first          the first job has ended
--     ended_where_none     the same, where no level is known to be there
--     ended_all            a job has ended all makes
--     closed               a make has ended, and the job of its line goes on
--     goes_further         a job has ended, and its make goes on
--     begun                a make's next job begins
--     done_all             none of its jobs is left
--     answered, too_deep   a line's make has ended already
--     entered              a line's make has its plan, or none
--     turned_up, ..        a turn of the innermost job
--     sound_more, ..       the levels' invariants
--     up_less, down_less   what gets less
use Rattle.std.proofs.Common.{◌≡◌, ◌==◌, ℕ, zero, suc, ◌+◌, ◌-◌, ◌<◌, ◌≤◌, Bool, true, false, List, [], ◌∷◌, ◌++◌, drop, length, length-append, slice_get, Some, None, Result, Ok, Err, refl, sym, ap, subst, eqb-true, arith}
use Rattle.std.specs.Prelude.{IsErrAnd}
use Rattle.std.proofs.lemmas.List.Elements.{All-cons, All-head, All-tail}
use Rattle.em_base.specs.declared.memory.NoMemory.{NoMemory}
use Rattle.em_tree.specs.declared.outcome.Outcome.{Outcome}
use Rattle.em_view.specs.Actions.{Workspace, Oracle, AgreesFrom}
use Rattle.em_view.specs.Performs.{DeskState, Told, Grows}
use Rattle.em_view.specs.Steps.{Does}
use Rattle.em_rules.specs.declared.book.Book.{Book}
use Rattle.em_closing.specs.Closing.{closing, goals_of}
use Rattle.em_task.specs.Endings.{ends_after, flags_of}
use Rattle.em_plan.specs.declared.planned.Plan.{Plan}
use Rattle.em_plan.specs.declared.planned.PlanJob.{PlanJob}
use Rattle.em_plan.proofs.Lists.{left_of, nothing_of}
use Rattle.em_exec.specs.declared.turn.SubLine.{SubLine}
use Rattle.em_exec.specs.declared.turn.Turn.{Turn}
use Rattle.em_exec.specs.declared.turn.Turn.TheVariants as turn
use Rattle.em_script.specs.Strands.{Back, Status, Plot, Turned}
use Rattle.em_submake.specs.declared.ground.Ground.{Ground}
use Rattle.em_submake.specs.declared.levels.Level.{Level}
use Rattle.em_submake.specs.declared.levels.Next.{Next}
use Rattle.em_submake.specs.declared.levels.Next.TheVariants as next
use Rattle.em_submake.specs.Ways.{Ended, Ways, and_then, done, stop, pick, goes_on, only}
use Rattle.em_submake.specs.Submakes.{ground_of, known_of, ends_all, status_of, close, whole, after_job, jobs_from, by_ground, deeper_at}
use Rattle.em_submake.specs.Climbing.{GoesW, Leads, others, level_rest, climb, rest_of, waits, IsSound, AreSound, room, Goes_by, Smaller, IsTurned, weight}
use Rattle.em_submake.proofs.Going.{ends_map, goes_by, over, paused, found, assoc, picked, passed}

module _ (job_of : SubLine → Plan → ℕ → Book → List Outcome → Plot) {J : Type 0} (plot : J → Plot) (back : J → Back → Plot) where
  -- ---- steps put together

  pub by_lead : (s t : List ℕ) (m k : Ways Outcome) (levels : List (Level J)) (r : Result (Next J) NoMemory) → ((o : Oracle) (w : Workspace) (z : Ended Outcome) → k s o w z → m s o w z) → Goes_by job_of plot back s t k levels r → Goes_by job_of plot back s t m levels r
  by_lead s t m k levels (Ok (next.Job j)) lead g = ((λ o w z h. lead o w z (g.0 o w z h)), g.1)
  by_lead s t m k levels (Ok (next.Done a)) lead g = λ o w. ends_map m k s s o w w (lead o w) (g o w)
  by_lead s t m k levels (Err e) lead g = tt

  module _ {V : Type 0} {tells : V → Told} where
    pub by_desk : {old mid : DeskState V} (s t u : List ℕ) (m k : Ways Outcome) (levels : List (Level J)) (r : Result (Next J) NoMemory) (g : Grows tells old mid)
        → ((o : Oracle) → AgreesFrom (length old.work.asked) o g.entries → (z : Ended Outcome) → k t o mid.work z → m s o old.work z) → Goes_by job_of plot back t u k levels r → IsTurned job_of plot back tells old mid s u m levels r
    by_desk {old} {mid} s t u m k levels (Ok (next.Job j)) g lead b = (goes_by g (λ o all z h. lead o all z (b.0 o mid.work z h)), b.1)
    by_desk {old} {mid} s t u m k levels (Ok (next.Done a)) g lead b = record { grows = g; plain = λ o all. ends_map m k s t o old.work mid.work (lead o all) (b o mid.work) }
    by_desk s t u m k levels (Err e) g lead b = record { grows = g; plain = λ o all. tt }

    pub behind_turn : (old mid new : DeskState V) (s t u : List ℕ) (m k : Ways Outcome) (levels : List (Level J)) (r : Result (Next J) NoMemory) → GoesW tells old mid s t m k → IsTurned job_of plot back tells mid new t u k levels r → IsTurned job_of plot back tells old new s u m levels r
    behind_turn old mid new s t u m k levels (Ok (next.Job j)) lead q = ((λ last after r p. lead last after r (q.0 last after r p)), q.1)
    behind_turn old mid new s t u m k levels (Ok (next.Done a)) lead q = lead new u (Ok a) q
    behind_turn old mid new s t u m k levels (Err e) lead q = lead new u (Err e) q

  levels_left : (v : Level J) (vs : List (Level J)) → 7 - length vs ≡ 8 - length (v ∷ vs)
  levels_left v vs = omega arith

  -- ---- a job has ended

  pub ended_first : {s : List ℕ} (a : Outcome) → Goes_by job_of plot back s s (climb job_of plot back [] a) [] (Ok (next.Done a))
  ended_first {s} a = λ o w. ((Ok (a, s), w), (refl, (refl, refl)))

  pub ended_where_none : {s : List ℕ} (levels : List (Level J)) (a : Outcome) → (length levels == 0) ≡ true → Goes_by job_of plot back s s (climb job_of plot back levels a) levels (Ok (next.Done a))
  ended_where_none [] a none = ended_first a
  ended_where_none (v ∷ vs) a none = absurd (omega (arith, eqb-true (length (v ∷ vs)) 0 none))

  pub ended_all : {s : List ℕ} (v : Level J) (vs levels : List (Level J)) (a : Outcome) → ends_all a ≡ true → Goes_by job_of plot back s s (climb job_of plot back (v ∷ vs) a) levels (Ok (next.Done a))
  ended_all {s} v vs levels a e = λ o w. ((Err (a, s), w), (((Err (a, s), w), (picked (stop a) (pick (ends_after (flags_of v.line.order) a) (close v.line v.book v.plan (v.ended ++ a ∷ []) true) (others job_of plot back (8 - length (v ∷ vs)) v (v.ended ++ a ∷ []))) (ends_all a) e refl, refl)), (refl, refl)))

  module _ (line : SubLine) (book : Book) (plan : Plan) (os : List Outcome) (early : Bool) where
    pub closed : (s t : List ℕ) (i j : J) (vs : List (Level J)) → t ≡ s ++ closing line.order.silent plan os (goals_of book line.order.goals) early → plot j ≡ back i (Status (status_of os))
        → Leads s t (waits job_of plot back i vs (close line book plan os early)) (rest_of job_of plot back j vs)
    unfolding rest_of
    closed s t i j vs said is o w z h =
        let begun = subst (λ (p : Plot). and_then (whole (deeper_at job_of (8 - length vs)) p) (climb job_of plot back vs) t o w z) is h in
        ((Ok (Status (status_of os), t), w), (((Ok (tt, t), w), (ap (λ (x : List ℕ). let y : Ended (Unit {0}) = (Ok (tt, x), w) in y) said, refl)), begun))

  module _ (v : Level J) (vs : List (Level J)) (a : Outcome) where
    abbrev more : Level J
    more = record v { ended = v.ended ++ a ∷ [] }

    -- the make ends early
    pub ended_early : (s t : List ℕ) (j : J) → ends_all a ≡ false → ends_after (flags_of v.line.order) a ≡ true → t ≡ s ++ closing v.line.order.silent v.plan (v.ended ++ a ∷ []) (goals_of v.book v.line.order.goals) true
        → plot j ≡ back v.job (Status (status_of (v.ended ++ a ∷ []))) → Leads s t (climb job_of plot back (v ∷ vs) a) (rest_of job_of plot back j vs)
    ended_early s t j goes ends said is o w z h =
        let end = closed v.line v.book v.plan (v.ended ++ a ∷ []) true s t v.job j vs said is o w z h in
        (end.0, (passed (stop a) (pick (ends_after (flags_of v.line.order) a) (close v.line v.book v.plan (v.ended ++ a ∷ []) true) (others job_of plot back (8 - length (v ∷ vs)) v (v.ended ++ a ∷ []))) (ends_all a) goes (picked (close v.line v.book v.plan (v.ended ++ a ∷ []) true) (others job_of plot back (8 - length (v ∷ vs)) v (v.ended ++ a ∷ [])) (ends_after (flags_of v.line.order) a) ends end.1.0), end.1.1))

    -- it goes on
    pub goes_further : (s t : List ℕ) (levels : List (Level J)) (r : Result (Next J) NoMemory) → ends_all a ≡ false → ends_after (flags_of v.line.order) a ≡ false
        → Goes_by job_of plot back s t (waits job_of plot back v.job vs (others job_of plot back (7 - length vs) more more.ended)) levels r
        → Goes_by job_of plot back s t (climb job_of plot back (v ∷ vs) a) levels r
    goes_further s t levels r goes stays g =
        let here = subst (λ (n : ℕ). Goes_by job_of plot back s t (waits job_of plot back v.job vs (others job_of plot back n more more.ended)) levels r) (levels_left v vs) g in
        by_lead s t (climb job_of plot back (v ∷ vs) a) (waits job_of plot back v.job vs (others job_of plot back (8 - length (v ∷ vs)) more more.ended)) levels r
        (λ o w z h. (
          h.0,
          (
            passed (stop a) (pick (ends_after (flags_of v.line.order) a) (close v.line v.book v.plan (v.ended ++ a ∷ []) true) (others job_of plot back (8 - length (v ∷ vs)) v (v.ended ++ a ∷ []))) (ends_all a) goes
                (passed (close v.line v.book v.plan (v.ended ++ a ∷ []) true) (others job_of plot back (8 - length (v ∷ vs)) v (v.ended ++ a ∷ [])) (ends_after (flags_of v.line.order) a) stays h.1.0),
            h.1.1,
          ),
        )) here

  -- ---- a make goes on

  module _ (v : Level J) (vs : List (Level J)) where
    abbrev around : Back → Ways Outcome
    around b = and_then (whole (deeper_at job_of (8 - length vs)) (back v.job b)) (climb job_of plot back vs)

    -- what follows a job, where these are the jobs behind it
    abbrev follows : List PlanJob → Outcome → Ways Back
    follows ps a = after_job job_of v.line v.book v.plan v.ended a (jobs_from job_of (deeper_at job_of (7 - length vs)) v.line v.book v.plan ps (v.ended ++ a ∷ []))

    onward : (o : Oracle) (z : Ended Outcome) (y : Result (Outcome × List ℕ) (Outcome × List ℕ)) (x : Workspace) → goes_on y x (λ a. waits job_of plot back v.job vs (level_rest job_of plot back (7 - length vs) v a)) o z
        → goes_on y x (λ a. waits job_of plot back v.job vs (follows (drop (length v.ended + 1) v.plan.jobs) a)) o z
    onward o z (Ok q) x g =
        let same : drop (length (v.ended ++ q.0 ∷ [])) v.plan.jobs ≡ drop (length v.ended + 1) v.plan.jobs = ap (λ (n : ℕ). drop n v.plan.jobs) (length-append v.ended (q.0 ∷ [])) in
        subst (λ (ps : List PlanJob). waits job_of plot back v.job vs (follows ps q.0) q.1 o x z) same g
    onward o z (Err q) x g = g

    pub begun : (s : List ℕ) (p : PlanJob) (j : J) → slice_get v.plan.jobs (length v.ended) ≡ Some p → plot j ≡ job_of v.line v.plan (length v.ended) v.book (known_of v.ended p)
        → Leads s s (waits job_of plot back v.job vs (others job_of plot back (7 - length vs) v v.ended)) (rest_of job_of plot back j (v ∷ vs))
    unfolding rest_of
    begun s p j at is o w z h =
        let rest = drop (length v.ended + 1) v.plan.jobs in
        let left : drop (length v.ended) v.plan.jobs ≡ p ∷ rest = left_of v.plan.jobs (length v.ended) p at in
        let deep = deeper_at job_of (7 - length vs) in
        let first = job_of v.line v.plan (length v.ended) v.book (known_of v.ended p) in
        let begins = subst (λ (x : Plot). and_then (whole (deeper_at job_of (8 - length (v ∷ vs))) x) (climb job_of plot back (v ∷ vs)) s o w z) is h in
        let there = subst (λ (n : ℕ). and_then (whole (deeper_at job_of n) first) (λ a. waits job_of plot back v.job vs (level_rest job_of plot back n v a)) s o w z) (sym (levels_left v vs)) begins in
        subst (λ (ps : List PlanJob). waits job_of plot back v.job vs (jobs_from job_of deep v.line v.book v.plan ps v.ended) s o w z) (sym left)
        (assoc (whole deep first) (follows rest) around s o w z (there.0, (there.1.0, onward o z there.0.0 there.0.1 there.1.1)))

    -- none of its jobs is left
    pub done_all : (s t : List ℕ) (j : J) → slice_get v.plan.jobs (length v.ended) ≡ None → t ≡ s ++ closing v.line.order.silent v.plan v.ended (goals_of v.book v.line.order.goals) false
        → plot j ≡ back v.job (Status (status_of v.ended)) → Leads s t (waits job_of plot back v.job vs (others job_of plot back (7 - length vs) v v.ended)) (rest_of job_of plot back j vs)
    done_all s t j none said is o w z h =
        subst (λ (ps : List PlanJob). waits job_of plot back v.job vs (jobs_from job_of (deeper_at job_of (7 - length vs)) v.line v.book v.plan ps v.ended) s o w z) (sym (nothing_of v.plan.jobs (length v.ended) none))
        (closed v.line v.book v.plan v.ended false s t v.job j vs said is o w z h)

  -- ---- a line begins a make

  module _ (i j : J) (vs : List (Level J)) where
    -- its make has ended so
    pub answered : (s : List ℕ) (b : Back) → plot j ≡ back i b → Leads s s (waits job_of plot back i vs (done b)) (rest_of job_of plot back j vs)
    unfolding rest_of
    answered s b is o w z h = ((Ok (b, s), w), (refl, subst (λ (p : Plot). and_then (whole (deeper_at job_of (8 - length vs)) p) (climb job_of plot back vs) s o w z) is h))

    -- no make may stand here
    pub too_deep : (s : List ℕ) (line : SubLine) → 8 - length vs ≡ 0 → plot j ≡ back i (Status 2) → Leads s s (waits job_of plot back i vs (deeper_at job_of (8 - length vs) line)) (rest_of job_of plot back j vs)
    too_deep s line none is o w z h = subst (λ (n : ℕ). waits job_of plot back i vs (deeper_at job_of n line) s o w z) (sym none) (answered s (Status 2) is o w z h)

  module _ {V : Type 0} {tells : V → Told} {free : NoMemory → Bool} {old mid : DeskState V} (s t u : List ℕ) (i : J) (vs : List (Level J)) (line : SubLine) (g : Ground) where
    pub entered : (levels : List (Level J)) (r : Result (Next J) NoMemory) → 8 - length vs ≡ suc (7 - length vs) → Does free tells old mid s t (Ok g) (ground_of line)
        → Goes_by job_of plot back t u (waits job_of plot back i vs (by_ground job_of (deeper_at job_of (7 - length vs)) line g)) levels r
        → IsTurned job_of plot back tells old mid s u (waits job_of plot back i vs (deeper_at job_of (8 - length vs) line)) levels r
    entered levels r free_level p q =
        subst (λ (n : ℕ). IsTurned job_of plot back tells old mid s u (waits job_of plot back i vs (deeper_at job_of n line)) levels r) (sym free_level)
        (by_desk s t u (waits job_of plot back i vs (deeper_at job_of (suc (7 - length vs)) line)) (waits job_of plot back i vs (by_ground job_of (deeper_at job_of (7 - length vs)) line g)) levels r p.performs.grows
        (λ o all z h. assoc (only (ground_of line)) (by_ground job_of (deeper_at job_of (7 - length vs)) line) (λ b. and_then (whole (deeper_at job_of (8 - length vs)) (back i b)) (climb job_of plot back vs)) s o old.work z ((Ok (g, t), mid.work), (found p o all, h))) q)

  pub short : {V : Type 0} {tells : V → Told} {old mid : DeskState V} (s u : List ℕ) (m : Ways Outcome) (levels : List (Level J)) (e : NoMemory) (r : Result (Next J) NoMemory) → Grows tells old mid → IsErrAnd r (λ x. x ≡ e) → IsTurned job_of plot back tells old mid s u m levels r
  short s u m levels e (Ok x) g is = absurd is
  short s u m levels e (Err x) g is = record { grows = g; plain = λ o all. tt }

  -- ---- a turn

  module _ {V : Type 0} {tells : V → Told} (old mid : DeskState V) (s t u : List ℕ) (i j : J) (vs levels : List (Level J)) (r : Result (Next J) NoMemory) where
    pub turned_up : {a : Outcome} → Turned tells old mid s t (Ok (turn.Ended a)) (plot i) (back j) → Goes_by job_of plot back t u (climb job_of plot back vs a) levels r → IsTurned job_of plot back tells old mid s u (rest_of job_of plot back i vs) levels r
    unfolding rest_of
    turned_up {a} p q = by_desk s t u (and_then (whole (deeper_at job_of (8 - length vs)) (plot i)) (climb job_of plot back vs)) (climb job_of plot back vs a) levels r p.grows
        (λ o all z h. over (deeper_at job_of (8 - length vs)) (climb job_of plot back vs) p o all z h) q

    pub turned_down : (new : DeskState V) {l : SubLine} → Turned tells old mid s t (Ok (turn.Sub l)) (plot i) (back j) → IsTurned job_of plot back tells mid new t u (waits job_of plot back j vs (deeper_at job_of (8 - length vs) l)) levels r
        → IsTurned job_of plot back tells old new s u (rest_of job_of plot back i vs) levels r
    unfolding rest_of
    turned_down new {l} p q =
        let deep = deeper_at job_of (8 - length vs) in
        behind_turn old mid new s t u (and_then (whole deep (plot i)) (climb job_of plot back vs)) (waits job_of plot back j vs (deep l)) levels r
        (goes_by p.grows (λ o all z h. paused deep (climb job_of plot back vs) p o all z (assoc (deep l) (λ b. whole deep (back j b)) (climb job_of plot back vs) t o mid.work z h))) q

    -- memory was short, in the innermost job's own steps
    pub turned_short : (e : NoMemory) {q : Result Turn NoMemory} → Turned tells old mid s t q (plot i) (back j) → IsErrAnd r (λ x. x ≡ e) → IsTurned job_of plot back tells old mid s u (rest_of job_of plot back i vs) levels r
    turned_short e p is = short s u (rest_of job_of plot back i vs) levels e r p.grows is

-- ---- invariants

pub below_of : {A : Type 0} (xs : List A) (i : ℕ) (x : A) → slice_get xs i ≡ Some x → i < length xs
below_of [] zero x e = absurd (let b : None ≡ Some x = e in cc)
below_of [] (suc i) x e = absurd (let b : None ≡ Some x = e in cc)
below_of (y ∷ xs) zero x e = omega arith
below_of (y ∷ xs) (suc i) x e = let less = below_of xs i x e in omega (arith, less)

module _ {J : Type 0} (v : Level J) (vs : List (Level J)) where
  pub sound_more : AreSound vs → length vs < 8 → IsSound v → AreSound (v ∷ vs)
  sound_more all few is = (omega (arith, few), All-cons (λ (x : Level J). IsSound x) v vs is all.1)

  pub sound_first : AreSound (v ∷ vs) → IsSound v
  sound_first all = All-head (λ (x : Level J). IsSound x) v vs all.1

  pub sound_rest : AreSound (v ∷ vs) → AreSound vs
  sound_rest all = (omega (arith, all.0), All-tail (λ (x : Level J). IsSound x) v vs all.1)

-- ---- what gets less

module _ {J : Type 0} (vs levels : List (Level J)) (old new : ℕ) where
  pub up_less : (r : Result (Next J) NoMemory) → new ≤ old → Smaller (room vs) (room levels) r → Smaller (weight old vs) (weight new levels) r
  up_less (Ok (next.Job j)) burns less = omega (arith, burns, less)
  up_less (Ok (next.Done a)) burns less = tt
  up_less (Err e) burns less = tt

  pub down_less : (r : Result (Next J) NoMemory) → new < old → Smaller (room vs + 65538) (room levels) r → Smaller (weight old vs) (weight new levels) r
  down_less (Ok (next.Job j)) burns less = omega (arith, burns, less)
  down_less (Ok (next.Done a)) burns less = tt
  down_less (Err e) burns less = tt

  pub less_than : (r : Result (Next J) NoMemory) → old ≤ new → Smaller old (room levels) r → Smaller new (room levels) r
  less_than (Ok (next.Job j)) grows less = omega (arith, grows, less)
  less_than (Ok (next.Done a)) grows less = tt
  less_than (Err e) grows less = tt
