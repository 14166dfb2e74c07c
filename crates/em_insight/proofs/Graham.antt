-- Graham's bound on list scheduling. The time that agents have been idle up to a moment grows only
-- while some chain of waits runs.
use Rattle.std.proofs.Common.{◌≡◌, ◌≢◌, ℕ, zero, suc, ◌+◌, ◌-◌, ◌*◌, ◌<◌, ◌≤◌, ◌==◌, true, false, cond, ◌⊎◌, inl, inr, List, [], ◌∷◌, ◌++◌, length, get_or, refl, sym, ap, subst, ◌∙◌, arith, append_assoc, append-nil}
use Rattle.std.specs.Prelude.{max}
use Rattle.std.proofs.Math.Nat.{mul-le-mul_left}
use Rattle.std.proofs.lemmas.Bool.{cases_lt, cases_eq, eq-eqb}
use Rattle.std.proofs.lemmas.Bool.Decides.{eqb_tells}
use Rattle.em_report.specs.declared.report.ReportLine.{ReportLine}
use Rattle.em_insight.specs.declared.data.Chain.{Chain}
use Rattle.em_insight.specs.declared.data.Slot.{Slot}
use Rattle.em_insight.specs.Each.{Each, Any}
use Rattle.em_insight.specs.Jobs.{fuel_at, waits_at, total}
use Rattle.em_insight.specs.Chains.{Certifies}
use Rattle.em_insight.specs.Schedules.{end_of, span, HasEnded, CanStart, ComesFirst, IsNext, AreNext, IsGreedy}
use Rattle.em_insight.proofs.Lists.{each_of, each_front, each_map, each_join, each_or, any_map, any_split}
use Rattle.em_insight.proofs.Started.{later, stands}
use Rattle.em_insight.proofs.Lower.{spent, spent_all, span_last}

-- ---- the times from which n agents are free, raised to a moment

abbrev raised : ℕ → ℕ → (ℕ → ℕ) → ℕ
raised zero t f = 0
raised (suc n) t f = max t (f n) + raised n t f

raised_any : (n t u : ℕ) (f : ℕ → ℕ) → t ≤ u → raised n u f ≤ raised n t f + n * (u - t)
raised_any zero t u f h = omega arith
raised_any (suc n) t u f h = omega (arith, raised_any n t u f h)

raised_some : (n t u a : ℕ) (f : ℕ → ℕ) → t ≤ u → a < n → u ≤ f a → raised n u f + (u - t) ≤ raised n t f + n * (u - t)
raised_some zero t u a f h lt up = absurd (omega (arith, lt))
raised_some (suc n) t u a f h lt up = by (cases_eq a n) (λ less. raised_some n t u a f h less up)
  where
    by : (a ≡ n) ⊎ (a ≡ n → ⊥) → (a < n → raised n u f + (u - t) ≤ raised n t f + n * (u - t)) → raised (suc n) u f + (u - t) ≤ raised (suc n) t f + suc n * (u - t)
    by (inl e) rest = let here : u ≤ f n = subst (λ z. u ≤ f z) e up in omega (arith, here, raised_any n t u f h)
    by (inr ne) rest = let less : a < n = (let le : a ≤ n = omega (arith, lt) in omega (arith, ne, le)) in omega (arith, rest less)

raised_up : (n t u : ℕ) (f : ℕ → ℕ) → t ≤ u → ((a : ℕ) → a < n → u ≤ f a) → raised n u f ≡ raised n t f
raised_up zero t u f h up = refl
raised_up (suc n) t u f h up = omega (arith, up n (omega arith), raised_up n t u f h (λ a lt. up a (omega arith)))

raised_same : (n t : ℕ) (f g : ℕ → ℕ) → ((b : ℕ) → b < n → g b ≡ f b) → raised n t g ≡ raised n t f
raised_same zero t f g same = refl
raised_same (suc n) t f g same = omega (arith, same n (omega arith), raised_same n t f g (λ b lt. same b (omega arith)))

raised_set : (n t a d : ℕ) (f g : ℕ → ℕ) → a < n → f a ≤ t → g a ≡ t + d → ((b : ℕ) → b ≢ a → g b ≡ f b) → raised n t g ≡ raised n t f + d
raised_set zero t a d f g lt free at other = absurd (omega (arith, lt))
raised_set (suc n) t a d f g lt free at other = by (cases_eq a n) (λ less. raised_set n t a d f g less free at other)
  where
    by : (a ≡ n) ⊎ (a ≡ n → ⊥) → (a < n → raised n t g ≡ raised n t f + d) → raised (suc n) t g ≡ raised (suc n) t f + d
    by (inl e) rest =
        let here : g n ≡ t + d = subst (λ z. g z ≡ t + d) e at in
        let was : f n ≤ t = subst (λ z. f z ≤ t) e free in
        let same : raised n t g ≡ raised n t f = raised_same n t f g (λ b less. other b (λ same. let le : b < a = omega (arith, e, less) in absurd (omega (arith, le, same)))) in
        omega (arith, here, was, same)
    by (inr ne) rest =
        let less : a < n = (let le : a ≤ n = omega (arith, lt) in omega (arith, ne, le)) in
        let last : g n ≡ f n = other n (λ same. ne (sym same)) in
        omega (arith, last, rest less)

raised_all : (n t : ℕ) (f : ℕ → ℕ) → ((a : ℕ) → a < n → f a ≤ t) → raised n t f ≡ n * t
raised_all zero t f down = omega arith
raised_all (suc n) t f down = omega (arith, down n (omega arith), raised_all n t f (λ a lt. down a (omega arith)))

module _ (ls : List ReportLine) (m : ℕ) (c : Chain) (cert : Certifies ls c) where
  -- from when on an agent is free
  abbrev frees : List Slot → ℕ → ℕ
  frees [] a = 0
  frees (s ∷ ss) a = max (cond (s.agent == a) (end_of ls s) 0) (frees ss a)

  frees_more : (ss : List Slot) (s : Slot) (a : ℕ) → frees (ss ++ s ∷ []) a ≡ max (frees ss a) (cond (s.agent == a) (end_of ls s) 0)
  frees_more [] s a = omega arith
  frees_more (p ∷ ps) s a = omega (arith, frees_more ps s a)

  frees_each : (ss : List Slot) (a : ℕ) → Each (λ p. p.agent ≡ a → end_of ls p ≤ frees ss a) ss
  frees_each [] a = tt
  frees_each (p ∷ ps) a = (
    (λ e. let t : (p.agent == a) ≡ true = eq-eqb p.agent a e in rw t (omega arith)),
    each_map (λ q. q.agent ≡ a → end_of ls q ≤ frees ps a) (λ q. q.agent ≡ a → end_of ls q ≤ frees (p ∷ ps) a) ps (λ q h e. omega (arith, h e)) (frees_each ps a),
  )

  frees_within : (ss : List Slot) (a t : ℕ) → Each (λ p. p.agent ≡ a → end_of ls p ≤ t) ss → frees ss a ≤ t
  frees_within [] a t h = omega arith
  frees_within (p ∷ ps) a t h = by (eqb_tells p.agent a) (frees_within ps a t h.1)
    where
      by : (((p.agent == a) ≡ true) × (p.agent ≡ a)) ⊎ (((p.agent == a) ≡ false) × (p.agent ≢ a)) → frees ps a ≤ t → frees (p ∷ ps) a ≤ t
      by (inl b) rest = rw b.0 (omega (arith, h.0 b.1, rest))
      by (inr b) rest = rw b.0 (omega (arith, rest))

  -- the weight of the chains before a job
  abbrev before : ℕ → ℕ
  before j = get_or c.ends j 0 - fuel_at ls j

  before_fuel : (j : ℕ) → j < length ls → before j + fuel_at ls j ≡ get_or c.ends j 0
  before_fuel j lt = omega (arith, (cert.ends j lt).0)

  before_wait : (j w : ℕ) → j < length ls → Any (λ v. v ≡ w) (waits_at ls j) → get_or c.ends w 0 ≤ before j
  before_wait j w lt a =
      let h : fuel_at ls j + get_or c.ends w 0 ≤ get_or c.ends j 0 = each_of (λ w. fuel_at ls j + get_or c.ends w 0 ≤ get_or c.ends j 0) (waits_at ls j) w (cert.ends j lt).1 a in
      omega (arith, h)

  abbrev idle : List Slot → ℕ → ℕ
  idle ss t = raised (suc m) t (frees ss)

  -- ss have started, the last of them at `now`
  record Tight (ss : List Slot) (now : ℕ) : Type 0 where
    known : Each (λ p. (p.job < length ls) × (p.agent < suc m)) ss
    begun : Each (λ p. p.start ≤ now) ss
    running : Each (λ p. now ≤ end_of ls p → idle ss now ≤ spent ls ss + m * (before p.job + (now - p.start))) ss
    waits : (j : ℕ) → j < length ls → Each (λ p. p.job ≢ j) ss → Each (HasEnded ls ss now) (waits_at ls j) → idle ss now ≤ spent ls ss + m * before j

  -- the slot of a job, and the moment at which it ends
  abbrev EndsBetween : List Slot → ℕ → ℕ → ℕ → Type 0
  EndsBetween ss low high w = Any (λ p. (p.job ≡ w) × (low < end_of ls p) × (end_of ls p ≤ high)) ss

  -- all have ended by the earlier moment, or one ends between the two
  sort_ends : (ss : List Slot) (low high : ℕ) (ws : List ℕ) → Each (HasEnded ls ss high) ws → Each (HasEnded ls ss low) ws ⊎ Any (EndsBetween ss low high) ws
  sort_ends ss low high ws h = each_or (HasEnded ls ss low) (EndsBetween ss low high) ws (each_map (HasEnded ls ss high) (λ w. HasEnded ls ss low w ⊎ EndsBetween ss low high w) ws (λ w a. by w ss a) h)
    where
      by : (w : ℕ) (ss : List Slot) → HasEnded ls ss high w → HasEnded ls ss low w ⊎ EndsBetween ss low high w
      by w [] a = absurd a
      by w (p ∷ ps) (inl a) = one (cases_lt low (end_of ls p))
        where
          one : (low < end_of ls p) ⊎ (end_of ls p ≤ low) → HasEnded ls (p ∷ ps) low w ⊎ EndsBetween (p ∷ ps) low high w
          one (inl lt) = inr (inl (a.0, lt, a.1))
          one (inr le) = inl (inl (a.0, le))
      by w (p ∷ ps) (inr a) = other (by w ps a)
        where
          other : HasEnded ls ps low w ⊎ EndsBetween ps low high w → HasEnded ls (p ∷ ps) low w ⊎ EndsBetween (p ∷ ps) low high w
          other (inl b) = inl (inr b)
          other (inr b) = inr (inr b)

  -- with what was so of a slot that has ended by then, while it ran
  module _ (ss : List Slot) (now t : ℕ) (tight : Tight ss now) (on : now ≤ t) where
    -- of a slot that runs till t or longer
    run_on : (p : Slot) → (p.agent < suc m) → end_of ls p ≤ frees ss p.agent → p.start ≤ now → (now ≤ end_of ls p → idle ss now ≤ spent ls ss + m * (before p.job + (now - p.start))) → t ≤ end_of ls p
        → idle ss t ≤ spent ls ss + m * (before p.job + (t - p.start))
    run_on p agent free begun runs lasts =
        let old : idle ss now ≤ spent ls ss + m * (before p.job + (now - p.start)) = runs (omega (arith, on, lasts)) in
        let more : idle ss t + (t - now) ≤ idle ss now + suc m * (t - now) = raised_some (suc m) now t p.agent (frees ss) on agent (omega (arith, free, lasts)) in
        let e : before p.job + (t - p.start) ≡ before p.job + (now - p.start) + (t - now) = omega (arith, begun, on) in
        omega (arith, old, more, ap (λ z. m * z) e)

    run_all : (ps : List Slot) → Each (λ p. (p.job < length ls) × (p.agent < suc m)) ps → Each (λ p. end_of ls p ≤ frees ss p.agent) ps → Each (λ p. p.start ≤ now) ps
        → Each (λ p. now ≤ end_of ls p → idle ss now ≤ spent ls ss + m * (before p.job + (now - p.start))) ps
        → Each (λ p. t ≤ end_of ls p → idle ss t ≤ spent ls ss + m * (before p.job + (t - p.start))) ps
    run_all [] a b d e = tt
    run_all (p ∷ ps) a b d e = (run_on p a.0.1 b.0 d.0 e.0, run_all ps a.1 b.1 d.1 e.1)

  each_frees : (ss : List Slot) → Each (λ p. end_of ls p ≤ frees ss p.agent) ss
  each_frees [] = tt
  each_frees (p ∷ ps) = (
    (let t : (p.agent == p.agent) ≡ true = eq-eqb p.agent p.agent refl in rw t (omega arith)),
    each_map (λ q. end_of ls q ≤ frees ps q.agent) (λ q. end_of ls q ≤ frees (p ∷ ps) q.agent) ps (λ q h. omega (arith, h)) (each_frees ps),
  )

  -- ---- time goes on to the next start

  module _ (ss : List Slot) (now : ℕ) (s : Slot) (tight : Tight ss now) (next : IsNext ls (suc m) ss s) (on : now ≤ s.start) where
    runs_then : Each (λ p. s.start ≤ end_of ls p → idle ss s.start ≤ spent ls ss + m * (before p.job + (s.start - p.start))) ss
    runs_then = run_all ss now s.start tight on ss tight.known (each_frees ss) tight.begun tight.running

    -- some slot of a wait ends between
    of_wait : (j low high : ℕ) (value : ℕ) → j < length ls → ((p : Slot) → p.job < length ls → low < end_of ls p → end_of ls p ≤ high → get_or c.ends p.job 0 ≤ before j → p.start ≤ now
        → (now ≤ end_of ls p → idle ss now ≤ spent ls ss + m * (before p.job + (now - p.start)))
        → (s.start ≤ end_of ls p → idle ss s.start ≤ spent ls ss + m * (before p.job + (s.start - p.start))) → value ≤ spent ls ss + m * before j)
        → Any (EndsBetween ss low high) (waits_at ls j) → value ≤ spent ls ss + m * before j
    of_wait j low high value lt f a = go (waits_at ls j) (λ w k. k) a
      where
        slot : (w : ℕ) → Any (λ v. v ≡ w) (waits_at ls j) → (ps : List Slot) → Each (λ p. (p.job < length ls) × (p.agent < suc m)) ps → Each (λ p. p.start ≤ now) ps
            → Each (λ p. now ≤ end_of ls p → idle ss now ≤ spent ls ss + m * (before p.job + (now - p.start))) ps
            → Each (λ p. s.start ≤ end_of ls p → idle ss s.start ≤ spent ls ss + m * (before p.job + (s.start - p.start))) ps
            → Any (λ p. (p.job ≡ w) × (low < end_of ls p) × (end_of ls p ≤ high)) ps → value ≤ spent ls ss + m * before j
        slot w among [] k b r q a = absurd a
        slot w among (p ∷ ps) k b r q (inl a) = f p k.0.0 a.1 a.2 (subst (λ z. get_or c.ends z 0 ≤ before j) (sym a.0) (before_wait j w lt among)) b.0 r.0 q.0
        slot w among (p ∷ ps) k b r q (inr a) = slot w among ps k.1 b.1 r.1 q.1 a

        go : (ws : List ℕ) → ((w : ℕ) → Any (λ v. v ≡ w) ws → Any (λ v. v ≡ w) (waits_at ls j)) → Any (EndsBetween ss low high) ws → value ≤ spent ls ss + m * before j
        go [] sub a = absurd a
        go (w ∷ ws) sub (inl a) = slot w (sub w (inl refl)) ss tight.known tight.begun tight.running runs_then a
        go (w ∷ ws) sub (inr a) = go ws (λ v b. sub v (inr b)) a

    -- where each agent is busy till then, and where one is free before
    abbrev AllBusy : Type 0
    AllBusy = (a : ℕ) → a < suc m → s.start ≤ frees ss a

    busy_or : (n : ℕ) → ((a : ℕ) → a < n → s.start ≤ frees ss a) ⊎ ((a : ℕ) × (a < n) × (frees ss a < s.start))
    busy_or zero = inl (λ a lt. absurd (omega (arith, lt)))
    busy_or (suc n) = by (busy_or n) (cases_lt (frees ss n) s.start)
      where
        by : ((a : ℕ) → a < n → s.start ≤ frees ss a) ⊎ ((a : ℕ) × (a < n) × (frees ss a < s.start)) → (frees ss n < s.start) ⊎ (s.start ≤ frees ss n)
            → ((a : ℕ) → a < suc n → s.start ≤ frees ss a) ⊎ ((a : ℕ) × (a < suc n) × (frees ss a < s.start))
        by (inl all) (inr le) = inl (λ a lt. one a lt (cases_eq a n))
          where
            one : (a : ℕ) → a < suc n → (a ≡ n) ⊎ (a ≡ n → ⊥) → s.start ≤ frees ss a
            one a lt (inl e) = subst (λ z. s.start ≤ frees ss z) (sym e) le
            one a lt (inr ne) = all a (let le : a ≤ n = omega (arith, lt) in omega (arith, ne, le))
        by (inl all) (inl lt) = inr (n, omega arith, lt)
        by (inr (a, lt, h)) other = inr (a, omega (arith, lt), h)

    -- of a job that could start then
    waits_then : (j : ℕ) → j < length ls → Each (λ p. p.job ≢ j) ss → Each (HasEnded ls ss s.start) (waits_at ls j) → idle ss s.start ≤ spent ls ss + m * before j
    waits_then j lt fresh ended = by (busy_or (suc m))
      where
        -- nothing could start a moment sooner
        sooner_not : (a : ℕ) → a < suc m → frees ss a < s.start → Each (HasEnded ls ss (s.start - 1)) (waits_at ls j) → ⊥
        sooner_not a within free all =
            first (next.first (record { job = j; agent = a; start = s.start - 1 }) (record {
              known = (lt, within);
              fresh = fresh;
              waits = all;
              free = each_map (λ p. p.agent ≡ a → end_of ls p ≤ frees ss a) (λ p. p.agent ≡ a → end_of ls p ≤ s.start - 1) ss (λ p h e. omega (arith, h e, free)) (frees_each ss a);
            }))
          where
            first : ComesFirst ls s (record { job = j; agent = a; start = s.start - 1 }) → ⊥
            first (inl less) = omega (arith, less, free)
            first (inr e) = omega (arith, e.0, free)

        by : AllBusy ⊎ ((a : ℕ) × (a < suc m) × (frees ss a < s.start)) → idle ss s.start ≤ spent ls ss + m * before j
        by (inl busy) = still (sort_ends ss now s.start (waits_at ls j) ended)
          where
            same : idle ss s.start ≡ idle ss now
            same = raised_up (suc m) now s.start (frees ss) on busy

            still : Each (HasEnded ls ss now) (waits_at ls j) ⊎ Any (EndsBetween ss now s.start) (waits_at ls j) → idle ss s.start ≤ spent ls ss + m * before j
            still (inl all) = omega (arith, same, tight.waits j lt fresh all)
            still (inr a) = of_wait j now s.start (idle ss s.start) lt (λ p known low high chain begun runs then.
                let small : before p.job + (now - p.start) ≤ before j = omega (arith, before_fuel p.job known, chain, begun, low) in
                omega (arith, same, runs (omega (arith, low)), mul-le-mul_left m small)) a
        by (inr (a, within, free)) = other (sort_ends ss (s.start - 1) s.start (waits_at ls j) ended)
          where
            other : Each (HasEnded ls ss (s.start - 1)) (waits_at ls j) ⊎ Any (EndsBetween ss (s.start - 1) s.start) (waits_at ls j) → idle ss s.start ≤ spent ls ss + m * before j
            other (inl all) = absurd (sooner_not a within free all)
            other (inr some) = of_wait j (s.start - 1) s.start (idle ss s.start) lt (λ p known low high chain begun runs then.
                let small : before p.job + (s.start - p.start) ≤ before j = omega (arith, before_fuel p.job known, chain, begun, low, high) in
                omega (arith, then (omega (arith, low)), mul-le-mul_left m small)) some

    -- ---- the start

    grown : idle (ss ++ s ∷ []) s.start ≡ idle ss s.start + fuel_at ls s.job
    grown = raised_set (suc m) s.start s.agent (fuel_at ls s.job) (frees ss) (frees (ss ++ s ∷ [])) next.can.known.1 free at other
      where
        free : frees ss s.agent ≤ s.start
        free = frees_within ss s.agent s.start next.can.free

        at : frees (ss ++ s ∷ []) s.agent ≡ s.start + fuel_at ls s.job
        at = let t : (s.agent == s.agent) ≡ true = eq-eqb s.agent s.agent refl in
            let e : frees (ss ++ s ∷ []) s.agent ≡ max (frees ss s.agent) (end_of ls s) = frees_more ss s s.agent ∙ ap (λ b. max (frees ss s.agent) (cond b (end_of ls s) 0)) t in
            omega (arith, e, free)

        other : (b : ℕ) → b ≢ s.agent → frees (ss ++ s ∷ []) b ≡ frees ss b
        other b ne = by (eqb_tells s.agent b)
          where
            by : (((s.agent == b) ≡ true) × (s.agent ≡ b)) ⊎ (((s.agent == b) ≡ false) × (s.agent ≢ b)) → frees (ss ++ s ∷ []) b ≡ frees ss b
            by (inl h) = absurd (ne (sym h.1))
            by (inr h) = let e : frees (ss ++ s ∷ []) b ≡ max (frees ss b) 0 = frees_more ss s b ∙ ap (λ z. max (frees ss b) (cond z (end_of ls s) 0)) h.0 in omega (arith, e)

    spent_more : (ps : List Slot) → spent ls (ps ++ s ∷ []) ≡ spent ls ps + fuel_at ls s.job
    spent_more [] = omega arith
    spent_more (p ∷ ps) = omega (arith, spent_more ps)

    mine : idle ss s.start ≤ spent ls ss + m * before s.job
    mine = waits_then s.job next.can.known.0 next.can.fresh next.can.waits

    tight_then : Tight (ss ++ s ∷ []) s.start
    tight_then = record {
      known = each_join (λ p. (p.job < length ls) × (p.agent < suc m)) ss s tight.known next.can.known;
      begun = each_join (λ p. p.start ≤ s.start) ss s (each_map (λ p. p.start ≤ now) (λ p. p.start ≤ s.start) ss (λ p h. omega (arith, h, on)) tight.begun) (omega arith);
      running = each_join (λ p. s.start ≤ end_of ls p → idle (ss ++ s ∷ []) s.start ≤ spent ls (ss ++ s ∷ []) + m * (before p.job + (s.start - p.start))) ss s
          (each_map (λ p. s.start ≤ end_of ls p → idle ss s.start ≤ spent ls ss + m * (before p.job + (s.start - p.start)))
          (λ p. s.start ≤ end_of ls p → idle (ss ++ s ∷ []) s.start ≤ spent ls (ss ++ s ∷ []) + m * (before p.job + (s.start - p.start))) ss (λ p h lasts. omega (arith, grown, spent_more ss, h lasts)) runs_then)
          (λ lasts. let e : before s.job + (s.start - s.start) ≡ before s.job = omega arith in omega (arith, grown, spent_more ss, mine, ap (λ z. m * z) e));
      waits = waits_now;
    }
      where
        waited : (j : ℕ) → j < length ls → (ws : List ℕ) → ((w : ℕ) → Any (λ v. v ≡ w) ws → Any (λ v. v ≡ w) (waits_at ls j)) → Any (λ w. (s.job ≡ w) × (end_of ls s ≤ s.start)) ws
            → idle (ss ++ s ∷ []) s.start ≤ spent ls (ss ++ s ∷ []) + m * before j
        waited j lt [] sub a = absurd a
        waited j lt (w ∷ ws) sub (inl a) =
            let chain : get_or c.ends s.job 0 ≤ before j = subst (λ z. get_or c.ends z 0 ≤ before j) (sym a.0) (before_wait j w lt (sub w (inl refl))) in
            let small : before s.job ≤ before j = omega (arith, chain, before_fuel s.job next.can.known.0) in
            omega (arith, grown, spent_more ss, mine, mul-le-mul_left m small)
        waited j lt (w ∷ ws) sub (inr a) = waited j lt ws (λ v b. sub v (inr b)) a

        waits_now : (j : ℕ) → j < length ls → Each (λ p. p.job ≢ j) (ss ++ s ∷ []) → Each (HasEnded ls (ss ++ s ∷ []) s.start) (waits_at ls j)
            → idle (ss ++ s ∷ []) s.start ≤ spent ls (ss ++ s ∷ []) + m * before j
        waits_now j lt fresh ended = by (each_or (HasEnded ls ss s.start) (λ w. (s.job ≡ w) × (end_of ls s ≤ s.start)) (waits_at ls j)
            (each_map (HasEnded ls (ss ++ s ∷ []) s.start) (λ w. HasEnded ls ss s.start w ⊎ ((s.job ≡ w) × (end_of ls s ≤ s.start))) (waits_at ls j)
            (λ w a. any_split (λ p. (p.job ≡ w) × (end_of ls p ≤ s.start)) ss s a) ended))
          where
            by : Each (HasEnded ls ss s.start) (waits_at ls j) ⊎ Any (λ w. (s.job ≡ w) × (end_of ls s ≤ s.start)) (waits_at ls j)
                → idle (ss ++ s ∷ []) s.start ≤ spent ls (ss ++ s ∷ []) + m * before j
            by (inl all) = omega (arith, grown, spent_more ss, waits_then j lt (each_front (λ p. p.job ≢ j) ss (s ∷ []) fresh) all)
            by (inr a) = waited j lt (waits_at ls j) (λ w b. b) a

  -- ---- from the first start to the last

  span_more : (ss : List Slot) (s : Slot) → end_of ls s ≤ span ls (ss ++ s ∷ [])
  span_more [] s = omega arith
  span_more (p ∷ ps) s = omega (arith, span_more ps s)

  record AtLast (ss : List Slot) : Type 0 where
    now : ℕ
    tight : Tight ss now
    begun : now ≤ span ls ss

  goes_on : (past rest : List Slot) (now : ℕ) → Tight past now → now ≤ span ls past → ((t : Slot) → CanStart ls (suc m) past t → now ≤ t.start) → AreNext ls (suc m) past rest → AtLast (past ++ rest)
  goes_on past [] now tight begun low next = subst AtLast (sym (append-nil past)) (record { now = now; tight = tight; begun = begun })
  goes_on past (s ∷ rest) now tight begun low next =
      subst AtLast (append_assoc past (s ∷ []) rest)
      (goes_on (past ++ s ∷ []) rest s.start (tight_then past now s tight next.0 (low s next.0.can)) (omega (arith, span_more past s))
      (λ t can. later ls (suc m) past s t next.0 can) next.1)

  none_yet : Tight [] 0
  none_yet = record {
    known = tt;
    begun = tt;
    running = tt;
    waits = λ j lt fresh ended. omega (arith, raised_all (suc m) 0 (frees []) (λ a less. omega arith));
  }

  span_is : (ss : List Slot) → (span ls ss ≡ 0) ⊎ Any (λ p. end_of ls p ≡ span ls ss) ss
  span_is [] = inl refl
  span_is (p ∷ ps) = by (cases_lt (end_of ls p) (span ls ps)) (span_is ps)
    where
      by : (end_of ls p < span ls ps) ⊎ (span ls ps ≤ end_of ls p) → (span ls ps ≡ 0) ⊎ Any (λ q. end_of ls q ≡ span ls ps) ps
          → (span ls (p ∷ ps) ≡ 0) ⊎ Any (λ q. end_of ls q ≡ span ls (p ∷ ps)) (p ∷ ps)
      by (inr le) other = inr (inl (omega (arith, le)))
      by (inl lt) (inl e) = absurd (omega (arith, lt, e))
      by (inl lt) (inr a) = inr (inr (any_map (λ q. end_of ls q ≡ span ls ps) (λ q. end_of ls q ≡ span ls (p ∷ ps)) ps (λ q h. omega (arith, h, lt)) a))

  at_last : (ss : List Slot) → AtLast ss → suc m * span ls ss ≤ spent ls ss + m * c.fuel
  at_last ss last = by (span_is ss)
    where
      whole : idle ss (span ls ss) ≡ suc m * span ls ss
      whole = raised_all (suc m) (span ls ss) (frees ss) (λ a lt. frees_within ss a (span ls ss) (each_map (λ p. end_of ls p ≤ span ls ss) (λ p. p.agent ≡ a → end_of ls p ≤ span ls ss) ss (λ p h e. h) (span_last ls ss)))

      slot : (ps : List Slot) → Each (λ p. (p.job < length ls) × (p.agent < suc m)) ps → Each (λ p. span ls ss ≤ end_of ls p → idle ss (span ls ss) ≤ spent ls ss + m * (before p.job + (span ls ss - p.start))) ps
          → Any (λ p. end_of ls p ≡ span ls ss) ps → suc m * span ls ss ≤ spent ls ss + m * c.fuel
      slot [] known runs a = absurd a
      slot (p ∷ ps) known runs (inl e) =
          let small : before p.job + (span ls ss - p.start) ≤ c.fuel = omega (arith, e, before_fuel p.job known.0.0, cert.top p.job) in
          omega (arith, whole, runs.0 (omega (arith, e)), mul-le-mul_left m small)
      slot (p ∷ ps) known runs (inr a) = slot ps known.1 runs.1 a

      by : (span ls ss ≡ 0) ⊎ Any (λ p. end_of ls p ≡ span ls ss) ss → suc m * span ls ss ≤ spent ls ss + m * c.fuel
      by (inl e) = let z : suc m * span ls ss ≡ 0 = ap (λ n. suc m * n) e ∙ omega arith in omega (arith, z)
      by (inr a) = slot ss last.tight.known
          (run_all ss last.now (span ls ss) last.tight last.begun ss last.tight.known (each_frees ss) last.tight.begun last.tight.running) a

pub bound : (ls : List ReportLine) (n : ℕ) (ss : List Slot) (c : Chain) → IsGreedy ls n ss → Certifies ls c → n * span ls ss ≤ total ls + (n - 1) * c.fuel
bound ls zero ss c greedy cert = omega arith
bound ls (suc m) ss c greedy cert =
    let h = stands ls (suc m) ss greedy.next in
    let all : spent ls ss ≡ total ls = spent_all ls ss (each_map (λ s. (s.job < length ls) × (s.agent < suc m)) (λ s. s.job < length ls) ss (λ s k. k.0) h.known) h.once greedy.all in
    let e : suc m - 1 ≡ m = omega arith in
    let main : suc m * span ls ss ≤ spent ls ss + m * c.fuel = at_last ls m c cert ss (goes_on ls m c cert [] ss 0 (none_yet ls m c cert) (omega arith) (λ t can. omega arith) greedy.next) in
    omega (arith, all, main, ap (λ k. k * c.fuel) e)
