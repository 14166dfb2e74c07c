-- List scheduling is legal, and gives one schedule.
use Rattle.std.proofs.Common.{◌≡◌, ◌≢◌, ℕ, ◌<◌, ◌≤◌, ◌⊎◌, inl, inr, List, [], ◌∷◌, ◌++◌, length, refl, sym, ap₂, subst, arith, append_assoc, append-nil}
use Rattle.em_report.specs.declared.report.ReportLine.{ReportLine}
use Rattle.em_insight.specs.declared.data.Slot.{Slot}
use Rattle.em_insight.specs.Each.{Each, Any}
use Rattle.em_insight.specs.Jobs.{waits_at}
use Rattle.em_insight.specs.Schedules.{end_of, HasEnded, AreApart, AllApart, AllOnce, IsLegal, CanStart, ComesFirst, IsNext, AreNext, IsGreedy}
use Rattle.em_insight.proofs.Lists.{each_map, each_join, each_front, each_or, any_left, any_none, any_split}

module _ (ls : List ReportLine) (n : ℕ) where
  pub record Stands (ss : List Slot) : Type 0 where
    pub known : Each (λ s. (s.job < length ls) × (s.agent < n)) ss
    pub once : AllOnce ls ss
    pub waits : Each (λ s. Each (HasEnded ls ss s.start) (waits_at ls s.job)) ss
    pub apart : AllApart ls ss

  once_more : (ss : List Slot) (s : Slot) → AllOnce ls ss → Each (λ p. p.job ≢ s.job) ss → AllOnce ls (ss ++ s ∷ [])
  once_more [] s h fresh = (tt, tt)
  once_more (p ∷ ps) s h fresh = (each_join (λ t. t.job ≢ p.job) ps s h.0 (λ e. fresh.0 (sym e)), once_more ps s h.1 fresh.1)

  apart_more : (ss : List Slot) (s : Slot) → AllApart ls ss → Each (λ p. p.agent ≡ s.agent → end_of ls p ≤ s.start) ss → AllApart ls (ss ++ s ∷ [])
  apart_more [] s h free = (tt, tt)
  apart_more (p ∷ ps) s h free = (each_join (AreApart ls p) ps s h.0 (λ e. inl (free.0 e)), apart_more ps s h.1 free.1)

  pub ended_more : (ss : List Slot) (s : Slot) (moment : ℕ) (ws : List ℕ) → Each (HasEnded ls ss moment) ws → Each (HasEnded ls (ss ++ s ∷ []) moment) ws
  ended_more ss s moment ws h = each_map (HasEnded ls ss moment) (HasEnded ls (ss ++ s ∷ []) moment) ws (λ w a. any_left (λ p. (p.job ≡ w) × (end_of ls p ≤ moment)) ss (s ∷ []) a) h

  stands_more : (ss : List Slot) (s : Slot) → Stands ss → IsNext ls n ss s → Stands (ss ++ s ∷ [])
  stands_more ss s h next = record {
    known = each_join (λ p. (p.job < length ls) × (p.agent < n)) ss s h.known next.can.known;
    once = once_more ss s h.once next.can.fresh;
    waits = each_join (λ p. Each (HasEnded ls (ss ++ s ∷ []) p.start) (waits_at ls p.job)) ss s
        (each_map (λ p. Each (HasEnded ls ss p.start) (waits_at ls p.job)) (λ p. Each (HasEnded ls (ss ++ s ∷ []) p.start) (waits_at ls p.job)) ss (λ p a. ended_more ss s p.start (waits_at ls p.job) a) h.waits)
        (ended_more ss s s.start (waits_at ls s.job) next.can.waits);
    apart = apart_more ss s h.apart next.can.free;
  }

  pub stands_on : (past ss : List Slot) → Stands past → AreNext ls n past ss → Stands (past ++ ss)
  stands_on past [] h next = subst Stands (sym (append-nil past)) h
  stands_on past (s ∷ ss) h next = subst Stands (append_assoc past (s ∷ []) ss) (stands_on (past ++ s ∷ []) ss (stands_more past s h next.0) next.1)

  pub stands : (ss : List Slot) → AreNext ls n [] ss → Stands ss
  stands ss next = stands_on [] ss (record { known = tt; once = tt; waits = tt; apart = tt }) next

  pub legal : (ss : List Slot) → IsGreedy ls n ss → IsLegal ls n ss
  legal ss g = let h = stands ss g.next in record { known = h.known; all = g.all; once = h.once; waits = h.waits; apart = h.apart }

  -- ---- one schedule

  pub same_slot : (s t : Slot) → s.start ≡ t.start → s.job ≡ t.job → s.agent ≡ t.agent → s ≡ t
  same_slot s t a b c = λ i. record { job = b i; agent = c i; start = a i }

  tied : (s t : Slot) → ComesFirst ls s t → ComesFirst ls t s → s ≡ t
  tied s t (inl a) (inl b) = absurd (omega arith)
  tied s t (inl a) (inr b) = absurd (omega arith)
  tied s t (inr a) (inl b) = absurd (omega arith)
  tied s t (inr (e, inl a)) (inr (f, inl b)) = absurd (omega arith)
  tied s t (inr (e, inl a)) (inr (f, inr b)) = absurd (omega (arith, a, b.0))
  tied s t (inr (e, inr a)) (inr (f, inl b)) = absurd (omega (arith, b, a.0))
  tied s t (inr (e, inr a)) (inr (f, inr b)) = same_slot s t e a.0 (omega (arith, a.1, b.1))

  one_next : (past : List Slot) (s t : Slot) → IsNext ls n past s → IsNext ls n past t → s ≡ t
  one_next past s t a b = tied s t (a.first t b.can) (b.first s a.can)

  -- none can start where all have
  pub none_left : (past : List Slot) (s : Slot) → ((j : ℕ) → j < length ls → Any (λ p. p.job ≡ j) past) → CanStart ls n past s → ⊥
  none_left past s all can = any_none (λ p. p.job ≡ s.job) past can.fresh (all s.job can.known.0)

  one_rest : (past ss ts : List Slot) → ((j : ℕ) → j < length ls → Any (λ p. p.job ≡ j) (past ++ ss)) → ((j : ℕ) → j < length ls → Any (λ p. p.job ≡ j) (past ++ ts))
      → AreNext ls n past ss → AreNext ls n past ts → ss ≡ ts
  one_rest past [] [] a b f g = refl
  one_rest past [] (t ∷ ts) a b f g = absurd (none_left past t (λ j lt. subst (Any (λ p. p.job ≡ j)) (append-nil past) (a j lt)) g.0.can)
  one_rest past (s ∷ ss) [] a b f g = absurd (none_left past s (λ j lt. subst (Any (λ p. p.job ≡ j)) (append-nil past) (b j lt)) f.0.can)
  one_rest past (s ∷ ss) (t ∷ ts) a b f g =
      let same : s ≡ t = one_next past s t f.0 g.0 in
      let move : (x : Slot) (xs : List Slot) → ((j : ℕ) → j < length ls → Any (λ p. p.job ≡ j) (past ++ x ∷ xs)) → (j : ℕ) → j < length ls → Any (λ p. p.job ≡ j) ((past ++ x ∷ []) ++ xs)
      = λ x xs h j lt. subst (Any (λ p. p.job ≡ j)) (sym (append_assoc past (x ∷ []) xs)) (h j lt) in
      ap₂ (λ x (xs : List Slot). x ∷ xs) same
      (one_rest (past ++ s ∷ []) ss ts (move s ss a) (subst (λ z. (j : ℕ) → j < length ls → Any (λ p. p.job ≡ j) ((past ++ z ∷ []) ++ ts)) (sym same) (move t ts b)) f.1
      (subst (λ z. AreNext ls n (past ++ z ∷ []) ts) (sym same) g.1))

  pub one_schedule : (ss ts : List Slot) → IsGreedy ls n ss → IsGreedy ls n ts → ss ≡ ts
  one_schedule ss ts a b = one_rest [] ss ts a.all b.all a.next b.next

  -- ---- starts don't fall

  -- what could start behind s could before, or waits for s
  pub sooner : (past : List Slot) (s t : Slot) → CanStart ls n (past ++ s ∷ []) t → CanStart ls n past t ⊎ Any (λ w. (s.job ≡ w) × (end_of ls s ≤ t.start)) (waits_at ls t.job)
  sooner past s t can = by (each_or (HasEnded ls past t.start) (λ w. (s.job ≡ w) × (end_of ls s ≤ t.start)) (waits_at ls t.job)
      (each_map (HasEnded ls (past ++ s ∷ []) t.start) (λ w. HasEnded ls past t.start w ⊎ ((s.job ≡ w) × (end_of ls s ≤ t.start))) (waits_at ls t.job) (λ w a. any_split (λ p. (p.job ≡ w) × (end_of ls p ≤ t.start)) past s a) can.waits))
    where
      by : Each (HasEnded ls past t.start) (waits_at ls t.job) ⊎ Any (λ w. (s.job ≡ w) × (end_of ls s ≤ t.start)) (waits_at ls t.job)
          → CanStart ls n past t ⊎ Any (λ w. (s.job ≡ w) × (end_of ls s ≤ t.start)) (waits_at ls t.job)
      by (inl all) = inl (record { known = can.known; fresh = each_front (λ p. p.job ≢ t.job) past (s ∷ []) can.fresh; waits = all; free = each_front (λ p. p.agent ≡ t.agent → end_of ls p ≤ t.start) past (s ∷ []) can.free })
      by (inr a) = inr a

  pub later : (past : List Slot) (s t : Slot) → IsNext ls n past s → CanStart ls n (past ++ s ∷ []) t → s.start ≤ t.start
  later past s t next can = by (sooner past s t can)
    where
      first : ComesFirst ls s t → s.start ≤ t.start
      first (inl lt) = omega arith
      first (inr e) = omega (arith, e.0)

      waited : (ws : List ℕ) → Any (λ w. (s.job ≡ w) × (end_of ls s ≤ t.start)) ws → s.start ≤ t.start
      waited [] a = absurd a
      waited (w ∷ ws) (inl a) = omega (arith, a.1)
      waited (w ∷ ws) (inr a) = waited ws a

      by : CanStart ls n past t ⊎ Any (λ w. (s.job ≡ w) × (end_of ls s ≤ t.start)) (waits_at ls t.job) → s.start ≤ t.start
      by (inl c) = first (next.first t c)
      by (inr a) = waited (waits_at ls t.job) a
