-- One start after another: what may start, and what stands behind a start.
use Rattle.std.proofs.Common.{◌≡◌, ◌≢◌, ℕ, zero, suc, ◌+◌, ◌<◌, ◌≤◌, Bool, true, false, ◌⊎◌, inl, inr, List, [], ◌∷◌, ◌++◌, length, get_or, take, set, slice_get, Option, Some, None, refl, sym, ap, subst, ◌∙◌, arith, append_assoc, append-nil}
use Rattle.std.specs.Prelude.{max, min, ◌^◌, is_some, IfSome, IfNone, IsSome, ◌↔◌}
use Rattle.std.specs.Option.{option_map_or}
use Rattle.std.specs.Ordering.{nat_cmp, is_gt}
use Rattle.std.specs.BTreeSet.{BTreeSet, contains}
use Rattle.std.specs.BTreeMap.{is_at}
use Rattle.std.specs.List.{list_any}
use Rattle.std.proofs.lemmas.Bool.{cases_lt, cases_eq, eq-eqb}
use Rattle.std.proofs.lemmas.List.{get_or-set_same, get_or-set_other}
use Rattle.em_report.specs.declared.report.ReportLine.{ReportLine}
use Rattle.em_insight.specs.declared.data.Slot.{Slot}
use Rattle.em_insight.specs.declared.dispatch.Dispatch.{Dispatch}
use Rattle.em_insight.specs.declared.queue.Place.{Place}
use Rattle.em_insight.specs.declared.queue.Place.TheVariants.{Held, Coming, Ready, Started}
use Rattle.em_insight.specs.declared.queue.Queue.{Queue}
use Rattle.em_insight.specs.Each.{Each, Any}
use Rattle.em_insight.specs.Jobs.{fuel_at, waits_at, total, refusal}
use Rattle.em_insight.specs.Queues.{HasStarted, IsUnstarted, IsDue, is_coming, is_ready, pairs, SameStarts, HasCome, AreLater, IsFiled, IsSynced}
use Rattle.em_insight.specs.Schedules.{end_of, span, HasEnded, CanStart, ComesFirst, IsNext, AreNext, IsGreedy}
use Rattle.em_insight.specs.Standings.{Based, Standing, AllStarted, Offers}
use Rattle.em_insight.proofs.Lists.{each_map, each_both, each_join, any_map, any_left, any_last, any_none, any_each, any_some}
use Rattle.em_insight.proofs.Filing.{get_set_same, get_set_other, same_place, is_quiet, coming_is, ready_is, least_one, at_of}
use Rattle.em_insight.proofs.Linking.{sound, each_at}
use Rattle.em_insight.proofs.Lower.{span_last, spent, spent_most, few_slots}
use Rattle.em_insight.proofs.Started.{later, stands}

get_there : {A : Type 0} (xs : List A) (j : ℕ) → j < length xs → slice_get xs j ≡ None → ⊥
get_there [] j lt e = omega (arith, lt)
get_there (x ∷ xs) zero lt e = absurd cc
get_there (x ∷ xs) (suc j) lt e = get_there xs j (omega (arith, lt)) e

pub get_within : {A : Type 0} (xs : List A) (j : ℕ) (x : A) → slice_get xs j ≡ Some x → j < length xs
get_within [] j x e = absurd cc
get_within (y ∷ ys) zero x e = omega arith
get_within (y ∷ ys) (suc j) x e = omega (arith, get_within ys j x e)

same_end : (o : Option Place) (e f : ℕ) → o ≡ Some (Started e) → o ≡ Some (Started f) → e ≡ f
same_end o e f a b = by (same_place o (Started e) (Started f) a b)
  where
    by : Started e ≡ Started f → e ≡ f
    by h = cc

module _ (ls : List ReportLine) (ss : List Slot) (q : Queue) (free : List ℕ) (b : Based ls ss q free) where
  ends_by : (ws : List ℕ) (r moment : ℕ) → IsDue q.places.items ws r → r ≤ moment → Each (HasEnded ls ss moment) ws
  ends_by ws r moment due le =
      each_map (λ w. (e : ℕ) × HasStarted q.places.items e w × (e ≤ r)) (HasEnded ls ss moment) ws
      (λ w h. any_map (λ s. (s.job ≡ w) × (end_of ls s ≡ h.0)) (λ s. (s.job ≡ w) × (end_of ls s ≤ moment)) ss (λ s k. (k.0, omega (arith, k.1, h.2, le))) (b.ended w h.0 h.1)) due.by

  fresh_of : (j : ℕ) (p : Place) → slice_get q.places.items j ≡ Some p → is_quiet p ≡ true → Each (λ s. s.job ≢ j) ss
  fresh_of j p at quiet =
      each_map (λ s. HasStarted q.places.items (end_of ls s) s.job) (λ s. s.job ≢ j) ss
      (λ s h is. (let e : p ≡ Started (end_of ls s) = same_place (slice_get q.places.items j) p (Started (end_of ls s)) at (subst (λ z. slice_get q.places.items z ≡ Some (Started (end_of ls s))) is h) in
      let bad : is_quiet (Started (end_of ls s)) ≡ true = subst (λ z. is_quiet z ≡ true) e quiet in absurd cc)) b.started

  -- what has ended has started
  started_of : (moment w : ℕ) → HasEnded ls ss moment w → (e : ℕ) × HasStarted q.places.items e w × (e ≤ moment)
  started_of moment w a = by ss b.started a
    where
      by : (ts : List Slot) → Each (λ s. HasStarted q.places.items (end_of ls s) s.job) ts → Any (λ s. (s.job ≡ w) × (end_of ls s ≤ moment)) ts → (e : ℕ) × HasStarted q.places.items e w × (e ≤ moment)
      by [] h a = absurd a
      by (t ∷ ts) h (inl k) = (end_of ls t, subst (λ z. slice_get q.places.items z ≡ Some (Started (end_of ls t))) k.0 h.0, k.1)
      by (t ∷ ts) h (inr k) = by ts h.1 k

  started_any : (w : ℕ) → Any (λ s. s.job ≡ w) ss → (e : ℕ) × HasStarted q.places.items e w
  started_any w a = by ss b.started a
    where
      by : (ts : List Slot) → Each (λ s. HasStarted q.places.items (end_of ls s) s.job) ts → Any (λ s. s.job ≡ w) ts → (e : ℕ) × HasStarted q.places.items e w
      by [] h a = absurd a
      by (t ∷ ts) h (inl k) = (end_of ls t, subst (λ z. slice_get q.places.items z ≡ Some (Started (end_of ls t))) k h.0)
      by (t ∷ ts) h (inr k) = by ts h.1 k

  free_by : (a t : ℕ) → Each (λ p. p.agent ≡ a → end_of ls p ≤ t) ss → get_or free a 0 ≤ t
  free_by a t h = by (b.freed a)
    where
      slot : (ts : List Slot) → Each (λ p. p.agent ≡ a → end_of ls p ≤ t) ts → Any (λ s. (s.agent ≡ a) × (end_of ls s ≡ get_or free a 0)) ts → get_or free a 0 ≤ t
      slot [] h k = absurd k
      slot (p ∷ ps) h (inl k) = omega (arith, k.1, h.0 k.0)
      slot (p ∷ ps) h (inr k) = slot ps h.1 k

      by : (get_or free a 0 ≡ 0) ⊎ Any (λ s. (s.agent ≡ a) × (end_of ls s ≡ get_or free a 0)) ss → get_or free a 0 ≤ t
      by (inl z) = omega (arith, z)
      by (inr k) = slot ss h k

  due_within : (ws : List ℕ) (r moment : ℕ) → IsDue q.places.items ws r → Each (HasEnded ls ss moment) ws → r ≤ moment
  due_within ws r moment due h = by due.at
    where
      wait : (vs : List ℕ) → Each (HasEnded ls ss moment) vs → Any (HasStarted q.places.items r) vs → r ≤ moment
      wait [] h a = absurd a
      wait (v ∷ vs) h (inl k) = let s = started_of moment v h.0 in omega (arith, same_end (slice_get q.places.items v) r s.0 k s.1, s.2)
      wait (v ∷ vs) h (inr k) = wait vs h.1 k

      by : (r ≡ 0) ⊎ Any (HasStarted q.places.items r) ws → r ≤ moment
      by (inl z) = omega (arith, z)
      by (inr a) = wait ws h a

  -- where a job stands that can start
  abbrev Stands : ℕ → ℕ → Type 0
  Stands j moment = (r : ℕ) × ((slice_get q.places.items j ≡ Some (Ready r)) ⊎ ((slice_get q.places.items j ≡ Some (Coming r)) × (r ≤ moment)))

  candidate : (n : ℕ) (t : Slot) → CanStart ls n ss t → Stands t.job t.start
  candidate n t can = by (slice_get q.places.items t.job) refl
    where
      by : (o : Option Place) → slice_get q.places.items t.job ≡ o → Stands t.job t.start
      by None e = absurd (get_there q.places.items t.job (omega (arith, can.known.0, b.synced.places)) e)
      by (Some (Held next due)) e =
          let f = b.filed t.job (Held next due) e in
          let s = started_of t.start (get_or (waits_at ls t.job) next 0) (each_at (HasEnded ls ss t.start) (waits_at ls t.job) next f.1.0 can.waits) in
          absurd (f.1.1 s.0 s.1)
      by (Some (Coming r)) e = (r, inr (e, due_within (waits_at ls t.job) r t.start (b.filed t.job (Coming r) e) can.waits))
      by (Some (Ready r)) e = (r, inl e)
      by (Some (Started end)) e = absurd (any_none (λ s. s.job ≡ t.job) ss can.fresh (any_map (λ s. (s.job ≡ t.job) × (end_of ls s ≡ end)) (λ s. s.job ≡ t.job) ss (λ s k. k.0) (b.ended t.job end e)))

  -- where none is ready nor coming all have started
  all_started : refusal ls ≡ None → ((j r : ℕ) → slice_get q.places.items j ≡ Some (Ready r) → ⊥) → ((j r : ℕ) → slice_get q.places.items j ≡ Some (Coming r) → ⊥) → (j : ℕ) → j < length ls → Any (λ s. s.job ≡ j) ss
  all_started ok ready coming j lt = below (suc j) j (omega arith) lt
    where
      at : (j : ℕ) → j < length ls → ((v : ℕ) → v < j → v < length ls → Any (λ s. s.job ≡ v) ss) → (o : Option Place) → slice_get q.places.items j ≡ o → Any (λ s. s.job ≡ j) ss
      at j lt less None e = absurd (get_there q.places.items j (omega (arith, lt, b.synced.places)) e)
      at j lt less (Some (Held next due)) e =
          let f = b.filed j (Held next due) e in
          let v = get_or (waits_at ls j) next 0 in
          let lower : v < j = each_at (λ w. w < j) (waits_at ls j) next f.1.0 ((sound ls ok).below j) in
          let s = started_any v (less v lower (omega (arith, lower, lt))) in
          absurd (f.1.1 s.0 s.1)
      at j lt less (Some (Coming r)) e = absurd (coming j r e)
      at j lt less (Some (Ready r)) e = absurd (ready j r e)
      at j lt less (Some (Started end)) e = any_map (λ s. (s.job ≡ j) × (end_of ls s ≡ end)) (λ s. s.job ≡ j) ss (λ s k. k.0) (b.ended j end e)

      below : (m : ℕ) → (j : ℕ) → j < m → j < length ls → Any (λ s. s.job ≡ j) ss
      below zero j lt small = absurd (omega (arith, lt))
      below (suc m) j lt small = at j small (λ v less short. below m v (omega (arith, lt, less)) short) (slice_get q.places.items j) refl

  -- moments are within the span
  end_within : (ts : List Slot) (end : ℕ) → Any (λ s. end_of ls s ≡ end) ts → end ≤ span ls ts
  end_within [] end a = absurd a
  end_within (t ∷ ts) end (inl k) = omega (arith, k)
  end_within (t ∷ ts) end (inr k) = omega (arith, end_within ts end k)

  free_span : (a : ℕ) → get_or free a 0 ≤ span ls ss
  free_span a = free_by a (span ls ss) (each_map (λ p. end_of ls p ≤ span ls ss) (λ p. p.agent ≡ a → end_of ls p ≤ span ls ss) ss (λ p h e. h) (span_last ls ss))

  due_span : (ws : List ℕ) (r : ℕ) → IsDue q.places.items ws r → r ≤ span ls ss
  due_span ws r due = by due.at
    where
      by : (r ≡ 0) ⊎ Any (HasStarted q.places.items r) ws → r ≤ span ls ss
      by (inl z) = omega (arith, z)
      by (inr a) = let w = any_some (HasStarted q.places.items r) ws a in
          end_within ss r (any_map (λ s. (s.job ≡ w.0) × (end_of ls s ≡ r)) (λ s. end_of ls s ≡ r) ss (λ s k. k.1) (b.ended w.0 r w.1))

  -- ---- what starts is next

  module _ (n moment k due a : ℕ) (count : n ≡ length free) (at : slice_get q.places.items k ≡ Some (Ready due)) (come : due ≤ moment) (late : AreLater moment q)
      (least : (j r : ℕ) → slice_get q.places.items j ≡ Some (Ready r) → k ≤ j) (agent : a < n) (idle : get_or free a 0 ≤ moment) (first : (c : ℕ) → get_or free c 0 ≤ moment → c < length free → a ≤ c)
      (soonest : (t : Slot) → CanStart ls n ss t → moment ≤ t.start) where
    starts : CanStart ls n ss (record { job = k; agent = a; start = moment })
    starts = record {
      known = ((let lt = get_within q.places.items k (Ready due) at in omega (arith, lt, b.synced.places)), agent);
      fresh = fresh_of k (Ready due) at refl;
      waits = ends_by (waits_at ls k) due moment (b.filed k (Ready due) at) come;
      free = idle_all;
    }
      where
        idle_all : Each (λ p. p.agent ≡ a → end_of ls p ≤ moment) ss
        idle_all = each_map (λ s. end_of ls s ≤ get_or free s.agent 0) (λ p. p.agent ≡ a → end_of ls p ≤ moment) ss (λ p h e. omega (arith, h, ap (λ z. get_or free z 0) e, idle)) b.frees

    is_next : IsNext ls n ss (record { job = k; agent = a; start = moment })
    is_next = record { can = starts; first = before }
      where
        before : (t : Slot) → CanStart ls n ss t → ComesFirst ls (record { job = k; agent = a; start = moment }) t
        before t can = elim (cases_lt moment t.start) [
          | inl lt ↦ inl lt
          | inr le ↦
              let same : moment ≡ t.start = omega (arith, le, soonest t can) in
              inr (same, tied same (candidate n t can))
        ]
          where
            agents : moment ≡ t.start → k ≤ t.job → (k < t.job) ⊎ ((k ≡ t.job) × (a ≤ t.agent))
            agents same le = elim (cases_lt k t.job) [
              | inl lt ↦ inl lt
              | inr ge ↦ inr (omega (arith, le, ge), first t.agent (omega (arith, free_by t.agent t.start can.free, same)) (omega (arith, can.known.1, count)))
            ]

            tied : moment ≡ t.start → Stands t.job t.start → (k < t.job) ⊎ ((k ≡ t.job) × (a ≤ t.agent))
            tied same (r, inl e) = agents same (least t.job r e)
            tied same (r, inr e) = absurd (omega (arith, late t.job r e.0, e.1, same))

  -- ---- what stands behind a start

  module _ (n k a due : ℕ) (s : Slot) (job : s.job ≡ k) (of : s.agent ≡ a) (at : slice_get q.places.items k ≡ Some (Ready due)) (within : a < length free) (idle : get_or free a 0 ≤ s.start)
      (r : Queue) (places : (j e : ℕ) → HasStarted r.places.items e j → HasStarted (set q.places.items k (Started (end_of ls s))) e j) (more : (j e : ℕ) → HasStarted (set q.places.items k (Started (end_of ls s))) e j → HasStarted r.places.items e j)
      (synced : IsSynced ls r) (filed : (j : ℕ) → IsFiled ls r j) where
    size : k < length q.places.items
    size = get_within q.places.items k (Ready due) at

    mine : HasStarted r.places.items (end_of ls s) k
    mine = more k (end_of ls s) (get_set_same q.places.items k (Started (end_of ls s)) size)

    kept : (j e : ℕ) → HasStarted q.places.items e j → HasStarted r.places.items e j
    kept j e h = elim (cases_eq j k) [
      | inl is ↦ absurd (let bad : Ready due ≡ Started e = same_place (slice_get q.places.items k) (Ready due) (Started e) at (subst (λ z. slice_get q.places.items z ≡ Some (Started e)) is h) in cc)
      | inr ne ↦ more j e (get_set_other q.places.items k j (Started (end_of ls s)) ne ∙ h)
    ]

    based_then : Based ls (ss ++ s ∷ []) r (set free a (end_of ls s))
    based_then = record {
      synced = synced;
      filed = filed;
      started = each_join (λ p. HasStarted r.places.items (end_of ls p) p.job) ss s
          (each_map (λ p. HasStarted q.places.items (end_of ls p) p.job) (λ p. HasStarted r.places.items (end_of ls p) p.job) ss (λ p h. kept p.job (end_of ls p) h) b.started)
          (subst (λ z. slice_get r.places.items z ≡ Some (Started (end_of ls s))) (sym job) mine);
      ended = ended;
      frees = each_join (λ p. end_of ls p ≤ get_or (set free a (end_of ls s)) p.agent 0) ss s
          (each_map (λ p. end_of ls p ≤ get_or free p.agent 0) (λ p. end_of ls p ≤ get_or (set free a (end_of ls s)) p.agent 0) ss old b.frees)
          (omega (arith, ap (λ z. get_or (set free a (end_of ls s)) z 0) of, get_or-set_same free a (end_of ls s) 0 within));
      freed = freed;
    }
      where
        old : (p : Slot) → end_of ls p ≤ get_or free p.agent 0 → end_of ls p ≤ get_or (set free a (end_of ls s)) p.agent 0
        old p h = elim (cases_eq p.agent a) [
          | inl e ↦ omega (arith, h, idle, ap (λ z. get_or free z 0) e, ap (λ z. get_or (set free a (end_of ls s)) z 0) e, get_or-set_same free a (end_of ls s) 0 within)
          | inr ne ↦ omega (arith, h, get_or-set_other free a p.agent (end_of ls s) 0 ne)
        ]

        ended : (j e : ℕ) → HasStarted r.places.items e j → Any (λ p. (p.job ≡ j) × (end_of ls p ≡ e)) (ss ++ s ∷ [])
        ended j e h = elim (cases_eq j k) [
          | inl is ↦ any_last (λ p. (p.job ≡ j) × (end_of ls p ≡ e)) ss s (job ∙ sym is, same_end (slice_get r.places.items k) (end_of ls s) e mine (subst (λ z. slice_get r.places.items z ≡ Some (Started e)) is h))
          | inr ne ↦ any_left (λ p. (p.job ≡ j) × (end_of ls p ≡ e)) ss (s ∷ []) (b.ended j e (sym (get_set_other q.places.items k j (Started (end_of ls s)) ne) ∙ places j e h))
        ]

        freed : (c : ℕ) → (get_or (set free a (end_of ls s)) c 0 ≡ 0) ⊎ Any (λ p. (p.agent ≡ c) × (end_of ls p ≡ get_or (set free a (end_of ls s)) c 0)) (ss ++ s ∷ [])
        freed c = elim (cases_eq c a) [
          | inl e ↦ inr (any_last (λ p. (p.agent ≡ c) × (end_of ls p ≡ get_or (set free a (end_of ls s)) c 0)) ss s
              (of ∙ sym e, sym (ap (λ z. get_or (set free a (end_of ls s)) z 0) e ∙ get_or-set_same free a (end_of ls s) 0 within)))
          | inr ne ↦ (let same : get_or (set free a (end_of ls s)) c 0 ≡ get_or free c 0 = get_or-set_other free a c (end_of ls s) 0 ne in
              subst (λ z. (z ≡ 0) ⊎ Any (λ p. (p.agent ≡ c) × (end_of ls p ≡ z)) (ss ++ s ∷ [])) (sym same) (wide c (b.freed c)))
        ]
          where
            wide : (c : ℕ) → (get_or free c 0 ≡ 0) ⊎ Any (λ p. (p.agent ≡ c) × (end_of ls p ≡ get_or free c 0)) ss → (get_or free c 0 ≡ 0) ⊎ Any (λ p. (p.agent ≡ c) × (end_of ls p ≡ get_or free c 0)) (ss ++ s ∷ [])
            wide c (inl z) = inl z
            wide c (inr k) = inr (any_left (λ p. (p.agent ≡ c) × (end_of ls p ≡ get_or free c 0)) ss (s ∷ []) k)

-- ---- when it starts

module _ (ls : List ReportLine) (n : ℕ) where
  pub start_within : (ss : List Slot) (s : Slot) → IsNext ls n ss s → s.start ≤ span ls ss
  start_within ss s next = by (next.first (record { job = s.job; agent = s.agent; start = span ls ss }) (record {
    known = next.can.known;
    fresh = next.can.fresh;
    waits = each_map (HasEnded ls ss s.start) (HasEnded ls ss (span ls ss)) (waits_at ls s.job) (λ w a.
        any_map (λ p. (end_of ls p ≤ span ls ss) × ((p.job ≡ w) × (end_of ls p ≤ s.start))) (λ p. (p.job ≡ w) × (end_of ls p ≤ span ls ss)) ss (λ p k. (k.1.0, k.0))
        (any_each (λ p. end_of ls p ≤ span ls ss) (λ p. (p.job ≡ w) × (end_of ls p ≤ s.start)) ss (span_last ls ss) a)) next.can.waits;
    free = each_map (λ p. end_of ls p ≤ span ls ss) (λ p. p.agent ≡ s.agent → end_of ls p ≤ span ls ss) ss (λ p h e. h) (span_last ls ss);
  }))
    where
      by : ComesFirst ls s (record { job = s.job; agent = s.agent; start = span ls ss }) → s.start ≤ span ls ss
      by (inl lt) = omega (arith, lt)
      by (inr e) = omega (arith, e.0)

  pub span_join : (ss : List Slot) (s : Slot) → span ls (ss ++ s ∷ []) ≡ max (span ls ss) (end_of ls s)
  span_join [] s = omega arith
  span_join (p ∷ ps) s = omega (arith, span_join ps s)

  spent_join : (ss : List Slot) (s : Slot) → spent ls (ss ++ s ∷ []) ≡ spent ls ss + fuel_at ls s.job
  spent_join [] s = omega arith
  spent_join (p ∷ ps) s = omega (arith, spent_join ps s)

  span_spent : (past ss : List Slot) → span ls past ≤ spent ls past → AreNext ls n past ss → span ls (past ++ ss) ≤ spent ls (past ++ ss)
  span_spent past [] h next = subst (λ xs. span ls xs ≤ spent ls xs) (sym (append-nil past)) h
  span_spent past (s ∷ ss) h next =
      subst (λ xs. span ls xs ≤ spent ls xs) (append_assoc past (s ∷ []) ss)
      (span_spent (past ++ s ∷ []) ss (omega (arith, h, span_join past s, spent_join past s, start_within past s next.0)) next.1)

  pub span_total : (ss : List Slot) → AreNext ls n [] ss → span ls ss ≤ total ls
  span_total ss next =
      let h = stands ls n ss next in
      omega (arith, span_spent [] ss (omega arith) next, spent_most ls ss (each_map (λ s. (s.job < length ls) × (s.agent < n)) (λ s. s.job < length ls) ss (λ s k. k.0) h.known) h.once)

  next_join : (past ss : List Slot) (s : Slot) → AreNext ls n past ss → IsNext ls n (past ++ ss) s → AreNext ls n past (ss ++ s ∷ [])
  next_join past [] s h next = (subst (λ xs. IsNext ls n xs s) (append-nil past) next, tt)
  next_join past (p ∷ ps) s h next = (h.0, next_join (past ++ p ∷ []) ps s h.1 (subst (λ xs. IsNext ls n xs s) (sym (append_assoc past (p ∷ []) ps)) next))

  pub end_total : (ss : List Slot) (s : Slot) → AreNext ls n [] ss → IsNext ls n ss s → end_of ls s ≤ total ls
  end_total ss s next one = omega (arith, span_total (ss ++ s ∷ []) (next_join [] ss s next one), span_join ss s)

  pub slots_few : (ss : List Slot) → AreNext ls n [] ss → length ss ≤ length ls
  slots_few ss next = let h = stands ls n ss next in few_slots ls ss (each_map (λ s. (s.job < length ls) × (s.agent < n)) (λ s. s.job < length ls) ss (λ s k. k.0) h.known) h.once

-- ---- the moment

none_in : {A : Type 0} (p : A → Bool) (ks : List A) → length ks ≡ 0 → list_any p ks ≡ false
none_in p [] e = refl
none_in p (k ∷ ks) e = absurd (omega (arith, e))

module _ (d : Dispatch) (ok : refusal d.lines.now ≡ None) (st : Standing d) (least : ℕ) (some : (a : ℕ) × (a < length d.free.items) × (get_or d.free.items a 0 ≡ least))
    (lowest : (a : ℕ) → a < length d.free.items → least ≤ get_or d.free.items a 0) where
  offers : (m x : ℕ) → m ≡ max (max d.now least) x → x ≤ span d.lines.now d.slots.items → ((t : Slot) → CanStart d.lines.now (length d.free.items) d.slots.items t → x ≤ t.start)
      → ((j due : ℕ) × ((slice_get d.queue.places.items j ≡ Some (Ready due)) ⊎ ((slice_get d.queue.places.items j ≡ Some (Coming due)) × (due ≤ m)))) → Offers d m
  offers m x is within soon at = record {
    soonest = λ t can. omega (arith, is, st.low t can, soon t can, lowest t.agent can.known.1, free_by d.lines.now d.slots.items d.queue d.free.items st.based t.agent t.start can.free);
    later = omega (arith, is);
    within = omega (arith, is, within, st.late, some.2, free_span d.lines.now d.slots.items d.queue d.free.items st.based some.0);
    free = (some.0, some.1, omega (arith, is, some.2));
    some = at;
  }

  pub offers_ready : (k m : ℕ) → contains nat_cmp d.queue.ready k ≡ true → m ≡ max d.now least → Offers d m
  offers_ready k m has is =
      let r = ready_is (slice_get d.queue.places.items k) (sym (st.based.synced.ready k) ∙ has) in
      offers m 0 (omega (arith, is)) (omega arith) (λ t can. omega arith) (k, r.0, inl r.1)

  pub offers_due : (r m : ℕ) → length d.queue.ready.keys ≡ 0 → ((j : ℕ) × (contains pairs d.queue.coming (r, j) ≡ true)) → ((x j : ℕ) → contains pairs d.queue.coming (x, j) ≡ true → r ≤ x)
      → m ≡ max (max d.now least) r → Offers d m
  offers_due r m empty has all is =
      offers m r is (due_span d.lines.now d.slots.items d.queue d.free.items st.based (waits_at d.lines.now has.0) r (st.based.filed has.0 (Coming r) at)) soon (has.0, r, inr (at, omega (arith, is)))
    where
      at : slice_get d.queue.places.items has.0 ≡ Some (Coming r)
      at = coming_is r (slice_get d.queue.places.items has.0) (sym (st.based.synced.coming r has.0) ∙ has.1)

      soon : (t : Slot) → CanStart d.lines.now (length d.free.items) d.slots.items t → r ≤ t.start
      soon t can = by (candidate d.lines.now d.slots.items d.queue d.free.items st.based (length d.free.items) t can)
        where
          by : (w : ℕ) × ((slice_get d.queue.places.items t.job ≡ Some (Ready w)) ⊎ ((slice_get d.queue.places.items t.job ≡ Some (Coming w)) × (w ≤ t.start))) → r ≤ t.start
          by (w, inl e) = absurd (let yes : contains nat_cmp d.queue.ready t.job ≡ true = st.based.synced.ready t.job ∙ ap is_ready e in
              let no : contains nat_cmp d.queue.ready t.job ≡ false = none_in (is_at (nat_cmp t.job)) d.queue.ready.keys empty in let bad : true ≡ false = sym yes ∙ no in cc)
          by (w, inr e) = omega (arith, e.1, all w t.job (st.based.synced.coming w t.job ∙ ap (is_coming w) e.0 ∙ eq-eqb w w refl))

  pub none_offered : length d.queue.ready.keys ≡ 0 → ((x j : ℕ) → contains pairs d.queue.coming (x, j) ≡ false) → AllStarted d
  none_offered empty none = all_started d.lines.now d.slots.items d.queue d.free.items st.based ok
      (λ j r e. (let yes : contains nat_cmp d.queue.ready j ≡ true = st.based.synced.ready j ∙ ap is_ready e in
      let no : contains nat_cmp d.queue.ready j ≡ false = none_in (is_at (nat_cmp j)) d.queue.ready.keys empty in let bad : true ≡ false = sym yes ∙ no in absurd cc))
      (λ j r e. (let yes : contains pairs d.queue.coming (r, j) ≡ true = st.based.synced.coming r j ∙ ap (is_coming r) e ∙ eq-eqb r r refl in let bad : true ≡ false = sym yes ∙ none r j in absurd cc))

-- ---- agents

pub record Least (free : List ℕ) (i first : ℕ) : Type 0 where
  pub some : (a : ℕ) × (a < length free) × (get_or free a 0 ≡ first)
  pub least : (a : ℕ) → a < i → first ≤ get_or free a 0

pub least_more : (free : List ℕ) (i first new : ℕ) → i < length free → ((a : ℕ) × (a < length free) × (get_or free a 0 ≡ first)) → ((a : ℕ) → a < i → first ≤ get_or free a 0) → new ≡ min first (get_or free i 0) → Least free (i + 1) new
least_more free i first new lt some least is = record {
  some = elim (cases_lt (get_or free i 0) first) [
    | inl less ↦ (i, lt, omega (arith, is, less))
    | inr le ↦ (some.0, some.1, omega (arith, is, le, some.2))
  ];
  least = λ a small. elim (cases_lt a i) [
    | inl less ↦ omega (arith, is, least a less)
    | inr ge ↦ (let same : a ≡ i = omega (arith, small, ge) in omega (arith, is, ap (λ z. get_or free z 0) same))
  ];
}

-- ---- a step

pub some_member : {A : Type 0} (o : Option A) (P : A → Type 0) → is_some o ≡ true → IfSome o P → (k : A) × P k
some_member None P is h = absurd cc
some_member (Some k) P is h = (k, h)

pub if_none : {A P : Type 0} (o : Option A) → P → IfNone o P
if_none None p = p
if_none (Some x) p = tt

pub none_len : {A : Type 0} (o : Option A) (n : ℕ) → is_some o ≡ false → (IsSome o ↔ (0 < n)) → n ≡ 0
none_len (Some x) n is v = absurd cc
none_len None n is v = elim (cases_lt 0 n) [ inl lt ↦ absurd (let bad : false ≡ true = v.1 lt in cc) | inr le ↦ omega (arith, le) ]

pub based_same : (ls : List ReportLine) (ss : List Slot) (q r : Queue) (free : List ℕ) → Based ls ss q free → IsSynced ls r → ((j : ℕ) → IsFiled ls r j) → SameStarts q r → Based ls ss r free
based_same ls ss q r free b synced filed starts = record {
  synced = synced;
  filed = filed;
  started = each_map (λ s. HasStarted q.places.items (end_of ls s) s.job) (λ s. HasStarted r.places.items (end_of ls s) s.job) ss (λ s h. (starts s.job (end_of ls s)).0 h) b.started;
  ended = λ j end h. b.ended j end ((starts j end).1 h);
  frees = b.frees;
  freed = b.freed;
}

-- what was picked: the least ready job, and the first agent that is free
pub record Picked (d : Dispatch) (m k a : ℕ) (q : Queue) : Type 0 where
  pub due : ℕ
  pub at : slice_get q.places.items k ≡ Some (Ready due)
  pub based : Based d.lines.now d.slots.items q d.free.items
  pub next : IsNext d.lines.now (length d.free.items) d.slots.items (record { job = k; agent = a; start = m })

module _ (d : Dispatch) (m : ℕ) (q : Queue) (st : Standing d) (o : Offers d m) (synced : IsSynced d.lines.now q) (filed : (j : ℕ) → IsFiled d.lines.now q j) (starts : SameStarts d.queue q) (come : HasCome m d.queue q) (late : AreLater m q) where
  admitted : Based d.lines.now d.slots.items q d.free.items
  admitted = based_same d.lines.now d.slots.items d.queue q d.free.items st.based synced filed starts

  come_due : (k due : ℕ) → slice_get q.places.items k ≡ Some (Ready due) → due ≤ m
  come_due k due at = elim (come k due at) [ inl old ↦ omega (arith, st.come k due old, o.later) | inr le ↦ le ]

  pub picked : (k a : ℕ) → contains nat_cmp q.ready k ≡ true → ((x : ℕ) → contains nat_cmp q.ready x ≡ true → is_gt (nat_cmp k x) ≡ false) → a < length d.free.items → get_or d.free.items a 0 ≤ m
      → ((c : ℕ) → get_or d.free.items c 0 ≤ m → c < length d.free.items → a ≤ c) → Picked d m k a q
  picked k a has least agent idle first =
      let r = ready_is (slice_get q.places.items k) (sym (synced.ready k) ∙ has) in
      record {
        due = r.0;
        at = r.1;
        based = admitted;
        next = is_next d.lines.now d.slots.items q d.free.items admitted (length d.free.items) m k r.0 a refl r.1 (come_due k r.0 r.1) late
            (λ j w at. least_one k j (least j (synced.ready j ∙ ap is_ready at))) agent idle first o.soonest;
      }

  -- some job is ready then
  pub some_ready : (j : ℕ) × (contains nat_cmp q.ready j ≡ true)
  some_ready = by o.some
    where
      at_moment : (j due : ℕ) (p : Place) → slice_get d.queue.places.items j ≡ Some p → is_quiet p ≡ true → IsDue d.queue.places.items (waits_at d.lines.now j) due → due ≤ m
          → CanStart d.lines.now (length d.free.items) d.slots.items (record { job = j; agent = o.free.0; start = m })
      at_moment j due p at quiet is le = record {
        known = ((let lt = get_within d.queue.places.items j p at in omega (arith, lt, st.based.synced.places)), o.free.1);
        fresh = fresh_of d.lines.now d.slots.items d.queue d.free.items st.based j p at quiet;
        waits = ends_by d.lines.now d.slots.items d.queue d.free.items st.based (waits_at d.lines.now j) due m is le;
        free = each_map (λ s. end_of d.lines.now s ≤ get_or d.free.items s.agent 0) (λ p. p.agent ≡ o.free.0 → end_of d.lines.now p ≤ m) d.slots.items
            (λ p h e. omega (arith, h, ap (λ z. get_or d.free.items z 0) e, o.free.2)) st.based.frees;
      }

      then : (t : Slot) → t.start ≡ m → CanStart d.lines.now (length d.free.items) d.slots.items t → (j : ℕ) × (contains nat_cmp q.ready j ≡ true)
      then t is can = stood (candidate d.lines.now d.slots.items q d.free.items admitted (length d.free.items) t can)
        where
          stood : (w : ℕ) × ((slice_get q.places.items t.job ≡ Some (Ready w)) ⊎ ((slice_get q.places.items t.job ≡ Some (Coming w)) × (w ≤ t.start))) → (j : ℕ) × (contains nat_cmp q.ready j ≡ true)
          stood (w, inl e) = (t.job, synced.ready t.job ∙ ap is_ready e)
          stood (w, inr e) = absurd (omega (arith, late t.job w e.0, e.1, is))

      by : ((j due : ℕ) × ((slice_get d.queue.places.items j ≡ Some (Ready due)) ⊎ ((slice_get d.queue.places.items j ≡ Some (Coming due)) × (due ≤ m)))) → (j : ℕ) × (contains nat_cmp q.ready j ≡ true)
      by (j, due, inl at) = then (record { job = j; agent = o.free.0; start = m }) refl (at_moment j due (Ready due) at refl (st.based.filed j (Ready due) at) (omega (arith, st.come j due at, o.later)))
      by (j, due, inr h) = then (record { job = j; agent = o.free.0; start = m }) refl (at_moment j due (Coming due) h.0 refl (st.based.filed j (Coming due) h.0) h.1)

-- a schedule on its way, by its parts
pub record Stand (ls : List ReportLine) (ss : List Slot) (q : Queue) (free : List ℕ) (now : ℕ) : Type 0 where
  pub next : AreNext ls (length free) [] ss
  pub based : Based ls ss q free
  pub come : (j due : ℕ) → slice_get q.places.items j ≡ Some (Ready due) → due ≤ now
  pub low : (t : Slot) → CanStart ls (length free) ss t → now ≤ t.start
  pub late : now ≤ span ls ss

length_same : {A : Type 0} (xs : List A) (i : ℕ) (x : A) → length (set xs i x) ≡ length xs
length_same [] i x = refl
length_same (y ∷ ys) zero x = refl
length_same (y ∷ ys) (suc i) x = ap suc (length_same ys i x)

module _ (d : Dispatch) (m k a end : ℕ) (q r : Queue) (st : Standing d) (o : Offers d m) (come : HasCome m d.queue q) (p : Picked d m k a q) (known : a < length d.free.items) (idle : get_or d.free.items a 0 ≤ m)
    (is : end ≡ m + fuel_at d.lines.now k) (starts : (j e : ℕ) → HasStarted (set q.places.items k (Started end)) e j ↔ HasStarted r.places.items e j)
    (ready : (j due : ℕ) → slice_get r.places.items j ≡ Some (Ready due) → slice_get (set q.places.items k (Started end)) j ≡ Some (Ready due)) (synced : IsSynced d.lines.now r) (filed : (j : ℕ) → IsFiled d.lines.now r j) where
  pub stand_then : Stand d.lines.now (d.slots.items ++ record { job = k; agent = a; start = m } ∷ []) r (set d.free.items a end) m
  stand_then = record {
    next = subst (λ n. AreNext d.lines.now n [] (d.slots.items ++ record { job = k; agent = a; start = m } ∷ [])) (sym (length_same d.free.items a end)) (next_join d.lines.now (length d.free.items) [] d.slots.items (record { job = k; agent = a; start = m }) st.next p.next);
    based = subst (λ e. Based d.lines.now (d.slots.items ++ record { job = k; agent = a; start = m } ∷ []) r (set d.free.items a e)) (sym is)
        (based_then d.lines.now d.slots.items q d.free.items p.based (length d.free.items) k a p.due (record { job = k; agent = a; start = m }) refl refl p.at known idle r from to synced filed);
    come = λ j due h. stood j due (ready j due h);
    low = λ t can. later d.lines.now (length d.free.items) d.slots.items (record { job = k; agent = a; start = m }) t p.next
        (subst (λ n. CanStart d.lines.now n (d.slots.items ++ record { job = k; agent = a; start = m } ∷ []) t) (length_same d.free.items a end) can);
    late = omega (arith, span_join d.lines.now (length d.free.items) d.slots.items (record { job = k; agent = a; start = m }));
  }
    where
      from : (j e : ℕ) → HasStarted r.places.items e j → HasStarted (set q.places.items k (Started (m + fuel_at d.lines.now k))) e j
      from j e h = subst (λ z. HasStarted (set q.places.items k (Started z)) e j) is ((starts j e).1 h)

      to : (j e : ℕ) → HasStarted (set q.places.items k (Started (m + fuel_at d.lines.now k))) e j → HasStarted r.places.items e j
      to j e h = (starts j e).0 (subst (λ z. HasStarted (set q.places.items k (Started z)) e j) (sym is) h)

      size : k < length q.places.items
      size = get_within q.places.items k (Ready p.due) p.at

      stood : (j due : ℕ) → slice_get (set q.places.items k (Started end)) j ≡ Some (Ready due) → due ≤ m
      stood j due h = elim (cases_eq j k) [
        | inl e ↦ absurd (let bad : Started end ≡ Ready due = same_place (slice_get (set q.places.items k (Started end)) j) (Started end) (Ready due) (ap (λ z. slice_get (set q.places.items k (Started end)) z) e ∙ get_set_same q.places.items k (Started end) size) h in cc)
        | inr ne ↦ (let old : slice_get q.places.items j ≡ Some (Ready due) = sym (get_set_other q.places.items k j (Started end) ne) ∙ h in
            elim (come j due old) [ inl was ↦ omega (arith, st.come j due was, o.later) | inr le ↦ le ])
      ]

pub fuel_is : (ls : List ReportLine) (i : ℕ) (l : ReportLine) → i < length ls → (get_or ls i l).fuel ≡ fuel_at ls i
fuel_is ls i l lt = sym (ap (λ o. option_map_or (λ (l : ReportLine). l.fuel) o 0) (at_of ls i l (get_or ls i l) lt refl))

pub pick_end : (d : Dispatch) (m k a : ℕ) (q : Queue) → Standing d → Picked d m k a q → refusal d.lines.now ≡ None → m + fuel_at d.lines.now k ≤ 2 ^ 62
pick_end d m k a q st p ok = omega (arith, end_total d.lines.now (length d.free.items) d.slots.items (record { job = k; agent = a; start = m }) st.next p.next, (sound d.lines.now ok).few)

pub none_pop : {A : Type 0} (o : Option A) (n : ℕ) → o ≡ None → (IsSome o ↔ (0 < n)) → n ≡ 0
none_pop o n is v = none_len o n (ap (λ z. is_some z) is) v

pub none_in_set : (s : BTreeSet ℕ) (j : ℕ) → length s.keys ≡ 0 → contains nat_cmp s j ≡ true → ⊥
none_in_set s j empty has = let no : contains nat_cmp s j ≡ false = none_in (is_at (nat_cmp j)) s.keys empty in let bad : true ≡ false = sym has ∙ no in absurd cc

-- ---- the whole

pub span_take : (ls : List ReportLine) (ss : List Slot) (i : ℕ) (s : Slot) → slice_get ss i ≡ Some s → span ls (take (i + 1) ss) ≡ max (span ls (take i ss)) (end_of ls s)
span_take ls ss i s e = subst (λ n. span ls (take n ss) ≡ max (span ls (take i ss)) (end_of ls s)) (let k : suc i ≡ i + 1 = omega arith in k) (by ss i e)
  where
    some_is : (x y : Slot) → Some x ≡ Some y → x ≡ y
    some_is x y e = cc

    by : (ss : List Slot) (i : ℕ) → slice_get ss i ≡ Some s → span ls (take (suc i) ss) ≡ max (span ls (take i ss)) (end_of ls s)
    by [] i e = absurd cc
    by (x ∷ xs) zero e = let same : x ≡ s = some_is x s e in omega (arith, ap (λ z. end_of ls z) same)
    by (x ∷ xs) (suc i) e = omega (arith, by xs i e)

pub stand_first : (ls : List ReportLine) (q : Queue) (free : List ℕ) → IsSynced ls q → ((j : ℕ) → IsFiled ls q j) → ((j : ℕ) → IsUnstarted q.places.items j) → ((j due : ℕ) → slice_get q.places.items j ≡ Some (Ready due) → ⊥) → ((a : ℕ) → get_or free a 0 ≡ 0) → Stand ls [] q free 0
stand_first ls q free synced filed none ready idle = record {
  next = tt;
  based = record { synced = synced; filed = filed; started = tt; ended = λ j end h. absurd (none j end h); frees = tt; freed = λ a. inl (idle a) };
  come = λ j due h. absurd (ready j due h);
  low = λ t can. omega arith;
  late = omega arith;
}

pub each_get : {A : Type 0} (P : A → Type 0) (xs : List A) (i : ℕ) (x : A) → i < length xs → x ≡ get_or xs i x → Each P xs → P x
each_get P [] i x lt is h = absurd (omega (arith, lt))
each_get P (y ∷ ys) zero x lt is h = subst P (sym is) h.0
each_get P (y ∷ ys) (suc i) x lt is h = each_get P ys i x (omega (arith, lt)) is h.1

pub slots_small : (d : Dispatch) → Standing d → refusal d.lines.now ≡ None → Each (λ s. (s.job < length d.lines.now) × (end_of d.lines.now s ≤ 2 ^ 62)) d.slots.items
slots_small d st ok =
    let h = stands d.lines.now (length d.free.items) d.slots.items st.next in
    let few : span d.lines.now d.slots.items ≤ 2 ^ 62 = omega (arith, span_total d.lines.now (length d.free.items) d.slots.items st.next, (sound d.lines.now ok).few) in
    each_both (λ s. (s.job < length d.lines.now) × (s.agent < length d.free.items)) (λ s. end_of d.lines.now s ≤ span d.lines.now d.slots.items) (λ s. (s.job < length d.lines.now) × (end_of d.lines.now s ≤ 2 ^ 62)) d.slots.items
    (λ s k e. (k.0, omega (arith, e, few))) h.known (span_last d.lines.now d.slots.items)

pub slots_within : (d : Dispatch) → Standing d → length d.slots.items ≤ length d.lines.now
slots_within d st = slots_few d.lines.now (length d.free.items) d.slots.items st.next

pub greedy : (d : Dispatch) (ls : List ReportLine) (n : ℕ) → Standing d → AllStarted d → d.lines.now ≡ ls → length d.free.items ≡ n → IsGreedy ls n d.slots.items
greedy d ls n st all e f = subst (λ z. IsGreedy z n d.slots.items) e (subst (λ z. IsGreedy d.lines.now z d.slots.items) f (record { next = st.next; all = all }))

pub each_or_at : {A : Type 0} (P : A → Type 0) (xs : List A) (i : ℕ) (d : A) → i < length xs → Each P xs → P (get_or xs i d)
each_or_at P [] i d lt h = absurd (omega (arith, lt))
each_or_at P (y ∷ ys) zero d lt h = h.0
each_or_at P (y ∷ ys) (suc i) d lt h = each_or_at P ys i d (omega (arith, lt)) h.1
