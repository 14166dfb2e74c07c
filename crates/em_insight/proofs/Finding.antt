-- What is certified and named is the path that is found, and a greedy schedule has the slots that
-- are found.
use Rattle.std.proofs.Common.{◌≡◌, ◌≢◌, ℕ, zero, suc, ◌+◌, ◌<◌, ◌≤◌, ◌==◌, nat_lt, Bool, true, false, cond, ◌||◌, ◌&&◌, inl, inr, List, [], ◌∷◌, ◌++◌, length, reverse, Option, Some, None, refl, sym, ap, subst, ◌∙◌, arith, append_assoc, append-nil}
use Rattle.std.specs.Prelude.{nat_le, not, map}
use Rattle.std.specs.List.{filter, flat_map, list_any, list_all, range_with_len}
use Rattle.std.specs.Option.{option_map_or, unwrap_or}
use Rattle.std.proofs.lemmas.Bool.{cases_eq, lt-ltb, le-ltb, le-leb, eq-eqb, ne_eqb, ltb-true, ltb-false, leb-true, eqb-true, eqb-false, not-true, not_from_false, and_parts, and_from, and_left, and_right, or_cases, or_parts, or_from, or_left, or_right, cond-true, cond-false, cond_both}
use Rattle.std.proofs.lemmas.List.{reverse-reverse, reverse-append}
use Rattle.em_report.specs.declared.report.ReportLine.{ReportLine}
use Rattle.em_insight.specs.declared.data.Chain.{Chain}
use Rattle.em_insight.specs.declared.data.Slot.{Slot}
use Rattle.em_insight.specs.Each.{Each, Any}
use Rattle.em_insight.specs.Jobs.{waits_at}
use Rattle.em_insight.specs.Chains.{is_before, IsChain, weight, Certifies, IsNamed}
use Rattle.em_insight.specs.Schedules.{end_of, span, HasEnded, CanStart, ComesFirst, IsNext, AreNext, IsGreedy}
use Rattle.em_insight.specs.Found.{former, first_of, rising, is_chain, chains, is_ahead, path_of, has_ended, can_start, slots_until, is_sooner, next_of, slots_behind, slots_of}
use Rattle.em_insight.proofs.Lists.{any_left}
use Rattle.em_insight.proofs.Chained.{heaviest, alike}
use Rattle.em_insight.proofs.Walking.{IsBack, turned, waits_within}
use Rattle.em_insight.proofs.Started.{same_slot, none_left}
use Rattle.em_insight.proofs.Dispatching.{start_within, slots_few}

-- ---- the first of some

some_is : {A : Type 0} (x y : A) → Some x ≡ Some y → x ≡ y
some_is x y e = cc

first_among : {A : Type 0} (before : A → A → Bool) (P : A → Type 0) (xs : List A) (y : A) → Each P xs → first_of before xs ≡ Some y → P y
first_among before P [] y h e = absurd cc
first_among {A = A} before P (x ∷ xs) y h e = by (first_of before xs) (λ z f. first_among before P xs z h.1 f) e
  where
    by : (o : Option A) → ((z : A) → o ≡ Some z → P z) → Some (former before x o) ≡ Some y → P y
    by None f e = subst P (some_is x y e) h.0
    by (Some z) f e = subst P (some_is (cond (before z x) z x) y e) (cond_both (before z x) z x P (λ t. f z refl) (λ t. h.0))

first_is : {A : Type 0} (before : A → A → Bool) (s : A) (xs : List A) → ((x : A) → before x s ≡ false → before s x ≡ false → x ≡ s) → Each (λ x. before x s ≡ false) xs → Any (λ x. x ≡ s) xs → first_of before xs ≡ Some s
first_is before s [] one h a = absurd a
first_is {A = A} before s (x ∷ xs) one h (inl e) = by (first_of before xs) (λ y f. first_among before (λ x. before x s ≡ false) xs y h.1 f)
  where
    by : (o : Option A) → ((y : A) → o ≡ Some y → before y s ≡ false) → Some (former before x o) ≡ Some s
    by None f = ap (λ z. Some z) e
    by (Some y) f = ap (λ z. Some z) (cond-false (before y x) y x (subst (λ z. before y z ≡ false) (sym e) (f y refl)) ∙ e)
first_is before s (x ∷ xs) one h (inr a) = ap (λ o. Some (former before x o)) (first_is before s xs one h.1 a) ∙ ap (λ z. Some z) (by (before s x) refl)
  where
    by : (b : Bool) → before s x ≡ b → cond (before s x) s x ≡ s
    by true e = cond-true (before s x) s x e
    by false e = cond-false (before s x) s x e ∙ one x h.0 e

none_first : {A : Type 0} (before : A → A → Bool) (xs : List A) → Each (λ x. ⊥) xs → first_of before xs ≡ None
none_first before [] h = refl
none_first before (x ∷ xs) h = absurd h.0

-- ---- lists

any_filter : {A : Type 0} (f : A → Bool) (xs : List A) (s : A) → f s ≡ true → Any (λ x. x ≡ s) xs → Any (λ x. x ≡ s) (filter f xs)
any_filter f [] s t a = absurd a
any_filter f (x ∷ xs) s t (inl e) = subst (Any (λ y. y ≡ s)) (sym (cond-true (f x) (x ∷ filter f xs) (filter f xs) (ap f e ∙ t))) (inl e)
any_filter f (x ∷ xs) s t (inr a) = let rest = any_filter f xs s t a in cond_both (f x) (x ∷ filter f xs) (filter f xs) (Any (λ y. y ≡ s)) (λ u. inr rest) (λ u. rest)

each_filter : {A : Type 0} (f : A → Bool) (P : A → Type 0) (xs : List A) → ((x : A) → f x ≡ true → P x) → Each P (filter f xs)
each_filter f P [] h = tt
each_filter f P (x ∷ xs) h = let rest = each_filter f P xs h in cond_both (f x) (x ∷ filter f xs) (filter f xs) (Each P) (λ t. (h x t, rest)) (λ t. rest)

any_right : {A : Type 0} (P : A → Type 0) (xs ys : List A) → Any P ys → Any P (xs ++ ys)
any_right P [] ys a = a
any_right P (x ∷ xs) ys a = inr (any_right P xs ys a)

any_mapped : {A B : Type 0} (f : A → B) (xs : List A) (x : A) → Any (λ z. z ≡ x) xs → Any (λ z. z ≡ f x) (map f xs)
any_mapped f [] x a = absurd a
any_mapped f (y ∷ ys) x (inl e) = inl (ap f e)
any_mapped f (y ∷ ys) x (inr a) = inr (any_mapped f ys x a)

any_flat : {A B : Type 0} (f : A → List B) (P : B → Type 0) (xs : List A) (x : A) → Any (λ z. z ≡ x) xs → Any P (f x) → Any P (flat_map f xs)
any_flat f P [] x a b = absurd a
any_flat f P (y ∷ ys) x (inl e) b = any_left P (f y) (flat_map f ys) (subst (λ z. Any P (f z)) (sym e) b)
any_flat f P (y ∷ ys) x (inr a) b = any_right P (f y) (flat_map f ys) (any_flat f P ys x a b)

any_range : (a n j : ℕ) → a ≤ j → j < a + n → Any (λ z. z ≡ j) (range_with_len a n)
any_range a zero j le lt = absurd (omega (arith, le, lt))
any_range a (suc n) j le lt = elim (cases_eq a j) [ inl e ↦ inl e | inr ne ↦ inr (any_range (a + 1) n j (omega (arith, le, ne)) (omega (arith, lt))) ]

-- ---- tests of lists

any_true : {A : Type 0} (f : A → Bool) (P : A → Type 0) (xs : List A) → ((x : A) → P x → f x ≡ true) → Any P xs → list_any f xs ≡ true
any_true f P [] h a = absurd a
any_true f P (x ∷ xs) h (inl p) = or_left (f x) (list_any f xs) (h x p)
any_true f P (x ∷ xs) h (inr a) = or_right (f x) (list_any f xs) (any_true f P xs h a)

any_from : {A : Type 0} (f : A → Bool) (P : A → Type 0) (xs : List A) → ((x : A) → f x ≡ true → P x) → list_any f xs ≡ true → Any P xs
any_from f P [] h e = absurd cc
any_from f P (x ∷ xs) h e = elim (or_cases (f x) (list_any f xs) e) [ inl t ↦ inl (h x t) | inr t ↦ inr (any_from f P xs h t) ]

each_true : {A : Type 0} (f : A → Bool) (P : A → Type 0) (xs : List A) → ((x : A) → P x → f x ≡ true) → Each P xs → list_all f xs ≡ true
each_true f P [] h a = refl
each_true f P (x ∷ xs) h a = and_from (f x) (list_all f xs) (h x a.0) (each_true f P xs h a.1)

each_from : {A : Type 0} (f : A → Bool) (P : A → Type 0) (xs : List A) → ((x : A) → f x ≡ true → P x) → list_all f xs ≡ true → Each P xs
each_from f P [] h e = tt
each_from f P (x ∷ xs) h e = let t = and_parts (f x) (list_all f xs) e in (h x t.0, each_from f P xs h t.1)

-- what two tests of equal numbers leave
rest_false : (a b : ℕ) (z : Bool) → a ≡ b → (a == b && z) ≡ false → z ≡ false
rest_false a b z e h = by (a == b) z (eq-eqb a b e) h
  where
    by : (x z : Bool) → x ≡ true → (x && z) ≡ false → z ≡ false
    by true z e h = h
    by false z e h = absurd cc

-- ---- the critical path

abbrev IsFalling : ℕ → List ℕ → Type 0
IsFalling n [] = Unit {0}
IsFalling n (b ∷ bs) = (b < n) × IsFalling b bs

in_rising : (n : ℕ) (bs : List ℕ) → IsFalling n bs → Any (λ js. js ≡ reverse bs) (rising n)
in_rising zero [] h = inl refl
in_rising zero (b ∷ bs) h = absurd (omega (arith, h.0))
in_rising (suc n) [] h = any_left (λ js. js ≡ reverse []) (rising n) (map (λ js. js ++ n ∷ []) (rising n)) (in_rising n [] tt)
in_rising (suc n) (b ∷ bs) h = elim (cases_eq b n) [
  | inl e ↦
      let turned : reverse (b ∷ bs) ≡ reverse bs ++ n ∷ [] = reverse-append (b ∷ []) bs ∙ ap (λ z. reverse bs ++ z ∷ []) e in
      subst (λ z. Any (λ js. js ≡ z) (rising (suc n))) (sym turned)
      (any_right (λ js. js ≡ reverse bs ++ n ∷ []) (rising n) (map (λ js. js ++ n ∷ []) (rising n))
      (any_mapped (λ js. js ++ n ∷ []) (rising n) (reverse bs) (in_rising n bs (subst (λ z. IsFalling z bs) e h.1))))
  | inr ne ↦ any_left (λ js. js ≡ reverse (b ∷ bs)) (rising n) (map (λ js. js ++ n ∷ []) (rising n)) (in_rising n (b ∷ bs) (omega (arith, h.0, ne), h.1))
]

module _ (ls : List ReportLine) where
  falls_on : (j : ℕ) (js : List ℕ) → IsBack ls (j ∷ js) → IsFalling j js
  falls_on j [] h = tt
  falls_on j (i ∷ is) h = (h.0, falls_on i is h.2)

  falls : (js : List ℕ) → IsBack ls js → IsFalling (length ls) js
  falls [] h = tt
  falls (j ∷ []) h = (h, tt)
  falls (j ∷ i ∷ is) h = (waits_within ls j i h.1, falls_on j (i ∷ is) h)

  chain_true : (js : List ℕ) → IsChain ls js → is_chain ls js ≡ true
  chain_true [] h = refl
  chain_true (j ∷ []) h = lt-ltb j (length ls) h
  chain_true (i ∷ j ∷ js) h =
      let waits = any_true (λ w. w == i) (λ w. w ≡ i) (waits_at ls j) (λ w e. eq-eqb w i e) h.1 in
      let first = and_from (nat_lt i j) (list_any (λ w. w == i) (waits_at ls j)) (lt-ltb i j h.0) waits in
      and_from (nat_lt i j && list_any (λ w. w == i) (waits_at ls j)) (is_chain ls (j ∷ js)) first (chain_true (j ∷ js) h.2)

  chain_from : (js : List ℕ) → is_chain ls js ≡ true → IsChain ls js
  chain_from [] h = tt
  chain_from (j ∷ []) h = ltb-true j (length ls) h
  chain_from (i ∷ j ∷ js) h =
      let p = and_parts (nat_lt i j && list_any (λ w. w == i) (waits_at ls j)) (is_chain ls (j ∷ js)) h in
      let q = and_parts (nat_lt i j) (list_any (λ w. w == i) (waits_at ls j)) p.0 in
      (ltb-true i j q.0, any_from (λ w. w == i) (λ w. w ≡ i) (waits_at ls j) (λ w e. eqb-true w i e) q.1, chain_from (j ∷ js) p.1)

  one_ahead : (js ks : List ℕ) → is_ahead ls js ks ≡ false → is_ahead ls ks js ≡ false → js ≡ ks
  one_ahead js ks a b =
      let p = or_parts (nat_lt (weight ls ks) (weight ls js)) (weight ls js == weight ls ks && is_before (reverse js) (reverse ks)) a in
      let q = or_parts (nat_lt (weight ls js) (weight ls ks)) (weight ls ks == weight ls js && is_before (reverse ks) (reverse js)) b in
      let less = ltb-false (weight ls ks) (weight ls js) p.0 in
      let more = ltb-false (weight ls js) (weight ls ks) q.0 in
      let same : weight ls js ≡ weight ls ks = omega (arith, less, more) in
      let back = alike (reverse js) (reverse ks) (rest_false (weight ls js) (weight ls ks) (is_before (reverse js) (reverse ks)) same p.1)
      (rest_false (weight ls ks) (weight ls js) (is_before (reverse ks) (reverse js)) (sym same) q.1) in
      sym (reverse-reverse js) ∙ ap (λ (xs : List ℕ). reverse xs) back ∙ reverse-reverse ks

  module _ (c : Chain) (cert : Certifies ls c) (named : IsNamed ls c) where
    none_ahead : (js : List ℕ) → IsChain ls js → is_ahead ls js c.jobs ≡ false
    none_ahead js chain =
        let light : weight ls js ≤ weight ls c.jobs = omega (arith, heaviest ls c cert js chain, cert.fuel) in
        or_from (nat_lt (weight ls c.jobs) (weight ls js)) (weight ls js == weight ls c.jobs && is_before (reverse js) (reverse c.jobs)) (le-ltb (weight ls c.jobs) (weight ls js) light)
        (elim (cases_eq (weight ls js) (weight ls c.jobs)) [
          | inl e ↦ and_right (weight ls js == weight ls c.jobs) (is_before (reverse js) (reverse c.jobs)) (named js chain (e ∙ cert.fuel))
          | inr ne ↦ and_left (weight ls js == weight ls c.jobs) (is_before (reverse js) (reverse c.jobs)) (ne_eqb (weight ls js) (weight ls c.jobs) ne)
        ])

    among : Any (λ js. js ≡ c.jobs) (chains ls)
    among = any_filter (is_chain ls) (rising (length ls)) c.jobs (chain_true c.jobs cert.chain)
        (subst (λ z. Any (λ js. js ≡ z) (rising (length ls))) (reverse-reverse c.jobs) (in_rising (length ls) (reverse c.jobs) (falls (reverse c.jobs) (turned ls c.jobs cert.chain))))

    pub path_is : c.jobs ≡ path_of ls
    unfolding path_of
    path_is = sym (ap (λ o. unwrap_or o []) (first_is (is_ahead ls) c.jobs (chains ls) (λ js a b. one_ahead js c.jobs a b)
        (each_filter (is_chain ls) (λ js. is_ahead ls js c.jobs ≡ false) (rising (length ls)) (λ js t. none_ahead js (chain_from js t))) among))

    pub path_weighs : c.fuel ≡ weight ls (path_of ls)
    path_weighs = sym cert.fuel ∙ ap (λ js. weight ls js) path_is

  -- ---- list scheduling

  module _ (n : ℕ) where
    ended_true : (past : List Slot) (moment job : ℕ) → HasEnded ls past moment job → has_ended ls past moment job ≡ true
    ended_true past moment job h = any_true (λ s. s.job == job && nat_le (end_of ls s) moment) (λ s. (s.job ≡ job) × (end_of ls s ≤ moment)) past
        (λ s k. and_from (s.job == job) (nat_le (end_of ls s) moment) (eq-eqb s.job job k.0) (le-leb (end_of ls s) moment k.1)) h

    ended_from : (past : List Slot) (moment job : ℕ) → has_ended ls past moment job ≡ true → HasEnded ls past moment job
    ended_from past moment job h = any_from (λ s. s.job == job && nat_le (end_of ls s) moment) (λ s. (s.job ≡ job) × (end_of ls s ≤ moment)) past
        (λ s k. let p = and_parts (s.job == job) (nat_le (end_of ls s) moment) k in (eqb-true s.job job p.0, leb-true (end_of ls s) moment p.1)) h

    abbrev is_fresh : Slot → Slot → Bool
    is_fresh s p = not (p.job == s.job)

    abbrev is_free : Slot → Slot → Bool
    is_free s p = not (p.agent == s.agent) || nat_le (end_of ls p) s.start

    abbrev Frees : Slot → Slot → Type 0
    Frees s p = p.agent ≡ s.agent → end_of ls p ≤ s.start

    free_true : (s p : Slot) → Frees s p → is_free s p ≡ true
    free_true s p h = elim (cases_eq p.agent s.agent) [
      | inl e ↦ or_right (not (p.agent == s.agent)) (nat_le (end_of ls p) s.start) (le-leb (end_of ls p) s.start (h e))
      | inr ne ↦ or_left (not (p.agent == s.agent)) (nat_le (end_of ls p) s.start) (not_from_false (p.agent == s.agent) (ne_eqb p.agent s.agent ne))
    ]

    free_from : (s p : Slot) → is_free s p ≡ true → Frees s p
    free_from s p h e = elim (or_cases (not (p.agent == s.agent)) (nat_le (end_of ls p) s.start) h) [
      | inl t ↦ absurd (eqb-false p.agent s.agent (not-true (p.agent == s.agent) t) e)
      | inr t ↦ leb-true (end_of ls p) s.start t
    ]

    module _ (past : List Slot) (s : Slot) where
      abbrev frees : Bool
      frees = list_all (is_free s) past

      abbrev waits : Bool
      waits = list_all (has_ended ls past s.start) (waits_at ls s.job)

      abbrev fresh : Bool
      fresh = list_all (is_fresh s) past

      abbrev known : Bool
      known = nat_lt s.job (length ls) && nat_lt s.agent n

      can_true : CanStart ls n past s → can_start ls n past s ≡ true
      can_true can =
          let a : known ≡ true = and_from (nat_lt s.job (length ls)) (nat_lt s.agent n) (lt-ltb s.job (length ls) can.known.0) (lt-ltb s.agent n can.known.1) in
          let b : fresh ≡ true = each_true (is_fresh s) (λ p. p.job ≢ s.job) past (λ p ne. not_from_false (p.job == s.job) (ne_eqb p.job s.job ne)) can.fresh in
          let c : waits ≡ true = each_true (has_ended ls past s.start) (HasEnded ls past s.start) (waits_at ls s.job) (λ w h. ended_true past s.start w h) can.waits in
          let d : frees ≡ true = each_true (is_free s) (Frees s) past (λ p h. free_true s p h) can.free in
          and_from (known && fresh && waits) frees (and_from (known && fresh) waits (and_from known fresh a b) c) d

      can_from : can_start ls n past s ≡ true → CanStart ls n past s
      can_from h =
          let d = and_parts (known && fresh && waits) frees h in
          let c = and_parts (known && fresh) waits d.0 in
          let b = and_parts known fresh c.0 in
          let a = and_parts (nat_lt s.job (length ls)) (nat_lt s.agent n) b.0 in
          record {
            known = (ltb-true s.job (length ls) a.0, ltb-true s.agent n a.1);
            fresh = each_from (is_fresh s) (λ p. p.job ≢ s.job) past (λ p t. eqb-false p.job s.job (not-true (p.job == s.job) t)) b.1;
            waits = each_from (has_ended ls past s.start) (HasEnded ls past s.start) (waits_at ls s.job) (λ w t. ended_from past s.start w t) c.1;
            free = each_from (is_free s) (Frees s) past (λ p t. free_from s p t) d.1;
          }

    -- of two slots one is the sooner
    one_sooner : (s t : Slot) → is_sooner ls s t ≡ false → is_sooner ls t s ≡ false → s ≡ t
    one_sooner s t a b =
        let p = or_parts (nat_lt s.start t.start) (s.start == t.start && (nat_lt s.job t.job || s.job == t.job && nat_lt s.agent t.agent)) a in
        let q = or_parts (nat_lt t.start s.start) (t.start == s.start && (nat_lt t.job s.job || t.job == s.job && nat_lt t.agent s.agent)) b in
        let starts : s.start ≡ t.start = omega (arith, ltb-false s.start t.start p.0, ltb-false t.start s.start q.0) in
        let p2 = or_parts (nat_lt s.job t.job) (s.job == t.job && nat_lt s.agent t.agent) (rest_false s.start t.start (nat_lt s.job t.job || s.job == t.job && nat_lt s.agent t.agent) starts p.1) in
        let q2 = or_parts (nat_lt t.job s.job) (t.job == s.job && nat_lt t.agent s.agent) (rest_false t.start s.start (nat_lt t.job s.job || t.job == s.job && nat_lt t.agent s.agent) (sym starts) q.1) in
        let jobs : s.job ≡ t.job = omega (arith, ltb-false s.job t.job p2.0, ltb-false t.job s.job q2.0) in
        let p3 = rest_false s.job t.job (nat_lt s.agent t.agent) jobs p2.1 in
        let q3 = rest_false t.job s.job (nat_lt t.agent s.agent) (sym jobs) q2.1 in
        let agents : s.agent ≡ t.agent = omega (arith, ltb-false s.agent t.agent p3, ltb-false t.agent s.agent q3) in
        same_slot ls n s t starts jobs agents

    abbrev later_agent : Slot → Slot → Bool
    later_agent s t = t.job == s.job && nat_lt t.agent s.agent

    abbrev later_job : Slot → Slot → Bool
    later_job s t = nat_lt t.job s.job || later_agent s t

    not_sooner : (s t : Slot) → ComesFirst ls s t → is_sooner ls t s ≡ false
    not_sooner s t h = or_from (nat_lt t.start s.start) (t.start == s.start && later_job s t) (le-ltb t.start s.start (start h)) (rest h)
      where
        start : ComesFirst ls s t → s.start ≤ t.start
        start (inl lt) = omega (arith, lt)
        start (inr e) = omega (arith, e.0)

        ne_lt : (x y : ℕ) → x < y → (y == x) ≡ false
        ne_lt x y lt = ne_eqb y x (λ e. absurd (omega (arith, lt, e)))

        rest : ComesFirst ls s t → (t.start == s.start && later_job s t) ≡ false
        rest (inl lt) = and_left (t.start == s.start) (later_job s t) (ne_lt s.start t.start lt)
        rest (inr (e, inl lt)) = and_right (t.start == s.start) (later_job s t)
            (or_from (nat_lt t.job s.job) (later_agent s t) (le-ltb t.job s.job (omega (arith, lt))) (and_left (t.job == s.job) (nat_lt t.agent s.agent) (ne_lt s.job t.job lt)))
        rest (inr (e, inr f)) = and_right (t.start == s.start) (later_job s t)
            (or_from (nat_lt t.job s.job) (later_agent s t) (le-ltb t.job s.job (omega (arith, f.0))) (and_right (t.job == s.job) (nat_lt t.agent s.agent) (le-ltb t.agent s.agent f.1)))

    abbrev slot : ℕ → ℕ → ℕ → Slot
    slot x j a = record { job = j; agent = a; start = x }

    in_slots : (moment : ℕ) (s : Slot) → s.start ≤ moment → s.job < length ls → s.agent < n → Any (λ t. t ≡ s) (slots_until ls n moment)
    in_slots moment s start job agent =
        any_flat (λ x. flat_map (λ j. map (slot x j) (range_with_len 0 n)) (range_with_len 0 (length ls))) (λ t. t ≡ s) (range_with_len 0 (moment + 1)) s.start (any_range 0 (moment + 1) s.start (omega arith) (omega (arith, start)))
        (any_flat (λ j. map (slot s.start j) (range_with_len 0 n)) (λ t. t ≡ s) (range_with_len 0 (length ls)) s.job (any_range 0 (length ls) s.job (omega arith) (omega (arith, job)))
        (any_mapped (slot s.start s.job) (range_with_len 0 n) s.agent (any_range 0 n s.agent (omega arith) (omega (arith, agent)))))

    next_is : (past : List Slot) (s : Slot) → IsNext ls n past s → next_of ls n past ≡ Some s
    unfolding next_of
    next_is past s next = first_is (is_sooner ls) s (filter (can_start ls n past) (slots_until ls n (span ls past))) (λ t a b. one_sooner t s a b)
        (each_filter (can_start ls n past) (λ t. is_sooner ls t s ≡ false) (slots_until ls n (span ls past)) (λ t h. not_sooner s t (next.first t (can_from past t h))))
        (any_filter (can_start ls n past) (slots_until ls n (span ls past)) s (can_true past s next.can) (in_slots (span ls past) s (start_within ls n past s next) next.can.known.0 next.can.known.1))

    next_none : (past : List Slot) → ((j : ℕ) → j < length ls → Any (λ p. p.job ≡ j) past) → next_of ls n past ≡ None
    unfolding next_of
    next_none past all = none_first (is_sooner ls) (filter (can_start ls n past) (slots_until ls n (span ls past)))
        (each_filter (can_start ls n past) (λ t. ⊥) (slots_until ls n (span ls past)) (λ t h. none_left ls n past t all (can_from past t h)))

    behind_is : (k : ℕ) (past ss : List Slot) → length ss ≤ k → ((j : ℕ) → j < length ls → Any (λ p. p.job ≡ j) (past ++ ss)) → AreNext ls n past ss → slots_behind ls n k past ≡ past ++ ss
    unfolding slots_behind
    behind_is zero past [] few all next = sym (append-nil past)
    behind_is zero past (s ∷ ss) few all next = absurd (omega (arith, few))
    behind_is (suc k) past [] few all next =
        ap (λ o. option_map_or (λ s. slots_behind ls n k (past ++ s ∷ [])) o past) (next_none past (λ j lt. subst (Any (λ p. p.job ≡ j)) (append-nil past) (all j lt))) ∙ sym (append-nil past)
    behind_is (suc k) past (s ∷ ss) few all next =
        ap (λ o. option_map_or (λ s. slots_behind ls n k (past ++ s ∷ [])) o past) (next_is past s next.0)
        ∙ behind_is k (past ++ s ∷ []) ss (omega (arith, few)) (λ j lt. subst (Any (λ p. p.job ≡ j)) (sym (append_assoc past (s ∷ []) ss)) (all j lt)) next.1
        ∙ append_assoc past (s ∷ []) ss

    pub slots_are : (ss : List Slot) → IsGreedy ls n ss → ss ≡ slots_of ls n
    unfolding slots_of
    slots_are ss greedy = sym (behind_is (length ls) [] ss (slots_few ls n ss greedy.next) greedy.all greedy.next)
