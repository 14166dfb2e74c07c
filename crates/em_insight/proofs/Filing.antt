-- Where jobs stand, as one of them is filed anew.
use Rattle.std.proofs.Common.{◌≡◌, ◌≢◌, ℕ, zero, suc, ◌+◌, ◌<◌, ◌≤◌, ◌==◌, ◌&&◌, nat_lt, Bool, true, false, cond, ◌⊎◌, inl, inr, List, [], ◌∷◌, ◌++◌, length, get_or, take, drop, set, slice_get, Option, Some, None, refl, sym, ap, ap₂, subst, ◌∙◌, arith}
use Rattle.std.specs.Prelude.{max}
use Rattle.std.specs.Ordering.{ordering_then, nat_cmp, is_eq, is_gt}
use Rattle.std.specs.declared.cmp.Ordering.TheVariants.{Equal, Greater}
use Rattle.std.specs.BTreeSet.{BTreeSet, contains, Updates}
use Rattle.std.specs.BTreeMap.{is_at}
use Rattle.std.specs.List.{list_any}
use Rattle.std.specs.Cmp.{tied_then}
use Rattle.std.proofs.lemmas.Bool.{cases_lt, cases_eq, lt-ltb, le-ltb, eq-eqb, eqb-true, ne_eqb}
use Rattle.std.proofs.lemmas.Option.{slice_get-get_or}
use Rattle.std.specs.Option.{option_map_or}
use Rattle.std.proofs.lemmas.List.{take_more, get_or-set_same, get_or-set_other}
use Rattle.em_report.specs.declared.report.ReportLine.{ReportLine}
use Rattle.em_insight.specs.declared.queue.Place.{Place}
use Rattle.em_insight.specs.declared.queue.Place.TheVariants.{Held, Coming, Ready, Started}
use Rattle.em_insight.specs.declared.queue.Queue.{Queue}
use Rattle.em_insight.specs.Each.{Any}
use Rattle.em_insight.specs.Jobs.{waits_at}
use Rattle.em_insight.specs.Queues.{HasStarted, IsUnstarted, IsDue, FiledAs, LooseAs, is_coming, is_ready, pairs, SameStarts, SameReady, HasCome, AreLater, IsFiled, IsLoose, IsSynced}
use Rattle.em_insight.proofs.Lists.{each_map, each_join, any_map, any_left, any_last, any_split}

-- ---- lists

pub get_set_same : {A : Type 0} (xs : List A) (j : ℕ) (x : A) → j < length xs → slice_get (set xs j x) j ≡ Some x
get_set_same [] j x h = absurd (omega (arith, h))
get_set_same (y ∷ ys) zero x h = refl
get_set_same (y ∷ ys) (suc j) x h = get_set_same ys j x (omega (arith, h))

pub get_set_other : {A : Type 0} (xs : List A) (j k : ℕ) (x : A) → k ≢ j → slice_get (set xs j x) k ≡ slice_get xs k
get_set_other [] j k x h = refl
get_set_other (y ∷ ys) zero zero x h = absurd (h refl)
get_set_other (y ∷ ys) zero (suc k) x h = refl
get_set_other (y ∷ ys) (suc j) zero x h = refl
get_set_other (y ∷ ys) (suc j) (suc k) x h = get_set_other ys j k x (λ e. h (ap suc e))

-- ---- what is due

pub due_more : (ps : List Place) (ws : List ℕ) (i r end : ℕ) → i < length ws → IsDue ps (take i ws) r → HasStarted ps end (get_or ws i 0) → IsDue ps (take (i + 1) ws) (max r end)
due_more ps ws i r end lt h at = subst (λ vs. IsDue ps vs (max r end)) (sym (take_more ws i 0 lt)) (record {
  by = each_join (λ w. (e : ℕ) × HasStarted ps e w × (e ≤ max r end)) (take i ws) (get_or ws i 0)
      (each_map (λ w. (e : ℕ) × HasStarted ps e w × (e ≤ r)) (λ w. (e : ℕ) × HasStarted ps e w × (e ≤ max r end)) (take i ws) (λ w k. (k.0, k.1, omega (arith, k.2))) h.by)
      (end, at, omega arith);
  at = elim (cases_lt end r) [
    | inl less ↦ (let same : max r end ≡ r = omega (arith, less) in subst (λ z. (z ≡ 0) ⊎ Any (HasStarted ps z) (take i ws ++ get_or ws i 0 ∷ [])) (sym same) (old less h.at))
    | inr le ↦ (let same : max r end ≡ end = omega (arith, le) in subst (λ z. (z ≡ 0) ⊎ Any (HasStarted ps z) (take i ws ++ get_or ws i 0 ∷ [])) (sym same) (inr (any_last (HasStarted ps end) (take i ws) (get_or ws i 0) at)))
  ];
})
  where
    old : end < r → (r ≡ 0) ⊎ Any (HasStarted ps r) (take i ws) → (r ≡ 0) ⊎ Any (HasStarted ps r) (take i ws ++ get_or ws i 0 ∷ [])
    old less (inl z) = inl z
    old less (inr a) = inr (any_left (HasStarted ps r) (take i ws) (get_or ws i 0 ∷ []) a)

pub none_due : (ps : List Place) → IsDue ps [] 0
none_due ps = record { by = tt; at = inl refl }

pub due_same : (ps qs : List Place) (ws : List ℕ) (r : ℕ) → ((w e : ℕ) → HasStarted ps e w → HasStarted qs e w) → IsDue ps ws r → IsDue qs ws r
due_same ps qs ws r same h = record {
  by = each_map (λ w. (e : ℕ) × HasStarted ps e w × (e ≤ r)) (λ w. (e : ℕ) × HasStarted qs e w × (e ≤ r)) ws (λ w k. (k.0, same w k.0 k.1, k.2)) h.by;
  at = by h.at;
}
  where
    by : (r ≡ 0) ⊎ Any (HasStarted ps r) ws → (r ≡ 0) ⊎ Any (HasStarted qs r) ws
    by (inl z) = inl z
    by (inr a) = inr (any_map (HasStarted ps r) (HasStarted qs r) ws (λ w k. same w r k) a)

-- places of which the same have started, and lists that have what they had
pub filed_same : (ps qs : List Place) (held new : List (List ℕ)) (ws : List ℕ) (j : ℕ) (p : Place) → ((w e : ℕ) → HasStarted ps e w → HasStarted qs e w) → ((w e : ℕ) → HasStarted qs e w → HasStarted ps e w)
    → ((v : ℕ) → IsUnstarted ps v → Any (λ x. x ≡ j) (get_or held v []) → Any (λ x. x ≡ j) (get_or new v [])) → FiledAs ps held ws j p → FiledAs qs new ws j p
filed_same ps qs held new ws j (Held next due) to from kept h =
    (due_same ps qs (take next ws) due to h.0, (h.1.0, (λ e s. h.1.1 e (from (get_or ws next 0) e s)), kept (get_or ws next 0) h.1.1 h.1.2))
filed_same ps qs held new ws j (Coming due) to from kept h = due_same ps qs ws due to h
filed_same ps qs held new ws j (Ready due) to from kept h = due_same ps qs ws due to h
filed_same ps qs held new ws j (Started end) to from kept h = tt

pub loose_same : (ps qs : List Place) (ws : List ℕ) (p : Place) → ((w e : ℕ) → HasStarted ps e w → HasStarted qs e w) → LooseAs ps ws p → LooseAs qs ws p
loose_same ps qs ws (Held next due) to h = (due_same ps qs (take next ws) due to h.0, h.1)
loose_same ps qs ws (Coming due) to h = due_same ps qs ws due to h
loose_same ps qs ws (Ready due) to h = due_same ps qs ws due to h
loose_same ps qs ws (Started end) to h = tt

-- ---- sets

is_eq_nat : (a b : ℕ) → is_eq (nat_cmp a b) ≡ (a == b)
is_eq_nat a b = elim (cases_lt a b) [
  | inl lt ↦ (let t : nat_lt a b ≡ true = lt-ltb a b lt in let f : (a == b) ≡ false = ne_eqb a b (λ e. omega (arith, lt, e)) in rw (t, f) refl)
  | inr le ↦ (let t : nat_lt a b ≡ false = le-ltb a b le in rw t (by (a == b)))
]
  where
    by : (z : Bool) → is_eq (cond z Equal Greater) ≡ z
    by true = refl
    by false = refl

pub has_new : (s n : BTreeSet ℕ) (k : ℕ) (b : Bool) → Updates nat_cmp s n k b → (q : ℕ) → contains nat_cmp n q ≡ cond (k == q) b (contains nat_cmp s q)
has_new s n k b u q = u.0 q ∙ ap (λ z. cond z b (contains nat_cmp s q)) (is_eq_nat k q)

pub has_pair : (s n : BTreeSet (ℕ × ℕ)) (x y : ℕ) (b : Bool) → Updates pairs s n (x, y) b → (r j : ℕ) → contains pairs n (r, j) ≡ cond (x == r && y == j) b (contains pairs s (r, j))
has_pair s n x y b u r j =
    u.0 (r, j) ∙ ap (λ z. cond z b (contains pairs s (r, j))) (sym (tied_then (nat_cmp x r) (nat_cmp y j)) ∙ ap₂ (λ p q. p && q) (is_eq_nat x r) (is_eq_nat y j))

-- the first of the pairs has the least first number
pub least_pair : (x y r j : ℕ) → is_gt (pairs (x, y) (r, j)) ≡ false → x ≤ r
least_pair x y r j h = elim (cases_lt r x) [
  | inl lt ↦ absurd (let f : nat_lt x r ≡ false = le-ltb x r (omega (arith, lt)) in let g : (x == r) ≡ false = ne_eqb x r (λ e. omega (arith, lt, e)) in
      let top : nat_cmp x r ≡ Greater = rw (f, g) refl in
      let bad : is_gt (pairs (x, y) (r, j)) ≡ true = ap (λ o. is_gt (ordering_then o (nat_cmp y j))) top in cc)
  | inr le ↦ le
]

pub least_one : (x r : ℕ) → is_gt (nat_cmp x r) ≡ false → x ≤ r
least_one x r h = elim (cases_lt r x) [
  | inl lt ↦ absurd (let f : nat_lt x r ≡ false = le-ltb x r (omega (arith, lt)) in let g : (x == r) ≡ false = ne_eqb x r (λ e. omega (arith, lt, e)) in
      let top : nat_cmp x r ≡ Greater = rw (f, g) refl in
      let bad : is_gt (nat_cmp x r) ≡ true = ap is_gt top in cc)
  | inr le ↦ le
]

-- what the sets say of a place
pub coming_is : (r : ℕ) (o : Option Place) → is_coming r o ≡ true → o ≡ Some (Coming r)
coming_is r None h = absurd cc
coming_is r (Some (Held next due)) h = absurd cc
coming_is r (Some (Coming due)) h = ap (λ z. Some (Coming z)) (sym (eqb-true r due h))
coming_is r (Some (Ready due)) h = absurd cc
coming_is r (Some (Started end)) h = absurd cc

pub ready_is : (o : Option Place) → is_ready o ≡ true → (due : ℕ) × (o ≡ Some (Ready due))
ready_is None h = absurd cc
ready_is (Some (Held next due)) h = absurd cc
ready_is (Some (Coming due)) h = absurd cc
ready_is (Some (Ready due)) h = (due, refl)
ready_is (Some (Started end)) h = absurd cc

-- ---- one job is filed anew

abbrev pub is_quiet : Place → Bool
is_quiet (Started end) = false
is_quiet _ = true

pub same_place : (o : Option Place) (p q : Place) → o ≡ Some p → o ≡ Some q → p ≡ q
same_place o p q e f = some_is p q (sym e ∙ f)
  where
    some_is : (p q : Place) → Some p ≡ Some q → p ≡ q
    some_is p q e = cc

not_started : (p : Place) (e : ℕ) → is_quiet p ≡ true → p ≡ Started e → ⊥
not_started p e quiet is = let bad : is_quiet (Started e) ≡ true = subst (λ z. is_quiet z ≡ true) is quiet in cc

module _ (ps : List Place) (job : ℕ) (old p : Place) (at : slice_get ps job ≡ Some old) (quiet_old : is_quiet old ≡ true) (quiet : is_quiet p ≡ true) where
  pub starts_to : (w e : ℕ) → HasStarted ps e w → HasStarted (set ps job p) e w
  starts_to w e h = elim (cases_eq w job) [
    | inl is ↦ absurd (not_started old e quiet_old (same_place (slice_get ps job) old (Started e) at (subst (λ z. slice_get ps z ≡ Some (Started e)) is h)))
    | inr ne ↦ get_set_other ps job w p ne ∙ h
  ]

  pub starts_from : job < length ps → (w e : ℕ) → HasStarted (set ps job p) e w → HasStarted ps e w
  starts_from lt w e h = elim (cases_eq w job) [
    | inl is ↦ absurd (not_started p e quiet (same_place (slice_get (set ps job p) job) p (Started e) (get_set_same ps job p lt) (subst (λ z. slice_get (set ps job p) z ≡ Some (Started e)) is h)))
    | inr ne ↦ sym (get_set_other ps job w p ne) ∙ h
  ]

filed_loose : (ps : List Place) (held : List (List ℕ)) (ws : List ℕ) (j : ℕ) (p : Place) → FiledAs ps held ws j p → LooseAs ps ws p
filed_loose ps held ws j (Held next due) h = (h.0, omega (arith, h.1.0))
filed_loose ps held ws j (Coming due) h = h
filed_loose ps held ws j (Ready due) h = h
filed_loose ps held ws j (Started end) h = tt

pub loose_filed : (ps : List Place) (held : List (List ℕ)) (ws : List ℕ) (j : ℕ) (p : Place) → ((next due : ℕ) → p ≡ Held next due → ⊥) → LooseAs ps ws p → FiledAs ps held ws j p
loose_filed ps held ws j (Held next due) other h = absurd (other next due refl)
loose_filed ps held ws j (Coming due) other h = h
loose_filed ps held ws j (Ready due) other h = h
loose_filed ps held ws j (Started end) other h = tt

pub loose_of : (ls : List ReportLine) (q : Queue) (j : ℕ) → IsFiled ls q j → IsLoose ls q j
loose_of ls q j h p at = filed_loose q.places.items q.held.items (waits_at ls j) j p (h p at)

pub record Refiled (ls : List ReportLine) (q r : Queue) (job : ℕ) : Type 0 where
  pub filed : IsFiled ls r job
  pub others : (j : ℕ) → IsFiled ls q j → IsFiled ls r j
  pub loose : (j : ℕ) → IsLoose ls q j → IsLoose ls r j
  pub starts : SameStarts q r

pub refiled : (ls : List ReportLine) (q r : Queue) (job : ℕ) (old p : Place) → job < length q.places.items → slice_get q.places.items job ≡ Some old → is_quiet old ≡ true → is_quiet p ≡ true
    → r.places.items ≡ set q.places.items job p → ((v j : ℕ) → Any (λ x. x ≡ j) (get_or q.held.items v []) → Any (λ x. x ≡ j) (get_or r.held.items v []))
    → FiledAs q.places.items r.held.items (waits_at ls job) job p → Refiled ls q r job
refiled ls q r job old p lt at quiet_old quiet is kept new = record { filed = filed; others = others; loose = loose; starts = λ j e. (to j e, from j e) }
  where
    to : (w e : ℕ) → HasStarted q.places.items e w → HasStarted r.places.items e w
    to w e h = subst (λ ps. HasStarted ps e w) (sym is) (starts_to q.places.items job old p at quiet_old quiet w e h)

    from : (w e : ℕ) → HasStarted r.places.items e w → HasStarted q.places.items e w
    from w e h = starts_from q.places.items job old p at quiet_old quiet lt w e (subst (λ ps. HasStarted ps e w) is h)

    mine : slice_get r.places.items job ≡ Some p
    mine = ap (λ ps. slice_get ps job) is ∙ get_set_same q.places.items job p lt

    other : (j : ℕ) → j ≢ job → slice_get r.places.items j ≡ slice_get q.places.items j
    other j ne = ap (λ ps. slice_get ps j) is ∙ get_set_other q.places.items job j p ne

    filed : IsFiled ls r job
    filed x has = subst (FiledAs r.places.items r.held.items (waits_at ls job) job) (same_place (slice_get r.places.items job) p x mine has)
        (filed_same q.places.items r.places.items r.held.items r.held.items (waits_at ls job) job p to from (λ v u a. a) new)

    others : (j : ℕ) → IsFiled ls q j → IsFiled ls r j
    others j h = elim (cases_eq j job) [
      | inl e ↦ subst (IsFiled ls r) (sym e) filed
      | inr ne ↦ λ x has. filed_same q.places.items r.places.items q.held.items r.held.items (waits_at ls j) j x to from (λ v u a. kept v j a) (h x (sym (other j ne) ∙ has))
    ]

    loose : (j : ℕ) → IsLoose ls q j → IsLoose ls r j
    loose j h = elim (cases_eq j job) [
      | inl e ↦ subst (IsLoose ls r) (sym e) (loose_of ls r job filed)
      | inr ne ↦ λ x has. loose_same q.places.items r.places.items (waits_at ls j) x to (h x (sym (other j ne) ∙ has))
    ]

length_set : {A : Type 0} (xs : List A) (i : ℕ) (x : A) → length (set xs i x) ≡ length xs
length_set [] i x = refl
length_set (y ∷ ys) zero x = refl
length_set (y ∷ ys) (suc i) x = ap suc (length_set ys i x)

-- the sets, as a job comes
pub synced_coming : (ls : List ReportLine) (q r : Queue) (job next due end : ℕ) → IsSynced ls q → job < length ls → slice_get q.places.items job ≡ Some (Held next due) → r.places.items ≡ set q.places.items job (Coming end)
    → r.held.items ≡ q.held.items → r.ready ≡ q.ready → Updates pairs q.coming r.coming (end, job) true → IsSynced ls r
synced_coming ls q r job next due end s lt at is held ready up = record {
  places = ap length is ∙ length_set q.places.items job (Coming end) ∙ s.places;
  helds = ap length held ∙ s.helds;
  within = λ v j a. s.within v j (subst (λ hs. Any (λ x. x ≡ j) (get_or hs v [])) held a);
  coming = coming;
  ready = λ j. ap (λ z. contains nat_cmp z j) ready ∙ s.ready j ∙ same j;
}
  where
    size : job < length q.places.items
    size = omega (arith, lt, s.places)

    mine : slice_get r.places.items job ≡ Some (Coming end)
    mine = ap (λ ps. slice_get ps job) is ∙ get_set_same q.places.items job (Coming end) size

    other : (j : ℕ) → j ≢ job → slice_get r.places.items j ≡ slice_get q.places.items j
    other j ne = ap (λ ps. slice_get ps j) is ∙ get_set_other q.places.items job j (Coming end) ne

    same : (j : ℕ) → is_ready (slice_get q.places.items j) ≡ is_ready (slice_get r.places.items j)
    same j = elim (cases_eq j job) [
      | inl e ↦ subst (λ z. is_ready (slice_get q.places.items z) ≡ is_ready (slice_get r.places.items z)) (sym e) (ap is_ready at ∙ sym (ap is_ready mine))
      | inr ne ↦ ap is_ready (sym (other j ne))
    ]

    coming : (x j : ℕ) → contains pairs r.coming (x, j) ≡ is_coming x (slice_get r.places.items j)
    coming x j = has_pair q.coming r.coming end job true up x j ∙ elim (cases_eq j job) [
      | inl e ↦
          let old : contains pairs q.coming (x, j) ≡ false = s.coming x j ∙ ap (λ z. is_coming x (slice_get q.places.items z)) e ∙ ap (is_coming x) at in
          let new : is_coming x (slice_get r.places.items j) ≡ (x == end) = ap (λ z. is_coming x (slice_get r.places.items z)) e ∙ ap (is_coming x) mine in
          let tied : (job == j) ≡ true = eq-eqb job j (sym e) in
          ap (λ z. cond (end == x && job == j) true z) old ∙ ap (λ z. cond (end == x && z) true false) tied ∙ by (end == x) ∙ flip end x ∙ sym new
      | inr ne ↦
          let apart : (job == j) ≡ false = ne_eqb job j (λ e. ne (sym e)) in
          ap (λ z. cond (end == x && z) true (contains pairs q.coming (x, j))) apart ∙ left (end == x) (contains pairs q.coming (x, j)) ∙ s.coming x j ∙ ap (is_coming x) (sym (other j ne))
    ]
      where
        by : (z : Bool) → cond (z && true) true false ≡ z
        by true = refl
        by false = refl

        left : (z c : Bool) → cond (z && false) true c ≡ c
        left true c = refl
        left false c = refl

        flip : (a b : ℕ) → (a == b) ≡ (b == a)
        flip a b = elim (cases_eq a b) [
          | inl e ↦ eq-eqb a b e ∙ sym (eq-eqb b a (sym e))
          | inr ne ↦ ne_eqb a b ne ∙ sym (ne_eqb b a (λ e. ne (sym e)))
        ]

-- and as it is held up
pub synced_held : (ls : List ReportLine) (q r : Queue) (job next due : ℕ) (nextly end v : ℕ) → IsSynced ls q → job < length ls → slice_get q.places.items job ≡ Some (Held next due)
    → r.places.items ≡ set q.places.items job (Held nextly end) → r.held.items ≡ set q.held.items v (get_or q.held.items v [] ++ job ∷ []) → v < length ls → r.ready ≡ q.ready → r.coming ≡ q.coming → IsSynced ls r
synced_held ls q r job next due nextly end v s lt at is held small ready coming = record {
  places = ap length is ∙ length_set q.places.items job (Held nextly end) ∙ s.places;
  helds = ap length held ∙ length_set q.held.items v (get_or q.held.items v [] ++ job ∷ []) ∙ s.helds;
  within = within;
  coming = λ x j. ap (λ z. contains pairs z (x, j)) coming ∙ s.coming x j ∙ same (is_coming x) j (ap (is_coming x) at ∙ sym (ap (is_coming x) mine));
  ready = λ j. ap (λ z. contains nat_cmp z j) ready ∙ s.ready j ∙ same is_ready j (ap is_ready at ∙ sym (ap is_ready mine));
}
  where
    size : job < length q.places.items
    size = omega (arith, lt, s.places)

    mine : slice_get r.places.items job ≡ Some (Held nextly end)
    mine = ap (λ ps. slice_get ps job) is ∙ get_set_same q.places.items job (Held nextly end) size

    other : (j : ℕ) → j ≢ job → slice_get r.places.items j ≡ slice_get q.places.items j
    other j ne = ap (λ ps. slice_get ps j) is ∙ get_set_other q.places.items job j (Held nextly end) ne

    same : (f : Option Place → Bool) (j : ℕ) → f (slice_get q.places.items job) ≡ f (slice_get r.places.items job) → f (slice_get q.places.items j) ≡ f (slice_get r.places.items j)
    same f j h = elim (cases_eq j job) [
      | inl e ↦ subst (λ z. f (slice_get q.places.items z) ≡ f (slice_get r.places.items z)) (sym e) h
      | inr ne ↦ ap f (sym (other j ne))
    ]

    within : (u j : ℕ) → Any (λ x. x ≡ j) (get_or r.held.items u []) → j < length ls
    within u j a = elim (cases_eq u v) [
      | inl e ↦ split (any_split (λ x. x ≡ j) (get_or q.held.items v []) job (subst (Any (λ x. x ≡ j)) (ap (λ hs. get_or hs u []) held ∙ ap (λ z. get_or (set q.held.items v (get_or q.held.items v [] ++ job ∷ [])) z []) e ∙ get_or-set_same q.held.items v (get_or q.held.items v [] ++ job ∷ []) [] (omega (arith, small, s.helds))) a))
      | inr ne ↦ s.within u j (subst (Any (λ x. x ≡ j)) (ap (λ hs. get_or hs u []) held ∙ get_or-set_other q.held.items v u (get_or q.held.items v [] ++ job ∷ []) [] ne) a)
    ]
      where
        split : Any (λ x. x ≡ j) (get_or q.held.items v []) ⊎ (job ≡ j) → j < length ls
        split (inl b) = s.within v j b
        split (inr e) = omega (arith, lt, e)

-- who was held up by a job is, and so is one more
pub held_more : (held : List (List ℕ)) (v job u j : ℕ) → v < length held → Any (λ x. x ≡ j) (get_or held u []) → Any (λ x. x ≡ j) (get_or (set held v (get_or held v [] ++ job ∷ [])) u [])
held_more held v job u j lt a = elim (cases_eq u v) [
  | inl e ↦ subst (λ z. Any (λ x. x ≡ j) (get_or (set held v (get_or held v [] ++ job ∷ [])) z [])) (sym e)
      (subst (Any (λ x. x ≡ j)) (sym (get_or-set_same held v (get_or held v [] ++ job ∷ []) [] lt)) (any_left (λ x. x ≡ j) (get_or held v []) (job ∷ []) (subst (λ z. Any (λ x. x ≡ j) (get_or held z [])) e a)))
  | inr ne ↦ subst (Any (λ x. x ≡ j)) (sym (get_or-set_other held v u (get_or held v [] ++ job ∷ []) [] ne)) a
]

pub held_new : (held : List (List ℕ)) (v job : ℕ) → v < length held → Any (λ x. x ≡ job) (get_or (set held v (get_or held v [] ++ job ∷ [])) v [])
held_new held v job lt = subst (Any (λ x. x ≡ job)) (sym (get_or-set_same held v (get_or held v [] ++ job ∷ []) [] lt)) (any_last (λ x. x ≡ job) (get_or held v []) job refl)

-- ---- a job is ready, and starts

cond_out : (z : Bool) (c d : Bool) → c ≡ d → cond (z && false) d c ≡ d
cond_out true c d e = e
cond_out false c d e = e

cond_far : (z b c : Bool) → cond (z && false) b c ≡ c
cond_far true b c = refl
cond_far false b c = refl

cond_near : (z c : Bool) → (z ≡ false → c ≡ false) → cond (z && true) false c ≡ false
cond_near true c h = refl
cond_near false c h = h refl

pub synced_ready : (ls : List ReportLine) (q r : Queue) (job due : ℕ) → IsSynced ls q → slice_get q.places.items job ≡ Some (Coming due) → job < length q.places.items → r.places.items ≡ set q.places.items job (Ready due)
    → r.held.items ≡ q.held.items → Updates pairs q.coming r.coming (due, job) false → Updates nat_cmp q.ready r.ready job true → IsSynced ls r
synced_ready ls q r job due s at size is held taken added = record {
  places = ap length is ∙ length_set q.places.items job (Ready due) ∙ s.places;
  helds = ap length held ∙ s.helds;
  within = λ v j a. s.within v j (subst (λ hs. Any (λ x. x ≡ j) (get_or hs v [])) held a);
  coming = coming;
  ready = ready;
}
  where
    mine : slice_get r.places.items job ≡ Some (Ready due)
    mine = ap (λ ps. slice_get ps job) is ∙ get_set_same q.places.items job (Ready due) size

    other : (j : ℕ) → j ≢ job → slice_get r.places.items j ≡ slice_get q.places.items j
    other j ne = ap (λ ps. slice_get ps j) is ∙ get_set_other q.places.items job j (Ready due) ne

    ready : (j : ℕ) → contains nat_cmp r.ready j ≡ is_ready (slice_get r.places.items j)
    ready j = has_new q.ready r.ready job true added j ∙ elim (cases_eq j job) [
      | inl e ↦ (let t : (job == j) ≡ true = eq-eqb job j (sym e) in ap (λ z. cond z true (contains nat_cmp q.ready j)) t ∙ sym (ap (λ z. is_ready (slice_get r.places.items z)) e ∙ ap is_ready mine))
      | inr ne ↦ (let f : (job == j) ≡ false = ne_eqb job j (λ e. ne (sym e)) in ap (λ z. cond z true (contains nat_cmp q.ready j)) f ∙ s.ready j ∙ ap is_ready (sym (other j ne)))
    ]

    coming : (x j : ℕ) → contains pairs r.coming (x, j) ≡ is_coming x (slice_get r.places.items j)
    coming x j = has_pair q.coming r.coming due job false taken x j ∙ elim (cases_eq j job) [
      | inl e ↦
          let t : (job == j) ≡ true = eq-eqb job j (sym e) in
          let old : contains pairs q.coming (x, j) ≡ (x == due) = s.coming x j ∙ ap (λ z. is_coming x (slice_get q.places.items z)) e ∙ ap (is_coming x) at in
          ap (λ z. cond (due == x && z) false (contains pairs q.coming (x, j))) t ∙ cond_near (due == x) (contains pairs q.coming (x, j)) (λ f. old ∙ flip x due f) ∙ sym (ap (λ z. is_coming x (slice_get r.places.items z)) e ∙ ap (is_coming x) mine)
      | inr ne ↦
          let f : (job == j) ≡ false = ne_eqb job j (λ e. ne (sym e)) in
          ap (λ z. cond (due == x && z) false (contains pairs q.coming (x, j))) f ∙ cond_far (due == x) false (contains pairs q.coming (x, j)) ∙ s.coming x j ∙ ap (is_coming x) (sym (other j ne))
    ]
      where
        flip : (a b : ℕ) → (b == a) ≡ false → (a == b) ≡ false
        flip a b f = ne_eqb a b (λ e. let t : (b == a) ≡ true = eq-eqb b a (sym e) in let bad : true ≡ false = sym t ∙ f in absurd cc)

pub synced_started : (ls : List ReportLine) (q r : Queue) (job due end : ℕ) → IsSynced ls q → slice_get q.places.items job ≡ Some (Ready due) → r.places.items ≡ set q.places.items job (Started end)
    → r.held.items ≡ q.held.items → r.coming ≡ q.coming → Updates nat_cmp q.ready r.ready job false → IsSynced ls r
synced_started ls q r job due end s at is held coming taken = record {
  places = ap length is ∙ length_set q.places.items job (Started end) ∙ s.places;
  helds = ap length held ∙ s.helds;
  within = λ v j a. s.within v j (subst (λ hs. Any (λ x. x ≡ j) (get_or hs v [])) held a);
  coming = λ x j. ap (λ z. contains pairs z (x, j)) coming ∙ s.coming x j ∙ same x j;
  ready = ready;
}
  where
    size : job < length q.places.items
    size = by q.places.items job at
      where
        by : (ps : List Place) (j : ℕ) → slice_get ps j ≡ Some (Ready due) → j < length ps
        by [] j e = absurd cc
        by (p ∷ ps) zero e = omega arith
        by (p ∷ ps) (suc j) e = omega (arith, by ps j e)

    mine : slice_get r.places.items job ≡ Some (Started end)
    mine = ap (λ ps. slice_get ps job) is ∙ get_set_same q.places.items job (Started end) size

    other : (j : ℕ) → j ≢ job → slice_get r.places.items j ≡ slice_get q.places.items j
    other j ne = ap (λ ps. slice_get ps j) is ∙ get_set_other q.places.items job j (Started end) ne

    same : (x j : ℕ) → is_coming x (slice_get q.places.items j) ≡ is_coming x (slice_get r.places.items j)
    same x j = elim (cases_eq j job) [
      | inl e ↦ subst (λ z. is_coming x (slice_get q.places.items z) ≡ is_coming x (slice_get r.places.items z)) (sym e) (ap (is_coming x) at ∙ sym (ap (is_coming x) mine))
      | inr ne ↦ ap (is_coming x) (sym (other j ne))
    ]

    ready : (j : ℕ) → contains nat_cmp r.ready j ≡ is_ready (slice_get r.places.items j)
    ready j = has_new q.ready r.ready job false taken j ∙ elim (cases_eq j job) [
      | inl e ↦ (let t : (job == j) ≡ true = eq-eqb job j (sym e) in ap (λ z. cond z false (contains nat_cmp q.ready j)) t ∙ sym (ap (λ z. is_ready (slice_get r.places.items z)) e ∙ ap is_ready mine))
      | inr ne ↦ (let f : (job == j) ≡ false = ne_eqb job j (λ e. ne (sym e)) in ap (λ z. cond z false (contains nat_cmp q.ready j)) f ∙ s.ready j ∙ ap is_ready (sym (other j ne)))
    ]

module _ (ls : List ReportLine) (q r : Queue) (k due end : ℕ) (at : slice_get q.places.items k ≡ Some (Ready due)) (size : k < length q.places.items) (is : r.places.items ≡ set q.places.items k (Started end)) (held : r.held.items ≡ q.held.items) where
  start_to : (w e : ℕ) → HasStarted q.places.items e w → HasStarted r.places.items e w
  start_to w e h = elim (cases_eq w k) [
    | inl same ↦ absurd (let bad : Ready due ≡ Started e = same_place (slice_get q.places.items k) (Ready due) (Started e) at (subst (λ z. slice_get q.places.items z ≡ Some (Started e)) same h) in cc)
    | inr ne ↦ ap (λ ps. slice_get ps w) is ∙ get_set_other q.places.items k w (Started end) ne ∙ h
  ]

  pub start_mine : HasStarted r.places.items end k
  start_mine = ap (λ ps. slice_get ps k) is ∙ get_set_same q.places.items k (Started end) size

  start_other : (j : ℕ) → j ≢ k → slice_get r.places.items j ≡ slice_get q.places.items j
  start_other j ne = ap (λ ps. slice_get ps j) is ∙ get_set_other q.places.items k j (Started end) ne

  pub start_loose : ((j : ℕ) → IsFiled ls q j) → (j : ℕ) → IsLoose ls r j
  start_loose filed j p h = elim (cases_eq j k) [
    | inl e ↦ subst (LooseAs r.places.items (waits_at ls j)) (same_place (slice_get r.places.items j) (Started end) p (ap (λ z. slice_get r.places.items z) e ∙ start_mine) h) tt
    | inr ne ↦ loose_same q.places.items r.places.items (waits_at ls j) p start_to (loose_of ls q j (filed j) p (sym (start_other j ne) ∙ h))
  ]

  pub start_filed : ((j : ℕ) → IsFiled ls q j) → (j : ℕ) → IsFiled ls r j ⊎ Any (λ x. x ≡ j) (get_or r.held.items k [])
  start_filed filed j = elim (cases_eq j k) [
    | inl e ↦ inl (λ p h. subst (FiledAs r.places.items r.held.items (waits_at ls j) j) (same_place (slice_get r.places.items j) (Started end) p (ap (λ z. slice_get r.places.items z) e ∙ start_mine) h) tt)
    | inr ne ↦ by (slice_get r.places.items j) refl ne
  ]
    where
      none_is : (p : Place) → None ≡ Some p → FiledAs r.places.items r.held.items (waits_at ls j) j p
      none_is p e = absurd cc

      only : (x : Place) → slice_get r.places.items j ≡ Some x → FiledAs r.places.items r.held.items (waits_at ls j) j x → IsFiled ls r j
      only x e f p h = subst (FiledAs r.places.items r.held.items (waits_at ls j) j) (same_place (slice_get r.places.items j) x p e h) f

      waited : (next w : ℕ) → slice_get r.places.items j ≡ Some (Held next w) → FiledAs q.places.items q.held.items (waits_at ls j) j (Held next w) → IsFiled ls r j ⊎ Any (λ x. x ≡ j) (get_or r.held.items k [])
      waited next w e f = elim (cases_eq (get_or (waits_at ls j) next 0) k) [
        | inl same ↦ inr (subst (λ hs. Any (λ x. x ≡ j) (get_or hs k [])) (sym held) (subst (λ z. Any (λ x. x ≡ j) (get_or q.held.items z [])) same f.1.2))
        | inr far ↦ inl (only (Held next w) e (
          due_same q.places.items r.places.items (take next (waits_at ls j)) w start_to f.0,
          (f.1.0, (λ x s. f.1.1 x (sym (start_other (get_or (waits_at ls j) next 0) far) ∙ s)), subst (λ hs. Any (λ x. x ≡ j) (get_or hs (get_or (waits_at ls j) next 0) [])) (sym held) f.1.2),
        ))
      ]

      by : (o : Option Place) → slice_get r.places.items j ≡ o → j ≢ k → IsFiled ls r j ⊎ Any (λ x. x ≡ j) (get_or r.held.items k [])
      by None e ne = inl (λ p h. none_is p (sym e ∙ h))
      by (Some (Held next w)) e ne = waited next w e (filed j (Held next w) (sym (start_other j ne) ∙ e))
      by (Some (Coming w)) e ne = inl (only (Coming w) e (due_same q.places.items r.places.items (waits_at ls j) w start_to (filed j (Coming w) (sym (start_other j ne) ∙ e))))
      by (Some (Ready w)) e ne = inl (only (Ready w) e (due_same q.places.items r.places.items (waits_at ls j) w start_to (filed j (Ready w) (sym (start_other j ne) ∙ e))))
      by (Some (Started w)) e ne = inl (only (Started w) e tt)

-- ---- all of it, for a job that waits

waits_kept : (ls : List ReportLine) (q r : Queue) (job : ℕ) (old p : Place) → slice_get q.places.items job ≡ Some old → job < length q.places.items → r.places.items ≡ set q.places.items job p → ((due : ℕ) → p ≡ Ready due → ⊥) → SameReady q r
waits_kept ls q r job old p at lt is other j due h = elim (cases_eq j job) [
  | inl e ↦ absurd (other due (same_place (slice_get r.places.items j) p (Ready due) (ap (λ z. slice_get r.places.items z) e ∙ ap (λ ps. slice_get ps job) is ∙ get_set_same q.places.items job p lt) h))
  | inr ne ↦ sym (ap (λ ps. slice_get ps j) is ∙ get_set_other q.places.items job j p ne) ∙ h
]

pub record Filed (ls : List ReportLine) (q r : Queue) (job : ℕ) : Type 0 where
  pub synced : IsSynced ls r
  pub again : Refiled ls q r job
  pub ready : SameReady q r

pub filed_coming : (ls : List ReportLine) (q r : Queue) (job next due end : ℕ) → IsSynced ls q → job < length ls → slice_get q.places.items job ≡ Some (Held next due) → r.places.items ≡ set q.places.items job (Coming end)
    → r.held.items ≡ q.held.items → r.ready ≡ q.ready → Updates pairs q.coming r.coming (end, job) true → IsDue q.places.items (waits_at ls job) end → Filed ls q r job
filed_coming ls q r job next due end s lt at is held ready up d =
    let size : job < length q.places.items = omega (arith, lt, s.places) in
    record {
      synced = synced_coming ls q r job next due end s lt at is held ready up;
      again = refiled ls q r job (Held next due) (Coming end) size at refl refl is (λ v j a. subst (λ hs. Any (λ x. x ≡ j) (get_or hs v [])) (sym held) a) d;
      ready = waits_kept ls q r job (Held next due) (Coming end) at size is (λ w e. absurd cc);
    }

pub filed_held : (ls : List ReportLine) (q r : Queue) (job next due nextly end v : ℕ) → IsSynced ls q → job < length ls → slice_get q.places.items job ≡ Some (Held next due)
    → r.places.items ≡ set q.places.items job (Held nextly end) → r.held.items ≡ set q.held.items v (get_or q.held.items v [] ++ job ∷ []) → v < length ls → r.ready ≡ q.ready → r.coming ≡ q.coming
    → v ≡ get_or (waits_at ls job) nextly 0 → nextly < length (waits_at ls job) → IsUnstarted q.places.items v → IsDue q.places.items (take nextly (waits_at ls job)) end → Filed ls q r job
filed_held ls q r job next due nextly end v s lt at is held small ready coming which within un d =
    let size : job < length q.places.items = omega (arith, lt, s.places) in
    let room : v < length q.held.items = omega (arith, small, s.helds) in
    record {
      synced = synced_held ls q r job next due nextly end v s lt at is held small ready coming;
      again = refiled ls q r job (Held next due) (Held nextly end) size at refl refl is
          (λ u j a. subst (λ hs. Any (λ x. x ≡ j) (get_or hs u [])) (sym held) (held_more q.held.items v job u j room a))
          (d, (within, subst (IsUnstarted q.places.items) which un, subst (λ z. Any (λ x. x ≡ job) (get_or r.held.items z [])) which (subst (λ hs. Any (λ x. x ≡ job) (get_or hs v [])) (sym held) (held_new q.held.items v job room))));
      ready = waits_kept ls q r job (Held next due) (Held nextly end) at size is (λ w e. absurd cc);
    }

-- ---- as the code reads it

pub at_of : {A : Type 0} (xs : List A) (i : ℕ) (d p : A) → i < length xs → get_or xs i d ≡ p → slice_get xs i ≡ Some p
at_of xs i d p lt e = slice_get-get_or xs i d lt ∙ ap (λ z. Some z) e

pub waits_are : (ls : List ReportLine) (i : ℕ) (l : ReportLine) → i < length ls → l ≡ get_or ls i l → l.waits ≡ waits_at ls i
waits_are ls i l lt is = sym (ap (λ o. option_map_or (λ (l : ReportLine). l.waits) o []) (at_of ls i l l lt (sym is)))

-- what a job that waits has been promised
pub loose_due : (ls : List ReportLine) (q : Queue) (job next due : ℕ) → IsLoose ls q job → slice_get q.places.items job ≡ Some (Held next due) → IsDue q.places.items (take next (waits_at ls job)) due × (next ≤ length (waits_at ls job))
loose_due ls q job next due loose at = loose (Held next due) at

pub same_filed : (ls : List ReportLine) (q : Queue) (job : ℕ) → ((next due : ℕ) → slice_get q.places.items job ≡ Some (Held next due) → ⊥) → IsLoose ls q job → IsFiled ls q job
same_filed ls q job other loose p at = loose_filed q.places.items q.held.items (waits_at ls job) job p (λ next due e. other next due (at ∙ ap (λ z. Some z) e)) (loose p at)

-- ---- the jobs that a job holds up

pub starts_refl : (q r : Queue) → r.places.items ≡ q.places.items → SameStarts q r
starts_refl q r e j end = ((λ h. subst (λ ps. HasStarted ps end j) (sym e) h), (λ h. subst (λ ps. HasStarted ps end j) e h))

pub starts_then : (q r s : Queue) → SameStarts q r → SameStarts r s → SameStarts q s
starts_then q r s a b j end = ((λ h. (b j end).0 ((a j end).0 h)), (λ h. (a j end).1 ((b j end).1 h)))

pub ready_then : (q r s : Queue) → SameReady q r → SameReady r s → SameReady q s
ready_then q r s a b j due h = a j due (b j due h)

pub record Releasing (ls : List ReportLine) (q r : Queue) (left : List ℕ) : Type 0 where
  pub synced : IsSynced ls r
  pub loose : (j : ℕ) → IsLoose ls r j
  pub filed : (j : ℕ) → IsFiled ls r j ⊎ Any (λ x. x ≡ j) left
  pub starts : SameStarts q r
  pub ready : SameReady q r

pub release_first : (ls : List ReportLine) (q r : Queue) (job : ℕ) (left : List ℕ) → IsSynced ls q → job < length ls → ((end : ℕ) × HasStarted q.places.items end job) → ((j : ℕ) → IsLoose ls q j)
    → ((j : ℕ) → IsFiled ls q j ⊎ Any (λ x. x ≡ j) (get_or q.held.items job [])) → r.places.items ≡ q.places.items → r.held.items ≡ set q.held.items job [] → r.coming ≡ q.coming → r.ready ≡ q.ready
    → left ≡ get_or q.held.items job [] → Releasing ls r r left
release_first ls q r job left s lt started loose filed is held coming ready rest = record {
  synced = record {
    places = ap length is ∙ s.places;
    helds = ap length held ∙ length_set q.held.items job [] ∙ s.helds;
    within = within;
    coming = λ x j. ap (λ z. contains pairs z (x, j)) coming ∙ s.coming x j ∙ ap (λ ps. is_coming x (slice_get ps j)) (sym is);
    ready = λ j. ap (λ z. contains nat_cmp z j) ready ∙ s.ready j ∙ ap (λ ps. is_ready (slice_get ps j)) (sym is);
  };
  loose = λ j p at. loose_same q.places.items r.places.items (waits_at ls j) p to (loose j p (ap (λ ps. slice_get ps j) (sym is) ∙ at));
  filed = λ j. elim (filed j) [
    | inl f ↦ inl (λ p at. again j p (f p (ap (λ ps. slice_get ps j) (sym is) ∙ at)))
    | inr a ↦ inr (subst (Any (λ x. x ≡ j)) (sym rest) a)
  ];
  starts = λ j end. ((λ h. h), (λ h. h));
  ready = λ j due h. h;
}
  where
    to : (w e : ℕ) → HasStarted q.places.items e w → HasStarted r.places.items e w
    to w e h = subst (λ ps. HasStarted ps e w) (sym is) h

    room : job < length q.held.items
    room = omega (arith, lt, s.helds)

    within : (v j : ℕ) → Any (λ x. x ≡ j) (get_or r.held.items v []) → j < length ls
    within v j a = elim (cases_eq v job) [
      | inl e ↦ absurd (subst (Any (λ x. x ≡ j)) (ap (λ hs. get_or hs v []) held ∙ ap (λ z. get_or (set q.held.items job []) z []) e ∙ get_or-set_same q.held.items job [] [] room) a)
      | inr ne ↦ s.within v j (subst (Any (λ x. x ≡ j)) (ap (λ hs. get_or hs v []) held ∙ get_or-set_other q.held.items job v [] [] ne) a)
    ]

    -- no job that is held up is held up by one that has started
    again : (j : ℕ) (p : Place) → FiledAs q.places.items q.held.items (waits_at ls j) j p → FiledAs r.places.items r.held.items (waits_at ls j) j p
    again j p h = filed_same q.places.items r.places.items q.held.items r.held.items (waits_at ls j) j p to (λ w e k. subst (λ ps. HasStarted ps e w) is k) kept h
      where
        kept : (v : ℕ) → IsUnstarted q.places.items v → Any (λ x. x ≡ j) (get_or q.held.items v []) → Any (λ x. x ≡ j) (get_or r.held.items v [])
        kept v un a = elim (cases_eq v job) [
          | inl e ↦ absurd (un started.0 (subst (λ z. HasStarted q.places.items started.0 z) (sym e) started.1))
          | inr ne ↦ subst (Any (λ x. x ≡ j)) (sym (ap (λ hs. get_or hs v []) held ∙ get_or-set_other q.held.items job v [] [] ne)) a
        ]

drop_next : (xs : List ℕ) (i : ℕ) → i < length xs → drop i xs ≡ get_or xs i 0 ∷ drop (i + 1) xs
drop_next xs i lt = subst (λ n. drop i xs ≡ get_or xs i 0 ∷ drop n xs) (let e : suc i ≡ i + 1 = omega arith in e) (by xs i lt)
  where
    by : (xs : List ℕ) (i : ℕ) → i < length xs → drop i xs ≡ get_or xs i 0 ∷ drop (suc i) xs
    by [] i h = absurd (omega (arith, h))
    by (x ∷ xs) zero h = refl
    by (x ∷ xs) (suc i) h = by xs i (omega (arith, h))

pub release_more : (ls : List ReportLine) (q r s : Queue) (list : List ℕ) (i : ℕ) → i < length list → Releasing ls q r (drop i list) → IsSynced ls s → IsFiled ls s (get_or list i 0) → ((j : ℕ) → IsFiled ls r j → IsFiled ls s j)
    → ((j : ℕ) → IsLoose ls r j → IsLoose ls s j) → SameStarts r s → SameReady r s → Releasing ls q s (drop (i + 1) list)
release_more ls q r s list i lt h synced mine others loose starts ready = record {
  synced = synced;
  loose = λ j. loose j (h.loose j);
  filed = λ j. by j (h.filed j);
  starts = starts_then q r s h.starts starts;
  ready = ready_then q r s h.ready ready;
}
  where
    by : (j : ℕ) → IsFiled ls r j ⊎ Any (λ x. x ≡ j) (drop i list) → IsFiled ls s j ⊎ Any (λ x. x ≡ j) (drop (i + 1) list)
    by j (inl f) = inl (others j f)
    by j (inr a) = last (subst (Any (λ x. x ≡ j)) (drop_next list i lt) a)
      where
        last : (get_or list i 0 ≡ j) ⊎ Any (λ x. x ≡ j) (drop (i + 1) list) → IsFiled ls s j ⊎ Any (λ x. x ≡ j) (drop (i + 1) list)
        last (inl e) = inl (subst (IsFiled ls s) e mine)
        last (inr b) = inr b

pub any_at : (list : List ℕ) (i : ℕ) → i < length list → Any (λ x. x ≡ get_or list i 0) list
any_at [] i lt = absurd (omega (arith, lt))
any_at (x ∷ xs) zero lt = inl refl
any_at (x ∷ xs) (suc i) lt = inr (any_at xs i (omega (arith, lt)))

pub drop_all : (list : List ℕ) (i : ℕ) → length list ≤ i → drop i list ≡ []
drop_all [] zero h = refl
drop_all [] (suc i) h = refl
drop_all (x ∷ xs) zero h = absurd (omega (arith, h))
drop_all (x ∷ xs) (suc i) h = drop_all xs i (omega (arith, h))

-- ---- coming jobs are ready

pub record Admitting (ls : List ReportLine) (moment : ℕ) (q r : Queue) : Type 0 where
  pub synced : IsSynced ls r
  pub filed : (j : ℕ) → IsFiled ls r j
  pub starts : SameStarts q r
  pub come : HasCome moment q r

pub admit_first : (ls : List ReportLine) (moment : ℕ) (q : Queue) → IsSynced ls q → ((j : ℕ) → IsFiled ls q j) → Admitting ls moment q q
admit_first ls moment q synced filed = record { synced = synced; filed = filed; starts = λ j end. ((λ h. h), (λ h. h)); come = λ j due h. inl h }

place_within : (ps : List Place) (j : ℕ) (p : Place) → slice_get ps j ≡ Some p → j < length ps
place_within [] j p e = absurd cc
place_within (x ∷ xs) zero p e = omega arith
place_within (x ∷ xs) (suc j) p e = omega (arith, place_within xs j p e)

pub admit_at : (ls : List ReportLine) (moment : ℕ) (q r : Queue) (due job : ℕ) → Admitting ls moment q r → contains pairs r.coming (due, job) ≡ true → slice_get r.places.items job ≡ Some (Coming due)
admit_at ls moment q r due job h has = coming_is due (slice_get r.places.items job) (sym (h.synced.coming due job) ∙ has)

pub admit_more : (ls : List ReportLine) (moment : ℕ) (q r s : Queue) (due job : ℕ) → Admitting ls moment q r → contains pairs r.coming (due, job) ≡ true → due ≤ moment → s.places.items ≡ set r.places.items job (Ready due)
    → s.held.items ≡ r.held.items → Updates pairs r.coming s.coming (due, job) false → Updates nat_cmp r.ready s.ready job true → Admitting ls moment q s
admit_more ls moment q r s due job h has small is held taken added = record {
  synced = synced_ready ls r s job due h.synced at size is held taken added;
  filed = λ j. again.others j (h.filed j);
  starts = starts_then q r s h.starts again.starts;
  come = come;
}
  where
    at : slice_get r.places.items job ≡ Some (Coming due)
    at = admit_at ls moment q r due job h has

    size : job < length r.places.items
    size = place_within r.places.items job (Coming due) at

    again : Refiled ls r s job
    again = refiled ls r s job (Coming due) (Ready due) size at refl refl is (λ v j a. subst (λ hs. Any (λ x. x ≡ j) (get_or hs v [])) (sym held) a) (h.filed job (Coming due) at)

    same_due : (w : ℕ) → Ready due ≡ Ready w → due ≡ w
    same_due w e = cc

    come : HasCome moment q s
    come j w e = elim (cases_eq j job) [
      | inl same ↦ inr (omega (arith, small, same_due w (same_place (slice_get s.places.items j) (Ready due) (Ready w) (ap (λ z. slice_get s.places.items z) same ∙ ap (λ ps. slice_get ps job) is ∙ get_set_same r.places.items job (Ready due) size) e)))
      | inr ne ↦ h.come j w (sym (ap (λ ps. slice_get ps j) is ∙ get_set_other r.places.items job j (Ready due) ne) ∙ e)
    ]

pub admit_last : (ls : List ReportLine) (moment : ℕ) (r : Queue) → IsSynced ls r → ((x j : ℕ) → contains pairs r.coming (x, j) ≡ true → moment < x) → AreLater moment r
admit_last ls moment r s none j due e = none due j (s.coming due j ∙ ap (is_coming due) e ∙ eq-eqb due due refl)

-- ---- none has started

pub record Blank (ps : List Place) (held : List (List ℕ)) (n : ℕ) : Type 0 where
  pub places : length ps ≡ n
  pub helds : length held ≡ n
  pub start : (j : ℕ) (p : Place) → slice_get ps j ≡ Some p → p ≡ Held 0 0
  pub none : (v : ℕ) → get_or held v [] ≡ []

pub blank_none : Blank [] [] 0
blank_none = record { places = refl; helds = refl; start = λ j p e. absurd cc; none = λ v. refl }

pub blank_more : (ps : List Place) (held : List (List ℕ)) (n : ℕ) → Blank ps held n → Blank (ps ++ Held 0 0 ∷ []) (held ++ [] ∷ []) (n + 1)
blank_more ps held n h = record { places = longer ps (Held 0 0) ∙ ap (λ z. z + 1) h.places; helds = longer held [] ∙ ap (λ z. z + 1) h.helds; start = start ps h.start; none = none held h.none }
  where
    longer : {A : Type 0} (xs : List A) (x : A) → length (xs ++ x ∷ []) ≡ length xs + 1
    longer [] x = omega arith
    longer (y ∷ ys) x = omega (arith, longer ys x)

    same_some : (a b : Place) → Some a ≡ Some b → b ≡ a
    same_some a b e = cc

    start : (ps : List Place) → ((j : ℕ) (p : Place) → slice_get ps j ≡ Some p → p ≡ Held 0 0) → (j : ℕ) (p : Place) → slice_get (ps ++ Held 0 0 ∷ []) j ≡ Some p → p ≡ Held 0 0
    start [] h zero p e = same_some (Held 0 0) p e
    start [] h (suc j) p e = absurd cc
    start (x ∷ xs) h zero p e = h zero p e
    start (x ∷ xs) h (suc j) p e = start xs (λ k q f. h (suc k) q f) j p e

    none : (held : List (List ℕ)) → ((v : ℕ) → get_or held v [] ≡ []) → (v : ℕ) → get_or (held ++ [] ∷ []) v [] ≡ []
    none [] h zero = refl
    none [] h (suc v) = refl
    none (x ∷ xs) h zero = h zero
    none (x ∷ xs) h (suc v) = none xs (λ u. h (suc u)) v

pub record Filling (ls : List ReportLine) (q : Queue) (n : ℕ) : Type 0 where
  pub synced : IsSynced ls q
  pub loose : (j : ℕ) → IsLoose ls q j
  pub filed : (j : ℕ) → j < n → IsFiled ls q j
  pub none : (j : ℕ) → IsUnstarted q.places.items j
  pub ready : (j due : ℕ) → slice_get q.places.items j ≡ Some (Ready due) → ⊥

pub fill_first : (ls : List ReportLine) (q : Queue) → Blank q.places.items q.held.items (length ls) → q.coming.keys ≡ [] → q.ready.keys ≡ [] → Filling ls q 0
fill_first ls q b coming ready = record {
  synced = record {
    places = b.places;
    helds = b.helds;
    within = λ v j a. absurd (subst (Any (λ x. x ≡ j)) (b.none v) a);
    coming = λ r j. ap (λ ks. list_any (is_at (pairs (r, j))) ks) coming ∙ sym (by (slice_get q.places.items j) refl (is_coming r) (λ next due. refl) refl j);
    ready = λ j. ap (λ ks. list_any (is_at (nat_cmp j)) ks) ready ∙ sym (by (slice_get q.places.items j) refl is_ready (λ next due. refl) refl j);
  };
  loose = λ j p e. subst (LooseAs q.places.items (waits_at ls j)) (sym (b.start j p e)) (none_due q.places.items, omega arith);
  filed = λ j lt. absurd (omega (arith, lt));
  none = λ j end h. (let bad : Started end ≡ Held 0 0 = b.start j (Started end) h in absurd cc);
  ready = λ j due h. (let bad : Ready due ≡ Held 0 0 = b.start j (Ready due) h in absurd cc);
}
  where
    by : (o : Option Place) → (o ≡ o) → (f : Option Place → Bool) → ((next due : ℕ) → f (Some (Held next due)) ≡ false) → f None ≡ false → (j : ℕ) → f (slice_get q.places.items j) ≡ false
    by o e f held none j = at (slice_get q.places.items j) refl
      where
        at : (o : Option Place) → slice_get q.places.items j ≡ o → f (slice_get q.places.items j) ≡ false
        at None e = ap f e ∙ none
        at (Some p) e = ap f e ∙ ap (λ z. f (Some z)) (b.start j p e) ∙ held 0 0

pub fill_more : (ls : List ReportLine) (q r : Queue) (i : ℕ) → Filling ls q i → IsSynced ls r → IsFiled ls r i → ((j : ℕ) → IsFiled ls q j → IsFiled ls r j) → ((j : ℕ) → IsLoose ls q j → IsLoose ls r j) → SameStarts q r → SameReady q r → Filling ls r (i + 1)
fill_more ls q r i h synced mine others loose starts ready = record {
  synced = synced;
  loose = λ j. loose j (h.loose j);
  filed = λ j lt. elim (cases_lt j i) [ inl less ↦ others j (h.filed j less) | inr ge ↦ (let same : j ≡ i = omega (arith, lt, ge) in subst (IsFiled ls r) (sym same) mine) ];
  none = λ j end e. h.none j end ((starts j end).1 e);
  ready = λ j due e. h.ready j due (ready j due e);
}

pub fill_last : (ls : List ReportLine) (q : Queue) (i : ℕ) → Filling ls q i → length ls ≤ i → (j : ℕ) → IsFiled ls q j
fill_last ls q i h le j p e = h.filed j (let lt : j < length q.places.items = place_within q.places.items j p e in omega (arith, lt, h.synced.places, le)) p e

pub get_any : {A : Type 0} (xs : List A) (i : ℕ) (d e : A) → i < length xs → get_or xs i d ≡ get_or xs i e
get_any [] i d e h = absurd (omega (arith, h))
get_any (x ∷ xs) zero d e h = refl
get_any (x ∷ xs) (suc i) d e h = get_any xs i d e (omega (arith, h))
