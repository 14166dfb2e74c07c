-- No legal schedule is shorter than a chain, nor than all fuel shared evenly by the agents.
use Rattle.std.proofs.Common.{◌≡◌, ◌≢◌, ℕ, zero, suc, ◌+◌, ◌-◌, ◌*◌, ◌<◌, ◌≤◌, ◌==◌, nat_lt, Bool, true, false, cond, ◌⊎◌, inl, inr, List, [], ◌∷◌, length, refl, sym, ap, ap₂, subst, ◌∙◌, arith}
use Rattle.std.specs.Prelude.{min, max}
use Rattle.std.proofs.lemmas.Bool.{cases_lt, lt-ltb, eq-eqb, le-ltb}
use Rattle.std.proofs.lemmas.Bool.Decides.{eqb_tells}
use Rattle.em_report.specs.declared.report.ReportLine.{ReportLine}
use Rattle.em_insight.specs.declared.data.Slot.{Slot}
use Rattle.em_insight.specs.Each.{Each, Any}
use Rattle.em_insight.specs.Jobs.{fuel_at, waits_at, total}
use Rattle.em_insight.specs.Chains.{IsChain, weight}
use Rattle.em_insight.specs.Schedules.{end_of, span, HasEnded, AreApart, AllApart, AllOnce, IsLegal}
use Rattle.em_insight.proofs.Lists.{each_of, any_each, any_map, any_none, each_map}

-- ---- sums over slots

abbrev pub amount : (Slot → ℕ) → List Slot → ℕ
amount f [] = 0
amount f (s ∷ ss) = f s + amount f ss

ltb_tells : (a b : ℕ) → ((nat_lt a b ≡ true) × (a < b)) ⊎ ((nat_lt a b ≡ false) × (b ≤ a))
ltb_tells a b = by (cases_lt a b)
  where
    by : (a < b) ⊎ (b ≤ a) → ((nat_lt a b ≡ true) × (a < b)) ⊎ ((nat_lt a b ≡ false) × (b ≤ a))
    by (inl lt) = inl (lt-ltb a b lt, lt)
    by (inr le) = inr (le-ltb a b le, le)

-- those with a lesser key, and those with this key
abbrev part : (Slot → ℕ) → (Slot → ℕ) → ℕ → Slot → ℕ
part key f m s = cond (nat_lt (key s) m) (f s) 0

abbrev only : (Slot → ℕ) → (Slot → ℕ) → ℕ → Slot → ℕ
only key f m s = cond (key s == m) (f s) 0

part_none : (key f : Slot → ℕ) (ss : List Slot) → amount (part key f 0) ss ≡ 0
part_none key f [] = refl
part_none key f (s ∷ ss) = by (ltb_tells (key s) 0) (part_none key f ss)
  where
    by : ((nat_lt (key s) 0 ≡ true) × (key s < 0)) ⊎ ((nat_lt (key s) 0 ≡ false) × (0 ≤ key s)) → amount (part key f 0) ss ≡ 0 → amount (part key f 0) (s ∷ ss) ≡ 0
    by (inl a) rest = absurd (omega (arith, a.1))
    by (inr a) rest = rw a.0 (omega (arith, rest))

part_next : (key f : Slot → ℕ) (m : ℕ) (ss : List Slot) → amount (part key f (suc m)) ss ≡ amount (part key f m) ss + amount (only key f m) ss
part_next key f m [] = omega arith
part_next key f m (s ∷ ss) = by (ltb_tells (key s) m) (eqb_tells (key s) m) (ltb_tells (key s) (suc m)) (part_next key f m ss)
  where
    by : ((nat_lt (key s) m ≡ true) × (key s < m)) ⊎ ((nat_lt (key s) m ≡ false) × (m ≤ key s)) → (((key s == m) ≡ true) × (key s ≡ m)) ⊎ (((key s == m) ≡ false) × (key s ≢ m))
        → ((nat_lt (key s) (suc m) ≡ true) × (key s < suc m)) ⊎ ((nat_lt (key s) (suc m) ≡ false) × (suc m ≤ key s))
        → amount (part key f (suc m)) ss ≡ amount (part key f m) ss + amount (only key f m) ss
        → amount (part key f (suc m)) (s ∷ ss) ≡ amount (part key f m) (s ∷ ss) + amount (only key f m) (s ∷ ss)
    by (inl a) (inl b) c rest = absurd (omega (arith, a.1, b.1))
    by (inl a) (inr b) (inl c) rest = rw (a.0, b.0, c.0) (omega (arith, rest))
    by (inl a) (inr b) (inr c) rest = absurd (omega (arith, a.1, c.1))
    by (inr a) (inl b) (inl c) rest = rw (a.0, b.0, c.0) (omega (arith, rest))
    by (inr a) (inl b) (inr c) rest = absurd (omega (arith, b.1, c.1))
    by (inr a) (inr b) (inl c) rest = absurd (let le : key s ≤ m = omega (arith, c.1) in b.1 (omega (arith, a.1, le)))
    by (inr a) (inr b) (inr c) rest = rw (a.0, b.0, c.0) (omega (arith, rest))

part_all : (key f : Slot → ℕ) (n : ℕ) (ss : List Slot) → Each (λ s. key s < n) ss → amount (part key f n) ss ≡ amount f ss
part_all key f n [] h = refl
part_all key f n (s ∷ ss) h = let t : nat_lt (key s) n ≡ true = lt-ltb (key s) n h.0 in rw t (omega (arith, part_all key f n ss h.1))

-- ---- all fuel is in the slots

-- g of the numbers below m
abbrev below : (ℕ → ℕ) → ℕ → ℕ
below g zero = 0
below g (suc m) = g m + below g m

below_first : (g : ℕ → ℕ) (m : ℕ) → below g (suc m) ≡ g 0 + below (λ j. g (suc j)) m
below_first g zero = refl
below_first g (suc m) = omega (arith, below_first g m)

total_below : (ls : List ReportLine) → total ls ≡ below (fuel_at ls) (length ls)
total_below [] = refl
total_below (l ∷ ls) = omega (arith, total_below ls, below_first (fuel_at (l ∷ ls)) (length ls))

module _ (g : ℕ → ℕ) where
  only_none : (j : ℕ) (ss : List Slot) → Each (λ s. s.job ≢ j) ss → amount (only (λ s. s.job) (λ s. g s.job) j) ss ≡ 0
  only_none j [] h = refl
  only_none j (s ∷ ss) h = by (eqb_tells s.job j) (only_none j ss h.1)
    where
      by : (((s.job == j) ≡ true) × (s.job ≡ j)) ⊎ (((s.job == j) ≡ false) × (s.job ≢ j)) → amount (only (λ s. s.job) (λ s. g s.job) j) ss ≡ 0 → amount (only (λ s. s.job) (λ s. g s.job) j) (s ∷ ss) ≡ 0
      by (inl a) rest = absurd (h.0 a.1)
      by (inr a) rest = rw a.0 (omega (arith, rest))

  only_one : (ls : List ReportLine) (j : ℕ) (ss : List Slot) → AllOnce ls ss → Any (λ s. s.job ≡ j) ss → amount (only (λ s. s.job) (λ s. g s.job) j) ss ≡ g j
  only_one ls j [] once a = absurd a
  only_one ls j (s ∷ ss) once (inl e) =
      let t : (s.job == j) ≡ true = eq-eqb s.job j e in
      let none : amount (only (λ s. s.job) (λ s. g s.job) j) ss ≡ 0 = only_none j ss (subst (λ z. Each (λ t. t.job ≢ z) ss) e once.0) in
      rw t (omega (arith, none, ap g e))
  only_one ls j (s ∷ ss) once (inr a) = by (eqb_tells s.job j) (only_one ls j ss once.1 a)
    where
      by : (((s.job == j) ≡ true) × (s.job ≡ j)) ⊎ (((s.job == j) ≡ false) × (s.job ≢ j)) → amount (only (λ s. s.job) (λ s. g s.job) j) ss ≡ g j
          → amount (only (λ s. s.job) (λ s. g s.job) j) (s ∷ ss) ≡ g j
      by (inl b) rest = absurd (any_none (λ t. t.job ≡ j) ss (subst (λ z. Each (λ t. t.job ≢ z) ss) b.1 once.0) a)
      by (inr b) rest = rw b.0 (omega (arith, rest))

  below_is : (ls : List ReportLine) (m : ℕ) (ss : List Slot) → AllOnce ls ss → ((j : ℕ) → j < m → Any (λ s. s.job ≡ j) ss) → amount (part (λ s. s.job) (λ s. g s.job) m) ss ≡ below g m
  below_is ls zero ss once all = part_none (λ s. s.job) (λ s. g s.job) ss
  below_is ls (suc m) ss once all =
      omega (arith, part_next (λ s. s.job) (λ s. g s.job) m ss, below_is ls m ss once (λ j lt. all j (omega arith)), only_one ls m ss once (all m (omega arith)))

-- of slots of which no job has two
module _ (g : ℕ → ℕ) where
  only_most : (ls : List ReportLine) (j : ℕ) (ss : List Slot) → AllOnce ls ss → amount (only (λ s. s.job) (λ s. g s.job) j) ss ≤ g j
  only_most ls j [] once = omega arith
  only_most ls j (s ∷ ss) once = by (eqb_tells s.job j) (only_most ls j ss once.1)
    where
      by : (((s.job == j) ≡ true) × (s.job ≡ j)) ⊎ (((s.job == j) ≡ false) × (s.job ≢ j)) → amount (only (λ s. s.job) (λ s. g s.job) j) ss ≤ g j → amount (only (λ s. s.job) (λ s. g s.job) j) (s ∷ ss) ≤ g j
      by (inl a) rest =
          let none : amount (only (λ s. s.job) (λ s. g s.job) j) ss ≡ 0 = only_none g j ss (subst (λ z. Each (λ t. t.job ≢ z) ss) a.1 once.0) in
          rw a.0 (omega (arith, none, ap g a.1))
      by (inr a) rest = rw a.0 (omega (arith, rest))

  below_most : (ls : List ReportLine) (m : ℕ) (ss : List Slot) → AllOnce ls ss → amount (part (λ s. s.job) (λ s. g s.job) m) ss ≤ below g m
  below_most ls zero ss once = omega (arith, part_none (λ s. s.job) (λ s. g s.job) ss)
  below_most ls (suc m) ss once = omega (arith, part_next (λ s. s.job) (λ s. g s.job) m ss, below_most ls m ss once, only_most ls m ss once)

-- the fuel of the slots' jobs
abbrev pub spent : List ReportLine → List Slot → ℕ
spent ls ss = amount (λ s. fuel_at ls s.job) ss

pub spent_all : (ls : List ReportLine) (ss : List Slot) → Each (λ s. s.job < length ls) ss → AllOnce ls ss → ((j : ℕ) → j < length ls → Any (λ s. s.job ≡ j) ss) → spent ls ss ≡ total ls
spent_all ls ss known once all =
    sym (part_all (λ s. s.job) (λ s. fuel_at ls s.job) (length ls) ss known) ∙ below_is (fuel_at ls) ls (length ls) ss once all ∙ sym (total_below ls)

pub spent_most : (ls : List ReportLine) (ss : List Slot) → Each (λ s. s.job < length ls) ss → AllOnce ls ss → spent ls ss ≤ total ls
spent_most ls ss known once =
    omega (arith, part_all (λ s. s.job) (λ s. fuel_at ls s.job) (length ls) ss known, below_most (fuel_at ls) ls (length ls) ss once, total_below ls)

-- no more slots than jobs
pub few_slots : (ls : List ReportLine) (ss : List Slot) → Each (λ s. s.job < length ls) ss → AllOnce ls ss → length ss ≤ length ls
few_slots ls ss known once =
    omega (arith, ones ss, part_all (λ s. s.job) (λ s. 1) (length ls) ss known, below_most (λ j. 1) ls (length ls) ss once, below_ones (length ls))
  where
    ones : (ss : List Slot) → amount (λ s. 1) ss ≡ length ss
    ones [] = refl
    ones (s ∷ ss) = omega (arith, ones ss)

    below_ones : (m : ℕ) → below (λ j. 1) m ≡ m
    below_ones zero = refl
    below_ones (suc m) = omega (arith, below_ones m)

-- ---- each agent works no longer than the span

module _ (ls : List ReportLine) where
  -- the part of a slot between two moments
  abbrev clip : ℕ → ℕ → Slot → ℕ
  clip low high s = min high (end_of ls s) - max low s.start

  abbrev clamp : ℕ → ℕ → ℕ → ℕ
  clamp low high x = max low (min high x)

  abbrev of_agent : ℕ → ℕ → ℕ → Slot → ℕ
  of_agent a low high s = cond (s.agent == a) (clip low high s) 0

  -- a slot that is apart from s lies before it or behind it
  cut_one : (s t : Slot) (low high : ℕ) → low ≤ high → (end_of ls s ≤ t.start) ⊎ (end_of ls t ≤ s.start) → clip low high t ≤ clip low (clamp low high s.start) t + clip (clamp low high (end_of ls s)) high t
  cut_one s t low high h (inl e) = omega (arith, e, h)
  cut_one s t low high h (inr e) = omega (arith, e, h)

  cut_all : (a : ℕ) (s : Slot) (ss : List Slot) (low high : ℕ) → low ≤ high → s.agent ≡ a → Each (AreApart ls s) ss
      → amount (of_agent a low high) ss ≤ amount (of_agent a low (clamp low high s.start)) ss + amount (of_agent a (clamp low high (end_of ls s)) high) ss
  cut_all a s [] low high h is apart = omega arith
  cut_all a s (t ∷ ts) low high h is apart = by (eqb_tells t.agent a) (cut_all a s ts low high h is apart.1)
    where
      by : (((t.agent == a) ≡ true) × (t.agent ≡ a)) ⊎ (((t.agent == a) ≡ false) × (t.agent ≢ a))
          → amount (of_agent a low high) ts ≤ amount (of_agent a low (clamp low high s.start)) ts + amount (of_agent a (clamp low high (end_of ls s)) high) ts
          → amount (of_agent a low high) (t ∷ ts) ≤ amount (of_agent a low (clamp low high s.start)) (t ∷ ts) + amount (of_agent a (clamp low high (end_of ls s)) high) (t ∷ ts)
      by (inl b) rest =
          let one : clip low high t ≤ clip low (clamp low high s.start) t + clip (clamp low high (end_of ls s)) high t = cut_one s t low high h (apart.0 (is ∙ sym b.1)) in
          rw b.0 (sums (clip low high t) (amount (of_agent a low high) ts) (clip low (clamp low high s.start) t) (clip (clamp low high (end_of ls s)) high t)
          (amount (of_agent a low (clamp low high s.start)) ts) (amount (of_agent a (clamp low high (end_of ls s)) high) ts) one rest)
        where
          sums : (x y p q u v : ℕ) → x ≤ p + q → y ≤ u + v → x + y ≤ (p + u) + (q + v)
          sums x y p q u v f g = omega (arith, f, g)
      by (inr b) rest =
          rw b.0 (less (amount (of_agent a low high) ts) (amount (of_agent a low (clamp low high s.start)) ts) (amount (of_agent a (clamp low high (end_of ls s)) high) ts) rest)
        where
          less : (y u v : ℕ) → y ≤ u + v → 0 + y ≤ (0 + u) + (0 + v)
          less y u v g = omega (arith, g)

  window : (a : ℕ) (ss : List Slot) (low high : ℕ) → low ≤ high → AllApart ls ss → amount (of_agent a low high) ss ≤ high - low
  window a [] low high h apart = omega arith
  window a (s ∷ ss) low high h apart = by (eqb_tells s.agent a) (λ low high h. window a ss low high h apart.1)
    where
      by : (((s.agent == a) ≡ true) × (s.agent ≡ a)) ⊎ (((s.agent == a) ≡ false) × (s.agent ≢ a)) → ((low high : ℕ) → low ≤ high → amount (of_agent a low high) ss ≤ high - low)
          → amount (of_agent a low high) (s ∷ ss) ≤ high - low
      by (inl b) rest =
          let x = clamp low high s.start in
          let y = clamp low high (end_of ls s) in
          let cut : amount (of_agent a low high) ss ≤ amount (of_agent a low x) ss + amount (of_agent a y high) ss = cut_all a s ss low high h b.1 apart.0 in
          let front : amount (of_agent a low x) ss ≤ x - low = rest low x (omega (arith, h)) in
          let back : amount (of_agent a y high) ss ≤ high - y = rest y high (omega (arith, h)) in
          let mine : clip low high s + ((x - low) + (high - y)) ≤ high - low = omega (arith, h) in
          rw b.0 (sums (clip low high s) (amount (of_agent a low high) ss) (amount (of_agent a low x) ss) (amount (of_agent a y high) ss) (x - low) (high - y) (high - low) cut front back mine)
        where
          sums : (c m p q u v w : ℕ) → m ≤ p + q → p ≤ u → q ≤ v → c + (u + v) ≤ w → c + m ≤ w
          sums c m p q u v w f g h k = omega (arith, f, g, h, k)
      by (inr b) rest = rw b.0 (less (amount (of_agent a low high) ss) (high - low) (rest low high h))
        where
          less : (y w : ℕ) → y ≤ w → 0 + y ≤ w
          less y w g = omega (arith, g)

  -- all of a slot lies before a moment that is no earlier than its end
  whole_one : (t : ℕ) (s : Slot) → end_of ls s ≤ t → clip 0 t s ≡ fuel_at ls s.job
  whole_one t s h = omega (arith, h)

  whole : (a t : ℕ) (ss : List Slot) → Each (λ s. end_of ls s ≤ t) ss → amount (only (λ s. s.agent) (λ s. fuel_at ls s.job) a) ss ≡ amount (of_agent a 0 t) ss
  whole a t [] h = refl
  whole a t (s ∷ ss) h = ap₂ (λ x y. x + y) (ap (cond_of (s.agent == a)) (sym (whole_one t s h.0))) (whole a t ss h.1)
    where
      cond_of : Bool → ℕ → ℕ
      cond_of b x = cond b x 0

  pub span_last : (ss : List Slot) → Each (λ s. end_of ls s ≤ span ls ss) ss
  span_last [] = tt
  span_last (s ∷ ss) = (omega arith, each_map (λ t. end_of ls t ≤ span ls ss) (λ t. end_of ls t ≤ span ls (s ∷ ss)) ss (λ t h. omega (arith, h)) (span_last ss))

  agents : (m : ℕ) (ss : List Slot) → AllApart ls ss → amount (part (λ s. s.agent) (λ s. fuel_at ls s.job) m) ss ≤ m * span ls ss
  agents zero ss apart = omega (arith, part_none (λ s. s.agent) (λ s. fuel_at ls s.job) ss)
  agents (suc m) ss apart =
      omega (arith, part_next (λ s. s.agent) (λ s. fuel_at ls s.job) m ss, agents m ss apart, whole m (span ls ss) ss (span_last ss), window m ss 0 (span ls ss) (omega arith) apart)

  pub shared : (n : ℕ) (ss : List Slot) → IsLegal ls n ss → total ls ≤ n * span ls ss
  shared n ss legal =
      omega (
        arith,
        spent_all ls ss (each_map (λ s. (s.job < length ls) × (s.agent < n)) (λ s. s.job < length ls) ss (λ s h. h.0) legal.known) legal.once legal.all,
        part_all (λ s. s.agent) (λ s. fuel_at ls s.job) n ss (each_map (λ s. (s.job < length ls) × (s.agent < n)) (λ s. s.agent < n) ss (λ s h. h.1) legal.known),
        agents n ss legal.apart,
      )

  -- ---- chains

  -- a job's slot, and what a property of each slot says of it
  record Found (ss : List Slot) (j amount : ℕ) : Type 0 where
    found : Any (λ s. (s.job ≡ j) × (s.start + amount ≤ span ls ss)) ss

  module _ (n : ℕ) (ss : List Slot) (legal : IsLegal ls n ss) where
    last_one : (j : ℕ) → j < length ls → Any (λ s. (s.job ≡ j) × (s.start + (fuel_at ls j + 0) ≤ span ls ss)) ss
    last_one j lt =
        any_map (λ s. (end_of ls s ≤ span ls ss) × (s.job ≡ j)) (λ s. (s.job ≡ j) × (s.start + (fuel_at ls j + 0) ≤ span ls ss)) ss
        (λ s h. (h.1, (let e : fuel_at ls s.job ≡ fuel_at ls j = ap (fuel_at ls) h.1 in omega (arith, e, h.0))))
        (any_each (λ s. end_of ls s ≤ span ls ss) (λ s. s.job ≡ j) ss (span_last ss) (legal.all j lt))

    -- of a wait of a job with such a slot
    before_one : (i j w : ℕ) (ts : List Slot) → Each (λ s. Each (HasEnded ls ss s.start) (waits_at ls s.job)) ts → Any (λ v. v ≡ i) (waits_at ls j) → Any (λ s. (s.job ≡ j) × (s.start + w ≤ span ls ss)) ts
        → Any (λ s. (s.job ≡ i) × (s.start + (fuel_at ls i + w) ≤ span ls ss)) ss
    before_one i j w [] waits among a = absurd a
    before_one i j w (t ∷ ts) waits among (inl h) =
        any_map (λ s. (s.job ≡ i) × (end_of ls s ≤ t.start)) (λ s. (s.job ≡ i) × (s.start + (fuel_at ls i + w) ≤ span ls ss)) ss
        (λ s k. (k.0, (let e : fuel_at ls s.job ≡ fuel_at ls i = ap (fuel_at ls) k.0 in omega (arith, e, k.1, h.1))))
        (each_of (HasEnded ls ss t.start) (waits_at ls j) i (subst (λ z. Each (HasEnded ls ss t.start) (waits_at ls z)) h.0 waits.0) among)
    before_one i j w (t ∷ ts) waits among (inr a) = before_one i j w ts waits.1 among a

    within : (j : ℕ) (js : List ℕ) → IsChain ls (j ∷ js) → Any (λ s. (s.job ≡ j) × (s.start + weight ls (j ∷ js) ≤ span ls ss)) ss
    within j [] h = last_one j h
    within i (j ∷ js) h = before_one i j (weight ls (j ∷ js)) ss legal.waits h.1 (within j js h.2)

    pub no_shorter : (js : List ℕ) → IsChain ls js → weight ls js ≤ span ls ss
    no_shorter [] h = omega arith
    no_shorter (j ∷ js) h = by ss (within j js h)
      where
        by : (ts : List Slot) → Any (λ s. (s.job ≡ j) × (s.start + weight ls (j ∷ js) ≤ span ls ss)) ts → weight ls (j ∷ js) ≤ span ls ss
        by [] a = absurd a
        by (t ∷ ts) (inl a) = omega (arith, a.1)
        by (t ∷ ts) (inr a) = by ts a
