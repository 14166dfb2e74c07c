-- The links of the jobs certify, and the walk along them is the chain that is named.
use Rattle.std.proofs.Common.{◌≡◌, ℕ, zero, suc, ◌+◌, ◌<◌, ◌≤◌, ◌==◌, nat_lt, Bool, true, false, ◌||◌, ◌&&◌, inl, inr, List, [], ◌∷◌, length, reverse, get_or, Option, None, refl, sym, subst, ◌∙◌, arith}
use mathlib.Core.List.{reverse_aux}
use Rattle.std.proofs.lemmas.Bool.{cases_lt, le-ltb}
use Rattle.std.proofs.lemmas.Bool.Decides.{eqb_tells}
use Rattle.std.proofs.lemmas.List.{reverse-reverse}
use Rattle.em_report.specs.declared.report.ReportLine.{ReportLine}
use Rattle.em_insight.specs.declared.lead.Lead.{Lead}
use Rattle.em_insight.specs.Each.{Each, Any}
use Rattle.em_insight.specs.Jobs.{fuel_at, waits_at}
use Rattle.em_insight.specs.Chains.{is_before, IsChain, weight, Certifies, IsNamed}
use Rattle.em_insight.specs.Links.{Leads, IsLead, Linked, IsWalk}
use Rattle.em_insight.proofs.Lists.{each_own, each_of}
use Rattle.em_insight.proofs.Chained.{chain_within}

module _ (ls : List ReportLine) where
  -- a chain, from its last job on
  abbrev pub IsBack : List ℕ → Type 0
  IsBack [] = Unit {0}
  IsBack (j ∷ []) = j < length ls
  IsBack (j ∷ i ∷ is) = (i < j) × Any (λ w. w ≡ i) (waits_at ls j) × IsBack (i ∷ is)

  -- turned round, on top of what was turned before
  turn : (j : ℕ) (js : List ℕ) (i : ℕ) (is : List ℕ) → IsChain ls (i ∷ j ∷ js) → (IsBack (i ∷ is)) → IsBack (reverse_aux (j ∷ js) (i ∷ is))
  turn j [] i is h back = (h.0, h.1, back)
  turn j (k ∷ ks) i is h back = turn k ks j (i ∷ is) h.2 (h.0, h.1, back)

  pub turned : (js : List ℕ) → IsChain ls js → IsBack (reverse js)
  turned [] h = tt
  turned (j ∷ []) h = h
  turned (i ∷ j ∷ js) h = turn j js i [] h (let lt : j < length ls = chain_within ls j js h.2 in omega (arith, h.0))

  turn_back : (j : ℕ) (js : List ℕ) (i : ℕ) (is : List ℕ) → IsBack (i ∷ j ∷ js) → IsChain ls (i ∷ is) → IsChain ls (reverse_aux (j ∷ js) (i ∷ is))
  turn_back j [] i is h chain = (h.0, h.1, chain)
  turn_back j (k ∷ ks) i is h chain = turn_back k ks j (i ∷ is) h.2 (h.0, h.1, chain)

  back_within : (j : ℕ) (i : ℕ) (is : List ℕ) → IsBack (j ∷ i ∷ is) → waits_at ls j ≡ waits_at ls j
  back_within j i is h = refl

  weight_aux : (js is : List ℕ) → weight ls (reverse_aux js is) ≡ weight ls js + weight ls is
  weight_aux [] is = omega arith
  weight_aux (j ∷ js) is = omega (arith, weight_aux js (j ∷ is))

  pub weight_turned : (js : List ℕ) → weight ls (reverse js) ≡ weight ls js
  weight_turned js = weight_aux js [] ∙ omega arith

  -- a job that waits for others is one of the report
  pub waits_within : (j : ℕ) → (k : ℕ) → Any (λ w. w ≡ k) (waits_at ls j) → j < length ls
  waits_within j k a = by ls j k a
    where
      by : (ls : List ReportLine) (j k : ℕ) → Any (λ w. w ≡ k) (waits_at ls j) → j < length ls
      by [] j k a = absurd a
      by (l ∷ ls) zero k a = omega arith
      by (l ∷ ls) (suc j) k a = omega (arith, by ls j k a)

  pub turned_back : (js : List ℕ) → IsBack js → IsChain ls (reverse js)
  turned_back [] h = tt
  turned_back (j ∷ []) h = h
  turned_back (j ∷ i ∷ is) h = turn_back i is j [] h (waits_within j i h.1)

  module _ (es : List ℕ) (before : List (Option ℕ)) (linked : Linked ls (length ls) es before) (below : (j : ℕ) → j < length ls → Each (λ w. w < j) (waits_at ls j)) where
    -- a chain from its last job on weighs no more than that job's end
    lighter : (j : ℕ) (js : List ℕ) → IsBack (j ∷ js) → weight ls (j ∷ js) ≤ get_or es j 0
    lighter j [] h = let k = linked.links j h in omega (arith, k.end)
    lighter j (i ∷ is) h =
        let k = linked.links j (waits_within j i h.1) in
        omega (arith, k.end, k.lead.most i h.1, lighter i is h.2)

    -- what a walk weighs
    pub walk_weight : (M : ℕ → Type 0) (m : ℕ) (last : Option ℕ) (js : List ℕ) → ((w : ℕ) → M w → w < length ls) → IsLead es M (record { weight = m; job = last }) → IsWalk before last js → weight ls js ≡ m
    walk_weight M m last [] within lead walk = sym (subst (Leads es M m) walk lead.least)
    walk_weight M m last (j ∷ js) within lead walk =
        let least = subst (Leads es M m) walk.0 lead.least in
        let k = linked.links j (within j least.0) in
        omega (arith, k.end, least.1, walk_weight (λ w. Any (λ v. v ≡ w) (waits_at ls j)) k.weight (get_or before j None) js (λ w a. wait_within j w (within j least.0) a) k.lead walk.1)
      where
        wait_within : (j w : ℕ) → j < length ls → Any (λ v. v ≡ w) (waits_at ls j) → w < length ls
        wait_within j w lt a = omega (arith, lt, each_of (λ w. w < j) (waits_at ls j) w (below j lt) a)

    -- it is a chain
    pub walk_back : (M : ℕ → Type 0) (m : ℕ) (last : Option ℕ) (js : List ℕ) → ((w : ℕ) → M w → w < length ls) → IsLead es M (record { weight = m; job = last }) → IsWalk before last js → IsBack js
    walk_back M m last [] within lead walk = tt
    walk_back M m last (j ∷ []) within lead walk = within j (subst (Leads es M m) walk.0 lead.least).0
    walk_back M m last (j ∷ i ∷ is) within lead walk =
        let lt : j < length ls = within j (subst (Leads es M m) walk.0 lead.least).0 in
        let k = linked.links j lt in
        let among : Any (λ v. v ≡ i) (waits_at ls j) = (subst (Leads es (λ w. Any (λ v. v ≡ w) (waits_at ls j)) k.weight) walk.1.0 k.lead.least).0 in (
          each_of (λ w. w < j) (waits_at ls j) i (below j lt) among,
          among,
          walk_back (λ w. Any (λ v. v ≡ w) (waits_at ls j)) k.weight (get_or before j None) (i ∷ is) (λ w a. omega (arith, lt, each_of (λ w. w < j) (waits_at ls j) w (below j lt) a)) k.lead walk.1,
        )

    -- the last job of a chain, if it has one
    abbrev Heads : (ℕ → Type 0) → List ℕ → Type 0
    Heads M [] = Unit {0}
    Heads M (j ∷ js) = M j

    -- no chain of its weight comes before it
    pub walk_first : (M : ℕ → Type 0) (m : ℕ) (last : Option ℕ) (js bs : List ℕ) → ((w : ℕ) → M w → w < length ls) → IsLead es M (record { weight = m; job = last }) → IsWalk before last js
        → IsBack bs → Heads M bs → weight ls bs ≡ m → is_before bs js ≡ false
    walk_first M m last [] bs within lead walk back head is = refl
    walk_first M m last (j ∷ js) [] within lead walk back head is = absurd (let least = subst (Leads es M m) walk.0 lead.least in omega (arith, is, least.2))
    walk_first M m last (j ∷ js) (b ∷ bs) within lead walk back head is =
        let least = subst (Leads es M m) walk.0 lead.least in
        let light : weight ls (b ∷ bs) ≤ get_or es b 0 = lighter b bs back in
        let heavy : get_or es b 0 ≤ m = lead.most b head in
        let at : get_or es b 0 ≡ m = omega (arith, light, heavy, is) in
        let le : j ≤ b = least.3 b head at in
        let not_less : nat_lt b j ≡ false = le-ltb b j le in
        elim (eqb_tells b j) [
          | inl same ↦
              let k = linked.links b (within b head) in
              let lt : b < length ls = within b head in
              let rest : is_before bs js ≡ false = walk_first (λ w. Any (λ v. v ≡ w) (waits_at ls b)) k.weight (get_or before b None) js bs (λ w a. omega (arith, lt, each_of (λ w. w < b) (waits_at ls b) w (below b lt) a)) k.lead
              (subst (λ z. IsWalk before (get_or before z None) js) (sym same.1) walk.1) (tail_back b bs back) (tail_head b bs back) (omega (arith, k.end, at, is)) in
              joined (nat_lt b j) (b == j) (is_before bs js) not_less same.0 rest
          | inr other ↦ apart (nat_lt b j) (b == j) (is_before bs js) not_less other.0
        ]
      where
        joined : (x y z : Bool) → x ≡ false → y ≡ true → z ≡ false → (x || y && z) ≡ false
        joined x y z e f g = rw (e, f, g) refl

        apart : (x y z : Bool) → x ≡ false → y ≡ false → (x || y && z) ≡ false
        apart x y z e f = rw (e, f) refl

        tail_back : (b : ℕ) (bs : List ℕ) → IsBack (b ∷ bs) → IsBack bs
        tail_back b [] h = tt
        tail_back b (i ∷ is) h = h.2

        tail_head : (b : ℕ) (bs : List ℕ) → IsBack (b ∷ bs) → Heads (λ w. Any (λ v. v ≡ w) (waits_at ls b)) bs
        tail_head b [] h = tt
        tail_head b (i ∷ is) h = h.1

    module _ (lead : Lead) (js : List ℕ) (top : IsLead es (λ w. w < length ls) lead) (walk : IsWalk before lead.job js) where
      top_lead : IsLead es (λ w. w < length ls) (record { weight = lead.weight; job = lead.job })
      top_lead = top

      past : (j : ℕ) → length ls ≤ j → get_or es j 0 ≡ 0
      past j le = by es j (omega (arith, linked.ends))
        where
          by : (es : List ℕ) (j : ℕ) → length es ≤ j → get_or es j 0 ≡ 0
          by [] j h = refl
          by (e ∷ es) zero h = absurd (omega (arith, h))
          by (e ∷ es) (suc j) h = by es j (omega (arith, h))

      pub certified : Certifies ls (record { jobs = reverse js; fuel = lead.weight; ends = es })
      certified = record {
        chain = turned_back js (walk_back (λ w. w < length ls) lead.weight lead.job js (λ w lt. lt) top_lead walk);
        fuel = weight_turned js ∙ walk_weight (λ w. w < length ls) lead.weight lead.job js (λ w lt. lt) top_lead walk;
        count = linked.ends;
        ends = λ j lt. let k = linked.links j lt in
            (omega (arith, k.end), each_own (λ w. fuel_at ls j + get_or es w 0 ≤ get_or es j 0) (waits_at ls j) (λ w a. omega (arith, k.end, k.lead.most w a)));
        top = λ j. elim (cases_lt j (length ls)) [ inl lt ↦ top.most j lt | inr le ↦ omega (arith, past j le) ];
      }

      pub named : IsNamed ls (record { jobs = reverse js; fuel = lead.weight; ends = es })
      named bs chain is =
          subst (λ (z : List ℕ). is_before (reverse bs) z ≡ false) (sym (reverse-reverse js))
          (walk_first (λ w. w < length ls) lead.weight lead.job js (reverse bs) (λ w lt. lt) top_lead walk (turned bs chain) (head (reverse bs) (turned bs chain)) (weight_turned bs ∙ is))
        where
          head : (bs : List ℕ) → IsBack bs → Heads (λ w. w < length ls) bs
          head [] h = tt
          head (b ∷ []) h = h
          head (b ∷ i ∷ is) h = waits_within b i h.1
