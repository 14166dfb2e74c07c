-- No chain weighs more than one that is certified, and one chain of its weight is named.
use Rattle.std.proofs.Common.{◌≡◌, ℕ, ◌+◌, ◌<◌, ◌≤◌, ◌==◌, nat_lt, Bool, true, false, ◌||◌, ◌&&◌, ◌⊎◌, inl, inr, List, [], ◌∷◌, length, reverse, get_or, refl, sym, ap, ap₂, subst, ◌∙◌, arith}
use Rattle.std.proofs.lemmas.Bool.{cases_lt, lt-ltb, eq-eqb}
use Rattle.std.proofs.lemmas.List.{reverse-reverse}
use Rattle.em_report.specs.declared.report.ReportLine.{ReportLine}
use Rattle.em_insight.specs.declared.data.Chain.{Chain}
use Rattle.em_insight.specs.Jobs.{fuel_at, waits_at}
use Rattle.em_insight.specs.Chains.{is_before, IsChain, weight, Certifies, IsNamed}
use Rattle.em_insight.proofs.Lists.{each_of}

module _ (ls : List ReportLine) where
  pub chain_within : (j : ℕ) (js : List ℕ) → IsChain ls (j ∷ js) → j < length ls
  chain_within j [] h = h
  chain_within j (k ∷ ks) h = omega (arith, h.0, chain_within k ks h.2)

  module _ (c : Chain) (cert : Certifies ls c) where
    lighter : (j : ℕ) (js : List ℕ) → IsChain ls (j ∷ js) → weight ls (j ∷ js) + get_or c.ends j 0 ≤ c.fuel + fuel_at ls j
    lighter j [] h = omega (arith, cert.top j)
    lighter j (k ∷ ks) h =
        let e : fuel_at ls k + get_or c.ends j 0 ≤ get_or c.ends k 0 = each_of (λ w. fuel_at ls k + get_or c.ends w 0 ≤ get_or c.ends k 0) (waits_at ls k) j (cert.ends k (chain_within k ks h.2)).1 h.1 in
        omega (arith, e, lighter k ks h.2)

    pub heaviest : (js : List ℕ) → IsChain ls js → weight ls js ≤ c.fuel
    heaviest [] h = omega arith
    heaviest (j ∷ js) h = omega (arith, lighter j js h, (cert.ends j (chain_within j js h)).0)

-- two lists of which none comes before the other
pub alike : (xs ys : List ℕ) → is_before xs ys ≡ false → is_before ys xs ≡ false → xs ≡ ys
alike [] [] a b = refl
alike [] (y ∷ ys) a b = absurd cc
alike (x ∷ xs) [] a b = absurd cc
alike (x ∷ xs) (y ∷ ys) a b = by (cases_lt x y) (cases_lt y x) (alike xs ys)
  where
    by : (x < y) ⊎ (y ≤ x) → (y < x) ⊎ (x ≤ y) → (is_before xs ys ≡ false → is_before ys xs ≡ false → xs ≡ ys) → x ∷ xs ≡ y ∷ ys
    by (inl lt) other tails = let t : nat_lt x y ≡ true = lt-ltb x y lt in absurd (let f : (true || x == y && is_before xs ys) ≡ false = subst (λ z. (z || x == y && is_before xs ys) ≡ false) t a in cc)
    by (inr le) (inl lt) tails = let t : nat_lt y x ≡ true = lt-ltb y x lt in absurd (let f : (true || y == x && is_before ys xs) ≡ false = subst (λ z. (z || y == x && is_before ys xs) ≡ false) t b in cc)
    by (inr le) (inr ge) tails =
        let same : x ≡ y = omega (arith, le, ge) in
        let back : y ≡ x = sym same in
        let at : (x == y) ≡ true = eq-eqb x y same in
        let at2 : (y == x) ≡ true = eq-eqb y x back in
        ap₂ (λ z (zs : List ℕ). z ∷ zs) same (tails (rest x y (is_before xs ys) at a) (rest y x (is_before ys xs) at2 b))
      where
        rest : (x y : ℕ) (z : Bool) → (x == y) ≡ true → (nat_lt x y || x == y && z) ≡ false → z ≡ false
        rest x y z e h = last (nat_lt x y) z (subst (λ w. (nat_lt x y || w && z) ≡ false) e h)
          where
            last : (b z : Bool) → (b || true && z) ≡ false → z ≡ false
            last true z h = absurd cc
            last false z h = h

pub one_chain : (ls : List ReportLine) (c d : Chain) → Certifies ls c → Certifies ls d → IsNamed ls c → IsNamed ls d → (c.jobs ≡ d.jobs) × (c.fuel ≡ d.fuel)
one_chain ls c d f g a b =
    let more : d.fuel ≤ c.fuel = omega (arith, heaviest ls c f d.jobs g.chain, g.fuel) in
    let less : c.fuel ≤ d.fuel = omega (arith, heaviest ls d g c.jobs f.chain, f.fuel) in
    let same : c.fuel ≡ d.fuel = omega (arith, more, less) in
    let back : reverse c.jobs ≡ reverse d.jobs = alike (reverse c.jobs) (reverse d.jobs) (b c.jobs f.chain (f.fuel ∙ same)) (a d.jobs g.chain (g.fuel ∙ sym same)) in
    (sym (reverse-reverse c.jobs) ∙ ap (λ (xs : List ℕ). reverse xs) back ∙ reverse-reverse d.jobs, same)
