-- The bytes in an open reference: what follows them decides whether its brackets pair off.
use Rattle.std.proofs.Common.{◌≡◌, ℕ, zero, suc, ◌+◌, ◌-◌, ◌<◌, ◌≤◌, true, false, cond, eqb, List, [], ◌∷◌, ◌++◌, length, get_or, take, drop, refl, ap, ◌∙◌, append-nil, append_assoc, get_or-drop, length-drop, arith}
use Rattle.std.proofs.lemmas.Bool.{eqb-true}
use Rattle.std.proofs.lemmas.List.{take_more}
use Rattle.std.proofs.lemmas.List.Sums.{sum_by-cons}
use Rattle.em_base.specs.Spans.{cut}
use Rattle.em_refs.specs.declared.part.Bracket.{Bracket}
use Rattle.em_refs.specs.declared.part.Bracket.TheVariants.{Round, Curly}
use Rattle.em_refs.specs.Parts.{span, opening_of, closing_of}
use Rattle.em_refs.specs.Nesting.{count, NeverCloses, IsBalanced}

-- behind `deep` open brackets no front closes more than is open, and in all they are closed
abbrev pub Fronts : Bracket → ℕ → List ℕ → Type 0
Fronts k deep v = (n : ℕ) → count (closing_of k) (take n v) ≤ count (opening_of k) (take n v) + deep

abbrev pub Even : Bracket → ℕ → List ℕ → Type 0
Even k deep v = count (opening_of k) v + deep ≡ count (closing_of k) v

pub record Pairs (text : List ℕ) (from : ℕ) (k : Bracket) (deep at : ℕ) : Type 0 where
  pub fronts : (v : List ℕ) → Fronts k deep v → Fronts k 0 (cut text (span (from + 2) at) ++ v)
  pub even : (v : List ℕ) → Even k deep v → Even k 0 (cut text (span (from + 2) at) ++ v)

apart : (k : Bracket) (x : ℕ) → eqb x (closing_of k) ≡ true → eqb x (opening_of k) ≡ false
apart Round x e = rw (eqb-true x 41 e) refl
apart Curly x e = rw (eqb-true x 125 e) refl

counted : (c x : ℕ) (xs : List ℕ) → count c (x ∷ xs) ≡ cond (eqb x c) 1 0 + count c xs
counted c x xs = sum_by-cons (λ y. cond (eqb y c) 1 0) x xs

-- one byte in front: another pair opens, one closes, or neither
abbrev pub Onto : Bracket → ℕ → ℕ → ℕ → Type 0
Onto k x deep next = (v : List ℕ) → (Fronts k next v → Fronts k deep (x ∷ v)) × (Even k next v → Even k deep (x ∷ v))

fronts_onto : (k : Bracket) (x deep next : ℕ) (v : List ℕ) → cond (eqb x (closing_of k)) 1 0 + next ≤ cond (eqb x (opening_of k)) 1 0 + deep → Fronts k next v → Fronts k deep (x ∷ v)
fronts_onto k x deep next v le h zero = omega arith
fronts_onto k x deep next v le h (suc n) = omega (arith, h n, counted (closing_of k) x (take n v), counted (opening_of k) x (take n v))

even_onto : (k : Bracket) (x deep next : ℕ) (v : List ℕ) → cond (eqb x (closing_of k)) 1 0 + next ≡ cond (eqb x (opening_of k)) 1 0 + deep → Even k next v → Even k deep (x ∷ v)
even_onto k x deep next v e h = omega (arith, h, counted (closing_of k) x v, counted (opening_of k) x v)

onto : (k : Bracket) (x deep next : ℕ) → cond (eqb x (closing_of k)) 1 0 + next ≡ cond (eqb x (opening_of k)) 1 0 + deep → Onto k x deep next
onto k x deep next e v = (fronts_onto k x deep next v (omega arith), even_onto k x deep next v e)

pub onto_closer : (k : Bracket) (x deep : ℕ) → eqb x (closing_of k) ≡ true → Onto k x (suc deep) deep
onto_closer k x deep e = onto k x (suc deep) deep (rw (e, apart k x e) (omega arith))

pub onto_other : (k : Bracket) (x deep : ℕ) → eqb x (closing_of k) ≡ false → Onto k x deep (cond (eqb x (opening_of k)) (suc deep) deep)
onto_other k x deep e = elim (eqb x (opening_of k)) as (λ b. eqb x (opening_of k) ≡ b → Onto k x deep (cond b (suc deep) deep)) [
  | true ↦ λ d. onto k x deep (suc deep) (rw (e, d) (omega arith))
  | false ↦ λ d. onto k x deep deep (rw (e, d) refl)
] refl

cut_more : (text : List ℕ) (s at x : ℕ) → s ≤ at → at < length text → get_or text at 0 ≡ x → cut text (span s (at + 1)) ≡ cut text (span s at) ++ x ∷ []
cut_more text s at x low lt is =
    let n : at + 1 - s ≡ at - s + 1 = omega arith in
    let here : s + (at - s) ≡ at = omega arith in
    let byte : get_or (drop s text) (at - s) 0 ≡ x = get_or-drop s text (at - s) 0 ∙ ap (λ i. get_or text i 0) here ∙ is in
    ap (λ m. take m (drop s text)) n ∙ take_more (drop s text) (at - s) 0 (omega (arith, length-drop s text)) ∙ ap (λ b. take (at - s) (drop s text) ++ b ∷ []) byte

pub no_pairs : (text : List ℕ) (from at : ℕ) (k : Bracket) → at ≡ from + 2 → Pairs text from k 0 at
no_pairs text from at k is =
    let none : at - (from + 2) ≡ 0 = omega arith in
    record { fronts = λ v h. rw none h; even = λ v h. rw none h }

pub pairs_on : (text : List ℕ) (from at x : ℕ) (k : Bracket) (deep next : ℕ) → from + 2 ≤ at → at < length text → get_or text at 0 ≡ x → Pairs text from k deep at → Onto k x deep next → Pairs text from k next (at + 1)
pairs_on text from at x k deep next low lt is pairs step =
    let more : (v : List ℕ) → cut text (span (from + 2) (at + 1)) ++ v ≡ cut text (span (from + 2) at) ++ (x ∷ v) = λ v. ap (λ (w : List ℕ). w ++ v) (cut_more text (from + 2) at x low lt is) ∙ append_assoc (cut text (span (from + 2) at)) (x ∷ []) v in
    record {
      fronts = λ v h. rw (more v) (pairs.fronts (x ∷ v) ((step v).0 h));
      even = λ v h. rw (more v) (pairs.even (x ∷ v) ((step v).1 h));
    }

never_closes : (k : Bracket) (v : List ℕ) → Fronts k 0 v → NeverCloses k v
never_closes k v h = λ n. omega (arith, h n)

fronts_nil : (k : Bracket) (deep : ℕ) → Fronts k deep []
fronts_nil k deep zero = omega arith
fronts_nil k deep (suc n) = omega arith

-- the end of the text, and the bracket that closes
pub pairs_left : (text : List ℕ) (from at : ℕ) (k : Bracket) (deep : ℕ) → cut text (span (from + 2) at) ≡ drop (from + 2) text → Pairs text from k deep at → NeverCloses k (drop (from + 2) text)
pairs_left text from at k deep all pairs =
    let fronts : Fronts k 0 (cut text (span (from + 2) at) ++ []) = pairs.fronts [] (fronts_nil k deep) in
    never_closes k (drop (from + 2) text) (rw (append-nil, all) at fronts)

pub pairs_end : (text : List ℕ) (from at : ℕ) (k : Bracket) → Pairs text from k 0 at → IsBalanced k (cut text (span (from + 2) at))
pairs_end text from at k pairs =
    let w = cut text (span (from + 2) at) in
    let even : Even k 0 (w ++ []) = pairs.even [] refl in
    let fronts : Fronts k 0 (w ++ []) = pairs.fronts [] (fronts_nil k 0) in
    record {
      equal = omega (arith, rw append-nil at even);
      fronts = never_closes k w (rw append-nil at fronts);
    }
