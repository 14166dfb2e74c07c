-- Plain text is one literal.
use Rattle.std.proofs.Common.{◌≡◌, ◌≢◌, ℕ, suc, ◌+◌, ◌<◌, Bool, true, false, eqb, List, [], ◌∷◌, length, get_or, drop, Ok, refl, sym, ap, ◌∙◌, add-zero, zero-add, drop-cons, arith}
use Rattle.std.specs.Prelude.{All}
use Rattle.std.specs.List.{AllByRecursion, position_or_len}
use Rattle.std.proofs.lemmas.Bool.{eq-eqb, ne_eqb}
use Rattle.std.proofs.lemmas.List.{drop-drop}
use Rattle.std.proofs.lemmas.List.Elements.{recursion_from_All}
use Rattle.em_refs.specs.declared.part.Part.TheVariants.{Literal}
use Rattle.em_refs.specs.Parts.{plain, span, literal, ended, with_front, parts_from, all_closed, parts_of}
use Rattle.em_refs.specs.Steps.{rest_from}

abbrev is_dollar : ℕ → Bool
is_dollar b = eqb b 36

-- the literal that began at `from` ends in front of the next `$`
ends : (from at : ℕ) (xs : List ℕ) → from < at →
    parts_from (plain from) at xs ≡ with_front (Literal (span from (at + position_or_len is_dollar xs)) ∷ []) (parts_from (plain (at + position_or_len is_dollar xs)) (at + position_or_len is_dollar xs) (drop (position_or_len is_dollar xs) xs))
ends from at [] lt =
    let apart : eqb from at ≡ false = ne_eqb _ _ (λ e. omega arith) in
    let same : eqb at at ≡ true = eq-eqb _ _ refl in
    rw (add-zero at, apart, same) refl
ends from at (x ∷ xs) lt =
    elim (eqb x 36) as (λ b. eqb x 36 ≡ b → parts_from (plain from) at (x ∷ xs) ≡ with_front (Literal (span from (at + position_or_len is_dollar (x ∷ xs))) ∷ []) (parts_from (plain (at + position_or_len is_dollar (x ∷ xs))) (at + position_or_len is_dollar (x ∷ xs)) (drop (position_or_len is_dollar (x ∷ xs)) (x ∷ xs)))) [
      | true ↦ λ e.
          let apart : eqb from at ≡ false = ne_eqb _ _ (λ e. omega arith) in
          let same : eqb at at ≡ true = eq-eqb _ _ refl in
          rw (e, add-zero at, e, apart, same) refl
      | false ↦ λ e.
          let k = position_or_len is_dollar xs in
          let one : 1 + k ≡ suc k = omega arith in
          let at_end : at + suc k ≡ at + 1 + k = omega arith in
          rw (e, one, at_end) (ends from (at + 1) xs (omega arith))
    ] refl

pub first_literal : (text : List ℕ) (at n : ℕ) → at < length text → (get_or text at 0 ≡ 36 → ⊥) → n ≡ position_or_len is_dollar (drop at text) →
    rest_from text at ≡ with_front (Literal (span at (at + n)) ∷ []) (rest_from text (at + n))
first_literal text at n lt other is =
    let k = position_or_len is_dollar (drop (suc at) text) in
    let cell : drop at text ≡ get_or text at 0 ∷ drop (suc at) text = drop-cons text at 0 lt in
    let plain : eqb (get_or text at 0) 36 ≡ false = ne_eqb _ _ other in
    let more : position_or_len is_dollar (drop at text) ≡ suc k = rw (cell, plain) (omega arith) in
    let end : at + n ≡ at + 1 + k = omega arith in
    let rest : drop (at + 1 + k) text ≡ drop k (drop (suc at) text) = ap (λ m. drop m text) (omega arith) ∙ sym (drop-drop k (suc at) text) in
    rw (end, cell, plain, rest) (ends at (at + 1) (drop (suc at) text) (omega arith))

plain_all : (from at : ℕ) (xs : List ℕ) → AllByRecursion (λ b. b ≢ 36) xs → parts_from (plain from) at xs ≡ ended (plain from) (at + length xs)
plain_all from at [] all = rw (add-zero at) refl
plain_all from at (x ∷ xs) all =
    let other : eqb x 36 ≡ false = ne_eqb _ _ all.0 in
    let k : at + suc (length xs) ≡ at + 1 + length xs = omega arith in
    rw (other, k) (plain_all from (at + 1) xs all.1)

pub plain_law : (text : List ℕ) → All (λ b. b ≢ 36) text → parts_of text ≡ Ok (literal 0 (length text))
plain_law text all = ap (λ p. all_closed p.parts p.unclosed) (plain_all 0 0 text (recursion_from_All _ text all)) ∙ rw (zero-add (length text)) refl
