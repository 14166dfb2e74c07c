-- Words by their places: what a run of bytes is between blanks.
use Rattle.std.proofs.Common.{◌≡◌, ℕ, ◌-◌, ◌<◌, ◌⊎◌, inl, inr, true, not, List, length, get_or, arith, subst, sym}
use Rattle.std.proofs.lemmas.Bool.{not-true, not-false, both_ways, cases_eq}
use Rattle.em_base.specs.Blanks.{is_blank}
use Rattle.em_base.proofs.Lemmas.{Runs}
use Rattle.em_wordlist.specs.Words.{IsWord, IsApart}

before_word : (text : List ℕ) (at start end : ℕ) → IsApart text at → Runs (λ b. not (is_blank b)) text at start → start < length text → (start ≡ 0) ⊎ (is_blank (get_or text (start - 1) 0) ≡ true)
before_word text at start end apart blanks within =
    elim (cases_eq at start) [
      | inl same ↦ elim apart [
        | inl e ↦ inl (omega arith)
        | inr h ↦ absurd (both_ways _ (not-true _ (blanks.passes within)) (subst (λ k. is_blank (get_or text k 0) ≡ true) same (h (omega arith))))
      ]
      | inr n ↦ inr (not-false _ (blanks.fails (start - 1) (omega arith) (omega arith)))
    ]

-- behind blanks the other bytes are a word
pub word_of_runs : (text : List ℕ) (at start end : ℕ) → IsApart text at → Runs (λ b. not (is_blank b)) text at start → start < length text → Runs is_blank text start end → IsWord text record { start = start; end = end }
word_of_runs text at start end apart blanks within plain = record {
  filled = elim (cases_eq start end) [ inl e ↦ absurd (both_ways _ (not-true _ (blanks.passes within)) (subst (λ k. is_blank (get_or text k 0) ≡ true) (sym e) (plain.passes (omega arith)))) | inr n ↦ omega arith ];
  within = plain.ordered.1;
  plain = plain.fails;
  before = before_word text at start end apart blanks within;
  behind = elim (cases_eq end (length text)) [ inl e ↦ inl e | inr n ↦ inr (plain.passes (omega arith)) ];
}
