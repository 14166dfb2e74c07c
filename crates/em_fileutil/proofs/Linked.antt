-- What a link may say, and what ln and readlink come to, by their operands.
use Rattle.std.proofs.Common.{◌≡◌, ◌≢◌, ◌<◌, ◌≤◌, ◌↔◌, ℕ, Bool, true, false, List, [], ◌∷◌, All, IsTrue, length, get_or, Result, Ok, Err, refl, sym, ap, subst, ◌∙◌, arith}
use Rattle.std.specs.Prelude.{◌==◌}
use Rattle.std.specs.List.{list_all}
use Rattle.std.proofs.lemmas.Bool.{ne_eqb, eqb-false}
use Rattle.std.proofs.lemmas.List.Elements.{All-weaker}
use Rattle.std.proofs.lemmas.List.Sums.{AllPass-from_list_all, list_all-from_AllPass}
use Rattle.em_tree.specs.LinkTexts.{IsLinkText}
use Rattle.em_view.specs.declared.done.Done.{Done}
use Rattle.em_view.specs.declared.done.ExecNo.{ExecNo}
use Rattle.em_view.specs.Performs.{DeskState, Told}
use Rattle.em_view.specs.Steps.{Does}
use Rattle.em_view.specs.Ends.{is_want}
use Rattle.em_utility.specs.Operands.{caught}
use Rattle.em_fileutil.specs.Linking.{is_plain, link_operand, read_link}
use Rattle.em_fileutil.specs.Utilities.{missing, extra, link_two, read_one}

-- ---- the text

plain_byte : (b : ℕ) → is_plain b ≡ true → (b ≢ 0) × (b ≢ 10)
plain_byte b h = (λ e. absurd (let never : false ≡ true = subst (λ k. is_plain k ≡ true) e h in cc), λ e. absurd (let never : false ≡ true = subst (λ k. is_plain k ≡ true) e h in cc))

byte_plain : (b : ℕ) → (b ≢ 0) × (b ≢ 10) → is_plain b ≡ true
byte_plain b h = rw (ne_eqb b 0 h.0, ne_eqb b 10 h.1) refl

filled : (text : List ℕ) → false ≡ (length text == 0) → text ≢ []
filled [] e h = cc
filled (b ∷ bs) e h = cc

-- a text that is neither empty nor too long may be a link's exactly where its bytes are plain
pub link_texts : (text : List ℕ) (r : Bool) → r ≡ list_all is_plain text → false ≡ (length text == 0) → length text ≤ 1024 → IsTrue r ↔ IsLinkText text
link_texts text r is some short = (
  λ t. record {
    filled = filled text some;
    short = short;
    plain = All-weaker (λ b. is_plain b ≡ true) (λ b. (b ≢ 0) × (b ≢ 10)) plain_byte text (AllPass-from_list_all is_plain text (sym is ∙ t));
  },
  λ k. is ∙ list_all-from_AllPass is_plain text (All-weaker (λ b. (b ≢ 0) × (b ≢ 10)) (λ b. is_plain b ≡ true) byte_plain text k.plain),
)

-- ---- operands

module _ {V : Type 0} {tells : V → Told} {old new : DeskState V} {s t : Done} {r : Result (Unit {0}) ExecNo} (name cwd : List ℕ) where
  pub link_few : (force : Bool) (os : List (List ℕ)) → length os < 2 → Does is_want tells old new s t r (missing name) → Does is_want tells old new s t r (link_two name force cwd os)
  link_few force [] lt p = p
  link_few force (o ∷ []) lt p = p
  link_few force (o ∷ e ∷ es) lt p = absurd (omega arith)

  pub link_both : (force : Bool) (os : List (List ℕ)) (text l : List ℕ) → 2 ≤ length os → length os < 3 → text ≡ get_or os 0 text → l ≡ get_or os 1 l → Does is_want tells old new s t r (caught name (link_operand cwd force text l)) → Does is_want tells old new s t r (link_two name force cwd os)
  link_both force [] text l ge lt first second p = absurd (omega arith)
  link_both force (o ∷ []) text l ge lt first second p = absurd (omega arith)
  link_both force (o ∷ e ∷ []) text l ge lt first second p =
      let q = subst (λ (x : List ℕ). Does is_want tells old new s t r (caught name (link_operand cwd force x l))) first p in
      let u = subst (λ (x : List ℕ). Does is_want tells old new s t r (caught name (link_operand cwd force o x))) second q in
      record { performs = u.performs }
  link_both force (o ∷ e ∷ f ∷ fs) text l ge lt first second p = absurd (omega arith)

  pub link_more : (force : Bool) (os : List (List ℕ)) → 3 ≤ length os → Does is_want tells old new s t r (extra name) → Does is_want tells old new s t r (link_two name force cwd os)
  link_more force [] ge p = absurd (omega arith)
  link_more force (o ∷ []) ge p = absurd (omega arith)
  link_more force (o ∷ e ∷ []) ge p = absurd (omega arith)
  link_more force (o ∷ e ∷ f ∷ fs) ge p = p

  pub read_none : (os : List (List ℕ)) → length os < 1 → Does is_want tells old new s t r (missing name) → Does is_want tells old new s t r (read_one name cwd os)
  read_none [] lt p = p
  read_none (o ∷ os) lt p = absurd (omega arith)

  pub read_single : (os : List (List ℕ)) (l : List ℕ) → 1 ≤ length os → length os < 2 → l ≡ get_or os 0 l → Does is_want tells old new s t r (caught name (read_link cwd l)) → Does is_want tells old new s t r (read_one name cwd os)
  read_single [] l ge lt is p = absurd (omega arith)
  read_single (o ∷ []) l ge lt is p = let q = subst (λ (x : List ℕ). Does is_want tells old new s t r (caught name (read_link cwd x))) is p in record { performs = q.performs }
  read_single (o ∷ e ∷ es) l ge lt is p = absurd (omega arith)

  pub read_more : (os : List (List ℕ)) → 2 ≤ length os → Does is_want tells old new s t r (extra name) → Does is_want tells old new s t r (read_one name cwd os)
  read_more [] ge p = absurd (omega arith)
  read_more (o ∷ []) ge p = absurd (omega arith)
  read_more (o ∷ e ∷ es) ge p = p
