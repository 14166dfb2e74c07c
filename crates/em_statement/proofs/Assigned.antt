-- An assignment's parts, with blanks between them, are the text.
use Rattle.std.proofs.Common.{◌≡◌, ◌≢◌, ◌⊎◌, inl, inr, ℕ, zero, suc, ◌+◌, ◌-◌, ◌<◌, ◌≤◌, true, cond, List, [], ◌∷◌, ◌++◌, length, take, drop, Option, Some, None, refl, sym, subst, ap, ◌∙◌, arith}
use Rattle.std.specs.Prelude.{nat_eq, codes, option_and_then, option_map}
use Rattle.std.specs.List.{AllByRecursion, position, prefix_len, starts_with, ends_with}
use Rattle.std.specs.Cmp.Lexicographic.{same_text}
use Rattle.std.proofs.lemmas.List.{take-append-drop, drop-take, drop-drop, length-take-le}
use Rattle.std.proofs.lemmas.List.Elements.{All-nil, All-cons}
use Rattle.std.proofs.lemmas.List.Quantifiers.{position-Some}
use Rattle.em_base.specs.Blanks.{is_blank, trimmed, trimmed_start}
use Rattle.em_base.proofs.Lemmas.{by_cases}
use Rattle.em_statement.specs.declared.assignment.Modifiers.{Modifiers}
use Rattle.em_statement.specs.declared.assignment.Assignment.{Assignment}
use Rattle.em_statement.specs.declared.assignment.Operator.{Operator}
use Rattle.em_statement.specs.declared.assignment.Operator.TheVariants.{Recursive, Simple, IfUndefined, Append, Shell, Posix}
use Rattle.em_statement.specs.declared.assignment.Sign.{Sign}
use Rattle.em_statement.specs.Shapes.{shape}
use Rattle.em_statement.specs.Written.{IsBlotted, Spells, AllBlank, IsWritten}
use Rattle.em_statement.specs.Assignments.{is_mark, found_sign, at_equals, at_colon, at_mark, sign_of, assignment_at, assignment_of}
use Rattle.em_statement.proofs.Blotted.{shape_blotted}

-- ---- what stands in the shape and is no `x` stands in the text

abbrev Clear : List ℕ → Type 0
Clear p = AllByRecursion (λ b. b ≢ 120) p

blotted_drop : (n : ℕ) (s t : List ℕ) → IsBlotted s t → IsBlotted (drop n s) (drop n t)
blotted_drop zero s t b = b
blotted_drop (suc n) [] [] b = b
blotted_drop (suc n) [] (y ∷ t) b = absurd b
blotted_drop (suc n) (x ∷ s) [] b = absurd b
blotted_drop (suc n) (x ∷ s) (y ∷ t) b = blotted_drop n s t b.1

byte_shows : (x y c : ℕ) → (x ≡ y) ⊎ (x ≡ 120) → c ≢ 120 → x ≡ c → y ≡ c
byte_shows x y c (inl same) clear is = sym same ∙ is
byte_shows x y c (inr blot) clear is = absurd (clear (sym is ∙ blot))

shows : (p s t : List ℕ) → IsBlotted s t → Clear p → take (length p) s ≡ p → take (length p) t ≡ p
shows [] s t b clear is = refl
shows (c ∷ p) [] t b clear is = absurd (cc)
shows (c ∷ p) (x ∷ s) [] b clear is = absurd b
shows (c ∷ p) (x ∷ s) (y ∷ t) b clear is =
    let first : x ≡ c = cc in
    let rest : take (length p) s ≡ p = cc in
    let byte : y ≡ c = byte_shows x y c b.0 clear.0 first in
    let tail : take (length p) t ≡ p = shows p s t b.1 clear.1 rest in
    cc

starts : (p s : List ℕ) → starts_with nat_eq s p ≡ true → take (length p) s ≡ p
starts p s e = sym (same_text p (take (length p) s) (sym e))

-- ---- the sign

pub record Signed (text : List ℕ) (s : Sign) : Type 0 where
  pub order : s.start ≤ s.end
  pub spelled : Spells s.operator (take (s.end - s.start) (drop s.start text))

module _ (shape text : List ℕ) (b : IsBlotted shape text) where
  begun : (p : List ℕ) (at : ℕ) → Clear p → starts_with nat_eq (drop at shape) p ≡ true → take (length p) (drop at text) ≡ p
  begun p at clear e = shows p (drop at shape) (drop at text) (blotted_drop at shape text b) clear (starts p (drop at shape) e)

  -- a byte right before an `=`
  two_bytes : (c k : ℕ) → c ≢ 120 → take 1 (drop k shape) ≡ c ∷ [] → take 1 (drop (suc k) shape) ≡ 61 ∷ [] → take 2 (drop k text) ≡ c ∷ 61 ∷ []
  two_bytes c k clear first second =
      let size : k + 1 ≡ suc k = omega arith in
      let next : drop (suc k) shape ≡ drop 1 (drop k shape) = sym (drop-drop 1 k shape ∙ ap (λ n. drop n shape) size) in
      let both : take 2 (drop k shape) ≡ c ∷ 61 ∷ [] = pair (drop k shape) first (ap (take 1) (sym next) ∙ second) in
      shows (c ∷ 61 ∷ []) (drop k shape) (drop k text) (blotted_drop k shape text b) (clear, ((λ e. absurd (omega arith)), tt)) both
    where
      pair : (r : List ℕ) → take 1 r ≡ c ∷ [] → take 1 (drop 1 r) ≡ 61 ∷ [] → take 2 r ≡ c ∷ 61 ∷ []
      pair [] one two = absurd (cc)
      pair (x ∷ []) one two = absurd (cc)
      pair (x ∷ y ∷ r) one two = let e : x ≡ c = cc in let f : y ≡ 61 = cc in cc

  prefixed : (c at : ℕ) (o : Operator) → c ≢ 120 → at < length shape → starts_with nat_eq (drop at shape) (codes "=") ≡ true → ends_with nat_eq (take at shape) (c ∷ []) ≡ true
      → ((sign : List ℕ) → sign ≡ c ∷ 61 ∷ [] → Spells o sign) → Signed text record { start = at - 1; end = at + 1; operator = o }
  prefixed c zero o clear lt equals ends spells = absurd (let e : [] ≡ c ∷ [] = sym (same_text (c ∷ []) (drop (0 - 1) []) (sym ends)) in cc)
  prefixed c (suc k) o clear lt equals ends spells =
      let long : length (take (suc k) shape) ≡ suc k = length-take-le (suc k) shape (omega arith) in
      let less : length (take (suc k) shape) - 1 ≡ k = omega arith in
      let more : suc k ≡ k + 1 = omega arith in
      let last : c ∷ [] ≡ drop (length (take (suc k) shape) - 1) (take (suc k) shape) = same_text (c ∷ []) (drop (length (take (suc k) shape) - 1) (take (suc k) shape)) (sym ends) in
      let first : take 1 (drop k shape) ≡ c ∷ [] = sym (drop-take k 1 shape) ∙ ap (λ n. drop k (take n shape)) (sym more) ∙ ap (λ n. drop n (take (suc k) shape)) (sym less) ∙ sym last in
      let second : take 1 (drop (suc k) shape) ≡ 61 ∷ [] = starts (codes "=") (drop (suc k) shape) equals in
      let start : suc k - 1 ≡ k = omega arith in
      let size : suc k + 1 - k ≡ 2 = omega arith in
      record {
        order = omega arith;
        spelled = spells _ (ap (λ n. take (suc k + 1 - n) (drop n text)) start ∙ ap (λ n. take n (drop k text)) size ∙ two_bytes c k clear first second);
      }

  placed : (p : List ℕ) (at n : ℕ) (o : Operator) → n ≡ length p → Clear p → starts_with nat_eq (drop at shape) p ≡ true
      → ((sign : List ℕ) → sign ≡ p → Spells o sign) → Signed text record { start = at; end = at + n; operator = o }
  placed p at n o long clear e spells =
      let size : at + n - at ≡ length p = omega arith in
      record { order = omega arith; spelled = spells _ (ap (λ m. take m (drop at text)) size ∙ begun p at clear e) }

  is_found : (start end : ℕ) (o : Operator) (s : Sign) → found_sign start end o ≡ Some s → Signed text record { start = start; end = end; operator = o } → Signed text s
  is_found start end o s e signed = let same : record { start = start; end = end; operator = o } ≡ s = cc in subst (Signed text) same signed

  of_equals : (at : ℕ) (s : Sign) → at < length shape → starts_with nat_eq (drop at shape) (codes "=") ≡ true → at_equals at (take at shape) ≡ Some s → Signed text s
  of_equals at s lt equals = by_cases (ends_with nat_eq (take at shape) (codes "?")) (λ t. cond t (found_sign (at - 1) (at + 1) IfUndefined) (cond (ends_with nat_eq (take at shape) (codes "+")) (found_sign (at - 1) (at + 1) Append) (cond (ends_with nat_eq (take at shape) (codes "!")) (found_sign (at - 1) (at + 1) Shell) (found_sign at (at + 1) Recursive))) ≡ Some s → Signed text s)
      (λ ends e. is_found (at - 1) (at + 1) IfUndefined s e (prefixed 63 at IfUndefined (λ f. absurd (omega arith)) lt equals ends (λ sign is. is)))
      (λ _. by_cases (ends_with nat_eq (take at shape) (codes "+")) (λ t. cond t (found_sign (at - 1) (at + 1) Append) (cond (ends_with nat_eq (take at shape) (codes "!")) (found_sign (at - 1) (at + 1) Shell) (found_sign at (at + 1) Recursive)) ≡ Some s → Signed text s)
      (λ ends e. is_found (at - 1) (at + 1) Append s e (prefixed 43 at Append (λ f. absurd (omega arith)) lt equals ends (λ sign is. is)))
      (λ _. by_cases (ends_with nat_eq (take at shape) (codes "!")) (λ t. cond t (found_sign (at - 1) (at + 1) Shell) (found_sign at (at + 1) Recursive) ≡ Some s → Signed text s)
      (λ ends e. is_found (at - 1) (at + 1) Shell s e (prefixed 33 at Shell (λ f. absurd (omega arith)) lt equals ends (λ sign is. is)))
      (λ _ e. is_found at (at + 1) Recursive s e (placed (codes "=") at 1 Recursive refl ((λ f. absurd (omega arith)), tt) equals (λ sign is. is)))))

  of_colon : (at : ℕ) (s : Sign) → at_colon at (drop at shape) ≡ Some s → Signed text s
  of_colon at s = by_cases (starts_with nat_eq (drop at shape) (codes ":=")) (λ t. cond t (found_sign at (at + 2) Simple) (cond (starts_with nat_eq (drop at shape) (codes "::=")) (found_sign at (at + 3) Simple) (cond (starts_with nat_eq (drop at shape) (codes ":::=")) (found_sign at (at + 4) Posix) None)) ≡ Some s → Signed text s)
      (λ there e. is_found at (at + 2) Simple s e (placed (codes ":=") at 2 Simple refl ((λ f. absurd (omega arith)), ((λ f. absurd (omega arith)), tt)) there (λ sign is. inl is)))
      (λ _. by_cases (starts_with nat_eq (drop at shape) (codes "::=")) (λ t. cond t (found_sign at (at + 3) Simple) (cond (starts_with nat_eq (drop at shape) (codes ":::=")) (found_sign at (at + 4) Posix) None) ≡ Some s → Signed text s)
      (λ there e. is_found at (at + 3) Simple s e (placed (codes "::=") at 3 Simple refl ((λ f. absurd (omega arith)), ((λ f. absurd (omega arith)), ((λ f. absurd (omega arith)), tt))) there (λ sign is. inr is)))
      (λ _. by_cases (starts_with nat_eq (drop at shape) (codes ":::=")) (λ t. cond t (found_sign at (at + 4) Posix) None ≡ Some s → Signed text s)
      (λ there e. is_found at (at + 4) Posix s e (placed (codes ":::=") at 4 Posix refl ((λ f. absurd (omega arith)), ((λ f. absurd (omega arith)), ((λ f. absurd (omega arith)), ((λ f. absurd (omega arith)), tt)))) there (λ sign is. is)))
      (λ _ e. absurd (cc))))

  of_mark : (at : ℕ) (s : Sign) → at < length shape → at_mark shape at ≡ Some s → Signed text s
  of_mark at s lt = by_cases (starts_with nat_eq (drop at shape) (codes "=")) (λ t. cond t (at_equals at (take at shape)) (at_colon at (drop at shape)) ≡ Some s → Signed text s)
      (λ equals. of_equals at s lt equals)
      (λ _. of_colon at s)

  signed : (place : Option ℕ) (s : Sign) → position is_mark shape ≡ place → option_and_then (at_mark shape) place ≡ Some s → Signed text s
  signed None s there e = absurd (cc)
  signed (Some at) s there e = of_mark at s (position-Some is_mark shape at 0 there).0 e

-- ---- the parts

abbrev is_space : ℕ → Type 0
is_space b = is_blank b ≡ true

start_parts : (text : List ℕ) → (front : List ℕ) × (text ≡ front ++ trimmed_start text) × AllBlank front
start_parts [] = ([], refl, All-nil is_space)
start_parts (x ∷ text) = by_cases (is_blank x) (λ t. is_blank x ≡ t → (front : List ℕ) × (x ∷ text ≡ front ++ drop (cond t (1 + prefix_len is_blank text) 0) (x ∷ text)) × AllBlank front)
    (λ _ is.
    let (front, e, blank) = start_parts text in
    let one : 1 + prefix_len is_blank text ≡ suc (prefix_len is_blank text) = omega arith in
    (x ∷ front, ap (λ l. x ∷ l) e ∙ ap (λ n. x ∷ (front ++ drop n (x ∷ text))) (sym one), All-cons is_space x front is blank))
    (λ _ _. ([], refl, All-nil is_space)) refl

abbrev pub Trims : Type 0
Trims = (text : List ℕ) → (front : List ℕ) × (back : List ℕ) × (text ≡ front ++ (trimmed text ++ back)) × AllBlank front × AllBlank back

written : (m : Modifiers) (text : List ℕ) (s : Sign) → Trims → Signed text s → IsWritten text (assignment_at m text s)
written m text s trims sign =
    let (before, behind, name, blank_before, blank_behind) = trims (take s.start text) in
    let (ahead, value, blank_ahead) = start_parts (drop s.end text) in
    let size : s.start + (s.end - s.start) ≡ s.end = omega (arith, sign.order) in
    let rest : take (s.end - s.start) (drop s.start text) ++ drop s.end text ≡ drop s.start text =
    ap (λ n. take (s.end - s.start) (drop s.start text) ++ drop n text) (sym size)
    ∙ ap (λ l. take (s.end - s.start) (drop s.start text) ++ l) (sym (drop-drop (s.end - s.start) s.start text))
    ∙ take-append-drop (s.end - s.start) (drop s.start text) in
    record {
      before = before;
      behind = behind;
      sign = take (s.end - s.start) (drop s.start text);
      ahead = ahead;
      whole = sym (take-append-drop s.start text) ∙ ap (λ l. l ++ drop s.start text) name
          ∙ ap (λ l. (before ++ (trimmed (take s.start text) ++ behind)) ++ l) (sym rest ∙ ap (λ l. take (s.end - s.start) (drop s.start text) ++ l) value);
      spelled = sign.spelled;
      blanks = (blank_before, blank_behind, blank_ahead);
    }

pub assigned : Trims → (m : Modifiers) (text : List ℕ) (a : Assignment) → assignment_of m text ≡ Some a → IsWritten text a
unfolding assignment_of
assigned trims m text a e = by (sign_of (shape text)) refl e
  where
    by : (o : Option Sign) → sign_of (shape text) ≡ o → option_map (assignment_at m text) o ≡ Some a → IsWritten text a
    by None is e = absurd (cc)
    by (Some s) is e =
        let same : assignment_at m text s ≡ a = cc in
        subst (IsWritten text) same (written m text s trims (signed (shape text) text (shape_blotted text) (position is_mark (shape text)) s refl is))
