-- The pieces of a pattern from a place on, the ends of its sets, and their lists.
use Rattle.std.proofs.Common.{◌≡◌, ℕ, zero, suc, ◌+◌, ◌-◌, ◌<◌, ◌≤◌, ◌&&◌, ◌||◌, ◌⊎◌, inl, inr, Bool, true, false, cond, ltb, List, [], ◌∷◌, length, take, drop, get_or, Option, Some, None, arith, refl, sym, ap, ◌∙◌}
use Rattle.std.specs.Prelude.{option_map, nat_le}
use Rattle.std.specs.List.{list_any, position, position_or_len}
use Rattle.std.proofs.lemmas.Bool.{lt-ltb, le-ltb, ltb-true, ltb-false, ne_eqb}
use Rattle.std.proofs.lemmas.List.{drop-drop}
use Rattle.em_base.proofs.Lemmas.{by_cases, left_at}
use Rattle.em_glob.specs.declared.glyph.Glyph.{Glyph}
use Rattle.em_glob.specs.Patterns.{Piece, AnyBytes, AnyByte, Itself, is_star, is_question, is_opening, is_closing, is_dash, is_negated, list_length, set_of, set, piece, pieces_behind, pieces, has}

-- ---- positions

one_later : (n l : ℕ) →
    cond (ltb (suc n) (suc l)) (Some (suc n)) None ≡ option_map suc (cond (ltb n l) (Some n) None)
one_later n l = by_cases (ltb n l)
    (λ b. cond (ltb (suc n) (suc l)) (Some (suc n)) None ≡ option_map suc (cond b (Some n) None))
    (λ t. rw (lt-ltb (suc n) (suc l) (omega (arith, ltb-true _ _ t))) refl)
    (λ f. rw (le-ltb (suc n) (suc l) (omega (arith, ltb-false _ _ f))) refl)

position_cons : {X : Type 0} (p : X → Bool) (x : X) (xs : List X) →
    position p (x ∷ xs) ≡ cond (p x) (Some 0) (option_map suc (position p xs))
position_cons p x xs = by_cases (p x) (λ b. position p (x ∷ xs) ≡ cond b (Some 0) (option_map suc (position p xs)))
    (λ t. rw (t, lt-ltb 0 (suc (length xs)) (omega arith)) refl)
    (λ f.
    let n = position_or_len p xs in
    let one : 1 + n ≡ suc n = omega arith in
    rw (f, one) (one_later n (length xs)))

none_found : {X : Type 0} (p : X → Bool) (xs : List X) → list_any p xs ≡ false → position p xs ≡ None
none_found p [] h = refl
none_found p (x ∷ xs) h = by_cases (p x) (λ b. (b || list_any p xs) ≡ false → position p (x ∷ xs) ≡ None)
    (λ _ e. absurd cc)
    (λ f e. rw (position_cons p x xs, f, none_found p xs e) refl) h

-- what stands in front decides, where the rest has none
pub found_in_front : {X : Type 0} (p : X → Bool) (n : ℕ) (xs : List X) → list_any p (drop n xs) ≡ false →
    position p (take n xs) ≡ position p xs
found_in_front p zero xs h = sym (none_found p xs h)
found_in_front p (suc n) [] h = refl
found_in_front p (suc n) (x ∷ xs) h =
    position_cons p x (take n xs) ∙ ap (λ o. cond (p x) (Some 0) (option_map suc o)) (found_in_front p n xs h)
    ∙ sym (position_cons p x xs)

none_behind : {X : Type 0} (p : X → Bool) (k : ℕ) (xs : List X) → list_any p xs ≡ false →
    list_any p (drop k xs) ≡ false
none_behind p zero xs h = h
none_behind p (suc k) [] h = refl
none_behind p (suc k) (x ∷ xs) h = by_cases (p x) (λ b. (b || list_any p xs) ≡ false → list_any p (drop k xs) ≡ false)
    (λ _ e. absurd cc)
    (λ _ e. none_behind p k xs e) h

-- ---- sets

pub no_end : (pattern : List Glyph) (closed start : ℕ) → closed ≤ start →
    list_any is_closing (drop closed pattern) ≡ false → list_length (drop start pattern) ≡ None
no_end pattern closed start le none =
    let k = start + 1 - closed in
    let same : start + 1 ≡ closed + k = omega arith in
    let at : drop 1 (drop start pattern) ≡ drop k (drop closed pattern) =
    drop-drop 1 start pattern ∙ ap (λ n. drop n pattern) same ∙ sym (drop-drop k closed pattern) in
    let later = none_behind is_closing k (drop closed pattern) none in
    ap (λ gs. option_map suc (position is_closing gs)) at
    ∙ ap (option_map suc) (none_found is_closing (drop k (drop closed pattern)) later)

pub end_in : (pattern : List Glyph) (closed start : ℕ) (o : Option ℕ) → start < closed →
    list_any is_closing (drop closed pattern) ≡ false →
    position is_closing (take (closed - (start + 1)) (drop (start + 1) pattern)) ≡ o →
    list_length (drop start pattern) ≡ option_map suc o
end_in pattern closed start o lt none is =
    let k = closed - (start + 1) in
    let same : start + 1 + k ≡ closed = omega arith in
    let rest : drop k (drop (start + 1) pattern) ≡ drop closed pattern =
    drop-drop k (start + 1) pattern ∙ ap (λ n. drop n pattern) same in
    let front = found_in_front is_closing k (drop (start + 1) pattern) (ap (list_any is_closing) rest ∙ none) in
    ap (λ gs. option_map suc (position is_closing gs)) (drop-drop 1 start pattern)
    ∙ ap (option_map suc) (sym front ∙ is)

-- the set behind a `[` at `at`
pub set_read : (pattern : List Glyph) (at start end : ℕ) (negated : Bool) →
    is_negated (drop (at + 1) pattern) ≡ negated → start ≡ at + 1 + cond negated 1 0 →
    Some end ≡ option_map (λ n. start + n) (list_length (drop start pattern)) →
    set (drop (at + 1) pattern) ≡ (set_of negated (take (end - start) (drop start pattern)), end + 1 - (at + 1))
set_read pattern at start end negated is begins ends = elim (list_length (drop start pattern)) as
    (λ o. list_length (drop start pattern) ≡ o → Some end ≡ option_map (λ n. start + n) o →
    set (drop (at + 1) pattern) ≡ (set_of negated (take (end - start) (drop start pattern)), end + 1 - (at + 1))) [
      | None ↦ λ _ e. absurd cc
      | Some n ↦ λ o e.
          let gs = drop (at + 1) pattern in
          let same : end ≡ start + n = cc in
          let size : n ≡ end - start = omega arith in
          let more : cond negated 1 0 + n + 1 ≡ end + 1 - (at + 1) = omega arith in
          let list : drop (cond negated 1 0) gs ≡ drop start pattern =
          drop-drop (cond negated 1 0) (at + 1) pattern ∙ ap (λ k. drop k pattern) (sym begins) in
          rw (← size, ← more, ← list) (rw (is, list, o, is, list) refl)
    ] refl ends

-- ---- pieces

behind : (n : ℕ) (gs : List Glyph) → pieces_behind n gs ≡ pieces (drop n gs)
behind zero gs = refl
behind (suc n) [] = refl
behind (suc n) (g ∷ gs) = behind n gs

-- the piece that begins at a place, and those behind it
pub pieces_at : (pattern : List Glyph) (at : ℕ) (g : Glyph) (p : Piece) (n : ℕ) → at < length pattern →
    g ≡ get_or pattern at g → piece g (drop (at + 1) pattern) ≡ (p, n) →
    pieces (drop at pattern) ≡ p ∷ pieces (drop (at + 1 + n) pattern)
pieces_at pattern at g p n lt is first =
    ap pieces (left_at pattern at g lt is)
    ∙ ap (λ (f : Piece × ℕ). f.0 ∷ pieces_behind f.1 (drop (at + 1) pattern)) first
    ∙ ap (λ ps. p ∷ ps) (behind n (drop (at + 1) pattern) ∙ ap pieces (drop-drop n (at + 1) pattern))

pub piece_cases : (g : Glyph) (gs : List Glyph) (P : Piece × ℕ → Type 0) → (is_star g ≡ true → P (AnyBytes, 0)) →
    P (AnyByte, 0) → (is_opening g ≡ true → P (set gs)) → P (Itself g.byte, 0) → P (piece g gs)
piece_cases g gs P star question opening other =
    let last : Piece × ℕ = cond (is_opening g) (set gs) (Itself g.byte, 0) in
    by_cases (is_star g) (λ b. P (cond b (AnyBytes, 0) (cond (is_question g) (AnyByte, 0) last))) star
    (λ _. by_cases (is_question g) (λ b. P (cond b (AnyByte, 0) last)) (λ _. question)
    (λ _. by_cases (is_opening g) (λ b. P (cond b (set gs) (Itself g.byte, 0))) opening (λ _. other)))

pub set_first : (g : Glyph) (gs : List Glyph) (f : Piece × ℕ) → is_star g ≡ false → is_question g ≡ false →
    is_opening g ≡ true → set gs ≡ f → piece g gs ≡ f
set_first g gs f star question opening is = rw (star, question, opening) is

-- ---- what a list has

pub has_own : (list : List Glyph) (b : ℕ) (d : Glyph) → ((get_or list 0 d).byte ≡ b → ⊥) →
    (length list < 3) ⊎ (is_dash (get_or list 1 d) ≡ false) → has list b ≡ has (drop 1 list) b
has_own [] b d other plain = refl
has_own (x ∷ []) b d other plain = ne_eqb _ _ other
has_own (x ∷ y ∷ []) b d other plain = rw (ne_eqb _ _ other) refl
has_own (x ∷ y ∷ z ∷ gs) b d other plain = elim plain [
  | inl few ↦ absurd (omega arith)
  | inr dash ↦ rw (dash, ne_eqb _ _ other) refl
]

pub has_range : (list : List Glyph) (b : ℕ) (d : Glyph) → 3 ≤ length list → is_dash (get_or list 1 d) ≡ true →
    (nat_le (get_or list 0 d).byte b && nat_le b (get_or list 2 d).byte) ≡ false →
    has list b ≡ has (drop 3 list) b
has_range [] b d low dash out = absurd (omega arith)
has_range (x ∷ []) b d low dash out = absurd (omega arith)
has_range (x ∷ y ∷ []) b d low dash out = absurd (omega arith)
has_range (x ∷ y ∷ z ∷ gs) b d low dash out = rw (dash, out) refl
