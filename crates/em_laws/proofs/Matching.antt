-- What patterns match: sets and their lists, and patterns put together.
use Rattle.std.proofs.Common.{◌≡◌, ◌≢◌, ℕ, zero, suc, ◌+◌, ◌<◌, ◌≤◌, ◌&&◌, ◌||◌, inl, inr, Bool, true, false, not, cond, List, [], ◌∷◌, ◌++◌, length, drop, get_or, Some, None, arith, refl, sym, ap, subst, ◌∙◌, append_assoc, append-nil}
use Rattle.std.specs.Prelude.{◌==◌, Any, nat_le, option_map}
use Rattle.std.specs.List.{AllByRecursion, list_any, position, position_or_len, flat_map}
use Rattle.std.proofs.lemmas.Bool.{eqb-true, eq-eqb, lt-ltb, le-ltb, le-leb, leb-true}
use Rattle.std.proofs.lemmas.List.{take_at, drop_at, length_push}
use Rattle.std.proofs.lemmas.List.Elements.{recursion_from_All}
use Rattle.std.proofs.lemmas.List.Folds.{list_any-append}
use Rattle.em_base.proofs.Lemmas.{by_cases}
use Rattle.em_glob.specs.declared.glyph.Glyph.{Glyph}
use Rattle.em_glob.specs.Patterns.{Piece, AnyBytes, AnyByte, OneOf, NoneOf, Itself, is_bare, is_star, is_question, is_opening, is_closing, is_dash, list_length, set, pieces, pieces_behind, has, Takes, Matches, is_wild, is_pattern}
use Rattle.em_laws.specs.Patterns.{bare, in_brackets, HasNoEnd, IsList, IsPlainList, IsInner, IsUnended, Item, One, Range, written, Holds, BeginsNoRange, AreItems, Lists, IsUnit, IsClosed}

-- ---- glyphs

bare_by : (b byte : ℕ) (quoted : Bool) → (not quoted && (byte == b)) ≡ true → (let g : Glyph = record { byte = byte; quoted = quoted } in g ≡ bare b)
bare_by b byte true h = absurd cc
bare_by b byte false h = ap bare (eqb-true byte b h)

is_bare_true : (b : ℕ) (g : Glyph) → is_bare b g ≡ true → g ≡ bare b
is_bare_true b g h = bare_by b g.byte g.quoted h

own : (b : ℕ) → is_bare b (bare b) ≡ true
own b = eq-eqb b b refl

not_bare : (b : ℕ) (g : Glyph) → g ≢ bare b → is_bare b g ≡ false
not_bare b g h = by_cases (is_bare b g) (λ t. t ≡ false) (λ is. absurd (h (is_bare_true b g is))) (λ _. refl)

never_bare : (b : ℕ) (g : Glyph) → is_bare b g ≡ false → g ≢ bare b
never_bare b g h e = let t : is_bare b g ≡ true = ap (is_bare b) e ∙ own b in cc

-- ---- positions

pub outside : {X : Type 0} (p : X → Bool) (xs : List X) → AllByRecursion (λ x. p x ≡ false) xs → position p xs ≡ None
outside p xs h = let n = up p xs h in rw (n, le-ltb (length xs) (length xs) (omega arith)) refl
  where
    up : {X : Type 0} (p : X → Bool) (xs : List X) → AllByRecursion (λ x. p x ≡ false) xs → position_or_len p xs ≡ length xs
    up p [] h = refl
    up p (x ∷ xs) h = rw (h.0, up p xs h.1) (omega arith)

pub first_at : {X : Type 0} (p : X → Bool) (xs : List X) (y : X) (ys : List X) → AllByRecursion (λ x. p x ≡ false) xs → p y ≡ true → position p (xs ++ y ∷ ys) ≡ Some (length xs)
first_at p xs y ys h is = let n = up p xs y ys h is in rw (n, lt-ltb (length xs) (length (xs ++ y ∷ ys)) (low xs y ys)) refl
  where
    up : {X : Type 0} (p : X → Bool) (xs : List X) (y : X) (ys : List X) → AllByRecursion (λ x. p x ≡ false) xs → p y ≡ true → position_or_len p (xs ++ y ∷ ys) ≡ length xs
    up p [] y ys h is = rw is refl
    up p (x ∷ xs) y ys h is = rw (h.0, up p xs y ys h.1 is) (omega arith)

    low : {X : Type 0} (xs : List X) (y : X) (ys : List X) → length xs < length (xs ++ y ∷ ys)
    low [] y ys = omega arith
    low (x ∷ xs) y ys = let l = low xs y ys in omega arith

no_end : (gs : List Glyph) → HasNoEnd gs → AllByRecursion (λ g. is_closing g ≡ false) gs
no_end gs h = each gs (recursion_from_All _ gs h)
  where
    each : (gs : List Glyph) → AllByRecursion (λ g. g ≢ bare 93) gs → AllByRecursion (λ g. is_closing g ≡ false) gs
    each [] h = tt
    each (g ∷ gs) h = (not_bare 93 g h.0, each gs h.1)

-- ---- sets

ends_at : (g : Glyph) (gs ys : List Glyph) → HasNoEnd gs → list_length (g ∷ (gs ++ bare 93 ∷ ys)) ≡ Some (suc (length gs))
ends_at g gs ys h = ap (option_map suc) (first_at is_closing gs (bare 93) ys (no_end gs h) refl)

set_plain : (g : Glyph) (gs ys : List Glyph) → g ≢ bare 33 → HasNoEnd gs → set (g ∷ (gs ++ bare 93 ∷ ys)) ≡ (OneOf (g ∷ gs), length gs + 2)
set_plain g gs ys plain h =
    let n : 0 + suc (length gs) + 1 ≡ length gs + 2 = omega arith in
    rw (not_bare 33 g plain, ends_at g gs ys h, not_bare 33 g plain, take_at gs (bare 93 ∷ ys) (length gs) refl, n) refl

set_negated : (g : Glyph) (gs ys : List Glyph) → HasNoEnd gs → set (bare 33 ∷ g ∷ (gs ++ bare 93 ∷ ys)) ≡ (NoneOf (g ∷ gs), length gs + 3)
set_negated g gs ys h =
    let n : 1 + suc (length gs) + 1 ≡ length gs + 3 = omega arith in
    rw (ends_at g gs ys h, take_at gs (bare 93 ∷ ys) (length gs) refl, n) refl

behind : (n : ℕ) (gs : List Glyph) → pieces_behind n gs ≡ pieces (drop n gs)
behind zero gs = refl
behind (suc n) [] = refl
behind (suc n) (g ∷ gs) = behind n gs

pieces_plain : (g : Glyph) (gs ys : List Glyph) → g ≢ bare 33 → HasNoEnd gs → pieces (bare 91 ∷ g ∷ (gs ++ bare 93 ∷ ys)) ≡ OneOf (g ∷ gs) ∷ pieces ys
pieces_plain g gs ys plain h =
    let k : length gs + 2 ≡ suc (length gs + 1) = omega arith in
    let last : drop (length gs + 1) (gs ++ bare 93 ∷ ys) ≡ ys = ap (drop (length gs + 1)) (sym (append_assoc gs (bare 93 ∷ []) ys)) ∙ drop_at (gs ++ bare 93 ∷ []) ys (length gs + 1) (length_push gs (bare 93)) in
    ap (λ (f : Piece × ℕ). f.0 ∷ pieces_behind f.1 (g ∷ (gs ++ bare 93 ∷ ys))) (set_plain g gs ys plain h)
    ∙ ap (λ ps. OneOf (g ∷ gs) ∷ ps) (behind (length gs + 2) (g ∷ (gs ++ bare 93 ∷ ys)) ∙ ap (λ n. pieces (drop n (g ∷ (gs ++ bare 93 ∷ ys)))) k ∙ ap pieces last)

pieces_negated : (g : Glyph) (gs ys : List Glyph) → HasNoEnd gs → pieces (bare 91 ∷ bare 33 ∷ g ∷ (gs ++ bare 93 ∷ ys)) ≡ NoneOf (g ∷ gs) ∷ pieces ys
pieces_negated g gs ys h =
    let k : length gs + 3 ≡ suc (suc (length gs + 1)) = omega arith in
    let last : drop (length gs + 1) (gs ++ bare 93 ∷ ys) ≡ ys = ap (drop (length gs + 1)) (sym (append_assoc gs (bare 93 ∷ []) ys)) ∙ drop_at (gs ++ bare 93 ∷ []) ys (length gs + 1) (length_push gs (bare 93)) in
    ap (λ (f : Piece × ℕ). f.0 ∷ pieces_behind f.1 (bare 33 ∷ g ∷ (gs ++ bare 93 ∷ ys))) (set_negated g gs ys h)
    ∙ ap (λ ps. NoneOf (g ∷ gs) ∷ ps) (behind (length gs + 3) (bare 33 ∷ g ∷ (gs ++ bare 93 ∷ ys)) ∙ ap (λ n. pieces (drop n (bare 33 ∷ g ∷ (gs ++ bare 93 ∷ ys)))) k ∙ ap pieces last)

unended_set : (gs : List Glyph) → IsUnended gs → set gs ≡ (Itself 91, 0)
unended_set gs (inl h) = rw h refl
unended_set gs (inr (inl h)) = rw h refl
unended_set gs (inr (inr (inl h))) =
    let none : list_length (h.0 ∷ h.1) ≡ None = ap (option_map suc) (outside is_closing h.1 (no_end h.1 h.4)) in
    rw (h.2, not_bare 33 h.0 h.3, none) refl
unended_set gs (inr (inr (inr h))) =
    let none : list_length (h.0 ∷ h.1) ≡ None = ap (option_map suc) (outside is_closing h.1 (no_end h.1 h.3)) in
    rw (h.2, none) refl

pub pieces_unended : (gs : List Glyph) → IsUnended gs → pieces (bare 91 ∷ gs) ≡ Itself 91 ∷ pieces gs
pieces_unended gs h = ap (λ (f : Piece × ℕ). f.0 ∷ pieces_behind f.1 gs) (unended_set gs h)

-- ---- names of pieces put together

pub matches_both : (ps qs : List Piece) (name : List ℕ) → Matches (ps ++ qs) name → (a : List ℕ) × (b : List ℕ) × (name ≡ a ++ b) × Matches ps a × Matches qs b
matches_both [] qs name m = ([], name, refl, refl, m)
matches_both (p ∷ ps) qs name m =
    let more = matches_both ps qs m.1.0 m.1.3 in
    (m.0 ++ more.0, more.1, m.1.1 ∙ ap (λ (r : List ℕ). m.0 ++ r) more.2 ∙ sym (append_assoc m.0 more.0 more.1), (m.0, (more.0, refl, m.1.2, more.3)), more.4)

pub both_match : (ps qs : List Piece) (name a b : List ℕ) → name ≡ a ++ b → Matches ps a → Matches qs b → Matches (ps ++ qs) name
both_match [] qs name a b e m n = subst (Matches qs) (sym (e ∙ ap (λ (w : List ℕ). w ++ b) m)) n
both_match (p ∷ ps) qs name a b e m n =
    (m.0, (m.1.0 ++ b, e ∙ ap (λ (w : List ℕ). w ++ b) m.1.1 ∙ append_assoc m.0 m.1.0 b, m.1.2, both_match ps qs (m.1.0 ++ b) m.1.0 b refl m.1.3 n))

pub one_matches : (p : Piece) (name : List ℕ) → Takes p name → Matches (p ∷ []) name
one_matches p name t = (name, ([], sym (append-nil name), t, refl))

pub matches_one : (p : Piece) (name : List ℕ) → Matches (p ∷ []) name → Takes p name
matches_one p name m = subst (Takes p) (sym (m.1.1 ∙ ap (λ r. m.0 ++ r) m.1.3 ∙ append-nil m.0)) m.1.2

pub itself_first : (c : ℕ) (ps : List Piece) (name : List ℕ) → Matches (Itself c ∷ ps) name → (rest : List ℕ) × (name ≡ c ∷ rest) × Matches ps rest
itself_first c ps name m = (m.1.0, m.1.1 ∙ ap (λ (w : List ℕ). w ++ m.1.0) m.1.2, m.1.3)

pub first_itself : (c : ℕ) (ps : List Piece) (name rest : List ℕ) → name ≡ c ∷ rest → Matches ps rest → Matches (Itself c ∷ ps) name
first_itself c ps name rest e m = (c ∷ [], (rest, e, refl, m))

-- ---- patterns put together

lone : (g : Glyph) (ys : List Glyph) → g ≢ bare 91 → pieces (g ∷ ys) ≡ pieces (g ∷ []) ++ pieces ys
lone g ys h = rw (not_bare 91 g h) (by_cases (is_star g) (λ s. (let f : Piece × ℕ = cond s (AnyBytes, 0) (cond (is_question g) (AnyByte, 0) (Itself g.byte, 0)) in f.0 ∷ pieces_behind f.1 ys) ≡ (let f : Piece × ℕ = cond s (AnyBytes, 0) (cond (is_question g) (AnyByte, 0) (Itself g.byte, 0)) in f.0 ∷ pieces_behind f.1 []) ++ pieces ys)
    (λ _. refl)
    (λ _. by_cases (is_question g) (λ s. (let f : Piece × ℕ = cond s (AnyByte, 0) (Itself g.byte, 0) in f.0 ∷ pieces_behind f.1 ys) ≡ (let f : Piece × ℕ = cond s (AnyByte, 0) (Itself g.byte, 0) in f.0 ∷ pieces_behind f.1 []) ++ pieces ys) (λ _. refl) (λ _. refl)))

closed_set : (inner ys : List Glyph) → IsInner inner → pieces (in_brackets inner ++ ys) ≡ pieces (in_brackets inner) ++ pieces ys
closed_set [] ys (inl h) = absurd h
closed_set (g ∷ gs) ys (inl h) =
    ap (λ (w : List Glyph). pieces (bare 91 ∷ g ∷ w)) (append_assoc gs (bare 93 ∷ []) ys) ∙ pieces_plain g gs ys h.0 h.1
    ∙ ap (λ (w : List Piece). w ++ pieces ys) (sym (pieces_plain g gs [] h.0 h.1))
closed_set inner ys (inr ([], h, e)) = absurd h
closed_set inner ys (inr (g ∷ gs, h, e)) =
    rw e (ap (λ (w : List Glyph). pieces (bare 91 ∷ bare 33 ∷ g ∷ w)) (append_assoc gs (bare 93 ∷ []) ys) ∙ pieces_negated g gs ys h
    ∙ ap (λ (w : List Piece). w ++ pieces ys) (sym (pieces_negated g gs [] h)))

of_unit : (u ys : List Glyph) → IsUnit u → pieces (u ++ ys) ≡ pieces u ++ pieces ys
of_unit u ys (inl h) = rw h.1 (lone h.0 ys h.2)
of_unit u ys (inr h) = rw h.1 (closed_set h.0 ys h.2)

of_units : (us : List (List Glyph)) (ys : List Glyph) → AllByRecursion IsUnit us → pieces (flat_map (λ (w : List Glyph). w) us ++ ys) ≡ pieces (flat_map (λ (w : List Glyph). w) us) ++ pieces ys
of_units [] ys h = refl
of_units (u ∷ us) ys h =
    ap pieces (append_assoc u (flat_map (λ (w : List Glyph). w) us) ys) ∙ of_unit u (flat_map (λ (w : List Glyph). w) us ++ ys) h.0 ∙ ap (λ ps. pieces u ++ ps) (of_units us ys h.1)
    ∙ sym (append_assoc (pieces u) (pieces (flat_map (λ (w : List Glyph). w) us)) (pieces ys)) ∙ ap (λ ps. ps ++ pieces ys) (sym (of_unit u (flat_map (λ (w : List Glyph). w) us) h.0))

pub of_closed : (xs ys : List Glyph) → IsClosed xs → pieces (xs ++ ys) ≡ pieces xs ++ pieces ys
of_closed xs ys h = rw (← h.1) (of_units h.0 ys (recursion_from_All _ h.0 h.2))

-- ---- lists of sets

holds : ℕ → Item → Bool
holds b (One g) = g.byte == b
holds b (Range a z) = nat_le a.byte b && nat_le b z.byte

nothing_else : (t : Bool) → t ≡ (t || false)
nothing_else true = refl
nothing_else false = refl

has_front : (g : Glyph) (gs : List Glyph) (b : ℕ) → BeginsNoRange gs → has (g ∷ gs) b ≡ ((g.byte == b) || has gs b)
has_front g [] b h = nothing_else (g.byte == b)
has_front g (y ∷ []) b h = refl
has_front g (y ∷ z ∷ gs) b h = rw (not_bare 45 y h) refl

has_items : (items : List Item) (b : ℕ) → AreItems items → has (flat_map written items) b ≡ list_any (holds b) items
unfolding holds
has_items [] b h = refl
has_items (One g ∷ items) b h = has_front g (flat_map written items) b h.0 ∙ ap (λ t. (g.byte == b) || t) (has_items items b h.1)
has_items (Range a z ∷ items) b h = ap (λ t. (nat_le a.byte b && nat_le b z.byte) || t) (has_items items b h)

items_of : List Glyph → List Item
items_of [] = []
items_of (x ∷ []) = One x ∷ []
items_of (x ∷ y ∷ []) = One x ∷ One y ∷ []
items_of (x ∷ y ∷ z ∷ gs) = cond (is_dash y) (Range x z ∷ items_of gs) (One x ∷ items_of (y ∷ z ∷ gs))

abbrev Spell : List Glyph → List Item → Type 0
Spell list items = (flat_map written items ≡ list) × AreItems items

items_spell : (list : List Glyph) → Spell list (items_of list)
unfolding items_of
items_spell [] = (refl, tt)
items_spell (x ∷ []) = (refl, (tt, tt))
items_spell (x ∷ y ∷ []) = (refl, (tt, (tt, tt)))
items_spell (x ∷ y ∷ z ∷ gs) = by_cases (is_dash y) (λ t. Spell (x ∷ y ∷ z ∷ gs) (cond t (Range x z ∷ items_of gs) (One x ∷ items_of (y ∷ z ∷ gs))))
    (λ is. let more = items_spell gs in (rw (is_bare_true 45 y is) (ap (λ w. x ∷ bare 45 ∷ z ∷ w) more.0), more.1))
    (λ isnt. let more = items_spell (y ∷ z ∷ gs) in (ap (λ w. x ∷ w) more.0, (subst BeginsNoRange (sym more.0) (never_bare 45 y isnt), more.1)))

holds_true : (b : ℕ) (i : Item) → holds b i ≡ true → Holds b i
unfolding holds
holds_true b (One g) h = sym (eqb-true g.byte b h)
holds_true b (Range a z) h = by_cases (nat_le a.byte b) (λ t. nat_le a.byte b ≡ t → (t && nat_le b z.byte) ≡ true → (a.byte ≤ b) × (b ≤ z.byte))
    (λ _ le more. (leb-true _ _ le, leb-true _ _ more))
    (λ _ _ more. absurd cc) refl h

true_holds : (b : ℕ) (i : Item) → Holds b i → holds b i ≡ true
unfolding holds
true_holds b (One g) h = eq-eqb g.byte b (sym h)
true_holds b (Range a z) h = rw (le-leb a.byte b h.0, le-leb b z.byte h.1) refl

some_holds : (b : ℕ) (items : List Item) → list_any (holds b) items ≡ true → Any (Holds b) items
some_holds b [] h = absurd cc
some_holds b (i ∷ items) h = by_cases (holds b i) (λ t. holds b i ≡ t → (t || list_any (holds b) items) ≡ true → Any (Holds b) (i ∷ items))
    (λ _ is _. (0, i, omega arith, refl, holds_true b i is))
    (λ _ _ more. let later = some_holds b items more in (suc later.0, later.1, (let l = later.2 in omega arith), later.3, later.4)) refl h

holds_some : (b : ℕ) (items : List Item) (k : ℕ) (i : Item) → k < length items → get_or items k i ≡ i → Holds b i → list_any (holds b) items ≡ true
holds_some b [] k i lt e h = absurd (omega arith)
holds_some b (j ∷ items) zero i lt e h = rw (true_holds b j (subst (Holds b) (sym e) h)) refl
holds_some b (j ∷ items) (suc k) i lt e h = rw (holds_some b items k i (omega arith) e h) (by_cases (holds b j) (λ t. (t || true) ≡ true) (λ _. refl) (λ _. refl))

pub has_lists : (list : List Glyph) (b : ℕ) → has list b ≡ true → Lists list b
has_lists list b h =
    let s = items_spell list in
    (items_of list, s.0, s.1, some_holds b (items_of list) (sym (has_items (items_of list) b s.1) ∙ ap (λ w. has w b) s.0 ∙ h))

pub lists_has : (list : List Glyph) (b : ℕ) → Lists list b → has list b ≡ true
lists_has list b h = rw (← h.1) (has_items h.0 b h.2 ∙ holds_some b h.0 h.3.0 h.3.1 h.3.2 h.3.3 h.3.4)

unlisted : (list : List Glyph) (b : ℕ) → (Lists list b → ⊥) → has list b ≡ false
unlisted list b h = by_cases (has list b) (λ t. has list b ≡ t → t ≡ false) (λ _ is. absurd (h (has_lists list b is))) (λ _ _. refl) refl

-- ---- one glyph, and one set

lone_itself : (g : Glyph) → is_star g ≡ false → is_question g ≡ false → is_opening g ≡ false → pieces (g ∷ []) ≡ Itself g.byte ∷ []
lone_itself g star question opening = rw (star, question, opening) refl

abbrev Alone : Glyph → List ℕ → Type 0
Alone g name = (Matches (pieces (g ∷ [])) name → name ≡ g.byte ∷ []) × (name ≡ g.byte ∷ [] → Matches (pieces (g ∷ [])) name)

alone : (g : Glyph) (name : List ℕ) → pieces (g ∷ []) ≡ Itself g.byte ∷ [] → Alone g name
alone g name e = (
  λ m. matches_one (Itself g.byte) name (subst (λ ps. Matches ps name) e m),
  λ h. subst (λ ps. Matches ps name) (sym e) (one_matches (Itself g.byte) name h),
)

quoted_no : (b : ℕ) (g : Glyph) → g.quoted ≡ true → is_bare b g ≡ false
quoted_no b g h = rw h refl

pub alone_quoted : (g : Glyph) (name : List ℕ) → g.quoted ≡ true → Alone g name
alone_quoted g name h = alone g name (lone_itself g (quoted_no 42 g h) (quoted_no 63 g h) (quoted_no 91 g h))

other_no : (b : ℕ) (g : Glyph) → g.byte ≢ b → is_bare b g ≡ false
other_no b g h = not_bare b g (λ e. h (ap (λ (x : Glyph). x.byte) e))

pub alone_other : (g : Glyph) (name : List ℕ) → g.byte ≢ 42 → g.byte ≢ 63 → g.byte ≢ 91 → Alone g name
alone_other g name star question opening = alone g name (lone_itself g (other_no 42 g star) (other_no 63 g question) (other_no 91 g opening))

pub listed : (list : List Glyph) (name : List ℕ) → IsPlainList list → (Matches (pieces (in_brackets list)) name → (b : ℕ) × (name ≡ b ∷ []) × Lists list b) × ((b : ℕ) × (name ≡ b ∷ []) × Lists list b → Matches (pieces (in_brackets list)) name)
listed [] name h = absurd h
listed (g ∷ gs) name h =
    let e = pieces_plain g gs [] h.0 h.1 in (
      λ m. let t = matches_one (OneOf (g ∷ gs)) name (subst (λ ps. Matches ps name) e m) in (t.0, t.1, has_lists (g ∷ gs) t.0 t.2),
      λ t. subst (λ ps. Matches ps name) (sym e) (one_matches (OneOf (g ∷ gs)) name (t.0, t.1, lists_has (g ∷ gs) t.0 t.2)),
    )

pub negated : (list : List Glyph) (name : List ℕ) → IsList list → (Matches (pieces (in_brackets (bare 33 ∷ list))) name → (b : ℕ) × (name ≡ b ∷ []) × ¬ Lists list b) × ((b : ℕ) × (name ≡ b ∷ []) × ¬ Lists list b → Matches (pieces (in_brackets (bare 33 ∷ list))) name)
negated [] name h = absurd h
negated (g ∷ gs) name h =
    let e = pieces_negated g gs [] h in (
      λ m. let t = matches_one (NoneOf (g ∷ gs)) name (subst (λ ps. Matches ps name) e m) in (t.0, t.1, λ l. let is = lists_has (g ∷ gs) t.0 l in let isnt = t.2 in cc),
      λ t. subst (λ ps. Matches ps name) (sym e) (one_matches (NoneOf (g ∷ gs)) name (t.0, t.1, unlisted (g ∷ gs) t.0 t.2)),
    )

-- ---- what makes a pattern

pub wild_set : (inner : List Glyph) → IsInner inner → is_pattern (in_brackets inner) ≡ true
wild_set [] (inl h) = absurd h
wild_set (g ∷ gs) (inl h) = ap (list_any is_wild) (pieces_plain g gs [] h.0 h.1)
wild_set inner (inr ([], h, e)) = absurd h
wild_set inner (inr (g ∷ gs, h, e)) = rw e (ap (list_any is_wild) (pieces_negated g gs [] h))

pub plain_quoted : (g : Glyph) → g.quoted ≡ true → is_pattern (g ∷ []) ≡ false
plain_quoted g h = ap (list_any is_wild) (lone_itself g (quoted_no 42 g h) (quoted_no 63 g h) (quoted_no 91 g h))

pub plain_other : (g : Glyph) → g.byte ≢ 42 → g.byte ≢ 63 → g.byte ≢ 91 → is_pattern (g ∷ []) ≡ false
plain_other g star question opening = ap (list_any is_wild) (lone_itself g (other_no 42 g star) (other_no 63 g question) (other_no 91 g opening))

pub wild_unended : (gs : List Glyph) → IsUnended gs → is_pattern (bare 91 ∷ gs) ≡ is_pattern gs
wild_unended gs h = ap (list_any is_wild) (pieces_unended gs h)

pub wild_together : (xs ys : List Glyph) → IsClosed xs → is_pattern (xs ++ ys) ≡ (is_pattern xs || is_pattern ys)
wild_together xs ys h = ap (list_any is_wild) (of_closed xs ys h) ∙ list_any-append is_wild (pieces xs) (pieces ys)
