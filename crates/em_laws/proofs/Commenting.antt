-- A line without its comment, byte by byte and reference by reference.
use Rattle.std.proofs.Common.{◌≡◌, ◌≢◌, ℕ, zero, suc, ◌-◌, ◌&&◌, Bool, true, false, cond, eqb, ltb, List, [], ◌∷◌, ◌++◌, map, length, take, drop, Some, arith, refl, sym, ap, ◌∙◌, append_assoc, append-nil}
use Rattle.std.specs.Prelude.{◌==◌, nat_lt}
use Rattle.std.specs.List.{AllByRecursion, flat_map}
use Rattle.std.proofs.lemmas.Bool.{eqb-true, ne_eqb, lt-ltb, le-ltb, ltb-true, ltb-false}
use Rattle.std.proofs.lemmas.List.Elements.{recursion_from_All, All-from_recursion, All-take, All-drop}
use Rattle.em_base.specs.Spans.{cut}
use Rattle.em_base.proofs.Lemmas.{by_cases}
use Rattle.em_refs.specs.declared.part.Bracket.TheVariants.{Round, Curly}
use Rattle.em_refs.specs.declared.part.Part.{Part}
use Rattle.em_refs.specs.declared.part.Part.TheVariants.{Literal, Dollar, Ref}
use Rattle.em_refs.specs.Parts.{parted, bracketed, source, left}
use Rattle.em_refs.proofs.Whole.{told_law}
use Rattle.em_lines.specs.Comments.{comment_behind, comment_start, begins_with_hash, unescaped, plain_then, bare_parts, bare}
use Rattle.em_laws.specs.References.{Seen, Plain, Sign, Named, seen_in, reading, HasNo, Ends, NeverCloses, PairsOff}
use Rattle.em_laws.specs.Expansions.{EndsOtherwise}
use Rattle.em_laws.proofs.Parting.{plain_first, sign_first, letter_first, round_first, curly_first, round_open, curly_open}

-- ---- what is told of the parts decides

abbrev bare_seen : List Seen → List ℕ → List ℕ
bare_seen [] u = u
bare_seen (Plain t ∷ ss) u = plain_then t (bare_seen ss u)
bare_seen (Sign ∷ ss) u = 36 ∷ 36 ∷ bare_seen ss u
bare_seen (Named k n ∷ ss) u = bracketed k n ++ bare_seen ss u

by_seen : (text : List ℕ) (ps : List Part) (u : List ℕ) → bare_parts text ps u ≡ bare_seen (map (seen_in text) ps) u
by_seen text [] u = refl
by_seen text (Literal s ∷ ps) u = ap (plain_then (cut text s)) (by_seen text ps u)
by_seen text (Dollar ∷ ps) u = ap (λ w. 36 ∷ 36 ∷ w) (by_seen text ps u)
by_seen text (Ref s ∷ ps) u = ap (λ w. source text (Ref s) ++ w) (by_seen text ps u)

abbrev of_reading : List Seen × List ℕ → List ℕ
of_reading r = bare_seen r.0 r.1

bare_is : (text : List ℕ) → bare text ≡ of_reading (reading text)
unfolding bare
bare_is text = by_seen text (parted text).parts (left text (parted text).unclosed)

-- ---- references

pub bare_sign : (rest : List ℕ) → bare (36 ∷ 36 ∷ rest) ≡ 36 ∷ 36 ∷ bare rest
bare_sign rest = bare_is (36 ∷ 36 ∷ rest) ∙ ap of_reading (sign_first rest) ∙ ap (λ w. 36 ∷ 36 ∷ w) (sym (bare_is rest))

pub bare_letter : (b : ℕ) (rest : List ℕ) → b ≢ 36 → b ≢ 40 → b ≢ 123 → bare (36 ∷ b ∷ rest) ≡ 36 ∷ b ∷ bare rest
bare_letter b rest sign round curly = bare_is (36 ∷ b ∷ rest) ∙ ap of_reading (letter_first b rest sign round curly) ∙ ap (λ w. 36 ∷ b ∷ w) (sym (bare_is rest))

pub bare_round : (name rest : List ℕ) → PairsOff 40 41 name → bare ((36 ∷ 40 ∷ name) ++ (41 ∷ rest)) ≡ (36 ∷ 40 ∷ name) ++ (41 ∷ bare rest)
bare_round name rest h =
    bare_is ((36 ∷ 40 ∷ name) ++ (41 ∷ rest)) ∙ ap of_reading (round_first name rest h) ∙ ap (λ w. bracketed (Some Round) name ++ w) (sym (bare_is rest))
    ∙ ap (λ w. 36 ∷ 40 ∷ w) (append_assoc name (41 ∷ []) (bare rest))

pub bare_curly : (name rest : List ℕ) → PairsOff 123 125 name → bare ((36 ∷ 123 ∷ name) ++ (125 ∷ rest)) ≡ (36 ∷ 123 ∷ name) ++ (125 ∷ bare rest)
bare_curly name rest h =
    bare_is ((36 ∷ 123 ∷ name) ++ (125 ∷ rest)) ∙ ap of_reading (curly_first name rest h) ∙ ap (λ w. bracketed (Some Curly) name ++ w) (sym (bare_is rest))
    ∙ ap (λ w. 36 ∷ 123 ∷ w) (append_assoc name (125 ∷ []) (bare rest))

pub bare_end : bare (36 ∷ []) ≡ 36 ∷ []
unfolding bare
bare_end = refl

pub bare_open_round : (bytes : List ℕ) → NeverCloses 40 41 bytes → bare (36 ∷ 40 ∷ bytes) ≡ 36 ∷ 40 ∷ bytes
bare_open_round bytes h = bare_is (36 ∷ 40 ∷ bytes) ∙ ap of_reading (round_open bytes h)

pub bare_open_curly : (bytes : List ℕ) → NeverCloses 123 125 bytes → bare (36 ∷ 123 ∷ bytes) ≡ 36 ∷ 123 ∷ bytes
bare_open_curly bytes h = bare_is (36 ∷ 123 ∷ bytes) ∙ ap of_reading (curly_open bytes h)

-- ---- plain text, byte by byte

one_up : (k l : ℕ) → nat_lt (suc k) (suc l) ≡ nat_lt k l
one_up k l = by_cases (ltb k l) (λ t. ltb (suc k) (suc l) ≡ t)
    (λ is. let lt = ltb-true k l is in lt-ltb (suc k) (suc l) (omega arith))
    (λ isnt. let le = ltb-false k l isnt in le-ltb (suc k) (suc l) (omega arith))

hash_first : (a x : List ℕ) → plain_then (35 ∷ a) x ≡ []
hash_first a x = rw (lt-ltb 0 (suc (length a)) (omega arith)) refl

-- a byte in front of what is cut the same way
in_front : (b k : ℕ) (a w x : List ℕ) → ((n : ℕ) → unescaped (b ∷ take n a) ≡ b ∷ unescaped (take n a)) → unescaped (b ∷ a) ≡ b ∷ unescaped a →
    cond (nat_lt (suc k) (suc (length a))) (unescaped (take (suc k) (b ∷ a))) (unescaped (b ∷ a) ++ x) ≡ b ∷ cond (nat_lt k (length a)) (unescaped (take k a)) (unescaped a ++ x)
in_front b k a w x short whole = rw (one_up k (length a)) (by_cases (nat_lt k (length a))
    (λ t. cond t (unescaped (take (suc k) (b ∷ a))) (unescaped (b ∷ a) ++ x) ≡ b ∷ cond t (unescaped (take k a)) (unescaped a ++ x))
    (λ _. short k)
    (λ _. ap (λ (v : List ℕ). v ++ x) whole))

ordinary_first : (b : ℕ) (a x : List ℕ) → b ≢ 35 → b ≢ 92 → plain_then (b ∷ a) x ≡ b ∷ plain_then a x
ordinary_first b a x hash backslash =
    let step : (v : List ℕ) → unescaped (b ∷ v) ≡ b ∷ unescaped v = λ v. rw (ne_eqb b 92 backslash) refl in
    let start : comment_start (b ∷ a) ≡ suc (comment_start a) = rw (ne_eqb b 35 hash, ne_eqb b 92 backslash) refl in
    ap (λ k. cond (nat_lt k (suc (length a))) (unescaped (take k (b ∷ a))) (unescaped (b ∷ a) ++ x)) start
    ∙ in_front b (comment_start a) a [] x (λ n. step (take n a)) (step a)

alike : (a : List ℕ) → begins_with_hash a ≡ false → comment_behind true a ≡ comment_behind false a
alike [] h = refl
alike (c ∷ cs) h = rw h refl

short_hash : (n : ℕ) (a : List ℕ) → begins_with_hash a ≡ false → begins_with_hash (take n a) ≡ false
short_hash zero a h = refl
short_hash (suc n) [] h = refl
short_hash (suc n) (c ∷ cs) h = h

backslash_first : (a x : List ℕ) → begins_with_hash a ≡ false → plain_then (92 ∷ a) x ≡ 92 ∷ plain_then a x
backslash_first a x h =
    let step : (v : List ℕ) → begins_with_hash v ≡ false → unescaped (92 ∷ v) ≡ 92 ∷ unescaped v = λ v lacks. rw lacks refl in
    rw (alike a h) (in_front 92 (comment_start a) a [] x (λ n. step (take n a) (short_hash n a h)) (step a h))

escaped_first : (a x : List ℕ) → plain_then (92 ∷ 35 ∷ a) x ≡ 35 ∷ plain_then a x
escaped_first a x = rw (one_up (suc (comment_start a)) (suc (length a))) (in_front 35 (comment_start a) a [] x (λ n. refl) refl)

-- ---- texts

abbrev NoSign : List ℕ → Type 0
NoSign a = AllByRecursion (λ b. b ≢ 36) a

plain_bare : (a rest : List ℕ) → NoSign a → Ends rest → bare (a ++ rest) ≡ plain_then a (bare rest)
plain_bare [] rest h e = refl
plain_bare (b ∷ bs) rest h e = bare_is ((b ∷ bs) ++ rest) ∙ ap of_reading (plain_first b bs rest (All-from_recursion _ (b ∷ bs) h) e) ∙ ap (plain_then (b ∷ bs)) (sym (bare_is rest))

record Split (text : List ℕ) : Type 0 where
  front : List ℕ
  rest : List ℕ
  is : text ≡ front ++ rest
  none : NoSign front
  ends : Ends rest

split : (text : List ℕ) → Split text
split [] = record { front = []; rest = []; is = refl; none = tt; ends = tt }
split (b ∷ bs) = by_cases (eqb b 36) (λ _. Split (b ∷ bs))
    (λ is. record { front = []; rest = b ∷ bs; is = refl; none = tt; ends = eqb-true b 36 is })
    (λ isnt. let s = split bs in record { front = b ∷ s.front; rest = s.rest; is = ap (λ w. b ∷ w) s.is; none = (λ e. (let t : eqb b 36 ≡ true = ap (λ c. eqb c 36) e in cc), s.none); ends = s.ends })

-- what holds of plain text in front of any holds of texts
onward : (p q : List ℕ → List ℕ) → ((a : List ℕ) → NoSign a → NoSign (p a)) → ((a r : List ℕ) → p a ++ r ≡ p (a ++ r)) →
    (rest : List ℕ) → ((s : Split rest) → plain_then (p s.front) (bare s.rest) ≡ q (plain_then s.front (bare s.rest))) → bare (p rest) ≡ q (bare rest)
onward p q keeps over rest h =
    let s = split rest in
    ap (λ t. bare (p t)) s.is ∙ ap bare (sym (over s.front s.rest)) ∙ plain_bare (p s.front) s.rest (keeps s.front s.none) s.ends ∙ h s
    ∙ ap q (sym (plain_bare s.front s.rest s.none s.ends) ∙ ap bare (sym s.is))

bare_hash : (rest : List ℕ) → bare (35 ∷ rest) ≡ []
bare_hash rest = onward (λ w. 35 ∷ w) (λ w. []) (λ a h. (λ e. omega arith, h)) (λ a r. refl) rest (λ s. hash_first s.front (bare s.rest))

bare_escaped : (rest : List ℕ) → bare (92 ∷ 35 ∷ rest) ≡ 35 ∷ bare rest
bare_escaped rest = onward (λ w. 92 ∷ 35 ∷ w) (λ w. 35 ∷ w) (λ a h. (λ e. omega arith, (λ e. omega arith, h))) (λ a r. refl) rest (λ s. escaped_first s.front (bare s.rest))

bare_ordinary : (b : ℕ) (rest : List ℕ) → b ≢ 35 → b ≢ 36 → b ≢ 92 → bare (b ∷ rest) ≡ b ∷ bare rest
bare_ordinary b rest hash sign backslash = onward (λ w. b ∷ w) (λ w. b ∷ w) (λ a h. (sign, h)) (λ a r. refl) rest (λ s. ordinary_first b s.front (bare s.rest) hash backslash)

front_hash : (a r : List ℕ) → begins_with_hash (a ++ r) ≡ false → begins_with_hash a ≡ false
front_hash [] r h = refl
front_hash (b ∷ bs) r h = h

bare_backslash : (rest : List ℕ) → begins_with_hash rest ≡ false → bare (92 ∷ rest) ≡ 92 ∷ bare rest
bare_backslash rest lacks = onward (λ w. 92 ∷ w) (λ w. 92 ∷ w) (λ a h. (λ e. omega arith, h)) (λ a r. refl) rest (λ s. backslash_first s.front (bare s.rest) (front_hash s.front s.rest (ap begins_with_hash (sym s.is) ∙ lacks)))

bare_byte : (b : ℕ) (rest : List ℕ) → b ≢ 35 → b ≢ 36 → (b ≡ 92 → begins_with_hash rest ≡ false) → bare (b ∷ rest) ≡ b ∷ bare rest
bare_byte b rest hash sign loose = by_cases (eqb b 92) (λ _. bare (b ∷ rest) ≡ b ∷ bare rest)
    (λ is. let e = eqb-true b 92 is in rw e (bare_backslash rest (loose e)))
    (λ isnt. bare_ordinary b rest hash sign (λ e. (let t : eqb b 92 ≡ true = ap (λ c. eqb c 92) e in cc)))

abbrev NoHash : List ℕ → Type 0
NoHash a = AllByRecursion (λ b. b ≢ 35) a

-- behind a backslash comes no `#`
loosely : (bs rest : List ℕ) → NoHash bs → EndsOtherwise 92 (92 ∷ bs) → begins_with_hash (bs ++ rest) ≡ false
loosely [] rest h e = absurd (e [] refl)
loosely (c ∷ cs) rest h e = ne_eqb c 35 h.0

bare_over : (a rest : List ℕ) → NoHash a → NoSign a → EndsOtherwise 92 a → bare (a ++ rest) ≡ a ++ bare rest
bare_over [] rest h s e = refl
bare_over (b ∷ bs) rest h s e =
    bare_byte b (bs ++ rest) h.0 s.0 (λ is. loosely bs rest h.1 (λ front f. e front (ap (λ c. c ∷ bs) is ∙ f)))
    ∙ ap (λ w. b ∷ w) (bare_over bs rest h.1 s.1 (λ front f. e (b ∷ front) (ap (λ w. b ∷ w) f)))

pub bare_plain : (front rest : List ℕ) → HasNo 35 front → HasNo 36 front → EndsOtherwise 92 front → bare (front ++ rest) ≡ front ++ bare rest
bare_plain front rest h s e = bare_over front rest (recursion_from_All _ front h) (recursion_from_All _ front s) e

pub bare_begins : (front rest : List ℕ) → HasNo 35 front → HasNo 36 front → EndsOtherwise 92 front → bare (front ++ 35 ∷ rest) ≡ front
bare_begins front rest h s e = bare_plain front (35 ∷ rest) h s e ∙ ap (λ w. front ++ w) (bare_hash rest) ∙ append-nil front

before_escape : (bs rest : List ℕ) → NoHash bs → begins_with_hash (bs ++ 92 ∷ rest) ≡ false
before_escape [] rest h = refl
before_escape (c ∷ cs) rest h = ne_eqb c 35 h.0

escaped_over : (a rest : List ℕ) → NoHash a → NoSign a → bare (a ++ 92 ∷ 35 ∷ rest) ≡ a ++ 35 ∷ bare rest
escaped_over [] rest h s = bare_escaped rest
escaped_over (b ∷ bs) rest h s = bare_byte b (bs ++ 92 ∷ 35 ∷ rest) h.0 s.0 (λ _. before_escape bs (35 ∷ rest) h.1) ∙ ap (λ w. b ∷ w) (escaped_over bs rest h.1 s.1)

pub bare_quoted : (front rest : List ℕ) → HasNo 35 front → HasNo 36 front → bare (front ++ 92 ∷ 35 ∷ rest) ≡ front ++ 35 ∷ bare rest
bare_quoted front rest h s = escaped_over front rest (recursion_from_All _ front h) (recursion_from_All _ front s)

-- ---- no `#` at all

all_before : (t : Bool) (a : List ℕ) → NoHash a → comment_behind t a ≡ length a
all_before t [] h = refl
all_before t (b ∷ bs) h = rw (ne_eqb b 35 h.0) (ap suc (all_before (b == 92) bs h.1))

no_hash_first : (a : List ℕ) → NoHash a → begins_with_hash a ≡ false
no_hash_first [] h = refl
no_hash_first (b ∷ bs) h = ne_eqb b 35 h.0

stays : (a : List ℕ) → NoHash a → unescaped a ≡ a
stays [] h = refl
stays (b ∷ bs) h = rw (no_hash_first bs h.1) (by_cases (b == 92) (λ t. cond (t && false) (unescaped bs) (b ∷ unescaped bs) ≡ b ∷ bs)
    (λ _. ap (λ w. b ∷ w) (stays bs h.1))
    (λ _. ap (λ w. b ∷ w) (stays bs h.1)))

whole_plain : (a x : List ℕ) → NoHash a → plain_then a x ≡ a ++ x
whole_plain a x h = rw (all_before false a h, le-ltb (length a) (length a) (omega arith)) (ap (λ w. w ++ x) (stays a h))

parts_stay : (text : List ℕ) (ps : List Part) (u : List ℕ) → HasNo 35 text → bare_parts text ps u ≡ flat_map (source text) ps ++ u
parts_stay text [] u h = refl
parts_stay text (Literal s ∷ ps) u h =
    whole_plain (cut text s) (bare_parts text ps u) (recursion_from_All _ (cut text s) (All-take (λ b. b ≢ 35) (s.end - s.start) (drop s.start text) (All-drop (λ b. b ≢ 35) s.start text h)))
    ∙ ap (λ w. cut text s ++ w) (parts_stay text ps u h) ∙ sym (append_assoc (cut text s) (flat_map (source text) ps) u)
parts_stay text (Dollar ∷ ps) u h = ap (λ w. 36 ∷ 36 ∷ w) (parts_stay text ps u h)
parts_stay text (Ref s ∷ ps) u h = ap (λ w. source text (Ref s) ++ w) (parts_stay text ps u h) ∙ sym (append_assoc (source text (Ref s)) (flat_map (source text) ps) u)

pub bare_none : (text : List ℕ) → HasNo 35 text → bare text ≡ text
unfolding bare
bare_none text h = parts_stay text (parted text).parts (left text (parted text).unclosed) h ∙ (told_law text).whole
