-- The parts of a text that stands behind another one, and of what a text begins with.
use Rattle.std.proofs.Common.{◌≡◌, ◌≢◌, ℕ, zero, suc, ◌+◌, ◌-◌, ◌<◌, ◌≤◌, Bool, true, false, cond, eqb, List, [], ◌∷◌, ◌++◌, map, length, take, drop, Option, Some, None, arith, refl, sym, ap, ◌∙◌, append_assoc, add-zero}
use Rattle.std.specs.Prelude.{slice_get}
use Rattle.std.specs.List.{AllByRecursion}
use Rattle.std.proofs.lemmas.Bool.{eqb-true, eq-eqb, ne_eqb}
use Rattle.std.proofs.lemmas.List.{take_at, drop_at, drop-drop, map-append, length_push}
use Rattle.std.proofs.lemmas.List.Elements.{recursion_from_All}
use Rattle.std.proofs.lemmas.List.Sums.{sum_by-cons}
use Rattle.em_base.specs.Spans.{cut}
use Rattle.em_base.proofs.Lemmas.{by_cases}
use Rattle.em_refs.specs.declared.part.Bracket.{Bracket}
use Rattle.em_refs.specs.declared.part.Bracket.TheVariants.{Round, Curly}
use Rattle.em_refs.specs.declared.part.Part.{Part}
use Rattle.em_refs.specs.declared.part.Part.TheVariants.{Literal, Dollar, Ref}
use Rattle.em_refs.specs.declared.part.Parted.{Parted}
use Rattle.em_refs.specs.Parts.{Mode, plain, behind as at_sign, inside, span, literal, begun, closed, bracket_of, bracket_before, opening_of, closing_of, step, with_front, parts_from, left}
use Rattle.em_laws.specs.References.{Seen, Plain, Sign, Named, seen_in, reading, behind, HasNo, Ends, how_many, NeverCloses, PairsOff}

-- ---- a text that stands behind another one, of n bytes

abbrev later : ℕ → Mode → Mode
later n (plain from) = plain (n + from)
later n (at_sign from) = at_sign (n + from)
later n (inside from k deep) = inside (n + from) k deep

-- where a byte stands that isn't the first of the text behind a `$`
abbrev Fine : Mode → ℕ → Type 0
Fine (at_sign from) at = 0 < at
Fine _ at = Unit {0}

behind_front : (front text : List ℕ) (n at : ℕ) → length front ≡ n → drop (n + at) (front ++ text) ≡ drop at text
behind_front front text n at is = sym (drop-drop at n (front ++ text)) ∙ ap (drop at) (drop_at front text n is)

cut_later : (front text : List ℕ) (n s e : ℕ) → length front ≡ n → cut (front ++ text) (span (n + s) (n + e)) ≡ cut text (span s e)
cut_later front text n s e is =
    let k : n + e - (n + s) ≡ e - s = omega arith in
    rw (k, behind_front front text n s is) refl

got_later : (front text : List ℕ) (n at : ℕ) → length front ≡ n → slice_get (front ++ text) (n + at) ≡ slice_get text at
got_later [] text n at is = let e : n + at ≡ at = omega arith in ap (slice_get text) e
got_later (b ∷ bs) text zero at is = absurd (omega arith)
got_later (b ∷ bs) text (suc n) at is = let e : suc n + at ≡ suc (n + at) = omega arith in rw e (got_later bs text n at (omega arith))

before_later : (front text : List ℕ) (n s e : ℕ) → length front ≡ n → 0 < s → bracket_before (front ++ text) (span (n + s) (n + e)) ≡ bracket_before text (span s e)
before_later front text n zero e is lt = absurd (omega arith)
before_later front text n (suc s) e is lt = let k : n + suc s ≡ suc (n + s) = omega arith in rw (k, got_later front text n s is) refl

named_later : (front text : List ℕ) (n s e s' e' : ℕ) → length front ≡ n → 0 < s → s' ≡ n + s → e' ≡ n + e → seen_in (front ++ text) (Ref (span s' e')) ≡ seen_in text (Ref (span s e))
named_later front text n s e s' e' is lt at end = rw (at, end, before_later front text n s e is lt, cut_later front text n s e is) refl

same_place : (n from at : ℕ) → eqb (n + from) (n + at) ≡ eqb from at
same_place n from at = by_cases (eqb from at) (λ t. eqb (n + from) (n + at) ≡ t)
    (λ is. let e = eqb-true from at is in eq-eqb _ _ (omega arith))
    (λ isnt. ne_eqb _ _ (λ e. let f : from ≡ at = omega arith in let t : eqb from at ≡ true = eq-eqb from at f in cc))

literal_later : (front text : List ℕ) (n from at : ℕ) → length front ≡ n → map (seen_in (front ++ text)) (literal (n + from) (n + at)) ≡ map (seen_in text) (literal from at)
literal_later front text n from at is = rw (same_place n from at) (by_cases (eqb from at)
    (λ t. map (seen_in (front ++ text)) (cond t [] (Literal (span (n + from) (n + at)) ∷ [])) ≡ map (seen_in text) (cond t [] (Literal (span from at) ∷ [])))
    (λ _. refl)
    (λ _. ap (λ w. Plain w ∷ []) (cut_later front text n from at is)))

-- what a byte makes, and how it goes on
record Alike (front text : List ℕ) (n at : ℕ) (a b : List Part × Mode) : Type 0 where
  made : map (seen_in (front ++ text)) a.0 ≡ map (seen_in text) b.0
  next : a.1 ≡ later n b.1
  fine : Fine b.1 (at + 1)

begun_later : (front text : List ℕ) (n from at b : ℕ) (k : Option Bracket) → length front ≡ n → 0 < at → Alike front text n at (begun k (n + from) (n + at) b) (begun k from at b)
begun_later front text n from at b (Some k) is lt = record { made = refl; next = refl; fine = tt }
begun_later front text n from at b None is lt =
    let e : n + at + 1 ≡ n + (at + 1) = omega arith in
    by_cases (eqb b 36) (λ t. Alike front text n at (cond t (Dollar ∷ [], plain (n + at + 1)) (Ref (span (n + at) (n + at + 1)) ∷ [], plain (n + at + 1))) (cond t (Dollar ∷ [], plain (at + 1)) (Ref (span at (at + 1)) ∷ [], plain (at + 1))))
    (λ _. record { made = refl; next = ap plain e; fine = tt })
    (λ _. record { made = ap (λ x. x ∷ []) (named_later front text n at (at + 1) (n + at) (n + at + 1) is lt refl e); next = ap plain e; fine = tt })

closed_later : (front text : List ℕ) (n from at : ℕ) (k : Bracket) (deep : ℕ) → length front ≡ n → Alike front text n at (closed (n + from) k deep (n + at)) (closed from k deep at)
closed_later front text n from at k zero is =
    let e : n + at + 1 ≡ n + (at + 1) = omega arith in
    record { made = ap (λ x. x ∷ []) (named_later front text n (from + 2) at (n + from + 2) (n + at) is (omega arith) (omega arith) refl); next = ap plain e; fine = tt }
closed_later front text n from at k (suc deep) is = record { made = refl; next = refl; fine = tt }

step_later : (front text : List ℕ) (n at b : ℕ) (mode : Mode) → length front ≡ n → Fine mode at → Alike front text n at (step (later n mode) (n + at) b) (step mode at b)
step_later front text n at b (plain from) is fine = by_cases (eqb b 36)
    (λ t. Alike front text n at (cond t (literal (n + from) (n + at), at_sign (n + at)) ([], plain (n + from))) (cond t (literal from at, at_sign at) ([], plain from)))
    (λ _. record { made = literal_later front text n from at is; next = refl; fine = omega arith })
    (λ _. record { made = refl; next = refl; fine = tt })
step_later front text n at b (at_sign from) is fine = begun_later front text n from at b (bracket_of b) is fine
step_later front text n at b (inside from k deep) is fine = by_cases (eqb b (closing_of k))
    (λ t. Alike front text n at (cond t (closed (n + from) k deep (n + at)) ([], inside (n + from) k (cond (eqb b (opening_of k)) (suc deep) deep))) (cond t (closed from k deep at) ([], inside from k (cond (eqb b (opening_of k)) (suc deep) deep))))
    (λ _. closed_later front text n from at k deep is)
    (λ _. record { made = refl; next = refl; fine = tt })

abbrev told : List ℕ → Parted → List Seen × List ℕ
told text p = (map (seen_in text) p.parts, left text p.unclosed)

abbrev onto : List Seen → List Seen × List ℕ → List Seen × List ℕ
onto ss r = (ss ++ r.0, r.1)

told_front : (text : List ℕ) (ps : List Part) (p : Parted) → told text (with_front ps p) ≡ onto (map (seen_in text) ps) (told text p)
told_front text ps p = ap (λ ss. (let r : List Seen × List ℕ = (ss, left text p.unclosed) in r)) (map-append (seen_in text) ps p.parts)

told_later : (front text : List ℕ) (n : ℕ) → length front ≡ n → (mode : Mode) (at : ℕ) (bs : List ℕ) → Fine mode at → told (front ++ text) (parts_from (later n mode) (n + at) bs) ≡ told text (parts_from mode at bs)
told_later front text n is (plain from) at [] fine = ap (λ ss. (let r : List Seen × List ℕ = (ss, []) in r)) (literal_later front text n from at is)
told_later front text n is (at_sign from) at [] fine = ap (λ l. (let r : List Seen × List ℕ = ([], l) in r)) (behind_front front text n from is)
told_later front text n is (inside from k deep) at [] fine = ap (λ l. (let r : List Seen × List ℕ = ([], l) in r)) (behind_front front text n from is)
told_later front text n is mode at (b ∷ bs) fine =
    let s = step_later front text n at b mode is fine in
    let e : n + at + 1 ≡ n + (at + 1) = omega arith in
    told_front (front ++ text) (step (later n mode) (n + at) b).0 (parts_from (step (later n mode) (n + at) b).1 (n + at + 1) bs)
    ∙ ap (λ ss. onto ss (told (front ++ text) (parts_from (step (later n mode) (n + at) b).1 (n + at + 1) bs))) s.made
    ∙ ap (λ (m : Mode). onto (map (seen_in text) (step mode at b).0) (told (front ++ text) (parts_from m (n + at + 1) bs))) s.next
    ∙ ap (λ (i : ℕ). onto (map (seen_in text) (step mode at b).0) (told (front ++ text) (parts_from (later n (step mode at b).1) i bs))) e
    ∙ ap (onto (map (seen_in text) (step mode at b).0)) (told_later front text n is (step mode at b).1 (at + 1) bs s.fine)
    ∙ sym (told_front text (step mode at b).0 (parts_from (step mode at b).1 (at + 1) bs))

-- a text that stands behind another one has the parts that it has alone
alone : (front text : List ℕ) (n : ℕ) → length front ≡ n → told (front ++ text) (parts_from (plain n) n text) ≡ reading text
alone front text n is = let e : n + 0 ≡ n = omega arith in rw (← e) (told_later front text n is (plain 0) 0 text tt)

-- ---- plain text

no_byte : (c : ℕ) (bytes : List ℕ) → HasNo c bytes → AllByRecursion (λ b. b ≢ c) bytes
no_byte c bytes h = recursion_from_All _ bytes h

passed : (from at : ℕ) (a rest : List ℕ) → AllByRecursion (λ b. b ≢ 36) a → parts_from (plain from) at (a ++ rest) ≡ parts_from (plain from) (at + length a) rest
passed from at [] rest h = rw (add-zero at) refl
passed from at (b ∷ bs) rest h =
    let e : at + suc (length bs) ≡ at + 1 + length bs = omega arith in
    rw (ne_eqb b 36 h.0, e) (passed from (at + 1) bs rest h.1)

ends_literal : (n : ℕ) (rest : List ℕ) → 0 < n → Ends rest → parts_from (plain 0) n rest ≡ with_front (Literal (span 0 n) ∷ []) (parts_from (plain n) n rest)
ends_literal n [] lt h = rw (ne_eqb 0 n (λ e. omega arith), eq-eqb n n refl) refl
ends_literal n (b ∷ bs) lt h = rw (eq-eqb b 36 h, ne_eqb 0 n (λ e. omega arith), eq-eqb n n refl) refl

pub plain_first : (b : ℕ) (bs rest : List ℕ) → HasNo 36 (b ∷ bs) → Ends rest → reading ((b ∷ bs) ++ rest) ≡ behind (Plain (b ∷ bs)) (reading rest)
plain_first b bs rest h ends =
    let a = b ∷ bs in
    let n : 0 + length a ≡ length a = omega arith in
    let few : length a - 0 ≡ length a = omega arith in
    let whole : cut (a ++ rest) (span 0 (length a)) ≡ a = ap (λ m. take m (a ++ rest)) few ∙ take_at a rest (length a) refl in
    ap (told (a ++ rest)) (passed 0 0 a rest (no_byte 36 a h) ∙ ap (λ i. parts_from (plain 0) i rest) n ∙ ends_literal (length a) rest (omega arith) ends)
    ∙ ap (λ r. behind (Plain (cut (a ++ rest) (span 0 (length a)))) r) (alone a rest (length a) refl)
    ∙ ap (λ w. behind (Plain w) (reading rest)) whole

-- ---- references

pub sign_first : (rest : List ℕ) → reading (36 ∷ 36 ∷ rest) ≡ behind Sign (reading rest)
sign_first rest = ap (behind Sign) (alone (36 ∷ 36 ∷ []) rest 2 refl)

pub letter_first : (b : ℕ) (rest : List ℕ) → b ≢ 36 → b ≢ 40 → b ≢ 123 → reading (36 ∷ b ∷ rest) ≡ behind (Named None (b ∷ [])) (reading rest)
letter_first b rest sign round curly = rw (ne_eqb b 40 round, ne_eqb b 123 curly, ne_eqb b 36 sign) (ap (behind (Named None (b ∷ []))) (alone (36 ∷ b ∷ []) rest 2 refl))

counted : (c x : ℕ) (xs : List ℕ) → how_many c (x ∷ xs) ≡ cond (eqb x c) 1 0 + how_many c xs
counted c x xs = sum_by-cons (λ y. cond (eqb y c) 1 0) x xs

-- behind `deep` open brackets
abbrev Fronts : Bracket → ℕ → List ℕ → Type 0
Fronts k deep bytes = (n : ℕ) → how_many (closing_of k) (take n bytes) ≤ how_many (opening_of k) (take n bytes) + deep

abbrev Even : Bracket → ℕ → List ℕ → Type 0
Even k deep bytes = how_many (closing_of k) bytes ≡ how_many (opening_of k) bytes + deep

unlike : (k : Bracket) (x : ℕ) → eqb x (closing_of k) ≡ true → eqb x (opening_of k) ≡ false
unlike Round x e = rw (eqb-true x 41 e) refl
unlike Curly x e = rw (eqb-true x 125 e) refl

fronts_tail : (k : Bracket) (x : ℕ) (xs : List ℕ) (deep next : ℕ) → cond (eqb x (opening_of k)) 1 0 + deep ≡ cond (eqb x (closing_of k)) 1 0 + next → Fronts k deep (x ∷ xs) → Fronts k next xs
fronts_tail k x xs deep next e h n = omega (arith, h (suc n), counted (closing_of k) x (take n xs), counted (opening_of k) x (take n xs))

even_tail : (k : Bracket) (x : ℕ) (xs : List ℕ) (deep next : ℕ) → cond (eqb x (opening_of k)) 1 0 + deep ≡ cond (eqb x (closing_of k)) 1 0 + next → Even k deep (x ∷ xs) → Even k next xs
even_tail k x xs deep next e h = omega (arith, h, counted (closing_of k) x xs, counted (opening_of k) x xs)

one_if : (t : Bool) → t ≡ true → (let n : ℕ = cond t 1 0 in n ≡ 1)
one_if t is = rw is refl

zero_if : (t : Bool) → t ≡ false → (let n : ℕ = cond t 1 0 in n ≡ 0)
zero_if t is = rw is refl

-- a closing bracket finds an open one
some_open : (k : Bracket) (x : ℕ) (xs : List ℕ) (deep : ℕ) → eqb x (closing_of k) ≡ true → Fronts k deep (x ∷ xs) → (d : ℕ) × (deep ≡ suc d)
some_open k x xs zero is h =
    let c = one_if (eqb x (closing_of k)) is in
    let d = zero_if (eqb x (opening_of k)) (unlike k x is) in
    absurd (omega (arith, h 1, counted (closing_of k) x [], counted (opening_of k) x []))
some_open k x xs (suc d) is h = (d, refl)

closes : (from at : ℕ) (k : Bracket) (deep : ℕ) (name rest : List ℕ) → Fronts k deep name → Even k deep name →
    parts_from (inside from k deep) at (name ++ closing_of k ∷ rest) ≡ with_front (Ref (span (from + 2) (at + length name)) ∷ []) (parts_from (plain (at + length name + 1)) (at + length name + 1) rest)
closes from at k deep [] rest fronts even =
    let none : deep ≡ 0 = omega arith in
    rw (none, eq-eqb (closing_of k) (closing_of k) refl, add-zero at) refl
closes from at k deep (x ∷ xs) rest fronts even =
    let e : at + suc (length xs) ≡ at + 1 + length xs = omega arith in
    rw e (by_cases (eqb x (closing_of k)) (λ t. eqb x (closing_of k) ≡ t → (let s : List Part × Mode = cond t (closed from k deep at) ([], inside from k (cond (eqb x (opening_of k)) (suc deep) deep)) in with_front s.0 (parts_from s.1 (at + 1) (xs ++ closing_of k ∷ rest))) ≡ with_front (Ref (span (from + 2) (at + 1 + length xs)) ∷ []) (parts_from (plain (at + 1 + length xs + 1)) (at + 1 + length xs + 1) rest))
    (λ _ is.
    let d = some_open k x xs deep is fronts in
    let one : cond (eqb x (opening_of k)) 1 0 + deep ≡ cond (eqb x (closing_of k)) 1 0 + d.0 = rw (unlike k x is, is) (omega (arith, d.1)) in
    rw d.1 (closes from (at + 1) k d.0 xs rest (fronts_tail k x xs deep d.0 one fronts) (even_tail k x xs deep d.0 one even)))
    (λ _ isnt.
    let next = cond (eqb x (opening_of k)) (suc deep) deep in
    let one : cond (eqb x (opening_of k)) 1 0 + deep ≡ cond (eqb x (closing_of k)) 1 0 + next = rw isnt (by_cases (eqb x (opening_of k)) (λ t. cond t 1 0 + deep ≡ 0 + cond t (suc deep) deep) (λ _. omega arith) (λ _. refl)) in
    closes from (at + 1) k next xs rest (fronts_tail k x xs deep next one fronts) (even_tail k x xs deep next one even)) refl)

never : (from at : ℕ) (k : Bracket) (deep : ℕ) (bytes : List ℕ) → Fronts k deep bytes → parts_from (inside from k deep) at bytes ≡ record { parts = []; unclosed = Some from }
never from at k deep [] fronts = refl
never from at k deep (x ∷ xs) fronts =
    by_cases (eqb x (closing_of k)) (λ t. eqb x (closing_of k) ≡ t → (let s : List Part × Mode = cond t (closed from k deep at) ([], inside from k (cond (eqb x (opening_of k)) (suc deep) deep)) in with_front s.0 (parts_from s.1 (at + 1) xs)) ≡ record { parts = []; unclosed = Some from })
    (λ _ is.
    let d = some_open k x xs deep is fronts in
    let one : cond (eqb x (opening_of k)) 1 0 + deep ≡ cond (eqb x (closing_of k)) 1 0 + d.0 = rw (unlike k x is, is) (omega (arith, d.1)) in
    rw d.1 (ap (with_front []) (never from (at + 1) k d.0 xs (fronts_tail k x xs deep d.0 one fronts))))
    (λ _ isnt.
    let next = cond (eqb x (opening_of k)) (suc deep) deep in
    let one : cond (eqb x (opening_of k)) 1 0 + deep ≡ cond (eqb x (closing_of k)) 1 0 + next = rw isnt (by_cases (eqb x (opening_of k)) (λ t. cond t 1 0 + deep ≡ 0 + cond t (suc deep) deep) (λ _. omega arith) (λ _. refl)) in
    ap (with_front []) (never from (at + 1) k next xs (fronts_tail k x xs deep next one fronts))) refl

fronts_none : (k : Bracket) (bytes : List ℕ) → NeverCloses (opening_of k) (closing_of k) bytes → Fronts k 0 bytes
fronts_none k bytes h n = omega (arith, h n)

named_first : (k : Bracket) (name rest : List ℕ) → PairsOff (opening_of k) (closing_of k) name →
    told ((36 ∷ opening_of k ∷ name) ++ (closing_of k ∷ rest)) (parts_from (inside 0 k 0) 2 (name ++ closing_of k ∷ rest)) ≡ behind (Named (bracket_of (opening_of k)) name) (reading rest)
named_first k name rest h =
    let front = (36 ∷ opening_of k ∷ name) ++ closing_of k ∷ [] in
    let whole = (36 ∷ opening_of k ∷ name) ++ (closing_of k ∷ rest) in
    let n = 2 + length name in
    let text : whole ≡ front ++ rest = sym (append_assoc (36 ∷ opening_of k ∷ name) (closing_of k ∷ []) rest) in
    let long : length front ≡ n + 1 = length_push (36 ∷ opening_of k ∷ name) (closing_of k) ∙ omega arith in
    let few : n - 2 ≡ length name = omega arith in
    let inner : cut whole (span 2 n) ≡ name = ap (λ m. take m (name ++ (closing_of k ∷ rest))) few ∙ take_at name (closing_of k ∷ rest) (length name) refl in
    ap (told whole) (closes 0 2 k 0 name rest (fronts_none k name h.1) (omega (arith, h.0)))
    ∙ ap (λ w. behind (Named (bracket_of (opening_of k)) w) (told whole (parts_from (plain (n + 1)) (n + 1) rest))) inner
    ∙ ap (λ (w : List ℕ). behind (Named (bracket_of (opening_of k)) name) (told w (parts_from (plain (n + 1)) (n + 1) rest))) text
    ∙ ap (behind (Named (bracket_of (opening_of k)) name)) (alone front rest (n + 1) long)

pub round_first : (name rest : List ℕ) → PairsOff 40 41 name → reading ((36 ∷ 40 ∷ name) ++ (41 ∷ rest)) ≡ behind (Named (Some Round) name) (reading rest)
round_first name rest h = named_first Round name rest h

pub curly_first : (name rest : List ℕ) → PairsOff 123 125 name → reading ((36 ∷ 123 ∷ name) ++ (125 ∷ rest)) ≡ behind (Named (Some Curly) name) (reading rest)
curly_first name rest h = named_first Curly name rest h

pub round_open : (bytes : List ℕ) → NeverCloses 40 41 bytes → reading (36 ∷ 40 ∷ bytes) ≡ ([], 36 ∷ 40 ∷ bytes)
round_open bytes h = ap (told (36 ∷ 40 ∷ bytes)) (never 0 2 Round 0 bytes (fronts_none Round bytes h))

pub curly_open : (bytes : List ℕ) → NeverCloses 123 125 bytes → reading (36 ∷ 123 ∷ bytes) ≡ ([], 36 ∷ 123 ∷ bytes)
curly_open bytes h = ap (told (36 ∷ 123 ∷ bytes)) (never 0 2 Curly 0 bytes (fronts_none Curly bytes h))
