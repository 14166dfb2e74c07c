-- Canonical decimal from the left: which digits may stand behind others.
use Rattle.std.proofs.Common.{◌≡◌, ℕ, ◌+◌, ◌-◌, ◌*◌, ◌^◌, ◌<◌, ◌≤◌, ◌&&◌, not, nat_lt, nat_le, Bool, true, false, cond, ◌⊎◌, inl, inr, List, [], ◌∷◌, ◌++◌, length, get_or, Result, Ok, Err, refl, sym, ap, subst, ◌∙◌, append_assoc, length-append, arith, rules, decimal}
use Rattle.std.specs.List.{list_all}
use Rattle.std.specs.Char.{is_ascii_digit}
use Rattle.std.proofs.lemmas.Bool.{and_parts, lt-ltb, ltb-true, le-leb, leb-true, cases_lt}
use Rattle.std.proofs.lemmas.List.{append-nil, get_or_append_left}
use Rattle.std.proofs.lemmas.List.Folds.{list_all-append}
use Rattle.std.proofs.lemmas.Fmt.{digits_decimal, digits_value-decimal, decimal-digits_value, decimal_digit, decimal_nonempty, first_decimal, decimal_injective}
use Rattle.std.proofs.lemmas.Str.Parse.{IsNumeralModel, numerals_by_fold}
use Rattle.em_report.specs.Parts.{Here, here, fits, more_in, number_at, more_at, ◌>>=◌}
use Rattle.em_report.specs.Reading.{next}
use Rattle.em_report.proofs.Languages.{Lang, Reads, stuck_here}

-- ---- texts that pass a test, and what stands behind them

pub span : (p : ℕ → Bool) (xs ys a : List ℕ) (c : ℕ) (w : List ℕ) → list_all p xs ≡ true → list_all p ys ≡ true → p (next a) ≡ false → xs ++ a ≡ ys ++ c ∷ w
    → (xs ≡ ys) ⊎ ((r : List ℕ) × (xs ≡ ys ++ c ∷ r))
span p [] [] a c w f g h e = inl refl
span p [] (y ∷ ys) a c w f g h e =
    let same : p (next a) ≡ p y = ap (λ (t : List ℕ). p (next t)) e in
    let bad : false ≡ true = sym h ∙ same ∙ (and_parts (p y) (list_all p ys) g).0 in absurd cc
span p (x ∷ xs) [] a c w f g h e = let same : x ≡ c = cc in inr (xs, ap (λ z. z ∷ xs) same)
span p (x ∷ xs) (y ∷ ys) a c w f g h e =
    let same : x ≡ y = cc in
    let rest : xs ++ a ≡ ys ++ c ∷ w = cc in
    elim (span p xs ys a c w (and_parts (p x) (list_all p xs) f).1 (and_parts (p y) (list_all p ys) g).1 h rest) [
      | inl k ↦ inl (let both : x ∷ xs ≡ y ∷ ys = cc in both)
      | inr k ↦ inr (k.0, let both : x ∷ xs ≡ y ∷ (ys ++ c ∷ k.0) = (let q = k.1 in cc) in both)
    ]

-- what passes, behind a front
pub passes_behind : (p : ℕ → Bool) (xs ys r : List ℕ) (c : ℕ) → list_all p xs ≡ true → xs ≡ ys ++ c ∷ r → p c ≡ true
passes_behind p xs ys r c all e =
    let parts = and_parts (list_all p ys) (list_all p (c ∷ r)) (sym (list_all-append p ys (c ∷ r)) ∙ sym (ap (list_all p) e) ∙ all) in
    (and_parts (p c) (list_all p r) parts.1).0

-- ---- values

abbrev pub value_after : ℕ → List ℕ → ℕ
value_after n [] = n
value_after n (d ∷ ds) = value_after (10 * n + (d - 48)) ds

abbrev AreDigits : List ℕ → Type 0
AreDigits ds = list_all is_ascii_digit ds ≡ true

own : IsNumeralModel AreDigits (value_after 0)
own = numerals_by_fold AreDigits (search rules) value_after (search rules)

value_append : (n : ℕ) (xs ys : List ℕ) → value_after n (xs ++ ys) ≡ value_after (value_after n xs) ys
value_append n [] ys = refl
value_append n (x ∷ xs) ys = value_append (10 * n + (x - 48)) xs ys

grows : (n : ℕ) (ds : List ℕ) → n ≤ value_after n ds
grows n [] = omega arith
grows n (d ∷ ds) = omega (arith, grows (10 * n + (d - 48)) ds)

-- the digits spell the number in canonical decimal, and it is at most the limit
record Spells (limit : ℕ) (ds : List ℕ) (n : ℕ) : Type 0 where
  filled : 0 < length ds
  lone : get_or ds 0 0 ≡ 48 → length ds ≡ 1
  digits : AreDigits ds
  value : value_after 0 ds ≡ n
  low : n ≤ limit

written : (limit : ℕ) (ds : List ℕ) (n : ℕ) → limit < 2 ^ 64 → Spells limit ds n → decimal n ≡ ds
written limit ds n small s =
    let low : value_after 0 ds < 2 ^ 64 = omega (arith, s.value, s.low) in
    ap decimal (sym s.value) ∙ decimal-digits_value own ds s.digits s.filled s.lone low

record Fits (limit n c : ℕ) : Type 0 where
  digit : is_ascii_digit c ≡ true
  more : 0 < n
  low : 10 * n + (c - 48) ≤ limit

fits_is : (limit n c : ℕ) → fits limit n c ≡ true → Fits limit n c
fits_is limit n c e =
    let a = and_parts (is_ascii_digit c && nat_lt 0 n) (nat_le (10 * n + (c - 48)) limit) e in
    let b = and_parts (is_ascii_digit c) (nat_lt 0 n) a.0 in
    record { digit = b.0; more = ltb-true 0 n b.1; low = leb-true _ _ a.1 }

is_fits : (limit n c : ℕ) → Fits limit n c → fits limit n c ≡ true
is_fits limit n c f = let m : nat_lt 0 n ≡ true = lt-ltb 0 n f.more in let l : nat_le (10 * n + (c - 48)) limit ≡ true = le-leb _ _ f.low in rw (f.digit, m, l) refl

lone_zero : (ds : List ℕ) → get_or ds 0 0 ≡ 48 → length ds ≡ 1 → value_after 0 ds ≡ 0
lone_zero [] e l = refl
lone_zero (d ∷ []) e l = let k : d ≡ 48 = e in omega arith
lone_zero (d ∷ q ∷ ds) e l = absurd (omega arith)

spells_push : (limit : ℕ) (ds : List ℕ) (n c : ℕ) → Spells limit ds n → Fits limit n c → Spells limit (ds ++ c ∷ []) (10 * n + (c - 48))
spells_push limit ds n c s f =
    let long : length (ds ++ c ∷ []) ≡ length ds + 1 = length-append ds (c ∷ []) in
    record {
      filled = omega (arith, long);
      lone = λ e.
          let first : get_or ds 0 0 ≡ 48 = sym (get_or_append_left ds (c ∷ []) 0 0 s.filled) ∙ e in
          let zero : value_after 0 ds ≡ 0 = lone_zero ds first (s.lone first) in
          absurd (omega (arith, zero, s.value, f.more));
      digits = list_all-append is_ascii_digit ds (c ∷ []) ∙ (let d : is_ascii_digit c ≡ true = f.digit in let a : list_all is_ascii_digit ds ≡ true = s.digits in rw (a, d) refl);
      value = value_append 0 ds (c ∷ []) ∙ ap (λ (v : ℕ). 10 * v + (c - 48)) s.value;
      low = f.low;
    }

-- ---- the digits that are taken

record More (limit : ℕ) (pre : List ℕ) (at : ℕ) (bs : List ℕ) (r : ℕ × Here) : Type 0 where
  ds : List ℕ
  spells : Spells limit (pre ++ ds) r.0
  taken : bs ≡ ds ++ r.1.rest
  place : r.1.at ≡ at + length ds
  stops : fits limit r.0 (next r.1.rest) ≡ false

more_takes : (limit : ℕ) (pre : List ℕ) (n at : ℕ) (bs : List ℕ) → Spells limit pre n → More limit pre at bs (more_in limit n at bs)
more_takes limit pre n at [] s = record { ds = []; spells = subst (λ (t : List ℕ). Spells limit t n) (sym (append-nil pre)) s; taken = refl; place = omega arith; stops = refl }
more_takes limit pre n at (c ∷ cs) s =
    elim (fits limit n c) as (λ b. fits limit n c ≡ b → More limit pre at (c ∷ cs) (cond b (more_in limit (10 * n + (c - 48)) (at + 1) cs) (n, here at (c ∷ cs)))) [
      | true ↦ λ e.
          let m = more_takes limit (pre ++ c ∷ []) (10 * n + (c - 48)) (at + 1) cs (spells_push limit pre n c s (fits_is limit n c e)) in
          let r = more_in limit (10 * n + (c - 48)) (at + 1) cs in
          record { ds = c ∷ m.ds; spells = subst (λ (t : List ℕ). Spells limit t r.0) (append_assoc pre (c ∷ []) m.ds) m.spells; taken = ap (λ (t : List ℕ). c ∷ t) m.taken; place = omega (arith, m.place); stops = m.stops }
      | false ↦ λ e. record { ds = []; spells = subst (λ (t : List ℕ). Spells limit t n) (sym (append-nil pre)) s; taken = refl; place = omega arith; stops = e }
    ] refl

-- ---- numbers

abbrev pub Number : ℕ → Lang ℕ
Number limit = record { valid = λ n. n ≤ limit; text = decimal; follow = λ c. not (is_ascii_digit c) }

not_true : (b : Bool) → not b ≡ true → b ≡ false
not_true true e = absurd cc
not_true false e = refl

-- a longer number would fit
goes_on : (limit v y c : ℕ) (r : List ℕ) → limit < 2 ^ 64 → v ≤ limit → y ≤ limit → decimal y ≡ decimal v ++ c ∷ r → Fits limit v c
goes_on limit v y c r small lv ly e =
    let value : y ≡ value_after (10 * v + (c - 48)) r =
    sym (digits_value-decimal own y (omega arith)) ∙ ap (value_after 0) e ∙ value_append 0 (decimal v) (c ∷ r) ∙ ap (λ (n : ℕ). value_after (10 * n + (c - 48)) r) (digits_value-decimal own v (omega arith)) in
    record {
      digit = passes_behind is_ascii_digit (decimal y) (decimal v) r c (digits_decimal own y (omega arith)) e;
      more = elim (cases_lt 0 v) [
        | inl lt ↦ lt
        | inr le ↦
            let zero : v ≡ 0 = omega arith in
            let cell : decimal v ≡ 48 ∷ [] = ap decimal zero ∙ decimal_digit 0 (omega arith) in
            let all : decimal y ≡ 48 ∷ c ∷ r = e ∙ ap (λ (t : List ℕ). t ++ c ∷ r) cell in
            elim (cases_lt 0 y) [
              | inl pos ↦ absurd (omega (arith, first_decimal y pos (omega arith), ap (λ (t : List ℕ). get_or t 0 0) all))
              | inr none ↦ let lone : decimal y ≡ 48 ∷ [] = (let z : y ≡ 0 = omega arith in ap decimal z ∙ decimal_digit 0 (omega arith)) in absurd (omega (arith, ap length lone, ap length all))
            ]
      ];
      low = omega (arith, value, grows (10 * v + (c - 48)) r);
    }

first_digit : (y c : ℕ) (a w : List ℕ) → y < 2 ^ 64 → is_ascii_digit c ≡ false → decimal y ++ a ≡ c ∷ w → ⊥
first_digit y c a w small isnt e = by (decimal y) (decimal_nonempty y small) (digits_decimal own y small) e
  where
    by : (ds : List ℕ) → 0 < length ds → list_all is_ascii_digit ds ≡ true → ds ++ a ≡ c ∷ w → ⊥
    by [] f d e = omega arith
    by (x ∷ ds) f d e = let same : x ≡ c = cc in let bad : true ≡ false = sym (and_parts (is_ascii_digit x) (list_all is_ascii_digit ds) d).0 ∙ ap is_ascii_digit same ∙ isnt in cc

spells_one : (limit c : ℕ) → 9 ≤ limit → is_ascii_digit c ≡ true → Spells limit (c ∷ []) (c - 48)
spells_one limit c nine e = record { filled = omega arith; lone = λ _. refl; digits = rw e refl; value = omega arith; low = let high : c ≤ 57 = leb-true c 57 (and_parts (nat_le 48 c) (nat_le c 57) e).1 in omega arith }

pub number_reads : (limit : ℕ) → 9 ≤ limit → limit < 2 ^ 64 → (h : Here) → Reads (Number limit) h (number_at limit h)
unfolding number_at more_at
number_reads limit nine small h = by h.at h.rest
  where
    lacks : (at : ℕ) (bs : List ℕ) → is_ascii_digit (next bs) ≡ false → Reads (Number limit) (here at bs) (Err at)
    lacks at bs isnt = stuck_here (Number limit) (here at bs) 0 (omega arith) (λ y v a w g e. first_digit y (next bs) a w (omega arith) isnt e)

    takes : (at c : ℕ) (cs : List ℕ) → is_ascii_digit c ≡ true → Reads (Number limit) (here at (c ∷ cs)) (Ok (more_in limit (c - 48) (at + 1) cs))
    takes at c cs e =
        let m = more_takes limit (c ∷ []) (c - 48) (at + 1) cs (spells_one limit c nine e) in
        let r = more_in limit (c - 48) (at + 1) cs in
        let is : decimal r.0 ≡ c ∷ m.ds = written limit (c ∷ m.ds) r.0 small m.spells in
        record {
          valid = m.spells.low;
          taken = ap (λ (t : List ℕ). c ∷ t) m.taken ∙ ap (λ (t : List ℕ). t ++ r.1.rest) (sym is);
          place = omega (arith, m.place, ap length is);
          only = λ y v a w g e.
              elim (span is_ascii_digit (decimal y) (decimal r.0) a (next r.1.rest) w (digits_decimal own y (omega arith)) (digits_decimal own r.0 (omega (arith, m.spells.low))) (not_true _ g) e) [
                | inl same ↦ decimal_injective y r.0 (omega arith) (omega (arith, m.spells.low)) same
                | inr longer ↦
                    let fit = is_fits limit r.0 (next r.1.rest) (goes_on limit r.0 y (next r.1.rest) longer.0 small m.spells.low v longer.1) in
                    let bad : true ≡ false = sym fit ∙ m.stops in absurd cc
              ];
        }

    by : (at : ℕ) (bs : List ℕ) → Reads (Number limit) (here at bs) (number_at limit (here at bs))
    by at [] = lacks at [] refl
    by at (c ∷ cs) =
        elim (is_ascii_digit c) as (λ b. is_ascii_digit c ≡ b → let first : Result (ℕ × Here) ℕ = cond b (Ok (c - 48, here (at + 1) cs)) (Err at) in Reads (Number limit) (here at (c ∷ cs)) (first >>= λ d. Ok (more_at limit d.0 d.1))) [
          | true ↦ λ e. takes at c cs e
          | false ↦ λ e. lacks at (c ∷ cs) e
        ] refl
