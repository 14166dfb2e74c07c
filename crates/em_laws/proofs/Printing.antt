-- What formats write of words.
use Rattle.std.proofs.Common.{◌≡◌, ◌≢◌, ◌⊎◌, inl, inr, ℕ, zero, suc, ◌+◌, ◌-◌, ◌/◌, ◌<◌, ◌≤◌, ◌^◌, ◌&&◌, true, false, cond, eqb, List, [], ◌∷◌, ◌++◌, map, length, drop, Option, Some, None, Result, Ok, Err, arith, refl, sym, ap, ◌∙◌, append_assoc, append-nil}
use Rattle.std.proofs.Math.Nat.{div-eq_of_lt, add-div_left}
use Rattle.std.specs.Prelude.{All, codes, replicate, decimal, ℤ, pos, neg_ℤ, nat_lt, nat_le}
use Rattle.std.specs.Char.{is_ascii_digit}
use Rattle.std.specs.List.{AllByRecursion, flat_map, list_all}
use Rattle.std.specs.Str.Parse.{digits_value, without_leading_sign, without_leading_plus, signed_digits_value}
use Rattle.std.proofs.lemmas.Bool.{eqb-true, ne_eqb, lt-ltb, ltb-true, le-leb, leb-true, and_parts}
use Rattle.std.proofs.lemmas.List.{length-append, length-replicate}
use Rattle.std.proofs.lemmas.List.Elements.{recursion_from_All, All-from_recursion}
use Rattle.std.proofs.lemmas.List.Sums.{sum_by-cons, sum_by-append}
use Rattle.std.proofs.lemmas.Fmt.{decimal_nonempty}
use Rattle.em_base.proofs.Lemmas.{by_cases, decimal_digits, decimal_value, digits_spell}
use Rattle.em_lineutil.specs.declared.format.Part.{Part}
use Rattle.em_lineutil.specs.declared.format.Part.TheVariants as parts
use Rattle.em_lineutil.specs.Formats.{is_number, number_of, before, format_of, takes, repeats_by, written, shown_part, behind, shown, if_strange, strange, left, shown_times, strange_times, repeats, printed, faults}
use Rattle.em_laws.specs.Printed.{Piece, Plain, Percent, Newline, Tab, Backslash, Word, Number, IsPiece, in_format, as_words, in_output, output_by, output, how_many_taken}

-- ---- a piece is a part

abbrev part_of : Piece → Part
part_of (Plain b) = parts.Byte b
part_of Percent = parts.Byte 37
part_of Newline = parts.Byte 10
part_of Tab = parts.Byte 9
part_of Backslash = parts.Byte 92
part_of (Word w) = parts.Word
part_of (Number w z) = parts.Number

one_read : (u : Piece) (rest : List ℕ) → IsPiece u → format_of (in_format u ++ rest) ≡ before (part_of u ∷ []) (format_of rest)
one_read (Plain b) [] h = rw (ne_eqb b 37 h.0) refl
one_read (Plain b) (c ∷ cs) h = rw (ne_eqb b 92 h.1, ne_eqb b 37 h.0) refl
one_read Percent rest h = refl
one_read Newline rest h = refl
one_read Tab rest h = refl
one_read Backslash rest h = refl
one_read (Word w) rest h = refl
one_read (Number w z) rest h = refl

before_none : (r : Result (List Part) (Option ℕ)) → before [] r ≡ r
before_none (Ok ps) = refl
before_none (Err e) = refl

before_more : (p : Part) (ps : List Part) (r : Result (List Part) (Option ℕ)) → before (p ∷ []) (before ps r) ≡ before (p ∷ ps) r
before_more p ps (Ok qs) = refl
before_more p ps (Err e) = refl

all_read : (us : List Piece) (rest : List ℕ) → AllByRecursion IsPiece us → format_of (flat_map in_format us ++ rest) ≡ before (map part_of us) (format_of rest)
all_read [] rest h = sym (before_none (format_of rest))
all_read (u ∷ us) rest h =
    ap format_of (append_assoc (in_format u) (flat_map in_format us) rest) ∙ one_read u (flat_map in_format us ++ rest) h.0
    ∙ ap (before (part_of u ∷ [])) (all_read us rest h.1) ∙ before_more (part_of u) (map part_of us) (format_of rest)

-- ---- what parts take

count : (p : Part) (ps : List Part) → how_many_taken (p ∷ ps) ≡ cond (takes p) 1 0 + how_many_taken ps
count p ps = sum_by-cons (λ q. cond (takes q) 1 0) p ps

count_more : (ps qs : List Part) → how_many_taken (ps ++ qs) ≡ how_many_taken ps + how_many_taken qs
count_more ps qs = sum_by-append (λ q. cond (takes q) 1 0) ps qs

record Pass (ps : List Part) (now more : List (List ℕ)) : Type 0 where
  shows : shown ps (now ++ more) ≡ shown ps now
  leaves : left ps (now ++ more) ≡ more
  names : strange ps (now ++ more) ≡ strange ps now

pass : (ps : List Part) (now more : List (List ℕ)) → length now ≡ how_many_taken ps → Pass ps now more
pass [] [] more e = record { shows = refl; leaves = refl; names = refl }
pass [] (w ∷ ws) more e = absurd (omega arith)
pass (parts.Byte b ∷ ps) now more e =
    let r = pass ps now more (omega (arith, count (parts.Byte b) ps)) in
    record { shows = ap (λ (w : List ℕ). b ∷ w) r.shows; leaves = r.leaves; names = r.names }
pass (parts.Word ∷ ps) [] more e = absurd (omega (arith, count parts.Word ps))
pass (parts.Word ∷ ps) (w ∷ ws) more e =
    let r = pass ps ws more (omega (arith, count parts.Word ps)) in
    record { shows = ap (λ (v : List ℕ). w ++ v) r.shows; leaves = r.leaves; names = r.names }
pass (parts.Number ∷ ps) [] more e = absurd (omega (arith, count parts.Number ps))
pass (parts.Number ∷ ps) (w ∷ ws) more e =
    let r = pass ps ws more (omega (arith, count parts.Number ps)) in
    record { shows = ap (λ (v : List ℕ). written (number_of w) ++ v) r.shows; leaves = r.leaves; names = ap (λ (v : List (List ℕ)). if_strange (number_of w) w ++ v) r.names }

-- ---- how often

divided : (t n : ℕ) → t ≢ 0 → n ≢ 0 → repeats_by t n ≡ (n - 1) / t + 1
divided t n a b = rw (ne_eqb t 0 a, ne_eqb n 0 b) refl

repeats_one : (t n : ℕ) → n ≤ t → repeats_by t n ≡ 1
repeats_one zero n le = refl
repeats_one (suc t) zero le = rw (ne_eqb (suc t) 0 (λ e. omega arith)) refl
repeats_one (suc t) (suc n) le =
    let lt : suc n - 1 < suc t = omega arith in
    divided (suc t) (suc n) (omega arith) (omega arith) ∙ ap (λ k. k + 1) (div-eq_of_lt lt)

repeats_more : (t m : ℕ) → 0 < t → 0 < m → repeats_by t (t + m) ≡ suc (repeats_by t m)
repeats_more t m a b =
    let e : t + m - 1 ≡ t + (m - 1) = omega arith in
    let step : (t + (m - 1)) / t ≡ (m - 1) / t + 1 = add-div_left (m - 1) a in
    let now = divided t m (omega arith) (omega arith) in
    divided t (t + m) (omega arith) (omega arith) ∙ ap (λ k. k / t + 1) e ∙ ap (λ k. k + 1) step ∙ (let whole : (m - 1) / t + 1 + 1 ≡ suc (repeats_by t m) = omega arith in whole)

once_printed : (ps : List Part) (ws : List (List ℕ)) → length ws ≤ how_many_taken ps → (printed ps ws ≡ shown ps ws) × (faults ps ws ≡ strange ps ws)
unfolding printed faults
once_printed ps ws le =
    let one = repeats_one (how_many_taken ps) (length ws) le in
    (ap (λ k. shown_times k ps ws) one ∙ append-nil (shown ps ws), ap (λ k. strange_times k ps ws) one ∙ append-nil (strange ps ws))

-- ---- the laws

shows_all : (us : List Piece) → AllByRecursion IsPiece us → shown (map part_of us) (flat_map as_words us) ≡ flat_map in_output us
shows_all [] h = refl
shows_all (Plain b ∷ us) h = ap (λ (w : List ℕ). b ∷ w) (shows_all us h.1)
shows_all (Percent ∷ us) h = ap (λ (w : List ℕ). 37 ∷ w) (shows_all us h.1)
shows_all (Newline ∷ us) h = ap (λ (w : List ℕ). 10 ∷ w) (shows_all us h.1)
shows_all (Tab ∷ us) h = ap (λ (w : List ℕ). 9 ∷ w) (shows_all us h.1)
shows_all (Backslash ∷ us) h = ap (λ (w : List ℕ). 92 ∷ w) (shows_all us h.1)
shows_all (Word w ∷ us) h = ap (λ (v : List ℕ). w ++ v) (shows_all us h.1)
shows_all (Number w z ∷ us) h = ap (λ (o : Option ℤ). written o ++ shown (map part_of us) (flat_map as_words us)) h.0 ∙ ap (λ (v : List ℕ). written (Some z) ++ v) (shows_all us h.1)

none_strange : (us : List Piece) → AllByRecursion IsPiece us → strange (map part_of us) (flat_map as_words us) ≡ []
none_strange [] h = refl
none_strange (Plain b ∷ us) h = none_strange us h.1
none_strange (Percent ∷ us) h = none_strange us h.1
none_strange (Newline ∷ us) h = none_strange us h.1
none_strange (Tab ∷ us) h = none_strange us h.1
none_strange (Backslash ∷ us) h = none_strange us h.1
none_strange (Word w ∷ us) h = none_strange us h.1
none_strange (Number w z ∷ us) h = ap (λ (o : Option ℤ). if_strange o w ++ strange (map part_of us) (flat_map as_words us)) h.0 ∙ none_strange us h.1

words_taken : (us : List Piece) → length (flat_map as_words us) ≡ how_many_taken (map part_of us)
words_taken [] = refl
words_taken (Plain b ∷ us) = omega (arith, words_taken us, count (parts.Byte b) (map part_of us))
words_taken (Percent ∷ us) = omega (arith, words_taken us, count (parts.Byte 37) (map part_of us))
words_taken (Newline ∷ us) = omega (arith, words_taken us, count (parts.Byte 10) (map part_of us))
words_taken (Tab ∷ us) = omega (arith, words_taken us, count (parts.Byte 9) (map part_of us))
words_taken (Backslash ∷ us) = omega (arith, words_taken us, count (parts.Byte 92) (map part_of us))
words_taken (Word w ∷ us) = omega (arith, words_taken us, count parts.Word (map part_of us))
words_taken (Number w z ∷ us) = omega (arith, words_taken us, count parts.Number (map part_of us))

pieces_read : (us : List Piece) → AllByRecursion IsPiece us → format_of (flat_map in_format us) ≡ Ok (map part_of us)
pieces_read us h = ap format_of (sym (append-nil (flat_map in_format us))) ∙ all_read us [] h ∙ ap (λ (ps : List Part). let r : Result (List Part) (Option ℕ) = Ok ps in r) (append-nil (map part_of us))

pub format_written : (us : List Piece) → All IsPiece us → output (flat_map in_format us) (flat_map as_words us) ≡ Ok (flat_map in_output us, [])
format_written us a =
    let h = recursion_from_All IsPiece us a in
    let ps = map part_of us in
    let ws = flat_map as_words us in
    let one = once_printed ps ws (let e = words_taken us in omega arith) in
    ap (λ r. output_by r ws) (pieces_read us h)
    ∙ ap (λ (v : List ℕ). let r : Result (List ℕ × List (List ℕ)) (Option ℕ) = Ok (v, faults ps ws) in r) (one.0 ∙ shows_all us h)
    ∙ ap (λ (v : List (List ℕ)). let r : Result (List ℕ × List (List ℕ)) (Option ℕ) = Ok (flat_map in_output us, v) in r) (one.1 ∙ none_strange us h)

pub format_refused : (us : List Piece) (b : ℕ) (rest : List ℕ) (ws : List (List ℕ)) → All IsPiece us → b ≢ 115 → b ≢ 100 → b ≢ 37 → output (flat_map in_format us ++ 37 ∷ b ∷ rest) ws ≡ Err (Some b)
format_refused us b rest ws a s d p =
    let e : format_of (37 ∷ b ∷ rest) ≡ Err (Some b) = rw (ne_eqb b 115 s, ne_eqb b 100 d, ne_eqb b 37 p) refl in
    ap (λ r. output_by r ws) (all_read us (37 ∷ b ∷ rest) (recursion_from_All IsPiece us a) ∙ ap (before (map part_of us)) e)

pub format_ends : (us : List Piece) (ws : List (List ℕ)) → All IsPiece us → output (flat_map in_format us ++ 37 ∷ []) ws ≡ Err None
format_ends us ws a = ap (λ r. output_by r ws) (all_read us (37 ∷ []) (recursion_from_All IsPiece us a))

filled : {X : Type 0} (xs : List X) → xs ≢ [] → 0 < length xs
filled [] h = absurd (h refl)
filled (x ∷ xs) h = omega arith

again_shown : (ps : List Part) (now more : List (List ℕ)) → repeats ps (now ++ more) ≡ suc (repeats ps more) → Pass ps now more → printed ps now ≡ shown ps now → printed ps (now ++ more) ≡ printed ps now ++ printed ps more
unfolding printed
again_shown ps now more n p one =
    ap (λ k. shown_times k ps (now ++ more)) n ∙ ap (λ (v : List ℕ). v ++ shown_times (repeats ps more) ps (left ps (now ++ more))) (p.shows ∙ sym one)
    ∙ ap (λ (v : List (List ℕ)). printed ps now ++ shown_times (repeats ps more) ps v) p.leaves

again_strange : (ps : List Part) (now more : List (List ℕ)) → repeats ps (now ++ more) ≡ suc (repeats ps more) → Pass ps now more → faults ps now ≡ strange ps now → faults ps (now ++ more) ≡ faults ps now ++ faults ps more
unfolding faults
again_strange ps now more n p one =
    ap (λ k. strange_times k ps (now ++ more)) n ∙ ap (λ (v : List (List ℕ)). v ++ strange_times (repeats ps more) ps (left ps (now ++ more))) (p.names ∙ sym one)
    ∙ ap (λ (v : List (List ℕ)). faults ps now ++ strange_times (repeats ps more) ps v) p.leaves

pub format_again : (ps : List Part) (now more : List (List ℕ)) → length now ≡ how_many_taken ps → now ≢ [] → more ≢ [] → (printed ps (now ++ more) ≡ printed ps now ++ printed ps more) × (faults ps (now ++ more) ≡ faults ps now ++ faults ps more)
format_again ps now more e some rest =
    let p = pass ps now more e in
    let one = once_printed ps now (omega arith) in
    let n : repeats ps (now ++ more) ≡ suc (repeats ps more) =
    ap (repeats_by (how_many_taken ps)) (length-append now more ∙ ap (λ k. k + length more) e) ∙ repeats_more (how_many_taken ps) (length more) (let l = filled now some in omega arith) (filled more rest) in
    (again_shown ps now more n p one.0, again_strange ps now more n p one.1)

strange_none : (ps : List Part) → strange ps [] ≡ []
strange_none [] = refl
strange_none (parts.Byte b ∷ ps) = strange_none ps
strange_none (parts.Word ∷ ps) = strange_none ps
strange_none (parts.Number ∷ ps) = strange_none ps

pub format_once : (ps : List Part) (ws : List (List ℕ)) → how_many_taken ps ≡ 0 → (printed ps ws ≡ printed ps []) × (faults ps ws ≡ [])
unfolding printed faults
format_once ps ws e =
    let p = pass ps [] ws (sym e) in
    let n : repeats ps ws ≡ 1 = ap (λ t. repeats_by t (length ws)) e in
    let m : repeats ps [] ≡ 1 = ap (λ t. repeats_by t 0) e in
    (ap (λ k. shown_times k ps ws) n ∙ ap (λ (v : List ℕ). v ++ []) p.shows ∙ ap (λ k. shown_times k ps []) (sym m), ap (λ k. strange_times k ps ws) n ∙ ap (λ (v : List (List ℕ)). v ++ []) (p.names ∙ strange_none ps))

shown_parts : (ps qs : List Part) (ws : List (List ℕ)) → shown (ps ++ qs) ws ≡ shown ps ws ++ shown qs (left ps ws)
shown_parts [] qs ws = refl
shown_parts (p ∷ ps) qs ws = ap (λ (v : List ℕ). shown_part p ws ++ v) (shown_parts ps qs (behind p ws)) ∙ sym (append_assoc (shown_part p ws) (shown ps (behind p ws)) (shown qs (left ps (behind p ws))))

missing : (ps qs : List Part) (ws : List (List ℕ)) (p : Part) (w : List ℕ) → length ws ≡ how_many_taken ps → takes p ≡ true → shown (p ∷ qs) [] ≡ shown (p ∷ qs) (w ∷ []) → printed (ps ++ p ∷ qs) ws ≡ printed (ps ++ p ∷ qs) (ws ++ w ∷ [])
missing ps qs ws p w e t same =
    let size : how_many_taken (ps ++ p ∷ qs) ≡ how_many_taken ps + (1 + how_many_taken qs) = count_more ps (p ∷ qs) ∙ ap (λ k. how_many_taken ps + k) (count p qs ∙ ap (λ b. cond b 1 0 + how_many_taken qs) t) in
    let a = once_printed (ps ++ p ∷ qs) ws (omega arith) in
    let b = once_printed (ps ++ p ∷ qs) (ws ++ w ∷ []) (omega (arith, length-append ws (w ∷ []))) in
    let none = pass ps ws [] e in
    let one = pass ps ws (w ∷ []) e in
    a.0 ∙ shown_parts ps (p ∷ qs) ws ∙ ap (λ (v : List (List ℕ)). shown ps ws ++ shown (p ∷ qs) v) (ap (left ps) (sym (append-nil ws)) ∙ none.leaves)
    ∙ ap (λ (v : List ℕ). shown ps ws ++ v) same ∙ ap (λ (v : List ℕ). v ++ shown (p ∷ qs) (w ∷ [])) (sym one.shows) ∙ ap (λ (v : List (List ℕ)). shown ps (ws ++ w ∷ []) ++ shown (p ∷ qs) v) (sym one.leaves)
    ∙ sym (b.0 ∙ shown_parts ps (p ∷ qs) (ws ++ w ∷ []))

pub format_no_word : (ps qs : List Part) (ws : List (List ℕ)) → length ws ≡ how_many_taken ps → printed (ps ++ parts.Word ∷ qs) ws ≡ printed (ps ++ parts.Word ∷ qs) (ws ++ [] ∷ [])
format_no_word ps qs ws e = missing ps qs ws parts.Word [] e refl refl

pub format_no_number : (ps qs : List Part) (ws : List (List ℕ)) → length ws ≡ how_many_taken ps → printed (ps ++ parts.Number ∷ qs) ws ≡ printed (ps ++ parts.Number ∷ qs) (ws ++ codes "0" ∷ [])
format_no_number ps qs ws e = missing ps qs ws parts.Number (codes "0") e refl (ap (λ (v : List ℕ). v ++ shown qs []) (sym (digits_spell (codes "0") refl refl (omega arith))))

-- ---- numbers

abbrev digits_with : ℕ → ℕ → List ℕ
digits_with zeros n = replicate zeros 48 ++ decimal n

are_digits : (zeros n : ℕ) → n < 10 ^ 18 → list_all is_ascii_digit (digits_with zeros n) ≡ true
are_digits zero n h = decimal_digits n (omega arith)
are_digits (suc zeros) n h = are_digits zeros n h

value : (zeros n : ℕ) → n < 10 ^ 18 → digits_value 10 (digits_with zeros n) ≡ n
value zero n h = decimal_value n (omega arith)
value (suc zeros) n h = value zeros n h

is_read : (w ds : List ℕ) → without_leading_sign w ≡ ds → 0 < length ds → length ds ≤ 18 → list_all is_ascii_digit ds ≡ true → number_of w ≡ Some (signed_digits_value 10 w)
is_read w ds e some few digits =
    let is : is_number w ≡ true = rw (e, lt-ltb _ _ some, le-leb _ _ few, digits) refl in
    ap (λ b. cond b (Some (signed_digits_value 10 w)) None) is

unsigned : (ds : List ℕ) → list_all is_ascii_digit ds ≡ true → 0 < length ds → (signed_digits_value 10 ds ≡ pos (digits_value 10 ds)) × (without_leading_sign ds ≡ ds)
unsigned [] h some = absurd (omega arith)
unsigned (d ∷ ds) h some =
    let first = and_parts (nat_le 48 d) (nat_le d 57) (and_parts (is_ascii_digit d) (list_all is_ascii_digit ds) h).0 in
    let low : 48 ≤ d = leb-true 48 d first.0 in
    let minus : eqb d 45 ≡ false = ne_eqb d 45 (λ e. omega arith) in
    let plus : eqb d 43 ≡ false = ne_eqb d 43 (λ e. omega arith) in
    (rw (minus, plus) refl, rw (minus, plus) refl)

digit_first : (zeros n : ℕ) → n < 10 ^ 18 → 0 < length (digits_with zeros n)
digit_first zero n h = decimal_nonempty n (omega arith)
digit_first (suc more) n h = omega arith

few_digits : (zeros n : ℕ) → zeros + length (decimal n) ≤ 18 → length (digits_with zeros n) ≤ 18
few_digits zeros n h = omega (arith, length-append (replicate zeros 48) (decimal n), length-replicate {A = ℕ} zeros 48)

pub number_plain : (n zeros : ℕ) → n < 10 ^ 18 → zeros + length (decimal n) ≤ 18 → number_of (digits_with zeros n) ≡ Some (pos n)
number_plain n zeros h few =
    let ds = digits_with zeros n in
    let bare = unsigned ds (are_digits zeros n h) (digit_first zeros n h) in
    is_read ds ds bare.1 (digit_first zeros n h) (few_digits zeros n few) (are_digits zeros n h) ∙ ap Some (bare.0 ∙ ap pos (value zeros n h))

pub number_plus : (n zeros : ℕ) → n < 10 ^ 18 → zeros + length (decimal n) ≤ 18 → number_of (43 ∷ digits_with zeros n) ≡ Some (pos n)
number_plus n zeros h few = is_read (43 ∷ digits_with zeros n) (digits_with zeros n) refl (digit_first zeros n h) (few_digits zeros n few) (are_digits zeros n h) ∙ ap (λ k. Some (pos k)) (value zeros n h)

pub number_minus : (n zeros : ℕ) → n < 10 ^ 18 → zeros + length (decimal n) ≤ 18 → number_of (45 ∷ digits_with zeros n) ≡ Some (neg_ℤ (pos n))
number_minus n zeros h few = is_read (45 ∷ digits_with zeros n) (digits_with zeros n) refl (digit_first zeros n h) (few_digits zeros n few) (are_digits zeros n h) ∙ ap (λ k. Some (neg_ℤ (pos k))) (value zeros n h)

abbrev IsSign : List ℕ → Type 0
IsSign sign = (sign ≡ []) ⊎ (sign ≡ codes "+") ⊎ (sign ≡ codes "-")

sign_of : (w : List ℕ) → (sign : List ℕ) × (w ≡ sign ++ without_leading_sign w) × IsSign sign
sign_of [] = ([], refl, inl refl)
sign_of (b ∷ bs) = by_cases (eqb b 45) (λ t. eqb b 45 ≡ t → (sign : List ℕ) × (b ∷ bs ≡ sign ++ cond t bs (without_leading_plus (b ∷ bs))) × IsSign sign)
    (λ _ is. (45 ∷ [], ap (λ c. c ∷ bs) (eqb-true b 45 is), inr (inr refl)))
    (λ _ _. by_cases (eqb b 43) (λ t. eqb b 43 ≡ t → (sign : List ℕ) × (b ∷ bs ≡ sign ++ drop (cond t 1 0) (b ∷ bs)) × IsSign sign)
    (λ _ is. (43 ∷ [], ap (λ c. c ∷ bs) (eqb-true b 43 is), inr (inl refl))) (λ _ _. ([], refl, inl refl)) refl) refl

all_digits : (ds : List ℕ) → list_all is_ascii_digit ds ≡ true → AllByRecursion (λ b. (48 ≤ b) × (b ≤ 57)) ds
all_digits [] h = tt
all_digits (d ∷ ds) h =
    let both = and_parts (is_ascii_digit d) (list_all is_ascii_digit ds) h in
    let first = and_parts (nat_le 48 d) (nat_le d 57) both.0 in
    ((leb-true 48 d first.0, leb-true d 57 first.1), all_digits ds both.1)

pub number_alone : (w : List ℕ) (z : ℤ) → number_of w ≡ Some z → (sign : List ℕ) × (digits : List ℕ) × (w ≡ sign ++ digits) × IsSign sign × (0 < length digits) × (length digits ≤ 18) × All (λ b. (48 ≤ b) × (b ≤ 57)) digits
number_alone w z e =
    let is : is_number w ≡ true = by_cases (is_number w) (λ b. is_number w ≡ b → cond b (Some (signed_digits_value 10 w)) None ≡ Some z → b ≡ true) (λ _ _ _. refl) (λ _ _ f. absurd cc) refl e in
    let ds = without_leading_sign w in
    let last = and_parts (nat_lt 0 (length ds) && nat_le (length ds) 18) (list_all is_ascii_digit ds) is in
    let first = and_parts (nat_lt 0 (length ds)) (nat_le (length ds) 18) last.0 in
    let s = sign_of w in
    (s.0, ds, s.1, s.2, ltb-true 0 (length ds) first.0, leb-true (length ds) 18 first.1, All-from_recursion _ ds (all_digits ds last.1))
