-- Numbers and paths: what a part takes from the input is the text that was written, and what was
-- written is read again.
use Rattle.std.proofs.Common.{◌≡◌, ◌≢◌, ℕ, suc, ◌+◌, ◌^◌, ◌<◌, ◌≤◌, Bool, true, false, cond, not, ◌&&◌, ◌⊎◌, inl, inr, eqb, nat_lt, List, [], ◌∷◌, ◌++◌, length, get_or, take, drop, Result, Ok, Err, refl, sym, ap, subst, ◌∙◌, arith, rules, drop-cons, decimal}
use Rattle.std.specs.Char.{is_ascii_digit}
use Rattle.std.specs.List.{list_all, prefix_len, position_or_len, flat_map, AllByRecursion}
use Rattle.std.proofs.lemmas.Bool.{lt-ltb, ltb-true, le-ltb, ltb-false, eqb-true, eq-eqb, ne_eqb}
use Rattle.std.proofs.lemmas.List.{take_at, drop_at, take-append-drop, length-append}
use Rattle.std.proofs.lemmas.List.Sums.{passes_at_first}
use Rattle.std.proofs.lemmas.List.Concat.{flat_map-cons}
use Rattle.std.proofs.lemmas.List.Folds.{list_all-append}
use Rattle.std.proofs.lemmas.List.Elements.{recursion_from_All}
use Rattle.std.proofs.lemmas.Fmt.{digits_decimal, digits_value-decimal, decimal-digits_value}
use Rattle.std.proofs.lemmas.Str.Parse.{IsNumeralModel, numerals_by_fold}
use Rattle.em_path.specs.Paths.{IsComponent, IsPath, is_path, components, path_text}
use Rattle.em_image.specs.declared.no.Which.{Which}
use Rattle.em_image.specs.declared.no.ImageNo.{ImageNo}
use Rattle.em_image.specs.declared.no.ImageNo.TheVariants as no
use Rattle.em_image.specs.Parts.{◌>>=◌, Here, skip, end_of, until_at, fixed_at, fixed_in, value, value_after, number_at, path_at}
use Rattle.em_image.proofs.Digits.{digits_before, same_not_not}
use Rattle.em_base.specs.Numbers.{has_no_leading_zero}
use Rattle.em_base.proofs.Lemmas.{decimal_first, all_pass}
use Rattle.em_path.proofs.Lemmas.{path_hold, path_pass}

-- ---- steps

-- the value of a step that did not fail
pub bind_ok : {A B : Type 0} (r : Result A ImageNo) (f : A → Result B ImageNo) (y : B) → (r >>= f) ≡ Ok y → (x : A) × (r ≡ Ok x) × (f x ≡ Ok y)
bind_ok (Ok x) f y e = (x, refl, e)
bind_ok (Err d) f y e = absurd cc

abbrev pub done : {A : Type 0} → A → Result A ImageNo
done x = Ok x

pub ok_is : {A : Type 0} (x y : A) → done x ≡ done y → x ≡ y
ok_is x y e = cc

-- a test before the value
pub first_err : {A : Type 0} (b : Bool) (d : ImageNo) (r : Result A ImageNo) (y : A) → cond b (Err d) r ≡ Ok y → (b ≡ false) × (r ≡ Ok y)
first_err true d r y e = absurd cc
first_err false d r y e = (refl, e)

pub then_err : {A : Type 0} (b : Bool) (d : ImageNo) (r : Result A ImageNo) (y : A) → cond b r (Err d) ≡ Ok y → (b ≡ true) × (r ≡ Ok y)
then_err true d r y e = (refl, e)
then_err false d r y e = absurd cc

pub not_false : (b : Bool) → not b ≡ false → b ≡ true
not_false true e = refl
not_false false e = absurd cc

pub chosen : {A : Type 0} (b : Bool) (x y z : A) → cond b x y ≡ z → ((b ≡ true) × (x ≡ z)) ⊎ ((b ≡ false) × (y ≡ z))
chosen true x y z e = inl (refl, e)
chosen false x y z e = inr (refl, e)

pub both : (a b : Bool) → (a && b) ≡ true → (a ≡ true) × (b ≡ true)
both true b e = (refl, e)
both false b e = absurd cc

abbrev pub here : ℕ → List ℕ → Here
here at rest = record { at = at; rest = rest }

-- ---- one byte

fixed_in_takes : (b at : ℕ) (bs : List ℕ) (after : Here) → fixed_in b at bs ≡ Ok after → bs ≡ b ∷ after.rest
fixed_in_takes b at [] after e = absurd cc
fixed_in_takes b at (c ∷ cs) after e =
    let g = then_err (eqb c b) (no.Form at) (Ok (here (at + 1) cs)) after e in
    let same : c ≡ b = eqb-true c b g.0 in
    let rest : here (at + 1) cs ≡ after = ok_is _ _ g.1 in
    rw same (ap (λ (h : Here). b ∷ h.rest) rest)

pub fixed_takes : (b : ℕ) (h after : Here) → fixed_at b h ≡ Ok after → h.rest ≡ b ∷ after.rest
fixed_takes b h after e = fixed_in_takes b h.at h.rest after e

pub fixed_again : (b at : ℕ) (rest : List ℕ) → fixed_at b (here at (b ∷ rest)) ≡ Ok (here (at + 1) rest)
fixed_again b at rest = rw (eq-eqb b b refl) refl

-- ---- bytes up to one that ends them

pub until_takes : (p : ℕ → Bool) (h : Here) (x : List ℕ × Here) → until_at p h ≡ Ok x → let n = position_or_len p h.rest in (n < length h.rest) × (x.0 ≡ take n h.rest) × (x.1.rest ≡ drop n h.rest)
until_takes p h x e =
    let n = position_or_len p h.rest in
    let g = then_err (nat_lt n (length h.rest)) (no.Short (end_of h)) (Ok (take n h.rest, skip n h)) x e in
    let is = ok_is _ _ g.1 in
    (ltb-true _ _ g.0, ap (λ (y : List ℕ × Here). y.0) (sym is), ap (λ (y : List ℕ × Here). y.1.rest) (sym is))

prefix_all : (q : ℕ → Bool) (xs : List ℕ) (c : ℕ) (rest : List ℕ) → list_all q xs ≡ true → q c ≡ false → prefix_len q (xs ++ c ∷ rest) ≡ length xs
prefix_all q [] c rest a e = rw e refl
prefix_all q (x ∷ xs) c rest a e =
    elim (q x) as (λ b. q x ≡ b → list_all q (x ∷ xs) ≡ true → prefix_len q ((x ∷ xs) ++ c ∷ rest) ≡ length (x ∷ xs)) [
      | true ↦ λ k h. let ih = prefix_all q xs c rest (rw k at h) e in rw (k, ih) (omega arith)
      | false ↦ λ k h. let bad : false ≡ true = rw k at h in absurd cc
    ] refl a

pub until_again : (p : ℕ → Bool) (at : ℕ) (xs : List ℕ) (c : ℕ) (rest : List ℕ) → list_all (λ b. not (p b)) xs ≡ true → p c ≡ true → until_at p (here at (xs ++ c ∷ rest)) ≡ Ok (xs, here (at + length xs) (c ∷ rest))
until_again p at xs c rest a e =
    let n : position_or_len p (xs ++ c ∷ rest) ≡ length xs = prefix_all (λ b. not (p b)) xs c rest a (rw e refl) in
    let lt : nat_lt (length xs) (length (xs ++ c ∷ rest)) ≡ true = lt-ltb _ _ (omega (arith, length-append xs (c ∷ rest))) in
    rw (n, lt, take_at xs (c ∷ rest) (length xs) refl, drop_at xs (c ∷ rest) (length xs) refl) refl

-- ---- numbers

abbrev AreDigits : List ℕ → Type 0
AreDigits ds = list_all is_ascii_digit ds ≡ true

own : IsNumeralModel AreDigits value
own = numerals_by_fold AreDigits (search rules) value_after (search rules)

numeral_first : (ds : List ℕ) → has_no_leading_zero ds ≡ true → (0 < length ds) × (get_or ds 0 0 ≡ 48 → length ds ≡ 1)
numeral_first [] e = absurd cc
numeral_first (d ∷ ds) e = (omega arith, λ z. let k : d ≡ 48 = z in let empty : eqb (length ds) 0 ≡ true = rw k at e in omega (arith, eqb-true (length ds) 0 empty))

same_all : (xs : List ℕ) → list_all (λ b. not (not (is_ascii_digit b))) xs ≡ list_all is_ascii_digit xs
same_all [] = refl
same_all (x ∷ xs) = rw (same_not_not (is_ascii_digit x), same_all xs) refl

pub number_takes : (w : Which) (limit : ℕ) (h : Here) (x : ℕ × Here) → limit < 2 ^ 64 → number_at w limit h ≡ Ok x → (h.rest ≡ decimal x.0 ++ x.1.rest) × (x.0 ≤ limit)
unfolding number_at
number_takes w limit h x small e =
    let a = bind_ok (until_at (λ b. not (is_ascii_digit b)) h) (λ ds. cond (not (has_no_leading_zero ds.0)) (Err (no.Number h.at)) (cond (nat_lt limit (value ds.0)) (Err (no.Limit w h.at)) (Ok (value ds.0, ds.1)))) x e in
    let ds = a.0.0 in
    let u = until_takes (λ b. not (is_ascii_digit b)) h a.0 a.1 in
    let n = first_err (not (has_no_leading_zero ds)) (no.Number h.at) (cond (nat_lt limit (value ds)) (Err (no.Limit w h.at)) (Ok (value ds, a.0.1))) x a.2 in
    let v = first_err (nat_lt limit (value ds)) (no.Limit w h.at) (Ok (value ds, a.0.1)) x n.1 in
    let form = numeral_first ds (not_false (has_no_leading_zero ds) n.0) in
    let digits : AreDigits ds = rw u.1 (digits_before h.rest) in
    let low : value ds ≤ limit = ltb-false _ _ v.0 in
    let written : decimal (value ds) ≡ ds = decimal-digits_value own ds digits form.0 form.1 (omega arith) in
    let parts : h.rest ≡ decimal (value ds) ++ a.0.1.rest = rw (written, u.1, u.2) (sym (take-append-drop (position_or_len (λ b. not (is_ascii_digit b)) h.rest) h.rest)) in
    subst (λ (y : ℕ × Here). (h.rest ≡ decimal y.0 ++ y.1.rest) × (y.0 ≤ limit)) (ok_is _ _ v.1) (parts, low)

-- a number in front of a blank
pub number_again : (w : Which) (limit at n : ℕ) (rest : List ℕ) → n ≤ limit → limit < 2 ^ 64 → number_at w limit (here at (decimal n ++ 32 ∷ rest)) ≡ Ok (n, here (at + length (decimal n)) (32 ∷ rest))
unfolding number_at
number_again w limit at n rest le small =
    let low : n < 2 ^ 64 = omega arith in
    let digits : list_all (λ b. not (not (is_ascii_digit b))) (decimal n) ≡ true = rw (same_all (decimal n)) (digits_decimal own n low) in
    let found = until_again (λ b. not (is_ascii_digit b)) at (decimal n) 32 rest digits refl in
    let below : nat_lt limit n ≡ false = le-ltb _ _ le in
    rw (found, decimal_first n low, digits_value-decimal own n low, below) refl

-- ---- paths

not_newline : (b : ℕ) → b ≢ 10 → not (eqb b 10) ≡ true
not_newline b n = rw (ne_eqb b 10 n) refl

plain_name : (c : List ℕ) → IsComponent c → list_all (λ b. not (eqb b 10)) c ≡ true
plain_name c h = all_pass (λ b. not (eqb b 10)) (λ b. (b ≢ 47) × (b ≢ 0) × (b ≢ 10)) (λ b p. not_newline b p.2) c (recursion_from_All _ c h.plain)

plain_names : (cs : List (List ℕ)) → AllByRecursion IsComponent cs → list_all (λ b. not (eqb b 10)) (flat_map (λ (d : List ℕ). 47 ∷ d) cs) ≡ true
plain_names [] h = refl
plain_names (c ∷ cs) h =
    let f : List ℕ → List ℕ = λ d. 47 ∷ d in
    let p : ℕ → Bool = λ b. not (eqb b 10) in
    ap (list_all p) (flat_map-cons f c cs) ∙ list_all-append p (f c) (flat_map f cs) ∙ rw (plain_name c h.0, plain_names cs h.1) refl

plain_spelled : (cs : List (List ℕ)) → AllByRecursion IsComponent cs → list_all (λ b. not (eqb b 10)) (path_text cs) ≡ true
plain_spelled [] h = refl
plain_spelled (c ∷ cs) h = plain_names (c ∷ cs) h

plain_path : (t : List ℕ) → IsPath t → list_all (λ b. not (eqb b 10)) t ≡ true
plain_path t h = rw h.spelled (plain_spelled (components t) (recursion_from_All IsComponent (components t) h.names))

pub path_takes : (h : Here) (x : List ℕ × Here) → path_at h ≡ Ok x → (h.rest ≡ x.0 ++ 10 ∷ x.1.rest) × IsPath x.0
unfolding path_at
path_takes h x e =
    let a = bind_ok (until_at (λ b. eqb b 10) h) (λ text. cond (is_path text.0) (Ok (text.0, skip 1 text.1)) (Err (no.Path h.at))) x e in
    let n = position_or_len (λ b. eqb b 10) h.rest in
    let u = until_takes (λ b. eqb b 10) h a.0 a.1 in
    let g = then_err (is_path a.0.0) (no.Path h.at) (Ok (a.0.0, skip 1 a.0.1)) x a.2 in
    let nl : get_or h.rest n 0 ≡ 10 = eqb-true _ _ (passes_at_first (λ b. eqb b 10) h.rest 0 u.0) in
    let lt : n < length h.rest = u.0 in
    let cut : drop n h.rest ≡ 10 ∷ drop (suc n) h.rest = drop-cons h.rest n 0 lt ∙ ap (λ b. b ∷ drop (suc n) h.rest) nl in
    let again : drop n h.rest ≡ 10 ∷ drop 1 (drop n h.rest) = cut ∙ ap (λ (t : List ℕ). 10 ∷ drop 1 t) (sym cut) in
    let parts : h.rest ≡ a.0.0 ++ 10 ∷ drop 1 a.0.1.rest = rw (u.1, u.2, ← again) (sym (take-append-drop n h.rest)) in
    subst (λ (y : List ℕ × Here). (h.rest ≡ y.0 ++ 10 ∷ y.1.rest) × IsPath y.0) (ok_is _ _ g.1) (parts, path_hold a.0.0 g.0)

pub path_again : (at : ℕ) (path : List ℕ) (rest : List ℕ) → IsPath path → path_at (here at (path ++ 10 ∷ rest)) ≡ Ok (path, here (at + length path + 1) rest)
unfolding path_at
path_again at path rest h = rw (until_again (λ b. eqb b 10) at path 10 rest (plain_path path h) refl, path_pass path h) refl
