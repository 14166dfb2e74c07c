-- Names without the slashes at their end, and without a suffix.
use Rattle.std.proofs.Common.{◌≡◌, ◌≢◌, ℕ, zero, suc, ◌+◌, ◌-◌, ◌&&◌, Bool, true, false, not, cond, eqb, List, [], ◌∷◌, ◌++◌, length, take, drop, reverse, arith, refl, sym, ap, ◌∙◌, append_assoc, append-nil}
use Rattle.std.specs.Prelude.{nat_eq, replicate}
use Rattle.std.specs.List.{list_all, prefix_len, suffix_len}
use Rattle.std.specs.Cmp.Lexicographic.{pointwise}
use Rattle.std.proofs.lemmas.Bool.{eqb-true, ne_eqb}
use Rattle.std.proofs.lemmas.List.{take_at, drop_at, take-append-drop, length-append, length-replicate, reverse-append, reverse-reverse}
use Rattle.std.proofs.lemmas.Slice.Eq.{bytes_eq-Decides}
use Rattle.em_base.proofs.Lemmas.{by_cases}
use Rattle.em_lineutil.specs.Names.{is_slash, is_other, trimmed, last_part, front_part, base_name, without_suffix, or_root, above, dir_name}
use Rattle.em_laws.specs.References.{HasNo}
use Rattle.em_laws.specs.Expansions.{EndsOtherwise}
use Rattle.em_laws.proofs.Naming.{Without, other, all_other, all_reverse, behind_last, behind_none, without}

-- ---- slashes at the end

more_slashes : (t : List ℕ) (n : ℕ) → suffix_len is_slash (t ++ replicate n 47) ≡ n + suffix_len is_slash t
more_slashes t zero = rw append-nil (omega arith)
more_slashes t (suc n) =
    let first : t ++ 47 ∷ replicate n 47 ≡ (t ++ 47 ∷ []) ++ replicate n 47 = sym (append_assoc t (47 ∷ []) (replicate n 47)) in
    let one : suffix_len is_slash (t ++ 47 ∷ []) ≡ 1 + suffix_len is_slash t = ap (prefix_len is_slash) (reverse-append t (47 ∷ [])) in
    ap (suffix_len is_slash) first ∙ more_slashes (t ++ 47 ∷ []) n ∙ omega arith

trim_to : (t : List ℕ) (n : ℕ) → suffix_len is_slash t ≡ 0 → trimmed (t ++ replicate n 47) ≡ t
trim_to t n none =
    let whole = t ++ replicate n 47 in
    let k : length whole - suffix_len is_slash whole ≡ length t = omega (arith, length-append t (replicate n 47), length-replicate {A = ℕ} n 47, more_slashes t n) in
    ap (λ m. take m whole) k ∙ take_at t (replicate n 47) (length t) refl

-- none of what ends with another byte
no_slashes : (t : List ℕ) → EndsOtherwise 47 t → suffix_len is_slash t ≡ 0
no_slashes t h = none (reverse t) (λ rest e. h (reverse rest) (sym (reverse-reverse t) ∙ ap reverse e ∙ reverse-append (47 ∷ []) rest))
  where
    none : (xs : List ℕ) → ((rest : List ℕ) → xs ≡ 47 ∷ rest → ⊥) → prefix_len is_slash xs ≡ 0
    none [] h = refl
    none (x ∷ xs) h = by_cases (eqb x 47) (λ b. cond b (1 + prefix_len is_slash xs) 0 ≡ 0)
        (λ is. absurd (h xs (ap (λ y. y ∷ xs) (eqb-true x 47 is))))
        (λ _. refl)

no_slash_last : (front name : List ℕ) → name ≢ [] → Without 47 name → suffix_len is_slash (front ++ name) ≡ 0
no_slash_last front name some h = ap (prefix_len is_slash) (reverse-append front name) ∙ by (reverse name) (reverse front) refl (all_reverse 47 name (all_other 47 name h))
  where
    by : (xs ys : List ℕ) → reverse name ≡ xs → list_all (other 47) xs ≡ true → prefix_len is_slash (xs ++ ys) ≡ 0
    by [] ys e all = absurd (some (sym (reverse-reverse name) ∙ ap reverse e))
    by (x ∷ xs) ys e all = by_cases (eqb x 47) (λ b. (not b && list_all (other 47) xs) ≡ true → cond b (1 + prefix_len is_slash (xs ++ ys)) 0 ≡ 0)
        (λ _ a. absurd cc)
        (λ _ _. refl) all

filled : (name : List ℕ) → name ≢ [] → eqb (length name) 0 ≡ false
filled [] h = absurd (h refl)
filled (b ∷ bs) h = ne_eqb (suc (length bs)) 0 (λ e. omega arith)

trim_name : (front name : List ℕ) (n : ℕ) → name ≢ [] → HasNo 47 name → trimmed ((front ++ name) ++ replicate n 47) ≡ front ++ name
trim_name front name n some h = trim_to (front ++ name) n (no_slash_last front name some (without 47 name h))

longer : (front name : List ℕ) → name ≢ [] → front ++ name ≢ []
longer [] name h = h
longer (b ∷ bs) name h = λ e. cc

slashes_gone : (n : ℕ) → trimmed (replicate n 47) ≡ []
slashes_gone n = trim_to [] n refl

-- ---- basename

base_by : (p t : List ℕ) → trimmed p ≡ t → t ≢ [] → base_name p ≡ last_part t
unfolding base_name
base_by p t e some = rw (e, filled t some) refl

pub base_below : (front name : List ℕ) (n : ℕ) → name ≢ [] → HasNo 47 name → base_name ((front ++ 47 ∷ name) ++ replicate n 47) ≡ name
base_below front name n some h =
    let t = front ++ 47 ∷ name in
    let grouped : (front ++ 47 ∷ []) ++ name ≡ t = append_assoc front (47 ∷ []) name in
    let e : trimmed (t ++ replicate n 47) ≡ t = trim_to t n (ap (suffix_len is_slash) (sym grouped) ∙ no_slash_last (front ++ 47 ∷ []) name some (without 47 name h)) in
    base_by (t ++ replicate n 47) t e (longer front (47 ∷ name) (λ x. cc)) ∙ behind_last 47 front name (without 47 name h)

pub base_plain_name : (name : List ℕ) (n : ℕ) → name ≢ [] → HasNo 47 name → base_name (name ++ replicate n 47) ≡ name
base_plain_name name n some h = base_by (name ++ replicate n 47) name (trim_name [] name n some h) some ∙ behind_none 47 name (without 47 name h)

pub base_root : (n : ℕ) → base_name (47 ∷ replicate n 47) ≡ 47 ∷ []
unfolding base_name
base_root n = rw (slashes_gone (suc n)) refl

pub base_empty : base_name [] ≡ []
unfolding base_name
base_empty = refl

-- ---- suffixes

ends_with_it : (name s : List ℕ) → pointwise nat_eq s (drop (length (name ++ s) - length s) (name ++ s)) ≡ true
ends_with_it name s =
    let k : length (name ++ s) - length s ≡ length name = omega (arith, length-append name s) in
    (bytes_eq-Decides s (drop (length (name ++ s) - length s) (name ++ s))).1 (sym (ap (λ m. drop m (name ++ s)) k ∙ drop_at name s (length name) refl))

differs : (name s : List ℕ) → name ≢ [] → pointwise nat_eq (name ++ s) s ≡ false
differs name s some = by_cases (pointwise nat_eq (name ++ s) s) (λ t. t ≡ false)
    (λ is. absurd (nothing name some (ap length ((bytes_eq-Decides (name ++ s) s).0 is))))
    (λ _. refl)
  where
    nothing : (name : List ℕ) → name ≢ [] → length (name ++ s) ≡ length s → ⊥
    nothing [] some e = some refl
    nothing (b ∷ bs) some e = omega (arith, length-append (b ∷ bs) s)

pub suffix_off : (name s : List ℕ) → name ≢ [] → without_suffix s (name ++ s) ≡ name
unfolding without_suffix
suffix_off name s some =
    let k : length (name ++ s) - length s ≡ length name = omega (arith, length-append name s) in
    rw (ends_with_it name s, differs name s some, k) (take_at name s (length name) refl)

same_text : (s : List ℕ) → pointwise nat_eq s s ≡ true
same_text s = (bytes_eq-Decides s s).1 refl

never : (a : Bool) → (a && false) ≡ false
never true = refl
never false = refl

pub suffix_whole : (s : List ℕ) → without_suffix s s ≡ s
unfolding without_suffix
suffix_whole s = rw (same_text s, never (pointwise nat_eq s (drop (length s - length s) s))) refl

pub suffix_other : (name s : List ℕ) → ((front : List ℕ) → name ≢ front ++ s) → without_suffix s name ≡ name
unfolding without_suffix
suffix_other name s h =
    let isnt : pointwise nat_eq s (drop (length name - length s) name) ≡ false = by_cases (pointwise nat_eq s (drop (length name - length s) name)) (λ t. t ≡ false)
    (λ is. absurd (h (take (length name - length s) name) (sym (take-append-drop (length name - length s) name) ∙ ap (λ w. take (length name - length s) name ++ w) (sym ((bytes_eq-Decides s (drop (length name - length s) name)).0 is)))))
    (λ _. refl) in
    rw isnt refl

-- ---- dirname

front_at : (front name : List ℕ) → Without 47 name → front_part ((front ++ 47 ∷ []) ++ name) ≡ front ++ 47 ∷ []
front_at front name h =
    let t = (front ++ 47 ∷ []) ++ name in
    let grouped : t ≡ front ++ 47 ∷ name = append_assoc front (47 ∷ []) name in
    let last : last_part t ≡ name = ap last_part grouped ∙ behind_last 47 front name h in
    let whole = take-append-drop (length t - suffix_len is_other t) t in
    cancel (front_part t) (front ++ 47 ∷ []) name (sym (ap (λ w. front_part t ++ w) last) ∙ whole)
  where
    cancel : (a b c : List ℕ) → a ++ c ≡ b ++ c → a ≡ b
    cancel a b c e =
        let k : length a ≡ length b = omega (arith, ap length e, length-append a c, length-append b c) in
        sym (take_at a c (length a) refl) ∙ ap (take (length a)) e ∙ take_at b c (length a) (sym k)

dir_by : (p t : List ℕ) → p ≢ [] → trimmed p ≡ t → t ≢ [] → dir_name p ≡ above (front_part t)
unfolding dir_name
dir_by p t first e some = rw (filled p first, e, filled t some) refl

above_by : (f t : List ℕ) → f ≢ [] → trimmed f ≡ t → above f ≡ or_root t
above_by f t some e = rw (filled f some, e) refl

abbrev slashes : ℕ → List ℕ
slashes n = replicate n 47

more_after : (m : ℕ) → slashes m ++ 47 ∷ [] ≡ slashes (suc m)
more_after zero = refl
more_after (suc m) = ap (λ w. 47 ∷ w) (more_after m)

last_slash : (front : List ℕ) (m : ℕ) → front ++ 47 ∷ replicate m 47 ≡ (front ++ replicate m 47) ++ 47 ∷ []
last_slash front m = ap (λ w. front ++ w) (sym (more_after m)) ∙ sym (append_assoc front (replicate m 47) (47 ∷ []))

dir_of_front : (front name : List ℕ) (m n : ℕ) → name ≢ [] → HasNo 47 name → EndsOtherwise 47 front → dir_name (((front ++ 47 ∷ replicate m 47) ++ name) ++ replicate n 47) ≡ or_root front
dir_of_front front name m n some h ends =
    let slashed = front ++ 47 ∷ replicate m 47 in
    let t = slashed ++ name in
    let filled_t = longer slashed name some in
    let inner : front_part t ≡ slashed = ap (λ (w : List ℕ). front_part (w ++ name)) (last_slash front m) ∙ front_at (front ++ replicate m 47) name (without 47 name h) ∙ sym (last_slash front m) in
    dir_by (t ++ replicate n 47) t (before t (replicate n 47) filled_t) (trim_name slashed name n some h) filled_t
    ∙ ap above inner ∙ above_by slashed front (longer front (47 ∷ replicate m 47) (λ x. cc)) (trim_to front (suc m) (no_slashes front ends))
  where
    before : (a b : List ℕ) → a ≢ [] → a ++ b ≢ []
    before [] b h = absurd (h refl)
    before (x ∷ xs) b h = λ e. cc

pub dir_below : (front name : List ℕ) (m n : ℕ) → front ≢ [] → EndsOtherwise 47 front → name ≢ [] → HasNo 47 name → dir_name (((front ++ 47 ∷ replicate m 47) ++ name) ++ replicate n 47) ≡ front
dir_below front name m n there ends some h = dir_of_front front name m n some h ends ∙ rw (filled front there) refl

none_ends : EndsOtherwise 47 []
none_ends [] e = cc
none_ends (b ∷ bs) e = cc

pub dir_top : (name : List ℕ) (m n : ℕ) → name ≢ [] → HasNo 47 name → dir_name (((47 ∷ replicate m 47) ++ name) ++ replicate n 47) ≡ 47 ∷ []
dir_top name m n some h = dir_of_front [] name m n some h none_ends

front_none : (name : List ℕ) → Without 47 name → front_part name ≡ []
front_none name h =
    let last : last_part name ≡ name = behind_none 47 name h in
    let whole = ap length (take-append-drop (length name - suffix_len is_other name) name) in
    empty (front_part name) (omega (arith, whole, ap length last, length-append (front_part name) (last_part name)))
  where
    empty : (xs : List ℕ) → length xs ≡ 0 → xs ≡ []
    empty [] e = refl
    empty (x ∷ xs) e = absurd (omega arith)

pub dir_plain_name : (name : List ℕ) (n : ℕ) → name ≢ [] → HasNo 47 name → dir_name (name ++ replicate n 47) ≡ 46 ∷ []
dir_plain_name name n some h =
    dir_by (name ++ replicate n 47) name (before name (replicate n 47) some) (trim_name [] name n some h) some ∙ ap above (front_none name (without 47 name h))
  where
    before : (a b : List ℕ) → a ≢ [] → a ++ b ≢ []
    before [] b h = absurd (h refl)
    before (x ∷ xs) b h = λ e. cc

pub dir_root : (n : ℕ) → dir_name (47 ∷ replicate n 47) ≡ 47 ∷ []
unfolding dir_name
dir_root n = rw (ne_eqb (suc (length {A = ℕ} (replicate n 47))) 0 (λ e. omega arith), slashes_gone (suc n)) refl

pub dir_empty : dir_name [] ≡ 46 ∷ []
unfolding dir_name
dir_empty = refl
