-- The parts of a file's name.
use Rattle.std.proofs.Common.{◌≡◌, ◌≢◌, ℕ, suc, ◌+◌, ◌-◌, ◌&&◌, Bool, true, false, not, cond, eqb, List, [], ◌∷◌, ◌++◌, length, take, drop, reverse, arith, refl, sym, ap, ◌∙◌, append_assoc}
use Rattle.std.specs.Prelude.{◌==◌, codes}
use Rattle.std.specs.List.{AllByRecursion, list_all, after_last, prefix_len, suffix_len}
use Rattle.std.proofs.lemmas.Bool.{eqb-true, eq-eqb, ne_eqb}
use Rattle.std.proofs.lemmas.List.{take_at, drop_at, take_all, length-append, reverse-append, length-reverse}
use Rattle.std.proofs.lemmas.List.Elements.{recursion_from_All}
use Rattle.std.proofs.lemmas.List.Folds.{list_all-append}
use Rattle.em_base.proofs.Lemmas.{by_cases, prefix_until}
use Rattle.em_namefn.specs.Names.{is_dot, file_of, dir_of, suffix_in, suffix_of, base_of}
use Rattle.em_laws.specs.References.{HasNo}

-- ---- behind the last byte of a kind

abbrev pub Without : ℕ → List ℕ → Type 0
Without c bs = AllByRecursion (λ b. b ≢ c) bs

abbrev is_byte : ℕ → ℕ → Bool
is_byte c b = b == c

abbrev pub other : ℕ → ℕ → Bool
other c b = not (b == c)

pub all_other : (c : ℕ) (bs : List ℕ) → Without c bs → list_all (other c) bs ≡ true
all_other c [] h = refl
all_other c (b ∷ bs) h = rw (ne_eqb b c h.0, all_other c bs h.1) refl

pub all_reverse : (c : ℕ) (bs : List ℕ) → list_all (other c) bs ≡ true → list_all (other c) (reverse bs) ≡ true
all_reverse c [] h = refl
all_reverse c (b ∷ bs) h = by_cases (other c b) (λ t. other c b ≡ t → (t && list_all (other c) bs) ≡ true → list_all (other c) (reverse (b ∷ bs)) ≡ true)
    (λ _ is more. ap (list_all (other c)) (reverse-append (b ∷ []) bs) ∙ list_all-append (other c) (reverse bs) (b ∷ []) ∙ rw (all_reverse c bs more, is) refl)
    (λ _ _ more. absurd cc) refl h

run_all : (p : ℕ → Bool) (xs : List ℕ) → list_all p xs ≡ true → prefix_len p xs ≡ length xs
run_all p [] h = refl
run_all p (x ∷ xs) h = by_cases (p x) (λ t. (t && list_all p xs) ≡ true → cond t (1 + prefix_len p xs) 0 ≡ suc (length xs))
    (λ _ more. let ih = run_all p xs more in omega arith)
    (λ _ more. absurd cc) h

pub behind_last : (c : ℕ) (front end : List ℕ) → Without c end → after_last (is_byte c) (front ++ c ∷ end) ≡ end
behind_last c front end h =
    let whole = front ++ c ∷ end in
    let turned : reverse whole ≡ reverse end ++ c ∷ reverse front =
    ap reverse (sym (append_assoc front (c ∷ []) end)) ∙ reverse-append (front ++ c ∷ []) end ∙ ap (λ (w : List ℕ). reverse end ++ w) (reverse-append front (c ∷ [])) in
    let n : suffix_len (other c) whole ≡ length end =
    ap (prefix_len (other c)) turned ∙ prefix_until (other c) (reverse end) c (reverse front) (all_reverse c end (all_other c end h)) (ap not (eq-eqb c c refl)) ∙ length-reverse end in
    let k : length whole - suffix_len (other c) whole ≡ length (front ++ c ∷ []) = omega (arith, n, length-append front (c ∷ end), length-append front (c ∷ [])) in
    ap (λ m. drop m whole) k ∙ ap (drop (length (front ++ c ∷ []))) (sym (append_assoc front (c ∷ []) end)) ∙ drop_at (front ++ c ∷ []) end (length (front ++ c ∷ [])) refl

pub behind_none : (c : ℕ) (bs : List ℕ) → Without c bs → after_last (is_byte c) bs ≡ bs
behind_none c bs h =
    let n : suffix_len (other c) bs ≡ length bs = run_all (other c) (reverse bs) (all_reverse c bs (all_other c bs h)) ∙ length-reverse bs in
    let k : length bs - suffix_len (other c) bs ≡ 0 = omega arith in
    ap (λ m. drop m bs) k

pub without : (c : ℕ) (bs : List ℕ) → HasNo c bs → Without c bs
without c bs h = recursion_from_All _ bs h

-- ---- directories and files

pub file_behind : (front file : List ℕ) → HasNo 47 file → file_of (front ++ 47 ∷ file) ≡ file
file_behind front file h = behind_last 47 front file (without 47 file h)

pub file_plain : (file : List ℕ) → HasNo 47 file → file_of file ≡ file
file_plain file h = behind_none 47 file (without 47 file h)

pub dir_before : (front file : List ℕ) → HasNo 47 file → dir_of (front ++ 47 ∷ file) ≡ front ++ 47 ∷ []
dir_before front file h =
    let whole = front ++ 47 ∷ file in
    let e = ap length (file_behind front file h) in
    let size = length-append front (47 ∷ file) in
    let apart : eqb (length (file_of whole)) (length whole) ≡ false = ne_eqb _ _ (λ same. omega arith) in
    let k : length whole - length (file_of whole) ≡ length (front ++ 47 ∷ []) = omega (arith, length-append front (47 ∷ [])) in
    ap (λ (t : Bool). cond t (codes "./") (take (length whole - length (file_of whole)) whole)) apart ∙ ap (λ m. take m whole) k
    ∙ ap (take (length (front ++ 47 ∷ []))) (sym (append_assoc front (47 ∷ []) file)) ∙ take_at (front ++ 47 ∷ []) file (length (front ++ 47 ∷ [])) refl

pub dir_here : (file : List ℕ) → HasNo 47 file → dir_of file ≡ codes "./"
dir_here file h = ap (λ (t : Bool). cond t (codes "./") (take (length file - length (file_of file)) file)) (eq-eqb _ _ (ap length (file_plain file h)))

-- ---- suffixes

suffix_none : (file : List ℕ) → Without 46 file → suffix_in file ≡ []
suffix_none file h = ap (λ (t : Bool). cond t [] (46 ∷ after_last is_dot file)) (eq-eqb _ _ (ap length (behind_none 46 file h)))

suffix_some : (front end : List ℕ) → Without 46 end → suffix_in (front ++ 46 ∷ end) ≡ 46 ∷ end
suffix_some front end h =
    let whole = front ++ 46 ∷ end in
    let e = behind_last 46 front end h in
    let size = length-append front (46 ∷ end) in
    let apart : eqb (length (after_last is_dot whole)) (length whole) ≡ false = ne_eqb _ _ (λ same. (let n = ap length e in omega arith)) in
    ap (λ (t : Bool). cond t [] (46 ∷ after_last is_dot whole)) apart ∙ ap (λ w. 46 ∷ w) e

-- the file of a name with a dot has it too
record Dotted (name end : List ℕ) : Type 0 where
  front : List ℕ
  is : file_of name ≡ front ++ 46 ∷ end

from_slash : (dir rest end : List ℕ) → Without 47 rest → Without 47 end → Dotted (dir ++ 47 ∷ (rest ++ 46 ∷ end)) end
from_slash dir rest end h e = record { front = rest; is = behind_last 47 dir (rest ++ 46 ∷ end) (both rest h) }
  where
    both : (rest : List ℕ) → Without 47 rest → Without 47 (rest ++ 46 ∷ end)
    both [] h = (λ x. omega arith, e)
    both (b ∷ bs) h = (h.0, both bs h.1)

-- a text has a last slash, or none
record LastSlash (text : List ℕ) : Type 0 where
  dir : List ℕ
  rest : List ℕ
  is : text ≡ dir ++ 47 ∷ rest
  none : Without 47 rest

abbrev Slashes : List ℕ → Bool → Type 0
Slashes text true = LastSlash text
Slashes text false = Without 47 text

slashes : (text : List ℕ) → (b : Bool) × Slashes text b
slashes [] = (false, tt)
slashes (b ∷ bs) = more (slashes bs)
  where
    more : (b : Bool) × Slashes bs b → (t : Bool) × Slashes (b ∷ bs) t
    more (true, s) = (true, record { dir = b ∷ s.dir; rest = s.rest; is = ap (λ w. b ∷ w) s.is; none = s.none })
    more (false, s) = by_cases (eqb b 47) (λ _. (t : Bool) × Slashes (b ∷ bs) t)
        (λ is. (true, record { dir = []; rest = bs; is = ap (λ c. c ∷ bs) (eqb-true b 47 is); none = s }))
        (λ isnt. (false, (λ e. (let t : eqb b 47 ≡ true = eq-eqb b 47 e in cc), s)))

dotted : (front end : List ℕ) → Without 47 end → Dotted (front ++ 46 ∷ end) end
dotted front end e = by (slashes front)
  where
    by : (b : Bool) × Slashes front b → Dotted (front ++ 46 ∷ end) end
    by (true, s) =
        let d = from_slash s.dir s.rest end s.none e in
        record { front = d.front; is = ap (λ (w : List ℕ). file_of (w ++ 46 ∷ end)) s.is ∙ ap file_of (append_assoc s.dir (47 ∷ s.rest) (46 ∷ end)) ∙ d.is }
    by (false, s) = record { front = front; is = behind_none 47 (front ++ 46 ∷ end) (both front s) }
      where
        both : (rest : List ℕ) → Without 47 rest → Without 47 (rest ++ 46 ∷ end)
        both [] h = (λ x. omega arith, e)
        both (b ∷ bs) h = (h.0, both bs h.1)

pub suffix_behind : (front end : List ℕ) → HasNo 46 end → HasNo 47 end → suffix_of (front ++ 46 ∷ end) ≡ 46 ∷ end
suffix_behind front end dot slash = let d = dotted front end (without 47 end slash) in ap suffix_in d.is ∙ suffix_some d.front end (without 46 end dot)

pub base_before : (front end : List ℕ) → HasNo 46 end → HasNo 47 end → base_of (front ++ 46 ∷ end) ≡ front
base_before front end dot slash =
    let k : length (front ++ 46 ∷ end) - length (suffix_of (front ++ 46 ∷ end)) ≡ length front = omega (arith, ap length (suffix_behind front end dot slash), length-append front (46 ∷ end)) in
    ap (λ m. take m (front ++ 46 ∷ end)) k ∙ take_at front (46 ∷ end) (length front) refl

whole_base : (w : List ℕ) → suffix_of w ≡ [] → base_of w ≡ w
whole_base w e = let n = ap length e in take_all (length w - length (suffix_of w)) w (omega arith)

pub suffix_of_dir : (front file : List ℕ) → HasNo 46 file → HasNo 47 file → suffix_of (front ++ 47 ∷ file) ≡ []
suffix_of_dir front file dot slash = ap suffix_in (file_behind front file slash) ∙ suffix_none file (without 46 file dot)

pub base_of_dir : (front file : List ℕ) → HasNo 46 file → HasNo 47 file → base_of (front ++ 47 ∷ file) ≡ front ++ 47 ∷ file
base_of_dir front file dot slash = whole_base (front ++ 47 ∷ file) (suffix_of_dir front file dot slash)

pub suffix_plain : (file : List ℕ) → HasNo 46 file → HasNo 47 file → suffix_of file ≡ []
suffix_plain file dot slash = ap suffix_in (file_plain file slash) ∙ suffix_none file (without 46 file dot)

pub base_plain : (file : List ℕ) → HasNo 46 file → HasNo 47 file → base_of file ≡ file
base_plain file dot slash = whole_base file (suffix_plain file dot slash)
