-- What stands behind the last one of some byte.
use Rattle.std.proofs.Common.{◌≡◌, ℕ, zero, suc, ◌+◌, ◌||◌, ◌-◌, ◌<◌, ◌≤◌, Bool, true, false, not, cond, eqb, List, [], ◌∷◌, ◌++◌, length, take, drop, get_or, reverse, arith, refl, sym, ap, ◌∙◌, length-drop, get_or-drop, drop-cons, ne_eqb}
use Rattle.std.specs.Prelude.{codes}
use Rattle.std.specs.List.{suffix_len, list_any}
use Rattle.std.proofs.lemmas.Bool.{eqb-true, eqb-false, eq-eqb}
use Rattle.std.proofs.lemmas.List.{take-append-drop, get_or-reverse, length-reverse, drop_all, drop-drop}
use Rattle.std.proofs.lemmas.List.Elements.{All-from_get_or}
use Rattle.std.proofs.lemmas.List.Folds.{list_any_none, list_any_at}
use Rattle.std.proofs.lemmas.List.Sums.{prefix_len_passes, prefix_len_stops, suffix_len-le-length, suffix_len_is}
use Rattle.em_namefn.specs.Names.{is_slash, is_dot, file_of, dir_of, suffix_in, suffix_of, base_of}

not_true : (b : Bool) → not b ≡ true → b ≡ false
not_true true e = absurd cc
not_true false e = refl

not_false : (b : Bool) → not b ≡ false → b ≡ true
not_false true e = refl
not_false false e = absurd cc

or_false : (a b : Bool) → (a || b) ≡ false → b ≡ false
or_false true b e = absurd cc
or_false false b e = e

module _ (b : ℕ) (w : List ℕ) where
  abbrev pub other : ℕ → Bool
  other c = not (eqb c b)

  -- how many bytes stand behind the last b
  abbrev pub n : ℕ
  n = suffix_len other w

  few : n ≤ length w
  few = suffix_len-le-length other w

  back_at : (k : ℕ) → k < length w → get_or w k 0 ≡ get_or (reverse w) (length w - 1 - k) 0
  back_at k low =
      let there : length w - 1 - (length w - 1 - k) ≡ k = omega arith in
      sym (get_or-reverse w (length w - 1 - k) 0 (omega arith) ∙ ap (λ i. get_or w i 0) there)

  pub none_behind : list_any (λ c. eqb c b) (drop (length w - n) w) ≡ false
  none_behind =
      let l = length-drop (length w - n) w in
      list_any_none (λ c. eqb c b) (drop (length w - n) w) (All-from_get_or (λ c. eqb c b ≡ false) (drop (length w - n) w) 0 (λ k low.
      not_true (eqb (get_or (drop (length w - n) w) k 0) b) (
      ap other (get_or-drop (length w - n) w k 0 ∙ back_at (length w - n + k) (omega (arith, few)))
      ∙ prefix_len_passes other (reverse w) (length w - 1 - (length w - n + k)) 0 (omega (arith, few)))))

  pub at_last : n < length w → get_or w (length w - n - 1) 0 ≡ b
  at_last less =
      let there : length w - 1 - (length w - n - 1) ≡ n = omega arith in
      eqb-true _ b (not_false (eqb (get_or w (length w - n - 1) 0) b) (
      ap other (back_at (length w - n - 1) (omega arith) ∙ ap (λ k. get_or (reverse w) k 0) there)
      ∙ prefix_len_stops other (reverse w) 0 (omega (arith, length-reverse w))))

  -- from the last b on
  pub from_last : n < length w → drop (length w - n - 1) w ≡ b ∷ drop (length w - n) w
  from_last less =
      let next : suc (length w - n - 1) ≡ length w - n = omega arith in
      drop-cons w (length w - n - 1) 0 (omega arith) ∙ ap (λ c. c ∷ drop (suc (length w - n - 1)) w) (at_last less) ∙ ap (λ k. b ∷ drop k w) next

  pub behind_length : length (drop (length w - n) w) ≡ n
  behind_length = length-drop (length w - n) w ∙ omega (arith, few)

  differs : list_any (λ c. eqb c b) w ≡ false → (k : ℕ) → k < length w → other (get_or w k 0) ≡ true
  differs none k low =
      elim (eqb (get_or w k 0) b) as (λ t. eqb (get_or w k 0) b ≡ t → not t ≡ true) [
        | true ↦ λ e. absurd (let some = list_any_at (λ c. eqb c b) w k 0 low e in cc)
        | false ↦ λ e. refl
      ] refl

  pub all_behind : list_any (λ c. eqb c b) w ≡ false → n ≡ length w
  all_behind none = suffix_len_is other w 0 0 (omega arith) (λ k low less. differs none k less) (λ h. absurd (omega arith)) ∙ omega arith

  pub some_before : list_any (λ c. eqb c b) w ≡ true → n < length w
  some_before some =
      elim (eqb n (length w)) as (λ t. eqb n (length w) ≡ t → n < length w) [
        | true ↦ λ e. absurd (
            let whole : length w - n ≡ 0 = omega (arith, eqb-true n (length w) e) in
            let none : list_any (λ c. eqb c b) w ≡ false = sym (ap (λ k. list_any (λ c. eqb c b) (drop k w)) whole) ∙ none_behind in
            cc)
        | false ↦ λ e. omega (arith, few, eqb-false n (length w) e)
      ] refl

-- a text, cut off in front of its end
pub front_and_end : (w s : List ℕ) (m : ℕ) → m ≤ length w → s ≡ drop m w → take (length w - length s) w ++ s ≡ w
front_and_end w s m le is =
    let l : length s ≡ length w - m = ap length is ∙ length-drop m w in
    let k : length w - length s ≡ m = omega arith in
    ap (λ i. take i w ++ s) k ∙ ap (λ (t : List ℕ). take m w ++ t) is ∙ take-append-drop m w

pub dir_joined : (w : List ℕ) → list_any is_slash w ≡ true → dir_of w ++ file_of w ≡ w
dir_joined w some =
    let l = behind_length 47 w in
    let less = some_before 47 w some in
    let shorter : eqb (length (file_of w)) (length w) ≡ false = ne_eqb _ _ (λ e. absurd (omega arith)) in
    rw shorter (front_and_end w (file_of w) (length w - n 47 w) (omega arith) refl)

pub plain_file : (w : List ℕ) → list_any is_slash w ≡ false → file_of w ≡ w
plain_file w none =
    let whole : length w - n 47 w ≡ 0 = omega (arith, all_behind 47 w none) in
    ap (λ k. drop k w) whole

pub plain_dir : (w : List ℕ) → list_any is_slash w ≡ false → dir_of w ≡ codes "./"
plain_dir w none =
    let same : eqb (length (file_of w)) (length w) ≡ true = eq-eqb _ _ (ap length (plain_file w none)) in
    rw same refl

pub suffix_there : (f : List ℕ) → n 46 f < length f → suffix_in f ≡ drop (length f - n 46 f - 1) f
suffix_there f less =
    let shorter : eqb (length (drop (length f - n 46 f) f)) (length f) ≡ false = ne_eqb _ _ (λ e. absurd (omega (arith, behind_length 46 f))) in
    rw shorter (sym (from_last 46 f less))

-- a suffix is the end of its file
pub suffix_is : (f : List ℕ) → (m : ℕ) × (m ≤ length f) × (suffix_in f ≡ drop m f)
suffix_is f =
    elim (eqb (length (drop (length f - n 46 f) f)) (length f)) as (λ t. eqb (length (drop (length f - n 46 f) f)) (length f) ≡ t → (m : ℕ) × (m ≤ length f) × (cond t [] (46 ∷ drop (length f - n 46 f) f) ≡ drop m f)) [
      | true ↦ λ e. (length f, omega arith, sym (drop_all (length f) f (omega arith)))
      | false ↦ λ e.
          let less : n 46 f < length f = omega (arith, few 46 f, behind_length 46 f, eqb-false _ _ e) in
          (length f - n 46 f - 1, omega arith, sym (from_last 46 f less))
    ] refl

pub suffix_joined : (w : List ℕ) → base_of w ++ suffix_of w ≡ w
suffix_joined w =
    let f = file_of w in
    let s = suffix_is f in
    let at = length w - n 47 w in
    let cut : suffix_of w ≡ drop (at + s.0) w = s.2 ∙ drop-drop s.0 at w in
    front_and_end w (suffix_of w) (at + s.0) (omega (arith, s.1, behind_length 47 w, few 47 w)) cut

dots_in : (f : List ℕ) → list_any is_dot (drop 1 (suffix_in f)) ≡ false
dots_in f =
    elim (eqb (length (drop (length f - n 46 f) f)) (length f)) as (λ t. list_any is_dot (drop 1 (cond t [] (46 ∷ drop (length f - n 46 f) f))) ≡ false) [
      | true ↦ refl
      | false ↦ none_behind 46 f
    ]

pub suffix_dots : (w : List ℕ) → list_any is_dot (drop 1 (suffix_of w)) ≡ false
suffix_dots w = dots_in (file_of w)

-- what an end of a text lacks
dropped : (p : ℕ → Bool) (m : ℕ) (f : List ℕ) → list_any p f ≡ false → list_any p (drop m f) ≡ false
dropped p zero f e = e
dropped p (suc m) [] e = e
dropped p (suc m) (b ∷ bs) e = dropped p m bs (or_false (p b) (list_any p bs) e)

pub suffix_slashes : (w : List ℕ) → list_any is_slash (suffix_of w) ≡ false
suffix_slashes w =
    let s = suffix_is (file_of w) in
    ap (list_any is_slash) s.2 ∙ dropped is_slash s.0 (file_of w) (none_behind 47 w)

none_in : (f : List ℕ) → suffix_in f ≡ [] → list_any is_dot f ≡ false
none_in f =
    elim (eqb (length (drop (length f - n 46 f) f)) (length f)) as (λ t. eqb (length (drop (length f - n 46 f) f)) (length f) ≡ t → cond t [] (46 ∷ drop (length f - n 46 f) f) ≡ [] → list_any is_dot f ≡ false) [
      | true ↦ λ e none.
          let whole : length f - n 46 f ≡ 0 = omega (arith, few 46 f, behind_length 46 f, eqb-true _ _ e) in
          sym (ap (λ k. list_any is_dot (drop k f)) whole) ∙ none_behind 46 f
      | false ↦ λ e none. absurd cc
    ] refl

pub suffix_none : (w : List ℕ) → suffix_of w ≡ [] → list_any is_dot (file_of w) ≡ false
suffix_none w = none_in (file_of w)
