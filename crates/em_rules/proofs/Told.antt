-- The targets that were told of, one target more at each turn.
--     none_told, told_new      a table of those that were told of, at the start and with one more
--     names_more       the names of one target more
--     told_more        which of them have a recipe
--     said_more        what is said of them
--     passed_more      those that pass a test
use Rattle.std.proofs.Common.{◌≡◌, ℕ, Bool, true, false, cond, ◌&&◌, ◌||◌, ◌+◌, ◌<◌, List, [], ◌∷◌, ◌++◌, length, take, get_or, Some, is_some, refl, sym, ap, ◌∙◌}
use Rattle.std.specs.FinMap.{FinMap, get, insert, empty, get-empty}
use Rattle.std.specs.List.{flat_map}
use Rattle.std.specs.Ordering.{eq_by_cmp}
use Rattle.std.specs.Str.{bytes_eq}
use Rattle.std.specs.Cmp.Lexicographic.{bytes_decides}
use Rattle.std.specs.Prelude.{filter}
use Rattle.std.proofs.lemmas.List.{append-nil, flat_map_more}
use Rattle.std.proofs.lemmas.List.Elements.{filter-append}
use Rattle.std.proofs.lemmas.List.Folds.{list_any-append}
use Rattle.std.proofs.lemmas.List.Sums.{fold_more}
use Rattle.em_base.proofs.Lemmas.{by_cases, order, get_put, same_key, own_key}
use Rattle.em_rules.specs.Rules.{is_in}
use Rattle.em_rules.specs.Groups.{once_more, each_once}

or_false : (b : Bool) → b ≡ (b || false)
or_false true = refl
or_false false = refl

or_true : (b : Bool) → true ≡ (b || true)
or_true true = refl
or_true false = refl

-- ---- the table

abbrev Told : Type 0
Told = FinMap order (Unit {0})

abbrev none : Told
none = empty

pub none_told : (q : List ℕ) → is_some (get none q) ≡ false
none_told q = ap is_some (get-empty order q)

pub told_new : (t : Told) (n q : List ℕ) (has : List ℕ → Bool) → has n ≡ true → is_some (get (insert t n tt) q) ≡ (is_some (get t q) || (bytes_eq n q && has q))
told_new t n q has is = ap is_some (get_put t n tt q)
    ∙ by_cases (bytes_eq n q) (λ b. bytes_eq n q ≡ b → is_some (cond (eq_by_cmp order q n) (Some tt) (get t q)) ≡ (is_some (get t q) || (b && has q)))
    (λ _ same. let e : n ≡ q = (bytes_decides n q).0 same in rw (← e, own_key n, is) (or_true (is_some (get t n))))
    (λ _ isnt. by_cases (eq_by_cmp order q n) (λ b. is_some (cond b (Some tt) (get t q)) ≡ (is_some (get t q) || false))
    (λ tied. let bad : true ≡ false = sym ((bytes_decides n q).1 (sym (same_key q n tied))) ∙ isnt in absurd cc)
    (λ _. or_false (is_some (get t q)))) refl

-- ---- the names

pub names_more : (targets : List (List ℕ)) (i : ℕ) (t : List ℕ) → i < length targets → t ≡ get_or targets i t → each_once (take (i + 1) targets) ≡ once_more (each_once (take i targets)) t
names_more targets i t lt is = fold_more once_more [] targets i t lt ∙ ap (once_more (each_once (take i targets))) (sym is)

in_once_more : (names : List (List ℕ)) (t q : List ℕ) → is_in (once_more names t) q ≡ (is_in names q || bytes_eq t q)
in_once_more names t q = by_cases (is_in names t) (λ b. is_in (cond b names (names ++ t ∷ [])) q ≡ (is_in names q || bytes_eq t q))
    (λ is. by_cases (bytes_eq t q) (λ b. is_in names q ≡ (is_in names q || b))
    (λ same. let there : is_in names q ≡ true = ap (is_in names) (sym ((bytes_decides t q).0 same)) ∙ is in rw there refl)
    (λ _. or_false (is_in names q)))
    (λ _. list_any-append (λ n. bytes_eq n q) names (t ∷ []) ∙ ap (λ b. is_in names q || b) (sym (or_false (bytes_eq t q))))

pub told_more : (names : List (List ℕ)) (t q : List ℕ) (has old : Bool) → old ≡ (is_in names q && has)
    → (old || (bytes_eq t q && has)) ≡ (is_in (once_more names t) q && has)
told_more names t q has old h = rw (h, in_once_more names t q) (by_case (is_in names q) (bytes_eq t q) has)
  where
    by_case : (a b h : Bool) → ((a && h) || (b && h)) ≡ ((a || b) && h)
    by_case true true true = refl
    by_case true true false = refl
    by_case true false true = refl
    by_case true false false = refl
    by_case false b h = refl

pub said_more : (f : List ℕ → List ℕ) (names : List (List ℕ)) (t said : List ℕ) (told has : Bool) → told ≡ (is_in names t && has) → (has ≡ false → f t ≡ [])
    → (said ++ flat_map f names) ++ cond told [] (f t) ≡ said ++ flat_map f (once_more names t)
said_more f names t said told has h none = rw h (by_cases (is_in names t) (λ b. (said ++ flat_map f names) ++ cond (b && has) [] (f t) ≡ said ++ flat_map f (cond b names (names ++ t ∷ [])))
    (λ _. by_cases has (λ b. (said ++ flat_map f names) ++ cond b [] (f t) ≡ said ++ flat_map f names)
    (λ _. append-nil (said ++ flat_map f names))
    (λ isnt. rw (none isnt) (append-nil (said ++ flat_map f names))))
    (λ _. flat_map_more f said names t))

pub passed_more : (test : List ℕ → Bool) (names : List (List ℕ)) (t : List ℕ) (told : Bool) → told ≡ (is_in names t && test t)
    → filter test names ++ cond told [] (cond (test t) (t ∷ []) []) ≡ filter test (once_more names t)
passed_more test names t told h = rw h (by_cases (is_in names t)
    (λ b. filter test names ++ cond (b && test t) [] (cond (test t) (t ∷ []) []) ≡ filter test (cond b names (names ++ t ∷ [])))
    (λ _. by_cases (test t) (λ b. filter test names ++ cond b [] (cond b (t ∷ []) []) ≡ filter test names) (λ _. append-nil (filter test names)) (λ _. append-nil (filter test names)))
    (λ _. sym (filter-append test names (t ∷ []))))
