-- What was found, against what the code reads of it.
use Rattle.std.proofs.Common.{◌≡◌, ◌∙◌, ◌==◌, ◌<◌, arith, length, take, get_or, refl, sym, ap, ap₂, append-nil, ℕ, Bool, true, false, not, cond, List, [], ◌∷◌, ◌++◌, map, Option, Some, None, option_map, is_some, find, unwrap_or, codes, ◌+◌}
use Rattle.std.specs.Borrow.{Bor}
use Rattle.std.specs.Option.{option_eq, option_map_or}
use Rattle.std.specs.Str.{bytes_eq}
use Rattle.std.specs.List.{after_first, before_first, list_any, position_or_len}
use Rattle.std.specs.Option.{MatchOption}
use Rattle.std.specs.Cmp.Lexicographic.{nat_list_eq_equiv}
use Rattle.std.proofs.lemmas.List.Sums.{fails_before_first, passes_at_first}
use Rattle.std.proofs.lemmas.List.Folds.{list_any_at, list_any_none}
use Rattle.std.proofs.lemmas.List.Elements.{All-from_get_or}
use Rattle.std.proofs.lemmas.Str.Pattern.{IsSplitOnceResult, split_once_first}
use Rattle.std.specs.List.{cons_option, filter, filter_map}
use Rattle.std.proofs.lemmas.List.{map_more}
use Rattle.std.proofs.lemmas.List.Elements.{filter-append, filter_map-append}
use Rattle.em_base.proofs.Lemmas.{find_map}
use Rattle.em_cmdline.specs.Words.{assignment, is_goal}

abbrev pub Str : Type 0
Str = Bor (List ℕ)

-- `== Some("true")`
pub reads_true : (r : Option Str) {o : Option (List ℕ)} → option_map (λ s. s.now) r ≡ o → (want : Str) → want.now ≡ codes "true"
    → option_eq (λ (a b : Str). bytes_eq a.now b.now) r (Some want) ≡ option_map_or (bytes_eq (codes "true")) o false
reads_true None is want w = ap (λ o. option_map_or (bytes_eq (codes "true")) o false) is
reads_true (Some s) is want w =
    nat_list_eq_equiv.symm s.now want.now ∙ ap (λ t. bytes_eq t s.now) w ∙ ap (λ o. option_map_or (bytes_eq (codes "true")) o false) is

-- ---- assignments

abbrev is_equals : ℕ → Bool
is_equals b = b == 61

no_equals : (word : List ℕ) → position_or_len is_equals word ≡ length word → list_any is_equals word ≡ false
no_equals word none = list_any_none is_equals word (All-from_get_or (λ b. is_equals b ≡ false) word 0 (λ i lt. fails_before_first is_equals word i 0 (rw none lt)))

an_equals : (word : List ℕ) → position_or_len is_equals word < length word → list_any is_equals word ≡ true
an_equals word there = list_any_at is_equals word (position_or_len is_equals word) 0 there (passes_at_first is_equals word 0 there)

pub split_at_equals : (word : List ℕ) (r : Option (Str × Str)) → IsSplitOnceResult 61 word r → option_map (λ a. (a.0.now, a.1.now)) r ≡ assignment word
split_at_equals word r is = by r (split_once_first 61 word r is (omega arith))
  where
    by : (r : Option (Str × Str)) → MatchOption r (position_or_len is_equals word ≡ length word)
        (λ a. (position_or_len is_equals word < length word) × (a.0.now ≡ before_first is_equals word) × (a.1.now ≡ after_first is_equals word))
        → option_map (λ a. (a.0.now, a.1.now)) r ≡ assignment word
    by None none = rw (no_equals word none) refl
    by (Some a) some = rw (an_equals word some.0) (λ i. Some (some.1 i, some.2 i))

is_some_map : {A B : Type 0} (f : A → B) (o : Option A) → is_some (option_map f o) ≡ is_some o
is_some_map f None = refl
is_some_map f (Some a) = refl

pub goal_told : (word : List ℕ) (r : Option (Str × Str)) (none : Bool) → option_map (λ a. (a.0.now, a.1.now)) r ≡ assignment word → is_some r ≡ not none → none ≡ is_goal word
goal_told word r none is told = not_not none ∙ ap not (sym told ∙ sym (is_some_map (λ (a : Str × Str). (a.0.now, a.1.now)) r) ∙ ap is_some is)
  where
    not_not : (b : Bool) → b ≡ not (not b)
    not_not true = refl
    not_not false = refl

-- ---- a turn of a loop over words

pub goals_more : (ws : List Str) (i : ℕ) (d : Str) → i < length ws
    → filter is_goal (map (λ s. s.now) (take (i + 1) ws)) ≡ filter is_goal (map (λ s. s.now) (take i ws)) ++ filter is_goal ((get_or ws i d).now ∷ [])
goals_more ws i d lt = rw (map_more (λ s. s.now) ws i d lt) (filter-append is_goal (map (λ s. s.now) (take i ws)) ((get_or ws i d).now ∷ []))

pub assigned_more : (ws : List Str) (i : ℕ) (d : Str) → i < length ws
    → filter_map assignment (map (λ s. s.now) (take (i + 1) ws)) ≡ filter_map assignment (map (λ s. s.now) (take i ws)) ++ filter_map assignment ((get_or ws i d).now ∷ [])
assigned_more ws i d lt = rw (map_more (λ s. s.now) ws i d lt) (filter_map-append assignment (map (λ s. s.now) (take i ws)) ((get_or ws i d).now ∷ []))

pub goal_kept : (ws : List Str) (i : ℕ) (d : Str) (done new : List (List ℕ)) (t : List ℕ) (b : Bool) → i < length ws → done ≡ filter is_goal (map (λ s. s.now) (take i ws))
    → b ≡ is_goal (get_or ws i d).now → b ≡ true → t ≡ (get_or ws i d).now → new ≡ done ++ t ∷ [] → new ≡ filter is_goal (map (λ s. s.now) (take (i + 1) ws))
goal_kept ws i d done new t b lt so_far is told_true own made =
    let told : is_goal (get_or ws i d).now ≡ true = sym is ∙ told_true in
    let last : filter is_goal ((get_or ws i d).now ∷ []) ≡ (get_or ws i d).now ∷ [] = ap (λ b. cond b ((get_or ws i d).now ∷ []) []) told in
    made ∙ ap₂ (λ ts t. ts ++ t ∷ []) so_far own ∙ ap (λ l. filter is_goal (map (λ s. s.now) (take i ws)) ++ l) (sym last) ∙ sym (goals_more ws i d lt)

pub goal_left : (ws : List Str) (i : ℕ) (d : Str) (done new : List (List ℕ)) (b : Bool) → i < length ws → done ≡ filter is_goal (map (λ s. s.now) (take i ws))
    → b ≡ is_goal (get_or ws i d).now → b ≡ false → new ≡ done → new ≡ filter is_goal (map (λ s. s.now) (take (i + 1) ws))
goal_left ws i d done new b lt so_far is told_false made =
    let told : is_goal (get_or ws i d).now ≡ false = sym is ∙ told_false in
    let last : filter is_goal ((get_or ws i d).now ∷ []) ≡ [] = ap (λ b. cond b ((get_or ws i d).now ∷ []) []) told in
    made ∙ so_far ∙ sym (append-nil _) ∙ ap (λ l. filter is_goal (map (λ s. s.now) (take i ws)) ++ l) (sym last) ∙ sym (goals_more ws i d lt)

pub assigned_kept : (ws : List Str) (i : ℕ) (d : Str) (done new : List (List ℕ × List ℕ)) (a : List ℕ × List ℕ) → i < length ws → done ≡ filter_map assignment (map (λ s. s.now) (take i ws))
    → assignment (get_or ws i d).now ≡ Some a → new ≡ done ++ a ∷ [] → new ≡ filter_map assignment (map (λ s. s.now) (take (i + 1) ws))
assigned_kept ws i d done new a lt so_far is made =
    let last : filter_map assignment ((get_or ws i d).now ∷ []) ≡ a ∷ [] = ap (λ o. cons_option o []) is in
    made ∙ ap (λ l. l ++ a ∷ []) so_far ∙ ap (λ l. filter_map assignment (map (λ s. s.now) (take i ws)) ++ l) (sym last) ∙ sym (assigned_more ws i d lt)

pub assigned_left : (ws : List Str) (i : ℕ) (d : Str) (done new : List (List ℕ × List ℕ)) → i < length ws → done ≡ filter_map assignment (map (λ s. s.now) (take i ws))
    → assignment (get_or ws i d).now ≡ None → new ≡ done → new ≡ filter_map assignment (map (λ s. s.now) (take (i + 1) ws))
assigned_left ws i d done new lt so_far is made =
    let last : filter_map assignment ((get_or ws i d).now ∷ []) ≡ [] = ap (λ o. cons_option o []) is in
    made ∙ so_far ∙ sym (append-nil _) ∙ ap (λ l. filter_map assignment (map (λ s. s.now) (take i ws)) ++ l) (sym last) ∙ sym (assigned_more ws i d lt)

-- ---- the first word that passes a test

pub found_text : (t : List ℕ → Bool) (ws : List Str) (all : Option (List (List ℕ))) (r : Option Str) → Some (map (λ s. s.now) ws) ≡ all → option_map (λ s. s) r ≡ find (λ s. t s.now) ws
    → option_map (λ s. s.now) r ≡ find t (unwrap_or all [])
found_text t ws all r is told =
    same_map r ∙ ap (option_map (λ s. s.now)) told ∙ find_map t (λ (s : Str). s.now) ws ∙ ap (λ o. find t (unwrap_or o [])) is
  where
    same_map : (r : Option Str) → option_map (λ s. s.now) r ≡ option_map (λ s. s.now) (option_map (λ s. s) r)
    same_map None = refl
    same_map (Some s) = refl

-- ---- defaults

-- a value or the default, seen through f
pub value_or : {A B : Type 0} (f : A → B) (r : Option A) (o : Option B) (x d : A) → option_map f r ≡ o → x ≡ unwrap_or r d → f x ≡ unwrap_or o (f d)
value_or f None o x d is got = ap f got ∙ ap (λ o. unwrap_or o (f d)) is
value_or f (Some a) o x d is got = ap f got ∙ ap (λ o. unwrap_or o (f d)) is
