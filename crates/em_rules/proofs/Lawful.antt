-- The laws of the definitions.
use Rattle.std.proofs.Common.{◌≡◌, ◌∙◌, refl, sym, ap, ℕ, suc, ◌+◌, ◌-◌, ◌&&◌, ◌||◌, true, false, cond, List, [], ◌∷◌, ◌++◌, length, map, slice_get, Some, None, arith, nat_eq, append_assoc, length-append, eqb-true}
use Rattle.std.specs.Prelude.{◌==◌, codes, is_some, filter}
use Rattle.std.specs.Option.{option_or}
use Rattle.std.specs.List.{enumerate_from, flat_map, starts_with}
use Rattle.std.specs.Str.{bytes_eq}
use Rattle.std.proofs.lemmas.List.Folds.{list_any-append}
use Rattle.std.proofs.lemmas.Bool.{and_parts}
use Rattle.em_base.proofs.Lemmas.{by_cases}
use Rattle.em_rules.proofs.Indexing.{option_or-None}
use Rattle.em_rules.specs.declared.rule.Rule.{Rule}
use Rattle.em_rules.specs.Dots.{undotted, dots}
use Rattle.em_rules.specs.Rules.{is_in, has_target, needs, numbers_from, recipe_from, prerequisites_by, prerequisites_at, prerequisites_of, is_phony}

-- ---- names as they are known

pub undotted_whole : (name : List ℕ) → (k : ℕ) × (name ≡ dots k ++ undotted name)
undotted_whole [] = (0, refl)
undotted_whole (a ∷ []) = (0, refl)
undotted_whole (a ∷ b ∷ rest) = by_cases ((a == 46) && (b == 47)) (λ t. (a == 46) && (b == 47) ≡ t → (k : ℕ) × (a ∷ b ∷ rest ≡ dots k ++ cond t (undotted rest) (a ∷ b ∷ rest)))
    (λ _ is. let both = and_parts (a == 46) (b == 47) is in let more = undotted_whole rest in
    (suc more.0, rw (eqb-true a 46 both.0, eqb-true b 47 both.1) (ap (λ xs. 46 ∷ 47 ∷ xs) more.1)))
    (λ _ _. (0, refl)) refl

plain_two : (a b : ℕ) → (a == 46) && (b == 47) ≡ false → (46 == a) && ((47 == b) && true) ≡ false
plain_two a b isnt = by_cases (46 == a) (λ t. 46 == a ≡ t → t && ((47 == b) && true) ≡ false)
    (λ _ first. by_cases (47 == b) (λ t. 47 == b ≡ t → t && true ≡ false)
    (λ _ second. let bad : true ≡ false = rw (sym (eqb-true 46 a first), sym (eqb-true 47 b second)) at isnt in absurd cc)
    (λ _ _. refl) refl)
    (λ _ _. refl) refl

pub undotted_plain : (name : List ℕ) → starts_with nat_eq (undotted name) (codes "./") ≡ false
undotted_plain [] = refl
undotted_plain (a ∷ []) = by_cases (46 == a) (λ t. t && false ≡ false) (λ _. refl) (λ _. refl)
undotted_plain (a ∷ b ∷ rest) = by_cases ((a == 46) && (b == 47)) (λ t. (a == 46) && (b == 47) ≡ t → starts_with nat_eq (cond t (undotted rest) (a ∷ b ∷ rest)) (codes "./") ≡ false)
    (λ _ _. undotted_plain rest)
    (λ _ isnt. plain_two a b isnt) refl

pub undotted_again : (name : List ℕ) → undotted (undotted name) ≡ undotted name
undotted_again [] = refl
undotted_again (a ∷ []) = refl
undotted_again (a ∷ b ∷ rest) = by_cases ((a == 46) && (b == 47)) (λ t. (a == 46) && (b == 47) ≡ t → undotted (cond t (undotted rest) (a ∷ b ∷ rest)) ≡ cond t (undotted rest) (a ∷ b ∷ rest))
    (λ _ _. undotted_again rest)
    (λ _ isnt. rw isnt refl) refl

-- ---- the rules for a name

pub numbers_filtered : (i : ℕ) (rules : List Rule) (name : List ℕ) → numbers_from i rules name ≡ map (λ e. e.0) (filter (λ e. has_target e.1 name) (enumerate_from i rules))
numbers_filtered i [] name = refl
numbers_filtered i (r ∷ rules) name = by_cases (has_target r name)
    (λ b. cond b (i ∷ numbers_from (i + 1) rules name) (numbers_from (i + 1) rules name)
    ≡ map (λ e. e.0) (cond b ((i, r) ∷ filter (λ e. has_target e.1 name) (enumerate_from (i + 1) rules)) (filter (λ e. has_target e.1 name) (enumerate_from (i + 1) rules))))
    (λ _. ap (λ xs. i ∷ xs) (numbers_filtered (i + 1) rules name))
    (λ _. numbers_filtered (i + 1) rules name)

last_is : (y : ℕ) (ys : List ℕ) → (z : ℕ) × (slice_get (y ∷ ys) (length ys) ≡ Some z)
last_is y [] = (y, refl)
last_is y (z ∷ zs) = last_is z zs

last_cons : (x : ℕ) (xs : List ℕ) → slice_get (x ∷ xs) (length (x ∷ xs) - 1) ≡ option_or (slice_get xs (length xs - 1)) (Some x)
last_cons x [] = refl
last_cons x (y ∷ ys) =
    let first : suc (suc (length ys)) - 1 ≡ suc (length ys) = omega arith in
    let second : suc (length ys) - 1 ≡ length ys = omega arith in
    let z = last_is y ys in
    rw (first, second, z.1) refl

abbrev pub with_recipe : ℕ → List Rule → List ℕ → List ℕ
with_recipe i rules name = map (λ e. e.0) (filter (λ e. has_target e.1 name && is_some e.1.recipe) (enumerate_from i rules))

pub recipe_last : (i : ℕ) (rules : List Rule) (name : List ℕ) → recipe_from i rules name ≡ slice_get (with_recipe i rules name) (length (with_recipe i rules name) - 1)
recipe_last i [] name = refl
recipe_last i (r ∷ rules) name = by_cases (has_target r name && is_some r.recipe)
    (λ b. option_or (recipe_from (i + 1) rules name) (cond b (Some i) None)
    ≡ slice_get (map (λ e. e.0) (cond b ((i, r) ∷ later) later)) (length (map (λ e. e.0) (cond b ((i, r) ∷ later) later)) - 1))
    (λ _. ap (λ o. option_or o (Some i)) (recipe_last (i + 1) rules name) ∙ sym (last_cons i (with_recipe (i + 1) rules name)))
    (λ _. option_or-None (recipe_from (i + 1) rules name) ∙ recipe_last (i + 1) rules name)
  where
    later : List (ℕ × Rule)
    later = filter (λ e. has_target e.1 name && is_some e.1.recipe) (enumerate_from (i + 1) rules)

-- ---- prerequisites

abbrev pub own_of : List ℕ → Rule → List (List ℕ)
own_of name r = cond (has_target r name) (r.normal ++ r.order) []

get_behind : (before : List Rule) (r : Rule) (rules : List Rule) → slice_get (before ++ r ∷ rules) (length before) ≡ Some r
get_behind [] r rules = refl
get_behind (x ∷ before) r rules = get_behind before r rules

joined_from : (before rules : List Rule) (name : List ℕ) → flat_map (prerequisites_at (before ++ rules)) (numbers_from (length before) rules name) ≡ flat_map (own_of name) rules
joined_from before [] name = refl
joined_from before (r ∷ rules) name =
    let whole : (before ++ r ∷ []) ++ rules ≡ before ++ r ∷ rules = append_assoc before (r ∷ []) rules in
    let size : length (before ++ r ∷ []) ≡ length before + 1 = length-append before (r ∷ []) in
    let rest : flat_map (prerequisites_at (before ++ r ∷ rules)) (numbers_from (length before + 1) rules name) ≡ flat_map (own_of name) rules =
    ap (λ rs. flat_map (prerequisites_at rs) (numbers_from (length before + 1) rules name)) (sym whole)
    ∙ ap (λ n. flat_map (prerequisites_at ((before ++ r ∷ []) ++ rules)) (numbers_from n rules name)) (sym size) ∙ joined_from (before ++ r ∷ []) rules name in
    by_cases (has_target r name)
    (λ b. flat_map (prerequisites_at (before ++ r ∷ rules)) (cond b (length before ∷ numbers_from (length before + 1) rules name) (numbers_from (length before + 1) rules name))
    ≡ cond b (r.normal ++ r.order) [] ++ flat_map (own_of name) rules)
    (λ _. ap (λ o. prerequisites_by o ++ flat_map (prerequisites_at (before ++ r ∷ rules)) (numbers_from (length before + 1) rules name)) (get_behind before r rules)
    ∙ ap (λ xs. (r.normal ++ r.order) ++ xs) rest)
    (λ _. rest)

pub joined : (rules : List Rule) (name : List ℕ) → prerequisites_of rules name ≡ flat_map (own_of name) rules
joined rules name = joined_from [] rules name

in_append : (xs ys : List (List ℕ)) (name : List ℕ) → is_in (xs ++ ys) name ≡ (is_in xs name || is_in ys name)
in_append xs ys name = list_any-append (λ n. bytes_eq n name) xs ys

phony_in : (rules : List Rule) (name : List ℕ) → is_phony rules name ≡ is_in (flat_map (own_of (codes ".PHONY")) rules) name
phony_in [] name = refl
phony_in (r ∷ rules) name =
    let others = flat_map (own_of (codes ".PHONY")) rules in
    by_cases (has_target r (codes ".PHONY"))
    (λ b. ((b && needs r name) || is_phony rules name) ≡ is_in (cond b (r.normal ++ r.order) [] ++ others) name)
    (λ _. ap (λ b. needs r name || b) (phony_in rules name)
    ∙ sym (in_append (r.normal ++ r.order) others name ∙ ap (λ b. b || is_in others name) (in_append r.normal r.order name)))
    (λ _. phony_in rules name)

pub phony_joined : (rules : List Rule) (name : List ℕ) → is_phony rules name ≡ is_in (prerequisites_of rules (codes ".PHONY")) name
phony_joined rules name = phony_in rules name ∙ ap (λ ns. is_in ns name) (sym (joined rules (codes ".PHONY")))
