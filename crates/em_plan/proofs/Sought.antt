-- The units that are asked for, as makefiles say.
--     asking_units       they keep to the law, whatever is answered
--     most, asking_few   how many a name has at most, and that they are no more
--     next_double, next_none, next_single      the code's calls come to the first of them
--     asking_told        by a tree's answers they are those that the makefiles say there
use Rattle.std.proofs.Common.{◌≡◌, ◌∙◌, refl, sym, ap, ℕ, zero, suc, ◌+◌, ◌-◌, ◌<◌, Bool, true, false, cond, List, [], ◌∷◌, map, length, drop, Option, Some, None, arith, slice_get, option_map, length-drop}
use Rattle.std.specs.List.{AllByRecursion}
use Rattle.std.proofs.lemmas.List.{length-map}
use Rattle.em_base.proofs.Lemmas.{by_cases}
use Rattle.em_tree.specs.Trees.{Table}
use Rattle.em_rules.specs.declared.rule.Rule.{Rule}
use Rattle.em_rules.specs.Rules.{numbers_of as rules_of, recipe_rule, is_phony}
use Rattle.em_rules.specs.Groups.{is_double}
use Rattle.em_implicit.specs.declared.seek.Found.{Found}
use Rattle.em_implicit.specs.Asking.{Asking, Had, and_then, told}
use Rattle.em_implicit.specs.Seeking.{stands, seeking}
use Rattle.em_implicit.specs.Implicit.{found}
use Rattle.em_implicit.proofs.Told.{told_then, told_found}
use Rattle.em_plan.specs.declared.making.Making.{Making}
use Rattle.em_plan.specs.declared.making.RuleContext.{RuleContext}
use Rattle.em_plan.specs.Makings.{double_unit, found_for, making_of, unit_by as unit_by_tree, unit_of}
use Rattle.em_plan.specs.Walking.{single, found_asking, unruled_by, unit_by, unit_asking, single_from, double_from, asking, asks_for}
use Rattle.em_plan.proofs.Leaves.{Each, each_any, each_then}
use Rattle.em_plan.proofs.Lists.{first_of}
use Rattle.em_plan.proofs.Saying.{Keeps, alone, rule_keeps, unruled_keeps, all_mapped}
use Rattle.em_plan.proofs.Shutting.{AreUnits}

all_drop : {X : Type 0} (P : X → Type 0) (i : ℕ) (xs : List X) → AllByRecursion P xs → AllByRecursion P (drop i xs)
all_drop P zero xs h = h
all_drop P (suc i) [] h = tt
all_drop P (suc i) (x ∷ xs) h = all_drop P i xs h.1

no_more : {X : Type 0} (i : ℕ) → drop i (let xs : List X = [] in xs) ≡ []
no_more zero = refl
no_more (suc i) = refl

abbrev pub most : List Rule → List ℕ → ℕ
most rules n = cond (is_double rules n) (length (rules_of rules n)) 1

module _ (rules patterns : List Rule) (cwd : List ℕ) where
  -- what holds of the units of a name of either kind
  by_kind : (P : Asking (List Making) → Type 0) (known : List ℕ → Bool) (n : List ℕ) (place : ℕ) → (is_double rules n ≡ true → P (double_from rules patterns cwd known n place))
      → (is_double rules n ≡ false → P (single_from rules patterns cwd known n place)) → P (asking rules patterns cwd known n place)
  unfolding asking
  by_kind P known n place double only = by_cases (is_double rules n) (λ b. is_double rules n ≡ b → P (cond b (double_from rules patterns cwd known n place) (single_from rules patterns cwd known n place)))
      (λ _ is. double is) (λ _ is. only is) refl

  unit_keeps : (known : List ℕ → Bool) (n : List ℕ) (o : Option ℕ) → Each (Keeps known n) (unit_by rules patterns cwd known n o)
  unit_keeps known n (Some k) = rule_keeps known n rules patterns k (slice_get rules k)
  unit_keeps known n None = each_then (λ (f : Option Found). Unit {0}) (Keeps known n) (found_asking rules patterns cwd n) (unruled_by rules patterns cwd known n)
      (each_any (λ (f : Option Found). Unit {0}) (found_asking rules patterns cwd n) (λ f. tt)) (λ f _. unruled_keeps known n rules patterns f)

  single_keeps : (known : List ℕ → Bool) (n : List ℕ) (place : ℕ) → Each (AllByRecursion (Keeps known n)) (single_from rules patterns cwd known n place)
  single_keeps known n zero = each_then (Keeps known n) (AllByRecursion (Keeps known n)) (unit_asking rules patterns cwd known n) single (unit_keeps known n (recipe_rule rules n)) (λ m keep. (keep, tt))
  single_keeps known n (suc k) = tt

  single_next : (other : List ℕ → Bool) (known : List ℕ → Bool) (n : List ℕ) (place : ℕ) (m : Making) (rest : List Making)
      → Each (λ (ms : List Making). ms ≡ m ∷ rest → single_from rules patterns cwd other n (suc place) ≡ Had rest) (single_from rules patterns cwd known n place)
  single_next other known n zero m rest = each_then (λ (u : Making). Unit {0}) (λ (ms : List Making). ms ≡ m ∷ rest → single_from rules patterns cwd other n 1 ≡ Had rest) (unit_asking rules patterns cwd known n) single
      (each_any (λ (u : Making). Unit {0}) (unit_asking rules patterns cwd known n) (λ u. tt)) (λ u _ e. ap (λ (ms : List Making). Had ms) (let r : [] ≡ rest = cc in r))
  single_next other known n (suc k) m rest = λ e. absurd (let bad : [] ≡ m ∷ rest = e in cc)

  double_next : (other : List ℕ → Bool) (known : List ℕ → Bool) (n : List ℕ) (place : ℕ) (m : Making) (rest : List Making)
      → Each (λ (ms : List Making). ms ≡ m ∷ rest → double_from rules patterns cwd other n (place + 1) ≡ Had rest) (double_from rules patterns cwd known n place)
  double_next other known n place m rest = λ e. ap (λ (ms : List Making). Had ms) (first_of (map (double_unit rules n) (rules_of rules n)) place m rest e).1

  pub asking_units : AreUnits (asking rules patterns cwd)
  unfolding asking
  asking_units = record {
    keeps = λ known n place. by_kind (Each (AllByRecursion (Keeps known n))) known n place
        (λ _. all_drop (Keeps known n) place (map (double_unit rules n) (rules_of rules n)) (all_mapped (Keeps known n) (double_unit rules n) (λ i. alone known n (double_unit rules n i) refl) (rules_of rules n)))
        (λ _. single_keeps known n place);
    next = λ known other n place m rest.
        let later : place + 1 ≡ suc place = omega arith in
        by_cases (is_double rules n) (λ b. Each (λ (ms : List Making). ms ≡ m ∷ rest → cond b (double_from rules patterns cwd other n (place + 1)) (single_from rules patterns cwd other n (place + 1)) ≡ Had rest)
        (cond b (double_from rules patterns cwd known n place) (single_from rules patterns cwd known n place)))
        (λ _. double_next other known n place m rest) (λ _. rw later (single_next other known n place m rest));
  }

  single_few : (known : List ℕ → Bool) (n : List ℕ) (place : ℕ) → Each (λ (ms : List Making). 0 < length ms → place < 1) (single_from rules patterns cwd known n place)
  single_few known n zero = each_any (λ (ms : List Making). 0 < length ms → 0 < 1) (and_then (unit_asking rules patterns cwd known n) single) (λ ms l. omega arith)
  single_few known n (suc k) = λ l. absurd (omega (arith, l))

  pub asking_few : (known : List ℕ → Bool) (n : List ℕ) (place : ℕ) → Each (λ (ms : List Making). 0 < length ms → place < most rules n) (asking rules patterns cwd known n place)
  unfolding asking
  asking_few known n place = by_cases (is_double rules n) (λ b. Each (λ (ms : List Making). 0 < length ms → place < cond b (length (rules_of rules n)) 1) (cond b (double_from rules patterns cwd known n place) (single_from rules patterns cwd known n place)))
      (λ _ l.
      let a : length (drop place (map (double_unit rules n) (rules_of rules n))) ≡ length (map (double_unit rules n) (rules_of rules n)) - place = length-drop place (map (double_unit rules n) (rules_of rules n)) in
      let b : length (map (double_unit rules n) (rules_of rules n)) ≡ length (rules_of rules n) = length-map (rules_of rules n) (double_unit rules n) in
      omega (arith, a, b, l))
      (λ _. single_few known n place)

  -- ---- the next unit

  module _ (known : List ℕ → Bool) (n : List ℕ) (place : ℕ) where
    mapped : {X Y : Type 0} (f : X → Y) (xs : List X) (i : ℕ) → slice_get (drop i (map f xs)) 0 ≡ option_map f (slice_get xs i)
    mapped f [] zero = refl
    mapped f [] (suc i) = refl
    mapped f (x ∷ xs) zero = refl
    mapped f (x ∷ xs) (suc i) = mapped f xs i

    pub next_double : is_double rules n ≡ true → (ms : List Making) × (slice_get ms 0 ≡ option_map (double_unit rules n) (slice_get (rules_of rules n) place)) × (asking rules patterns cwd known n place ≡ Had ms)
    unfolding asking
    next_double e = (drop place (map (double_unit rules n) (rules_of rules n)), mapped (double_unit rules n) (rules_of rules n) place, rw e refl)

    pub next_none : is_double rules n ≡ false → 0 < place → asking rules patterns cwd known n place ≡ Had []
    unfolding asking
    next_none e l = rw e (past place l)
      where
        past : (i : ℕ) → 0 < i → single_from rules patterns cwd known n i ≡ Had []
        past zero l = absurd (omega (arith, l))
        past (suc i) l = refl

    pub next_single : is_double rules n ≡ false → place ≡ 0 → asking rules patterns cwd known n place ≡ and_then (unit_asking rules patterns cwd known n) single
    unfolding asking
    next_single e none = rw (e, none) refl

  -- ---- on a tree

  module _ (tree : Table) where
    found_told : (n : List ℕ) → told (stands tree) (found_asking rules patterns cwd n) ≡ found_for rules patterns tree cwd n
    found_told n = by (is_phony rules n)
      where
        by : (b : Bool) → told (stands tree) (cond b (Had None) (seeking rules patterns cwd n)) ≡ cond b None (found rules patterns tree cwd n)
        by true = refl
        by false = told_found rules tree cwd n patterns

    unit_told : (known : List ℕ → Bool) (n : List ℕ) (o : Option ℕ) → told (stands tree) (unit_by rules patterns cwd known n o) ≡ unit_by_tree known rules patterns tree cwd n o
    unit_told known n (Some k) = refl
    unit_told known n None = told_then (stands tree) (found_asking rules patterns cwd n) (unruled_by rules patterns cwd known n) ∙ ap (λ (f : Option Found). told (stands tree) (unruled_by rules patterns cwd known n f)) (found_told n)

    single_told : (known : List ℕ → Bool) (n : List ℕ) (place : ℕ) → told (stands tree) (single_from rules patterns cwd known n place) ≡ drop place (unit_of known rules patterns tree cwd n ∷ [])
    single_told known n zero = told_then (stands tree) (unit_asking rules patterns cwd known n) single ∙ ap (λ (m : Making). m ∷ []) (unit_told known n (recipe_rule rules n))
    single_told known n (suc k) = sym (no_more k)

    pub asking_told : (known : List ℕ → Bool) (n : List ℕ) (place : ℕ) → told (stands tree) (asking rules patterns cwd known n place) ≡ drop place (making_of rules patterns tree cwd known n)
    unfolding asking
    asking_told known n place = by (is_double rules n)
      where
        by : (b : Bool) → told (stands tree) (cond b (double_from rules patterns cwd known n place) (single_from rules patterns cwd known n place)) ≡ drop place (cond b (map (double_unit rules n) (rules_of rules n)) (unit_of known rules patterns tree cwd n ∷ []))
        by true = refl
        by false = single_told known n place

pub makefile_units : (m : RuleContext) → AreUnits (asks_for m)
unfolding asks_for
makefile_units m = asking_units m.book.now.rules m.book.now.patterns m.cwd.now

pub makefile_few : (m : RuleContext) (known : List ℕ → Bool) (n : List ℕ) (place : ℕ) → Each (λ (ms : List Making). 0 < length ms → place < most m.book.now.rules n) (asks_for m known n place)
unfolding asks_for
makefile_few m known n place = asking_few m.book.now.rules m.book.now.patterns m.cwd.now known n place
