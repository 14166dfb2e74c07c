-- What makefiles say of the units of names.
--     Keeps known n m                 a unit's targets hold the name n, and else none that is known
--     says_units                      the law
--     says_plain                      where no rule is a group the units are the same whatever is known
use Rattle.std.proofs.Common.{◌≡◌, ◌⊎◌, inl, inr, ℕ, ◌+◌, ◌<◌, Bool, true, false, cond, nat_lt, ◌||◌, ◌&&◌, not, List, [], ◌∷◌, map, length, Option, Some, None, refl, sym, ap, subst, ◌∙◌, arith, slice_get, is_some}
use Rattle.std.specs.List.{All, AllByRecursion, filter}
use Rattle.std.proofs.lemmas.List.{length-map}
use Rattle.std.proofs.lemmas.Bool.{lt-ltb}
use Rattle.std.specs.Str.{bytes_eq}
use Rattle.std.proofs.lemmas.Slice.Eq.{bytes_eq-Decides}
use Rattle.em_base.proofs.Lemmas.{by_cases, same_key, own_key}
use Rattle.em_tree.specs.Trees.{Table}
use Rattle.em_rules.specs.declared.rule.Rule.{Rule}
use Rattle.em_rules.specs.Rules.{is_in, has_target, numbers_from, numbers_of, recipe_rule}
use Rattle.em_rules.specs.Groups.{is_double, is_double_kind, is_grouped_kind, members_at}
use Rattle.em_implicit.specs.declared.seek.Found.{Found}
use Rattle.em_implicit.specs.Matches.{match_at, members_of}
use Rattle.em_plan.specs.declared.making.Making.{Making}
use Rattle.em_plan.specs.Once.{each_once, is_among, same}
use Rattle.em_plan.specs.Makings.{double_unit, bare_unit, with_own, joins, group_names, group_of, own_unit, rule_unit, stays, pattern_names, pattern_of, pattern_by, unruled_unit, found_for, unit_by, unit_of, making_of}
use Rattle.em_plan.specs.Units.{IsUnits}
use Rattle.em_plan.specs.Reached.{IsPlain}
use Rattle.em_plan.proofs.Lists.{at_place, each_place, place_of}

all_of : {X : Type 0} (P : X → Type 0) (xs : List X) → AllByRecursion P xs → All P xs
all_of P xs h = each_place P xs (λ i x at. place_of P xs i x h at)

pub all_mapped : {X Y : Type 0} (P : Y → Type 0) (f : X → Y) → ((x : X) → P (f x)) → (xs : List X) → AllByRecursion P (map f xs)
all_mapped P f h [] = tt
all_mapped P f h (x ∷ xs) = (h x, all_mapped P f h xs)

-- ---- targets

there : (ts : List (List ℕ)) (n : List ℕ) → is_in ts n ≡ true → is_among ts n ≡ true
there [] n h = absurd (let b : false ≡ true = h in cc)
there (t ∷ ts) n h = by_cases (bytes_eq t n) (λ b. bytes_eq t n ≡ b → (b || is_in ts n) ≡ true → (same n t || is_among ts n) ≡ true)
    (λ _ is _. let e : same n t ≡ true = ap (same n) ((bytes_eq-Decides t n).0 is) ∙ own_key n in rw e refl)
    (λ _ _ more. or_later (same n t) (is_among ts n) (there ts n more)) refl h
  where
    or_later : (a b : Bool) → b ≡ true → (a || b) ≡ true
    or_later true b e = refl
    or_later false b e = e

own_there : (n : List ℕ) (ts : List (List ℕ)) → is_among (with_own n ts) n ≡ true
own_there n ts = by_cases (is_in ts n) (λ b. is_in ts n ≡ b → is_among (cond b ts (n ∷ ts)) n ≡ true)
    (λ _ is. there ts n is)
    (λ _ _. let e : same n n ≡ true = own_key n in rw e refl) refl

-- what is among them is the name, or among the others
from_own : (n : List ℕ) (ts : List (List ℕ)) (q : List ℕ) → is_among (with_own n ts) q ≡ true → (q ≡ n) ⊎ (is_among ts q ≡ true)
from_own n ts q = by_in (is_in ts n)
  where
    by_in : (b : Bool) → is_among (cond b ts (n ∷ ts)) q ≡ true → (q ≡ n) ⊎ (is_among ts q ≡ true)
    by_in true h = inr h
    by_in false h = by_cases (same q n) (λ b. same q n ≡ b → (b || is_among ts q) ≡ true → (q ≡ n) ⊎ (is_among ts q ≡ true))
        (λ _ is _. inl (same_key q n is)) (λ _ _ more. inr more) refl h

-- what is among those that pass passes
passes : (p : List ℕ → Bool) (ts : List (List ℕ)) (q : List ℕ) → is_among (filter p ts) q ≡ true → p q ≡ true
passes p [] q h = absurd (let b : false ≡ true = h in cc)
passes p (t ∷ ts) q h = by_cases (p t) (λ b. p t ≡ b → is_among (cond b (t ∷ filter p ts) (filter p ts)) q ≡ true → p q ≡ true)
    (λ _ is g. by_cases (same q t) (λ b. same q t ≡ b → (b || is_among (filter p ts) q) ≡ true → p q ≡ true)
    (λ _ e _. ap p (same_key q t e) ∙ is) (λ _ _ more. passes p ts q more) refl g)
    (λ _ _ more. passes p ts q more) refl h

module _ (known : List ℕ → Bool) (n : List ℕ) where
  -- a unit's targets hold the name, and else none that is known
  pub record Keeps (m : Making) : Type 0 where
    pub own : is_among m.targets n ≡ true
    pub new : (q : List ℕ) → is_among m.targets q ≡ true → (q ≡ n) ⊎ (known q ≡ false)

  pub alone : (m : Making) → m.targets ≡ n ∷ [] → Keeps m
  alone m is = record {
    own = ap (λ (ts : List (List ℕ)). is_among ts n) is ∙ (let e : same n n ≡ true = own_key n in rw e refl);
    new = λ q h. inl (by_cases (same q n) (λ b. same q n ≡ b → (b || false) ≡ true → q ≡ n) (λ _ e _. same_key q n e) (λ _ _ b. absurd (let bad : false ≡ true = b in cc)) refl (sym (ap (λ (ts : List (List ℕ)). is_among ts q) is) ∙ h));
  }

  chosen : (p : List ℕ → Bool) → ((q : List ℕ) → p q ≡ true → (q ≡ n) ⊎ (known q ≡ false)) → (m : Making) (ts : List (List ℕ)) → m.targets ≡ with_own n (filter p ts) → Keeps m
  chosen p means m ts is = record {
    own = ap (λ (x : List (List ℕ)). is_among x n) is ∙ own_there n (filter p ts);
    new = λ q h. elim (from_own n (filter p ts) q (sym (ap (λ (x : List (List ℕ)). is_among x q) is) ∙ h)) [
      | inl e ↦ inl e
      | inr more ↦ means q (passes p ts q more)
    ];
  }

  joins_means : (q : List ℕ) → joins known n q ≡ true → (q ≡ n) ⊎ (known q ≡ false)
  joins_means q h = by_own (bytes_eq q n) (known q) refl refl h
    where
      by_own : (a b : Bool) → bytes_eq q n ≡ a → known q ≡ b → (a || not b) ≡ true → (q ≡ n) ⊎ (known q ≡ false)
      by_own true b is e g = inl ((bytes_eq-Decides q n).0 is)
      by_own false true is e g = absurd (let bad : false ≡ true = g in cc)
      by_own false false is e g = inr e

  stays_means : (rules : List Rule) (q : List ℕ) → stays known rules n q ≡ true → (q ≡ n) ⊎ (known q ≡ false)
  stays_means rules q h = by_own (bytes_eq q n) (is_some (recipe_rule rules q)) (is_double rules q) (known q) refl refl h
    where
      by_own : (a r d b : Bool) → bytes_eq q n ≡ a → known q ≡ b → (a || not (r || (d || b))) ≡ true → (q ≡ n) ⊎ (known q ≡ false)
      by_own true r d b is e g = inl ((bytes_eq-Decides q n).0 is)
      by_own false true d b is e g = absurd (let bad : false ≡ true = g in cc)
      by_own false false true b is e g = absurd (let bad : false ≡ true = g in cc)
      by_own false false false true is e g = absurd (let bad : false ≡ true = g in cc)
      by_own false false false false is e g = inr e

  module _ (rules patterns : List Rule) where
    pub rule_keeps : (k : ℕ) (o : Option Rule) → Keeps (rule_unit known rules n k o)
    rule_keeps k None = alone (bare_unit rules n) refl
    rule_keeps k (Some r) = by_kind (is_grouped_kind r.kind)
      where
        by_kind : (b : Bool) → Keeps (cond b (group_of rules n k r (group_names known rules n k)) (own_unit rules n k r))
        by_kind true = chosen (joins known n) joins_means (group_of rules n k r (group_names known rules n k)) (members_at rules k) refl
        by_kind false = alone (own_unit rules n k r) refl

    pattern_keeps : (f : Found) (o : Option Rule) → Keeps (pattern_by known rules n f o)
    pattern_keeps f None = alone (bare_unit rules n) refl
    pattern_keeps f (Some r) = by_count (nat_lt (length r.targets) 2)
      where
        by_count : (b : Bool) → Keeps (pattern_of rules f.stem r (match_at r f.pattern n) (cond b (n ∷ []) (pattern_names known rules n (members_of r (match_at r f.pattern n)))))
        by_count true = alone (pattern_of rules f.stem r (match_at r f.pattern n) (n ∷ [])) refl
        by_count false = chosen (stays known rules n) (stays_means rules) (pattern_of rules f.stem r (match_at r f.pattern n) (pattern_names known rules n (members_of r (match_at r f.pattern n))))
            (each_once [] (members_of r (match_at r f.pattern n))) refl

    pub unruled_keeps : (o : Option Found) → Keeps (unruled_unit known rules patterns n o)
    unruled_keeps None = alone (bare_unit rules n) refl
    unruled_keeps (Some f) = pattern_keeps f (slice_get patterns f.rule)

    unit_keeps : (tree : Table) (cwd : List ℕ) (o : Option ℕ) → Keeps (unit_by known rules patterns tree cwd n o)
    unit_keeps tree cwd (Some k) = rule_keeps k (slice_get rules k)
    unit_keeps tree cwd None = unruled_keeps (found_for rules patterns tree cwd n)

has_some : (i : ℕ) (rules : List Rule) (n : List ℕ) → is_double rules n ≡ true → 0 < length (numbers_from i rules n)
has_some i [] n h = absurd (let b : false ≡ true = h in cc)
has_some i (r ∷ rules) n h = by_target (has_target r n) (is_double_kind r.kind) h (has_some (i + 1) rules n)
  where
    by_target : (a b : Bool) → ((a && b) || is_double rules n) ≡ true → (is_double rules n ≡ true → 0 < length (numbers_from (i + 1) rules n))
        → 0 < length (cond a (i ∷ numbers_from (i + 1) rules n) (numbers_from (i + 1) rules n))
    by_target true b g rest = omega arith
    by_target false b g rest = rest g

module _ (rules patterns : List Rule) (tree : Table) (cwd : List ℕ) where
  -- what holds of the units of a name of either kind
  by_kind : (P : List Making → Type 0) (known : List ℕ → Bool) (n : List ℕ) → (is_double rules n ≡ true → P (map (double_unit rules n) (numbers_of rules n))) → P (unit_of known rules patterns tree cwd n ∷ []) → P (making_of rules patterns tree cwd known n)
  by_kind P known n double single = by_cases (is_double rules n) (λ b. is_double rules n ≡ b → P (cond b (map (double_unit rules n) (numbers_of rules n)) (unit_of known rules patterns tree cwd n ∷ [])))
      (λ _ is. double is) (λ _ _. single) refl

  keeps : (known : List ℕ → Bool) (n : List ℕ) → AllByRecursion (Keeps known n) (making_of rules patterns tree cwd known n)
  keeps known n = by_kind (AllByRecursion (Keeps known n)) known n
      (λ _. all_mapped (Keeps known n) (double_unit rules n) (λ i. alone known n (double_unit rules n i) refl) (numbers_of rules n))
      (unit_keeps known n rules patterns tree cwd (recipe_rule rules n), tt)

  pub says_units : IsUnits (making_of rules patterns tree cwd)
  says_units = record {
    own = λ known n. each_place (λ (m : Making). is_among m.targets n ≡ true) (making_of rules patterns tree cwd known n)
        (λ i m at. (place_of (Keeps known n) (making_of rules patterns tree cwd known n) i m (keeps known n) at).own);
    new = λ known n. each_place (λ (m : Making). (q : List ℕ) → is_among m.targets q ≡ true → (q ≡ n) ⊎ (known q ≡ false)) (making_of rules patterns tree cwd known n)
        (λ i m at. (place_of (Keeps known n) (making_of rules patterns tree cwd known n) i m (keeps known n) at).new);
    some = λ known n. by_kind (λ ms. 0 < length ms) known n
        (λ is. subst (λ k. 0 < k) (sym (length-map (numbers_of rules n) (double_unit rules n))) (has_some 0 rules n is)) (omega arith);
    alone = λ known other n. either known other n (is_double rules n);
    double = λ known n. by_kind (λ ms. 1 < length ms → All (λ (m : Making). (m.double ≡ true) × (m.targets ≡ n ∷ [])) ms) known n
        (λ _ _. all_of (λ (m : Making). (m.double ≡ true) × (m.targets ≡ n ∷ [])) (map (double_unit rules n) (numbers_of rules n))
        (all_mapped (λ (m : Making). (m.double ≡ true) × (m.targets ≡ n ∷ [])) (double_unit rules n) (λ i. (refl, refl)) (numbers_of rules n)))
        (λ many. absurd (omega (arith, many)));
  }
    where
      either : (known other : List ℕ → Bool) (n : List ℕ) (b : Bool)
          → (cond b (map (double_unit rules n) (numbers_of rules n)) (unit_of known rules patterns tree cwd n ∷ []) ≡ cond b (map (double_unit rules n) (numbers_of rules n)) (unit_of other rules patterns tree cwd n ∷ []))
          ⊎ ((length (cond b (map (double_unit rules n) (numbers_of rules n)) (unit_of known rules patterns tree cwd n ∷ [])) ≡ 1) × (length (cond b (map (double_unit rules n) (numbers_of rules n)) (unit_of other rules patterns tree cwd n ∷ [])) ≡ 1))
      either known other n true = inl refl
      either known other n false = inr (refl, refl)

-- ---- without groups

module _ (rules patterns : List Rule) (tree : Table) (cwd : List ℕ) (single : All (λ (r : Rule). is_grouped_kind r.kind ≡ false) rules) (one : All (λ (r : Rule). length r.targets < 2) patterns) where
  rule_plain : (known other : List ℕ → Bool) (n : List ℕ) (k : ℕ) (o : Option Rule) → slice_get rules k ≡ o → rule_unit known rules n k o ≡ rule_unit other rules n k o
  rule_plain known other n k None at = refl
  rule_plain known other n k (Some r) at = let ordinary = at_place (λ (x : Rule). is_grouped_kind x.kind ≡ false) rules k r single at in rw ordinary refl

  pattern_plain : (known other : List ℕ → Bool) (n : List ℕ) (f : Found) (o : Option Rule) → slice_get patterns f.rule ≡ o → pattern_by known rules n f o ≡ pattern_by other rules n f o
  pattern_plain known other n f None at = refl
  pattern_plain known other n f (Some r) at =
      let few : length r.targets < 2 = at_place (λ (x : Rule). length x.targets < 2) patterns f.rule r one at in
      let told : nat_lt (length r.targets) 2 ≡ true = lt-ltb (length r.targets) 2 few in
      rw told refl

  unruled_plain : (known other : List ℕ → Bool) (n : List ℕ) (o : Option Found) → unruled_unit known rules patterns n o ≡ unruled_unit other rules patterns n o
  unruled_plain known other n None = refl
  unruled_plain known other n (Some f) = pattern_plain known other n f (slice_get patterns f.rule) refl

  unit_plain : (known other : List ℕ → Bool) (n : List ℕ) (o : Option ℕ) → unit_by known rules patterns tree cwd n o ≡ unit_by other rules patterns tree cwd n o
  unit_plain known other n (Some k) = rule_plain known other n k (slice_get rules k) refl
  unit_plain known other n None = unruled_plain known other n (found_for rules patterns tree cwd n)

  pub says_plain : IsPlain (making_of rules patterns tree cwd)
  says_plain known other n = ap (λ (m : Making). cond (is_double rules n) (map (double_unit rules n) (numbers_of rules n)) (m ∷ [])) (unit_plain known other n (recipe_rule rules n))
