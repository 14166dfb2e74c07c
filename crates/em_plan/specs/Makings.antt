-- How the units of a name are made, as the makefiles say. A unit is what one job makes: a name, the
-- members of a group, or what one double-colon rule of a name makes.
--     needs_in normal order     prerequisites with their kind, the normal ones before the order-only ones
--     others rules k ts         the prerequisites of all rules for these names but the rule of number k
--     double_unit ..            a double-colon rule of the name
--     ruled_unit ..             the name, or its group, by its rule with a recipe
--     unruled_unit ..           the name without a recipe of its own, or the group of the pattern rule that is found
--     making_of .. known name   the units of a name, in order; `known` tells which names are open or numbered
use Rattle.std.specs.Prelude.{ℕ, ◌||◌, nat_lt, Bool, true, false, not, List, [], ◌∷◌, ◌++◌, length, map, Option, Some, None, is_some, slice_get, if◌then◌else◌}
use Rattle.std.specs.List.{filter, flat_map, list_any}
use Rattle.std.specs.Option.{option_and_then}
use Rattle.std.specs.Str.{bytes_eq}
use Rattle.em_tree.specs.Trees.{Table}
use Rattle.em_rules.specs.declared.rule.Rule.{Rule}
use Rattle.em_rules.specs.declared.rule.RecipeLine.{RecipeLine}
use Rattle.em_rules.specs.Rules.{is_in, numbers_of, recipe_rule, is_target, is_phony}
use Rattle.em_rules.specs.Groups.{is_double, is_grouped_kind, is_number, members_at, normal_for, order_for}
use Rattle.em_rules.specs.Static.{stem_in}
use Rattle.em_implicit.specs.declared.seek.Found.{Found}
use Rattle.em_implicit.specs.Matches.{match_at, members_of, normal_of, order_of}
use Rattle.em_implicit.specs.Implicit.{found}
use Rattle.em_plan.specs.declared.making.Need.{Need}
use Rattle.em_plan.specs.declared.making.Making.{Making}
use Rattle.em_plan.specs.Once.{each_once}

abbrev pub need : Bool → List ℕ → Need
need order name = record { name = name; order = order }

abbrev pub needs_in : List (List ℕ) → List (List ℕ) → List Need
needs_in normal order = map (need false) normal ++ map (need true) order

-- ---- the prerequisites that explicit rules give a name

abbrev pub needs_by : List ℕ → Option Rule → List Need
needs_by t None = []
needs_by t (Some r) = needs_in (normal_for r t) (order_for r t)

abbrev pub needs_for : List Rule → List ℕ → ℕ → List Need
needs_for rules t i = needs_by t (slice_get rules i)

abbrev pub others_of : List Rule → Option ℕ → List ℕ → List Need
others_of rules k t = flat_map (needs_for rules t) (filter (λ i. not (is_number i k)) (numbers_of rules t))

abbrev pub others : List Rule → Option ℕ → List (List ℕ) → List Need
others rules k ts = flat_map (others_of rules k) ts

-- ---- units

abbrev pub recipe_by : Option Rule → Option (List RecipeLine)
recipe_by r = option_and_then (λ x. x.recipe) r

-- what `%` stands for in a static pattern rule
abbrev pub stem_by : Option Rule → List ℕ → List ℕ
stem_by None name = []
stem_by (Some r) name = stem_in r name

abbrev pub making : List Rule → Bool → List (List ℕ) → List Need → List ℕ → Option Rule → Bool → Making
making rules double ts needs stem r ruled = record {
  targets = ts;
  double = double;
  needs = needs;
  stem = stem;
  recipe = recipe_by r;
  ruled = ruled;
  phony = list_any (is_phony rules) ts;
}

abbrev pub double_by : List Rule → List ℕ → Option Rule → Making
double_by rules name r = making rules true (name ∷ []) (needs_by name r) (stem_by r name) r true

abbrev pub double_unit : List Rule → List ℕ → ℕ → Making
double_unit rules name i = double_by rules name (slice_get rules i)

-- a name without a recipe
abbrev pub bare_unit : List Rule → List ℕ → Making
bare_unit rules name = making rules false (name ∷ []) (others rules None (name ∷ [])) [] None (is_target rules name)

-- the name is one of its unit's targets
abbrev pub with_own : List ℕ → List (List ℕ) → List (List ℕ)
with_own name ts = if is_in ts name then ts else name ∷ ts

-- ---- the name's rule with a recipe

-- the members of a group are opened together, so that none but the name's own is left out
abbrev pub joins : (List ℕ → Bool) → List ℕ → List ℕ → Bool
joins known name t = bytes_eq t name || not (known t)

abbrev pub group_names : (List ℕ → Bool) → List Rule → List ℕ → ℕ → List (List ℕ)
group_names known rules name k = with_own name (filter (joins known name) (members_at rules k))

abbrev pub group_needs : Rule → List (List ℕ) → List Need
group_needs r ms = if is_some r.form then needs_in (flat_map (normal_for r) ms) (flat_map (order_for r) ms) else needs_in r.normal r.order

abbrev pub group_of : List Rule → List ℕ → ℕ → Rule → List (List ℕ) → Making
group_of rules name k r ms = making rules false ms (group_needs r ms ++ others rules (Some k) ms) (stem_in r name) (Some r) true

-- the prerequisites of the rule with the recipe come first
abbrev pub own_unit : List Rule → List ℕ → ℕ → Rule → Making
own_unit rules name k r = making rules false (name ∷ []) (needs_by name (Some r) ++ others rules (Some k) (name ∷ [])) (stem_in r name) (Some r) true

abbrev pub rule_unit : (List ℕ → Bool) → List Rule → List ℕ → ℕ → Option Rule → Making
rule_unit known rules name k None = bare_unit rules name
rule_unit known rules name k (Some r) = if is_grouped_kind r.kind then group_of rules name k r (group_names known rules name k) else own_unit rules name k r

abbrev pub ruled_unit : (List ℕ → Bool) → List Rule → List ℕ → ℕ → Making
ruled_unit known rules name k = rule_unit known rules name k (slice_get rules k)

-- ---- a pattern rule

-- a member that has a recipe of its own, or units of its own, or that is known, is left out
abbrev pub stays : (List ℕ → Bool) → List Rule → List ℕ → List ℕ → Bool
stays known rules name t = bytes_eq t name || not (is_some (recipe_rule rules t) || (is_double rules t || known t))

abbrev pub pattern_names : (List ℕ → Bool) → List Rule → List ℕ → List (List ℕ) → List (List ℕ)
pattern_names known rules name ms = with_own name (filter (stays known rules name) (each_once [] ms))

-- a rule with one target pattern makes the name alone
abbrev pub pattern_targets : (List ℕ → Bool) → List Rule → List ℕ → Rule → Option (List ℕ × List ℕ) → List (List ℕ)
pattern_targets known rules name r m = if nat_lt (length r.targets) 2 then name ∷ [] else pattern_names known rules name (members_of r m)

abbrev pub pattern_needs : Rule → Option (List ℕ × List ℕ) → List Need
pattern_needs r m = needs_in (normal_of r m) (order_of r m)

-- the pattern rule's prerequisites come before those of the members' own rules
abbrev pub pattern_of : List Rule → List ℕ → Rule → Option (List ℕ × List ℕ) → List (List ℕ) → Making
pattern_of rules stem r m ts = making rules false ts (pattern_needs r m ++ others rules None ts) stem (Some r) true

abbrev pub pattern_unit : (List ℕ → Bool) → List Rule → List ℕ → List ℕ → Rule → Option (List ℕ × List ℕ) → Making
pattern_unit known rules name stem r m = pattern_of rules stem r m (pattern_targets known rules name r m)

abbrev pub pattern_by : (List ℕ → Bool) → List Rule → List ℕ → Found → Option Rule → Making
pattern_by known rules name f None = bare_unit rules name
pattern_by known rules name f (Some r) = pattern_unit known rules name f.stem r (match_at r f.pattern name)

abbrev pub unruled_unit : (List ℕ → Bool) → List Rule → List Rule → List ℕ → Option Found → Making
unruled_unit known rules patterns name None = bare_unit rules name
unruled_unit known rules patterns name (Some f) = pattern_by known rules name f (slice_get patterns f.rule)

-- a phony name isn't looked up among the pattern rules
abbrev pub found_for : List Rule → List Rule → Table → List ℕ → List ℕ → Option Found
found_for rules patterns tree cwd name = if is_phony rules name then None else found rules patterns tree cwd name

-- ---- all units of a name

abbrev pub unit_by : (List ℕ → Bool) → List Rule → List Rule → Table → List ℕ → List ℕ → Option ℕ → Making
unit_by known rules patterns tree cwd name (Some k) = ruled_unit known rules name k
unit_by known rules patterns tree cwd name None = unruled_unit known rules patterns name (found_for rules patterns tree cwd name)

abbrev pub unit_of : (List ℕ → Bool) → List Rule → List Rule → Table → List ℕ → List ℕ → Making
unit_of known rules patterns tree cwd name = unit_by known rules patterns tree cwd name (recipe_rule rules name)

abbrev pub making_of : List Rule → List Rule → Table → List ℕ → (List ℕ → Bool) → List ℕ → List Making
making_of rules patterns tree cwd known name = if is_double rules name then map (double_unit rules name) (numbers_of rules name) else unit_of known rules patterns tree cwd name ∷ []
