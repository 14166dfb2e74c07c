-- What rules say of names.
--     is_in names n              n is one of the names
--     numbers_of rules n         the numbers of the rules for n, those whose targets hold it, in order
--     recipe_rule rules n        the number of the last rule for n with a recipe
--     is_mentioned rules n       n is a target or a prerequisite of a rule
--     prerequisites_of rules n   the prerequisites of the rules for n, in order
--     is_phony rules n           n is a prerequisite of `.PHONY`
--     special rules              what the special targets say
use Rattle.std.specs.Prelude.{ℕ, ◌+◌, ◌==◌, ◌&&◌, ◌||◌, Bool, List, [], ◌∷◌, ◌++◌, length, codes, slice_get, Option, Some, None, is_some, if◌then◌else◌}
use Rattle.std.specs.Option.{option_or}
use Rattle.std.specs.List.{list_any, flat_map}
use Rattle.std.specs.Str.{bytes_eq}
use Rattle.em_rules.specs.declared.rule.Rule.{Rule}
use Rattle.em_rules.specs.declared.special.Names.{Names}
use Rattle.em_rules.specs.declared.special.Names.TheVariants.{All, Listed}
use Rattle.em_rules.specs.declared.special.Special.{Special}

abbrev pub is_in : List (List ℕ) → List ℕ → Bool
is_in names name = list_any (λ n. bytes_eq n name) names

abbrev pub has_target : Rule → List ℕ → Bool
has_target r name = is_in r.targets name

abbrev pub needs : Rule → List ℕ → Bool
needs r name = is_in r.normal name || is_in r.order name

abbrev pub mentions : Rule → List ℕ → Bool
mentions r name = has_target r name || needs r name

-- ---- the rules for a name

abbrev pub numbers_from : ℕ → List Rule → List ℕ → List ℕ
numbers_from i [] name = []
numbers_from i (r ∷ rules) name = if has_target r name then i ∷ numbers_from (i + 1) rules name else numbers_from (i + 1) rules name

abbrev pub numbers_of : List Rule → List ℕ → List ℕ
numbers_of rules name = numbers_from 0 rules name

abbrev pub recipe_from : ℕ → List Rule → List ℕ → Option ℕ
recipe_from i [] name = None
recipe_from i (r ∷ rules) name = option_or (recipe_from (i + 1) rules name) (if has_target r name && is_some r.recipe then Some i else None)

abbrev pub recipe_rule : List Rule → List ℕ → Option ℕ
recipe_rule rules name = recipe_from 0 rules name

abbrev pub is_mentioned : List Rule → List ℕ → Bool
is_mentioned rules name = list_any (λ r. mentions r name) rules

-- each rule's normal ones before its order-only ones
abbrev pub prerequisites_by : Option Rule → List (List ℕ)
prerequisites_by None = []
prerequisites_by (Some r) = r.normal ++ r.order

abbrev pub prerequisites_at : List Rule → ℕ → List (List ℕ)
prerequisites_at rules i = prerequisites_by (slice_get rules i)

-- those of the rules for a name, in order
abbrev pub prerequisites_of : List Rule → List ℕ → List (List ℕ)
prerequisites_of rules name = flat_map (prerequisites_at rules) (numbers_of rules name)

-- ---- special targets

abbrev pub is_target : List Rule → List ℕ → Bool
is_target rules name = list_any (λ r. has_target r name) rules

abbrev pub is_phony : List Rule → List ℕ → Bool
is_phony rules name = list_any (λ r. has_target r (codes ".PHONY") && needs r name) rules

-- a special target without prerequisites speaks of all names
abbrev pub covered : List Rule → List ℕ → Names
covered rules name = if is_target rules name && (length (prerequisites_of rules name) == 0) then All else Listed (prerequisites_of rules name)

abbrev pub special : List Rule → Special
special rules = record {
  phony = prerequisites_of rules (codes ".PHONY");
  silent = covered rules (codes ".SILENT");
  ignore = covered rules (codes ".IGNORE");
  delete_on_error = is_target rules (codes ".DELETE_ON_ERROR");
}
