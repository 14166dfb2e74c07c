-- Rules by their kinds.
--     is_double rules n      a double-colon rule is for n;  is_single: one of another kind
--     each_once names        the names, each where it first stands
--     members rules i r      those of the targets of rule r, whose number is i, that have their recipe from it
--     normal_for r t, order_for r t      the prerequisites that a rule gives one of its targets
use Rattle.std.specs.Prelude.{ℕ, ◌+◌, ◌*◌, ◌/◌, ◌==◌, ◌&&◌, not, Bool, true, false, List, [], ◌∷◌, ◌++◌, length, filter, fold, take, drop, slice_get, Option, Some, None, is_some, if◌then◌else◌}
use Rattle.std.specs.List.{list_any}
use Rattle.std.specs.Str.{bytes_eq}
use Rattle.em_rules.specs.declared.rule.Rule.{Rule}
use Rattle.em_rules.specs.declared.rule.RuleKind.{RuleKind}
use Rattle.em_rules.specs.declared.rule.RuleKind.TheVariants.{Grouped, Double}
use Rattle.em_rules.specs.Rules.{is_in, has_target, recipe_rule}

abbrev pub is_double_kind : RuleKind → Bool
is_double_kind Double = true
is_double_kind _ = false

abbrev pub is_grouped_kind : RuleKind → Bool
is_grouped_kind Grouped = true
is_grouped_kind _ = false

-- ---- the kinds of the rules for a name

abbrev pub is_double : List Rule → List ℕ → Bool
is_double rules name = list_any (λ r. has_target r name && is_double_kind r.kind) rules

abbrev pub is_single : List Rule → List ℕ → Bool
is_single rules name = list_any (λ r. has_target r name && not (is_double_kind r.kind)) rules

-- ---- the members of a group

-- the names, and behind them the target, unless it is among them
abbrev pub once_more : List (List ℕ) → List ℕ → List (List ℕ)
once_more names target = if is_in names target then names else names ++ target ∷ []

abbrev pub each_once : List (List ℕ) → List (List ℕ)
each_once names = fold once_more [] names

abbrev pub is_number : ℕ → Option ℕ → Bool
is_number i None = false
is_number i (Some j) = i == j

-- the name has its recipe from the rule of this number
abbrev pub is_made_by : List Rule → ℕ → List ℕ → Bool
is_made_by rules i name = is_number i (recipe_rule rules name)

-- a later rule with a recipe takes its targets out
abbrev pub members : List Rule → ℕ → Rule → List (List ℕ)
members rules i r = filter (is_made_by rules i) (each_once r.targets)

abbrev pub members_by : List Rule → ℕ → Option Rule → List (List ℕ)
members_by rules i None = []
members_by rules i (Some r) = members rules i r

abbrev pub members_at : List Rule → ℕ → List (List ℕ)
members_at rules i = members_by rules i (slice_get rules i)

-- ---- the prerequisites of one of its targets

-- where a name stands; behind all where it is none of them
abbrev pub place_from : ℕ → List (List ℕ) → List ℕ → ℕ
place_from i [] name = i
place_from i (t ∷ ts) name = if bytes_eq t name then i else place_from (i + 1) ts name

-- the i-th of n equal parts
abbrev pub part : ℕ → ℕ → List (List ℕ) → List (List ℕ)
part n i names = take (length names / n) (drop (i * (length names / n)) names)

-- a grouped static pattern rule of a book has those of its targets in a row
abbrev pub own_part : Rule → List (List ℕ) → List ℕ → List (List ℕ)
own_part r names t = if is_grouped_kind r.kind && is_some r.form then part (length r.targets) (place_from 0 r.targets t) names else names

abbrev pub normal_for : Rule → List ℕ → List (List ℕ)
normal_for r t = own_part r r.normal t

abbrev pub order_for : Rule → List ℕ → List (List ℕ)
order_for r t = own_part r r.order t
