-- Static pattern rules: each target has prerequisites of its own, made from what it has for the `%`
-- of the target pattern.
--     stem_text pattern word     what the word has for the `%` of the pattern; nothing where it doesn't match
--     stem_in r target           that of a target of a static pattern rule; nothing in other rules
--     unmatched r                the first target that the target pattern doesn't match
--     explicit r                 the explicit rules that a rule comes to: one for each target of a static pattern rule, and
--                                of a double-colon rule; a grouped static pattern rule stays one, with the prerequisites of
--                                its targets in a row
use Rattle.std.specs.Prelude.{ℕ, List, [], ◌∷◌, map, find, Option, Some, None, is_none, is_some, option_map, if◌then◌else◌}
use Rattle.std.specs.List.{flat_map}
use Rattle.em_base.specs.declared.place.Span.{Span}
use Rattle.em_base.specs.Spans.{cut}
use Rattle.em_wordlist.specs.Stems.{stem_of, filled}
use Rattle.em_rules.specs.declared.rule.Rule.{Rule}
use Rattle.em_rules.specs.declared.rule.RuleKind.{RuleKind}
use Rattle.em_rules.specs.declared.rule.RuleKind.TheVariants.{Grouped, Double}
use Rattle.em_rules.specs.Dots.{undotted}

-- the rule with its names as they are known
abbrev pub undotted_rule : Rule → Rule
undotted_rule r = record r { targets = map undotted r.targets; form = option_map undotted r.form; normal = map undotted r.normal; order = map undotted r.order }

abbrev pub span_text : List ℕ → Option Span → List ℕ
span_text word None = []
span_text word (Some s) = cut word s

abbrev pub stem_text : List ℕ → List ℕ → List ℕ
stem_text pattern word = span_text word (stem_of pattern word)

abbrev pub stem_by : Option (List ℕ) → List ℕ → List ℕ
stem_by None target = []
stem_by (Some form) target = stem_text form target

abbrev pub stem_in : Rule → List ℕ → List ℕ
stem_in r target = stem_by r.form target

abbrev pub unmatched_by : Option (List ℕ) → List (List ℕ) → Option (List ℕ)
unmatched_by None targets = None
unmatched_by (Some form) targets = find (λ t. is_none (stem_of form t)) targets

abbrev pub unmatched : Rule → Option (List ℕ)
unmatched r = unmatched_by r.form r.targets

-- the names that the patterns are with this stem, as they are known
abbrev pub made : List ℕ → List (List ℕ) → List (List ℕ)
made stem patterns = map (λ p. undotted (filled p stem)) patterns

-- the rule of one of its targets
abbrev pub rule_for : Rule → List ℕ → Rule
rule_for r target = record r { targets = target ∷ []; normal = made (stem_in r target) r.normal; order = made (stem_in r target) r.order }

-- what each target makes of the patterns, in a row
abbrev pub in_row : Rule → List (List ℕ) → List (List ℕ)
in_row r patterns = flat_map (λ t. made (stem_in r t) patterns) r.targets

abbrev pub rule_for_all : Rule → Rule
rule_for_all r = record r { normal = in_row r r.normal; order = in_row r r.order }

abbrev pub explicit_static : RuleKind → Rule → List Rule
explicit_static Grouped r = rule_for_all r ∷ []
explicit_static _ r = map (rule_for r) r.targets

-- the same rule for one of its targets
abbrev pub alone : Rule → List ℕ → Rule
alone r target = record r { targets = target ∷ [] }

abbrev pub explicit_plain : RuleKind → Rule → List Rule
explicit_plain Double r = map (alone r) r.targets
explicit_plain _ r = r ∷ []

abbrev pub explicit : Rule → List Rule
explicit r = if is_some r.form then explicit_static r.kind r else explicit_plain r.kind r
