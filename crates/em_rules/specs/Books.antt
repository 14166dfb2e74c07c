-- What one more rule makes of a book.
--     line_fault rules r   why the rule can't be added, as its line tells
--     fault_of rules r     why it can't be added, once it is whole
--     added b r            the book with it
use Rattle.std.specs.Prelude.{ℕ, ◌&&◌, Bool, false, not, List, [], ◌∷◌, ◌++◌, find, slice_get, Option, Some, None, is_none, is_some, option_map, Result, Ok, Err, if◌then◌else◌}
use Rattle.std.specs.Option.{option_or}
use Rattle.std.specs.List.{filter}
use Rattle.std.specs.Str.{bytes_eq}
use Rattle.std.specs.Cmp.Lexicographic.{pointwise}
use Rattle.em_rules.specs.declared.rule.Rule.{Rule}
use Rattle.em_rules.specs.declared.rule.RuleKind.{RuleKind}
use Rattle.em_rules.specs.declared.rule.RuleKind.TheVariants as kind
use Rattle.em_rules.specs.declared.book.Book.{Book}
use Rattle.em_rules.specs.declared.book.BookNo.{BookNo}
use Rattle.em_rules.specs.declared.book.BookNo.TheVariants.{Static, Group, Mixed}
use Rattle.em_rules.specs.Groups.{is_double, is_single, is_grouped_kind}
use Rattle.em_rules.specs.Static.{undotted_rule, unmatched, explicit}

-- a rule for the name has a colon of the other kind
abbrev pub has_other : RuleKind → List Rule → List ℕ → Bool
has_other kind.Double rules name = is_single rules name
has_other _ rules name = is_double rules name

-- the first target that has both kinds of rules; patterns are no names
abbrev pub mixed : List Rule → Rule → Option (List ℕ)
mixed rules r = if r.pattern then None else find (has_other r.kind rules) r.targets

abbrev pub line_fault_in : List Rule → Rule → Option BookNo
line_fault_in rules r = option_or (option_map Static (unmatched r)) (option_map Mixed (mixed rules r))

abbrev pub line_fault : List Rule → Rule → Option BookNo
line_fault rules r = line_fault_in rules (undotted_rule r)

-- a grouped rule without a recipe, by its first target, if there is one
abbrev pub group_fault : Rule → Option BookNo
group_fault r = if is_grouped_kind r.kind && is_none r.recipe then option_map Group (slice_get r.targets 0) else None

abbrev pub fault_of : List Rule → Rule → Option BookNo
fault_of rules r = option_or (line_fault rules r) (group_fault (undotted_rule r))

-- the rule, unless it has this fault
abbrev pub unless : Option BookNo → Rule → Result Rule BookNo
unless None r = Ok r
unless (Some e) r = Err e

abbrev pub new_book : Book
new_book = record { rules = []; patterns = []; vars = []; default_goal = None; found = false }

-- the same targets and prerequisites
abbrev pub is_alike : Rule → Rule → Bool
is_alike p r = pointwise bytes_eq p.targets r.targets && pointwise bytes_eq p.normal r.normal && pointwise bytes_eq p.order r.order

-- a pattern rule without a recipe takes out those that are alike
abbrev pub with_pattern : List Rule → Rule → List Rule
with_pattern patterns r = if is_some r.recipe then patterns ++ r ∷ [] else filter (λ p. not (is_alike p r)) patterns

abbrev pub with_rule : Book → Rule → Book
with_rule b r = if r.pattern then record b { patterns = with_pattern b.patterns r } else record b { rules = b.rules ++ explicit r }

abbrev pub added : Book → Rule → Book
added b r = with_rule b (undotted_rule r)
