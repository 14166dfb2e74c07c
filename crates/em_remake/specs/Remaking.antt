-- Makefiles that are remade before anything else is made.
--     candidates r                       the files that were read, then those that aren't there, each where it first stands and without leading `./`
--     is_goal book tree cwd name         the name isn't phony, and a rule for it has a recipe or a pattern rule is found for it, and it isn't always
--                                        remade by a double-colon rule
--     goals_of r tree cwd                the candidates that are goals, in order
--     stamp_at tree cwd name             the stamp of what stands at the name, behind the links on its way
--     changed before after names cwd     a name has another stamp in the one tree than in the other
use Rattle.std.specs.Prelude.{ℕ, ◌&&◌, ◌||◌, ◌==◌, not, nat_eq, Bool, List, [], ◌++◌, length, map, Option, Some, None, is_some}
use Rattle.std.specs.List.{filter, list_any}
use Rattle.std.specs.Option.{option_eq}
use Rattle.em_path.specs.declared.path.PathNo.{PathNo}
use Rattle.em_path.specs.Reading.{read_fault, resolved_text}
use Rattle.em_tree.specs.Trees.{Table, stamp_of}
use Rattle.em_tree.specs.Resolving.{node_behind}
use Rattle.em_rules.specs.declared.book.Book.{Book}
use Rattle.em_rules.specs.declared.rule.Rule.{Rule}
use Rattle.em_rules.specs.Groups.{is_double, is_double_kind}
use Rattle.em_rules.specs.Rules.{has_target, recipe_rule, is_phony}
use Rattle.em_implicit.specs.Implicit.{found}
use Rattle.em_plan.specs.Once.{each_once}
use Rattle.em_reader.specs.declared.makefiles.Round.{Round}

abbrev pub candidates : Round → List (List ℕ)
candidates r = each_once [] (r.files ++ map (λ m. m.name) r.missing)

-- ---- which of them are goals

-- pattern rules make no name that has double-colon rules
abbrev pub is_found : Book → Table → List ℕ → List ℕ → Bool
is_found book tree cwd name = not (is_double book.rules name) && is_some (found book.rules book.patterns tree cwd name)

-- a recipe may be empty
abbrev pub has_way : Book → Table → List ℕ → List ℕ → Bool
has_way book tree cwd name = is_some (recipe_rule book.rules name) || is_found book tree cwd name

-- a double-colon rule for the name has a recipe and no prerequisites: it is always due, so that
-- rounds that make the name would come to no end
abbrev pub is_bare : Rule → List ℕ → Bool
is_bare r name = has_target r name && (is_double_kind r.kind && (is_some r.recipe && ((length r.normal == 0) && (length r.order == 0))))

abbrev pub is_endless : List Rule → List ℕ → Bool
is_endless rules name = list_any (λ r. is_bare r name) rules

abbrev pub is_goal : Book → Table → List ℕ → List ℕ → Bool
is_goal book tree cwd name = not (is_phony book.rules name) && (not (is_endless book.rules name) && has_way book tree cwd name)

abbrev pub goals_among : Book → Table → List ℕ → List (List ℕ) → List (List ℕ)
goals_among book tree cwd names = filter (is_goal book tree cwd) names

unfoldable pub goals_of : Round → Table → List ℕ → List (List ℕ)
goals_of r tree cwd = goals_among r.book tree cwd (candidates r)

-- ---- whether they were remade

-- a name that is no path has none
abbrev pub stamp_by : Option PathNo → Table → List ℕ → List ℕ → Option ℕ
stamp_by None tree cwd name = stamp_of (node_behind tree (resolved_text cwd name))
stamp_by (Some fault) tree cwd name = None

abbrev pub stamp_at : Table → List ℕ → List ℕ → Option ℕ
stamp_at tree cwd name = stamp_by (read_fault cwd name) tree cwd name

abbrev pub is_changed : Table → Table → List ℕ → List ℕ → Bool
is_changed before after cwd name = not (option_eq nat_eq (stamp_at before cwd name) (stamp_at after cwd name))

abbrev pub changed : Table → Table → List (List ℕ) → List ℕ → Bool
changed before after names cwd = list_any (is_changed before after cwd) names
