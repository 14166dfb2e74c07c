-- The pattern rule that is chosen for a target.
--     exists tree cwd name                  something stands at the name, behind the links on its way
--     applies rules tree cwd r m            each prerequisite that the rule makes for the match exists or is mentioned
--     candidates rules patterns tree cwd target      the matches with which the pattern rules apply: rule by rule, target pattern by target pattern
--     shortest fs                           the one with the shortest stem, the first of equal ones
--     found rules patterns tree cwd target  the one that is chosen
--     offered rules patterns tree cwd target j k     the stem with which the pattern rule of number j matches by its target pattern of number k and applies
use Rattle.std.specs.Prelude.{ℕ, ◌+◌, ◌&&◌, ◌||◌, nat_lt, Bool, true, false, List, [], ◌∷◌, ◌++◌, length, fold, slice_get, Option, Some, None, is_some, option_map, if◌then◌else◌}
use Rattle.std.specs.List.{list_all}
use Rattle.em_path.specs.declared.path.PathNo.{PathNo}
use Rattle.em_path.specs.Reading.{read_fault, resolved_text}
use Rattle.em_tree.specs.Trees.{Table}
use Rattle.em_tree.specs.Resolving.{node_behind}
use Rattle.em_rules.specs.declared.rule.Rule.{Rule}
use Rattle.em_rules.specs.Rules.{is_mentioned}
use Rattle.em_implicit.specs.declared.seek.Found.{Found}
use Rattle.em_implicit.specs.Matches.{match_of, match_at, normal_of, order_of}

-- a name that is no path is absent
abbrev pub exists_by : Option PathNo → Table → List ℕ → List ℕ → Bool
exists_by None tree cwd name = is_some (node_behind tree (resolved_text cwd name))
exists_by (Some fault) tree cwd name = false

abbrev pub exists : Table → List ℕ → List ℕ → Bool
exists tree cwd name = exists_by (read_fault cwd name) tree cwd name

-- it is mentioned as a target or as an explicit prerequisite, or exists
abbrev pub is_there : List Rule → Table → List ℕ → List ℕ → Bool
is_there rules tree cwd name = is_mentioned rules name || exists tree cwd name

abbrev pub applies : List Rule → Table → List ℕ → Rule → Option (List ℕ × List ℕ) → Bool
applies rules tree cwd r m = list_all (is_there rules tree cwd) (normal_of r m) && list_all (is_there rules tree cwd) (order_of r m)

abbrev pub whole_stem : List ℕ × List ℕ → List ℕ
whole_stem m = m.0 ++ m.1

-- the stem begins with the directory
abbrev pub candidate_by : Bool → ℕ → ℕ → Option (List ℕ × List ℕ) → List Found
candidate_by applies i k None = []
candidate_by applies i k (Some m) = if applies then record { rule = i; pattern = k; stem = whole_stem m } ∷ [] else []

abbrev pub candidate : List Rule → Table → List ℕ → ℕ → Rule → ℕ → Option (List ℕ × List ℕ) → List Found
candidate rules tree cwd i r k m = candidate_by (applies rules tree cwd r m) i k m

-- those of a rule's target patterns from number k on
abbrev pub candidates_of : ℕ → List Rule → Table → List ℕ → List ℕ → ℕ → Rule → List (List ℕ) → List Found
candidates_of k rules tree cwd target i r [] = []
candidates_of k rules tree cwd target i r (pattern ∷ rest) = candidate rules tree cwd i r k (match_of pattern target) ++ candidates_of (k + 1) rules tree cwd target i r rest

abbrev pub candidates_from : ℕ → List Rule → List Rule → Table → List ℕ → List ℕ → List Found
candidates_from i rules [] tree cwd target = []
candidates_from i rules (r ∷ patterns) tree cwd target = candidates_of 0 rules tree cwd target i r r.targets ++ candidates_from (i + 1) rules patterns tree cwd target

abbrev pub candidates : List Rule → List Rule → Table → List ℕ → List ℕ → List Found
candidates rules patterns tree cwd target = candidates_from 0 rules patterns tree cwd target

abbrev pub beats : List ℕ → Option Found → Bool
beats stem None = true
beats stem (Some best) = nat_lt (length stem) (length best.stem)

-- the next one only where its stem is shorter
abbrev pub shorter : Option Found → Found → Option Found
shorter best next = if beats next.stem best then Some next else best

abbrev pub shortest : List Found → Option Found
shortest fs = fold shorter None fs

abbrev pub found : List Rule → List Rule → Table → List ℕ → List ℕ → Option Found
found rules patterns tree cwd target = shortest (candidates rules patterns tree cwd target)

-- ---- in the rule's words, for laws

abbrev pub offered_by : List Rule → Table → List ℕ → List ℕ → Option Rule → ℕ → Option (List ℕ)
offered_by rules tree cwd target None k = None
offered_by rules tree cwd target (Some r) k = if applies rules tree cwd r (match_at r k target) then option_map whole_stem (match_at r k target) else None

-- the stem with which the target pattern of number k matches, where the pattern rule of number j applies with it
abbrev pub offered : List Rule → List Rule → Table → List ℕ → List ℕ → ℕ → ℕ → Option (List ℕ)
offered rules patterns tree cwd target j k = offered_by rules tree cwd target (slice_get patterns j) k
