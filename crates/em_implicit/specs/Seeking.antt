-- The search for a pattern rule, as questions: the target patterns that match, the shorter stem
-- first and then the earlier one, up to the first whose rule applies. A name that is mentioned, or
-- is no path, isn't asked; of a rule's prerequisites, the normal ones before the order-only ones,
-- none behind the first that is absent is asked.
--     matches patterns target      the target patterns that match, rule by rule
--     by_stem cs                   the same, the shorter stem first
--     seen c                       a match that is held beside its rule
--     seeking rules patterns cwd target      the rule that is chosen
use Rattle.std.specs.Prelude.{ℕ, ◌+◌, nat_lt, Bool, true, false, List, [], ◌∷◌, ◌++◌, length, fold, Option, Some, None, is_some, if◌then◌else◌}
use Rattle.em_path.specs.declared.path.PathNo.{PathNo}
use Rattle.em_path.specs.Reading.{read_fault, resolved_text}
use Rattle.em_tree.specs.Trees.{Table}
use Rattle.em_tree.specs.Resolving.{node_behind}
use Rattle.em_rules.specs.declared.rule.Rule.{Rule}
use Rattle.em_rules.specs.Rules.{is_mentioned}
use Rattle.em_implicit.specs.declared.seek.Found.{Found}
use Rattle.em_implicit.specs.declared.candidates.Candidate.{Candidate as Held}
use Rattle.em_implicit.specs.Matches.{match_of, normal_of, order_of}
use Rattle.em_implicit.specs.Implicit.{whole_stem}
use Rattle.em_implicit.specs.Asking.{Asking, Had, Ask, and_then}

-- something stands at the path, behind the links on its way
abbrev pub stands : Table → List ℕ → Bool
stands tree p = is_some (node_behind tree p)

-- ---- what matches

pub record Candidate : Type 0 where
  pub found : Found
  pub normal : List (List ℕ)
  pub order : List (List ℕ)

abbrev pub seen : Held → Candidate
seen c = record {
  found = c.found;
  normal = normal_of c.rule.now (Some (c.parts.dir.now, c.parts.stem.now));
  order = order_of c.rule.now (Some (c.parts.dir.now, c.parts.stem.now));
}

abbrev pub candidate_by : ℕ → ℕ → Rule → Option (List ℕ × List ℕ) → List Candidate
candidate_by i k r None = []
candidate_by i k r (Some m) = record {
  found = record { rule = i; pattern = k; stem = whole_stem m };
  normal = normal_of r (Some m);
  order = order_of r (Some m);
} ∷ []

-- those of a rule's target patterns from number k on
abbrev pub matches_of : ℕ → List ℕ → ℕ → Rule → List (List ℕ) → List Candidate
matches_of k target i r [] = []
matches_of k target i r (pattern ∷ rest) = candidate_by i k r (match_of pattern target) ++ matches_of (k + 1) target i r rest

abbrev pub matches_from : ℕ → List Rule → List ℕ → List Candidate
matches_from i [] target = []
matches_from i (r ∷ patterns) target = matches_of 0 target i r r.targets ++ matches_from (i + 1) patterns target

abbrev pub matches : List Rule → List ℕ → List Candidate
matches patterns target = matches_from 0 patterns target

-- behind those that are as short
abbrev pub put : {X : Type 0} → (X → ℕ) → List X → X → List X
put size [] x = x ∷ []
put size (y ∷ ys) x = if nat_lt (size x) (size y) then x ∷ y ∷ ys else y ∷ put size ys x

abbrev pub sorted : {X : Type 0} → (X → ℕ) → List X → List X
sorted size xs = fold (put size) [] xs

abbrev pub stem_size : Candidate → ℕ
stem_size c = length c.found.stem

abbrev pub by_stem : List Candidate → List Candidate
by_stem cs = sorted stem_size cs

-- ---- what is asked

abbrev pub path_by : Option PathNo → List ℕ → Option (List ℕ)
path_by None p = Some p
path_by (Some fault) p = None

-- the path that a name is, read against the working directory
abbrev pub path_of : List ℕ → List ℕ → Option (List ℕ)
path_of cwd name = path_by (read_fault cwd name) (resolved_text cwd name)

abbrev pub path_there : Option (List ℕ) → Asking Bool
path_there None = Had false
path_there (Some p) = Ask p Had

module _ (rules : List Rule) (cwd : List ℕ) where
  abbrev pub name_there : List ℕ → Asking Bool
  name_there name = if is_mentioned rules name then Had true else path_there (path_of cwd name)

  abbrev pub if_there : Asking Bool → Bool → Asking Bool
  if_there rest true = rest
  if_there rest false = Had false

  abbrev pub all_there : List (List ℕ) → Asking Bool
  all_there [] = Had true
  all_there (name ∷ names) = and_then (name_there name) (if_there (all_there names))

  abbrev pub applying : Candidate → Asking Bool
  applying c = and_then (all_there c.normal) (if_there (all_there c.order))

  abbrev pub or_next : Candidate → Asking (Option Found) → Bool → Asking (Option Found)
  or_next c rest true = Had (Some c.found)
  or_next c rest false = rest

  abbrev pub seek : List Candidate → Asking (Option Found)
  seek [] = Had None
  seek (c ∷ cs) = and_then (applying c) (or_next c (seek cs))

abbrev pub seeking : List Rule → List Rule → List ℕ → List ℕ → Asking (Option Found)
seeking rules patterns cwd target = seek rules cwd (by_stem (matches patterns target))
