-- Names as they are known, each once.
--     same n m              the bytes of one name are those of the other
--     is_among names n      n is one of the names
--     each_once names ns    names, and behind them those that aren't among them, each where it first stands
use Rattle.std.specs.Prelude.{ℕ, Bool, List, [], ◌∷◌, ◌++◌, if◌then◌else◌}
use Rattle.std.specs.List.{list_any}
use Rattle.std.specs.Ordering.{nat_cmp, eq_by_cmp}
use Rattle.std.specs.Cmp.Lexicographic.{slice_cmp}
use Rattle.em_rules.specs.Dots.{undotted}

abbrev pub same : List ℕ → List ℕ → Bool
same = eq_by_cmp (slice_cmp nat_cmp)

abbrev pub is_among : List (List ℕ) → List ℕ → Bool
is_among names n = list_any (same n) names

abbrev pub once_more : List (List ℕ) → List ℕ → List (List ℕ)
once_more names n = if is_among names n then names else names ++ n ∷ []

abbrev pub each_once : List (List ℕ) → List (List ℕ) → List (List ℕ)
each_once names [] = names
each_once names (n ∷ ns) = each_once (once_more names (undotted n)) ns
