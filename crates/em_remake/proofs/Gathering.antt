-- Names are gathered from one list after another.
use Rattle.std.proofs.Common.{◌≡◌, refl, ℕ, List, [], ◌∷◌, ◌++◌}
use Rattle.em_rules.specs.Dots.{undotted}
use Rattle.em_plan.specs.Once.{each_once, once_more}

pub each_once_append : (names xs ys : List (List ℕ)) → each_once names (xs ++ ys) ≡ each_once (each_once names xs) ys
each_once_append names [] ys = refl
each_once_append names (x ∷ xs) ys = each_once_append (once_more names (undotted x)) xs ys
