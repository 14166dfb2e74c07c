-- The numbers of one name's jobs.
use Rattle.std.specs.Prelude.{ℕ, List, [], ◌∷◌}
use Rattle.em_plan.specs.declared.numbers.NumberList.{NumberList}
use Rattle.em_plan.specs.declared.numbers.NumberList.TheVariants.{One, Many}

abbrev pub held_numbers : NumberList → List ℕ
held_numbers (One n) = n ∷ []
held_numbers (Many ns) = ns.items
