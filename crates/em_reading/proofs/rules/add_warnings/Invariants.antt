use Rattle.std.proofs.Common.{◌≡◌, ◌++◌, ◌&&◌, ℕ, List, take, is_some}
use Rattle.std.specs.List.{flat_map}
use Rattle.std.specs.FinMap.{get}
use Rattle.em_rules.specs.Rules.{is_in, recipe_rule}
use Rattle.em_rules.specs.Groups.{each_once}
use Rattle.em_reading.specs.Changes.{warning_for}
use Rattle.em_reading.proofs.rules.add_warnings.Given as goal

-- of the targets so far the table has those that were told of
abbrev pub invariant-loop-target : goal.invariant-loop-target
invariant-loop-target l = record {
  told : (q : List ℕ) → is_some (get l.told q) ≡ (is_in (each_once (take l.target-index l.targets)) q && is_some (recipe_rule l.book.rules q));
  said : l.text ≡ l.initial.text ++ flat_map (warning_for l.book l.place) (each_once (take l.target-index l.targets));
}
