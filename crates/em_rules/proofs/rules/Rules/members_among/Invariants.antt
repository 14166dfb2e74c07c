use Rattle.std.proofs.Common.{◌≡◌, ◌&&◌, ℕ, List, take}
use Rattle.std.specs.Prelude.{filter, is_some}
use Rattle.std.specs.FinMap.{get}
use Rattle.em_rules.specs.Rules.{is_in}
use Rattle.em_rules.specs.Groups.{is_made_by, each_once}
use Rattle.em_rules.proofs.rules.Rules.members_among.Given as goal

-- of the targets so far the table has the members
abbrev pub invariant-loop-target : goal.invariant-loop-target
invariant-loop-target l = record {
  told : (q : List ℕ) → is_some (get l.told q) ≡ (is_in (each_once (take l.target-index l.targets)) q && is_made_by l.self l.number q);
  members : l.members ≡ filter (is_made_by l.self l.number) (each_once (take l.target-index l.targets));
}
