use Rattle.std.proofs.Common.{◌≡◌, ℕ, List, drop, is_some}
use Rattle.std.specs.FinMap.{get}
use Rattle.em_plan.specs.Once.{is_among}
use Rattle.em_plan.specs.Once.{each_once}
use Rattle.em_remake.proofs.once.add_all.Given as goal

abbrev pub invariant-loop-name : goal.invariant-loop-name
invariant-loop-name l = record {
  there : (q : List ℕ) → is_some (get l.there q) ≡ is_among l.names q;
  end : each_once l.names (drop l.name-index l.more) ≡ each_once l.fn.names l.more;
}
