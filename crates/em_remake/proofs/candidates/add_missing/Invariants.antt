use Rattle.std.proofs.Common.{◌≡◌, ℕ, List, drop, is_some, map}
use Rattle.std.specs.FinMap.{get}
use Rattle.em_plan.specs.Once.{is_among}
use Rattle.em_plan.specs.Once.{each_once}
use Rattle.em_remake.proofs.candidates.add_missing.Given as goal

abbrev pub invariant-loop-file : goal.invariant-loop-file
invariant-loop-file l = record {
  there : (q : List ℕ) → is_some (get l.there q) ≡ is_among l.names q;
  end : each_once l.names (map (λ m. m.name) (drop l.file-index l.missing)) ≡ each_once l.fn.names (map (λ m. m.name) l.missing);
}
