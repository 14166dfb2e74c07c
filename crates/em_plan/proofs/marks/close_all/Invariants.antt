use Rattle.std.proofs.Common.{◌≡◌, ℕ, List, take}
use Rattle.std.specs.FinMap.{get}
use Rattle.em_plan.specs.Once.{is_among}
use Rattle.em_plan.specs.Resuming.{closing}
use Rattle.em_plan.proofs.marks.close_all.Given as goal

abbrev pub invariant-loop-name : goal.invariant-loop-name
invariant-loop-name l = (q : List ℕ) → get l.marks q ≡ closing l.number (is_among (take l.name-index l.names) q) (get l.initial.marks q)
