use Rattle.std.proofs.Common.{sym, subst, List, ℕ}
use Rattle.std.specs.FinMap.{from_entries}
use Rattle.em_tree.proofs.Maps.{order}
use Rattle.em_chain.specs.declared.lines.PathChain.{PathChain}
use Rattle.em_chain.specs.Lines.{IsLines}
use Rattle.em_chain.proofs.Lining.{IsLines-empty}
use Rattle.em_chain.proofs.lines.PathChains.new.Goals as goal

pub invariant_of-result : goal.invariant_of-result
invariant_of-result c = (c.new.ensures.ordered, subst (λ (es : List (List ℕ × PathChain)). IsLines c.new-2.result (from_entries {R = order} es)) (sym c.new.ensures.empty) (IsLines-empty c.new-2.result c.new-2.ensures.empty))
