use Rattle.std.proofs.Common.{◌≡◌, List, ℕ, true}
use Rattle.std.specs.Prelude.{IsSome}
use Rattle.std.specs.Ordering.{nat_cmp}
use Rattle.std.specs.FinMap.{find}
use Rattle.std.specs.Vec.Iter.{into_iter_items}
use Rattle.em_chain.specs.Lines.{chain_at}
use Rattle.em_chain.specs.Marks.{names, written}
use Rattle.em_chain.proofs.marks.write_all.Given as goal

abbrev pub invariant-loop-path : goal.invariant-loop-path
invariant-loop-path l = record {
  room : (q : List ℕ) → names (into_iter_items l.path-iterator) q ≡ true → IsSome (find nat_cmp l.job (chain_at l.lines q));
  done : (q : List ℕ) → written l.job q (into_iter_items l.path-iterator) (chain_at l.lines q) ≡ written l.job q l.fn.changes.items (chain_at l.initial.lines q);
}
