use Rattle.std.proofs.Common.{◌≡◌, List, ℕ, true}
use Rattle.std.specs.Prelude.{IsSome}
use Rattle.std.specs.Ordering.{nat_cmp}
use Rattle.std.specs.FinMap.{entries, find}
use Rattle.em_chain.specs.Lines.{chain_at}
use Rattle.em_chain.specs.Marks.{names, cut_at}
use Rattle.em_chain.proofs.marks.cut_all.Given as goal

abbrev pub invariant-loop-path : goal.invariant-loop-path
invariant-loop-path l = record {
  room : (q : List ℕ) → names l.path-iterator q ≡ true → IsSome (find nat_cmp l.job (chain_at l.lines q));
  done : (q : List ℕ) → cut_at l.job q l.path-iterator (chain_at l.lines q) ≡ cut_at l.job q (entries l.d) (chain_at l.initial.lines q);
}
