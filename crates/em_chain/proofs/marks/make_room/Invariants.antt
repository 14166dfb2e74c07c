use Rattle.std.proofs.Common.{◌≡◌, List, ℕ, true, false, take}
use Rattle.std.specs.Prelude.{IsSome}
use Rattle.std.specs.Ordering.{nat_cmp}
use Rattle.std.specs.FinMap.{find}
use Rattle.em_chain.specs.Lines.{chain_at}
use Rattle.em_chain.specs.Marks.{names, Roomed}
use Rattle.em_chain.proofs.marks.make_room.Given as goal

abbrev pub invariant-loop-change : goal.invariant-loop-change
invariant-loop-change l = record {
  roomed : (q : List ℕ) → Roomed l.job (chain_at l.initial.lines q) (chain_at l.lines q);
  others : (q : List ℕ) → names l.changes q ≡ false → chain_at l.lines q ≡ chain_at l.initial.lines q;
  room : (q : List ℕ) → names (take l.change-index l.changes) q ≡ true → IsSome (find nat_cmp l.job (chain_at l.lines q));
}
