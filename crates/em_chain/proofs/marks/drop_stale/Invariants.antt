use Rattle.std.proofs.Common.{◌≡◌, List, ℕ}
use Rattle.std.specs.Prelude.{option_copied}
use Rattle.std.specs.FinMap.{entries}
use Rattle.em_chain.specs.Lines.{chain_at}
use Rattle.em_chain.specs.Marks.{dropped}
use Rattle.em_chain.proofs.marks.drop_stale.Given as goal

abbrev pub invariant-loop-path : goal.invariant-loop-path
invariant-loop-path l = (q : List ℕ) → dropped l.job (option_copied l.keep) q l.path-iterator (chain_at l.lines q) ≡ dropped l.job (option_copied l.keep) q (entries l.d) (chain_at l.initial.lines q)
