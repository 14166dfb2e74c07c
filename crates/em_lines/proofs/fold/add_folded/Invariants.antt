use Rattle.std.proofs.Common.{◌≡◌, ◌∷◌, ◌++◌, length, option_copied}
use Rattle.em_lines.specs.First.{rows_in}
use Rattle.em_lines.specs.Folding.{folded, folded_rows}
use Rattle.em_lines.proofs.fold.add_folded.Given as goal

-- what is put, and what comes of the rows that are joined and of those that are left
abbrev pub invariant-loop-rest : goal.invariant-loop-rest
invariant-loop-rest l = l.fn.text ++ folded l.fn.bytes ≡ l.text ++ folded_rows (l.joined.items ∷ rows_in (option_copied l.rest))

abbrev pub decreases-loop-rest : goal.decreases-loop-rest
decreases-loop-rest l = length (rows_in (option_copied l.rest))
