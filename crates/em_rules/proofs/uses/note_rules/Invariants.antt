use Rattle.std.proofs.Common.{◌≡◌, ◌+◌, ℕ, List, drop}
use Rattle.std.specs.FinMap.{get}
use Rattle.em_rules.specs.Index.{uses_from}
use Rattle.em_rules.proofs.uses.note_rules.Given as goal

-- what is noted, and what is left
abbrev pub invariant-loop-i : goal.invariant-loop-i
invariant-loop-i l = (q : List ℕ) → uses_from (l.first + l.i) (drop l.i l.rules) q (get l.index q) ≡ uses_from l.first l.rules q (get l.fn.index q)
