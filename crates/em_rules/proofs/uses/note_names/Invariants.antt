use Rattle.std.proofs.Common.{◌≡◌, ℕ, List, drop}
use Rattle.std.specs.FinMap.{get}
use Rattle.em_rules.specs.Rules.{is_in}
use Rattle.em_rules.specs.Index.{used}
use Rattle.em_rules.proofs.uses.note_names.Given as goal

-- what is noted, and what is left
abbrev pub invariant-loop-name : goal.invariant-loop-name
invariant-loop-name l = (q : List ℕ) → used (is_in (drop l.name-index l.names) q) l.new (get l.index q) ≡ used (is_in l.names q) l.new (get l.fn.index q)
