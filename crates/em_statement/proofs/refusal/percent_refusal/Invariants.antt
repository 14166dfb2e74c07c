use Rattle.std.proofs.Common.{◌≡◌, drop}
use Rattle.em_statement.specs.Heads.{percent_refusal}
use Rattle.em_statement.proofs.refusal.percent_refusal.Given as goal

abbrev pub invariant-loop-at : goal.invariant-loop-at
invariant-loop-at l = percent_refusal l.mixed l.word ≡ percent_refusal l.mixed (drop l.at l.word)
