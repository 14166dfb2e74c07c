use Rattle.em_word.specs.Held.{plan_of, mode_of}
use Rattle.em_word.specs.Leads.{GoesOn, IsSame}
use Rattle.em_word.proofs.expander.Expander.go.Given as goal

abbrev pub invariant-loop : goal.invariant-loop
invariant-loop g l = GoesOn g.V.View.tells (mode_of l.initial.self) l.shell l.initial.desk l.desk (plan_of l.initial.self) l.self × IsSame l.initial.self l.self
