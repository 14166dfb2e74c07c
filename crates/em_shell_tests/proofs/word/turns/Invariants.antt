use Rattle.em_word.specs.Held.{IsReady}
use Rattle.em_shell_tests.proofs.word.turns.Given as goal

abbrev pub invariant-loop : goal.invariant-loop
invariant-loop g l = IsReady l.expander
