use Rattle.std.specs.Prelude.{◌≡◌, find, drop}
use Rattle.em_program.specs.Rounds.{is_lacking}
use Rattle.em_program.proofs.rounds.first_lacking.Given as goal

abbrev pub invariant-loop-one : goal.invariant-loop-one
invariant-loop-one l = find (is_lacking l.tree l.cwd) (drop l.one-index l.missing) ≡ find (is_lacking l.tree l.cwd) l.missing
