use Rattle.std.proofs.Common.{◌≡◌, ◌++◌, drop}
use Rattle.em_pathname.specs.Walking.{those_that_match}
use Rattle.em_pathname.proofs.names.those_that_match.Given as goal

-- with what the names left give behind those so far, it is what all give
abbrev pub invariant-loop-name : goal.invariant-loop-name
invariant-loop-name l = l.all ++ those_that_match l.cwd l.dir l.component (drop l.name-index l.names) ≡ those_that_match l.cwd l.dir l.component l.names
