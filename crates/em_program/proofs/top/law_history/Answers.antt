use Rattle.em_program.proofs.Untouched.{firsts, followings, moves}
use Rattle.em_program.proofs.top.law_history.Goals as goal

pub returns-clause-first : goal.returns-clause-first
returns-clause-first c = firsts

pub returns-clause-following : goal.returns-clause-following
returns-clause-following c = followings

pub returns-clause-moved : goal.returns-clause-moved
returns-clause-moved c = moves
