use Rattle.em_laws.proofs.Testing.{bracket_ended, bracket_open}
use Rattle.em_laws.proofs.tested.law_bracket.Goals as goal

pub returns-clause-ended : goal.returns-clause-ended
returns-clause-ended c = bracket_ended

pub returns-clause-open : goal.returns-clause-open
returns-clause-open c = bracket_open
