use Rattle.em_laws.proofs.Parting.{round_open, curly_open}
use Rattle.em_laws.proofs.refs.law_unclosed.Goals as goal

pub returns-clause-round : goal.returns-clause-round
returns-clause-round c = round_open

pub returns-clause-curly : goal.returns-clause-curly
returns-clause-curly c = curly_open
