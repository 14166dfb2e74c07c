use Rattle.em_laws.proofs.Parting.{plain_first}
use Rattle.em_laws.proofs.refs.law_plain.Goals as goal

pub returns-clause-some : goal.returns-clause-some
returns-clause-some c = plain_first
