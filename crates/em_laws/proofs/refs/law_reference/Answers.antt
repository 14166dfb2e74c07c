use Rattle.em_laws.proofs.Parting.{sign_first, letter_first, round_first, curly_first}
use Rattle.em_laws.proofs.refs.law_reference.Goals as goal

pub returns-clause-sign : goal.returns-clause-sign
returns-clause-sign c = sign_first

pub returns-clause-letter : goal.returns-clause-letter
returns-clause-letter c = letter_first

pub returns-clause-round : goal.returns-clause-round
returns-clause-round c = round_first

pub returns-clause-curly : goal.returns-clause-curly
returns-clause-curly c = curly_first
