use Rattle.em_laws.proofs.Commenting.{bare_curly, bare_end, bare_letter, bare_open_curly, bare_open_round, bare_round, bare_sign}
use Rattle.em_laws.proofs.comments.law_in_reference.Goals as goal

pub returns-clause-sign : goal.returns-clause-sign
returns-clause-sign c = bare_sign

pub returns-clause-letter : goal.returns-clause-letter
returns-clause-letter c = bare_letter

pub returns-clause-round : goal.returns-clause-round
returns-clause-round c = bare_round

pub returns-clause-curly : goal.returns-clause-curly
returns-clause-curly c = bare_curly

pub returns-clause-end : goal.returns-clause-end
returns-clause-end c = bare_end

pub returns-clause-open_round : goal.returns-clause-open_round
returns-clause-open_round c = bare_open_round

pub returns-clause-open_curly : goal.returns-clause-open_curly
returns-clause-open_curly c = bare_open_curly
