use Rattle.em_laws.proofs.Printing.{number_alone, number_minus, number_plain, number_plus}
use Rattle.em_laws.proofs.formats.law_number.Goals as goal

pub returns-clause-plain : goal.returns-clause-plain
returns-clause-plain c = number_plain

pub returns-clause-plus : goal.returns-clause-plus
returns-clause-plus c = number_plus

pub returns-clause-minus : goal.returns-clause-minus
returns-clause-minus c = number_minus

pub returns-clause-alone : goal.returns-clause-alone
returns-clause-alone c = number_alone
