use Rattle.em_laws.proofs.Printing.{format_again, format_no_number, format_no_word, format_once}
use Rattle.em_laws.proofs.formats.law_again.Goals as goal

pub returns-clause-again : goal.returns-clause-again
returns-clause-again c = format_again

pub returns-clause-once : goal.returns-clause-once
returns-clause-once c = format_once

pub returns-clause-no_word : goal.returns-clause-no_word
returns-clause-no_word c = format_no_word

pub returns-clause-no_number : goal.returns-clause-no_number
returns-clause-no_number c = format_no_number
