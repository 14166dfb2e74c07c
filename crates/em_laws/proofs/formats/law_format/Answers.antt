use Rattle.em_laws.proofs.Printing.{format_ends, format_refused, format_written}
use Rattle.em_laws.proofs.formats.law_format.Goals as goal

pub returns-clause-written : goal.returns-clause-written
returns-clause-written c = format_written

pub returns-clause-refused : goal.returns-clause-refused
returns-clause-refused c = format_refused

pub returns-clause-ends : goal.returns-clause-ends
returns-clause-ends c = format_ends
