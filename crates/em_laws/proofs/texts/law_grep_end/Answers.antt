use Rattle.em_laws.proofs.Ending.{grep_counted, grep_counted_each, grep_fault, grep_quiet, grep_some, grep_without}
use Rattle.em_laws.proofs.texts.law_grep_end.Goals as goal

pub returns-clause-some : goal.returns-clause-some
returns-clause-some c = grep_some

pub returns-clause-none : goal.returns-clause-none
returns-clause-none c = grep_without

pub returns-clause-fault : goal.returns-clause-fault
returns-clause-fault c = grep_fault

pub returns-clause-quiet : goal.returns-clause-quiet
returns-clause-quiet c = grep_quiet

pub returns-clause-counted : goal.returns-clause-counted
returns-clause-counted c = grep_counted

pub returns-clause-counted_each : goal.returns-clause-counted_each
returns-clause-counted_each c = grep_counted_each
