use Rattle.em_laws.proofs.Lining.{grep_last_passed, grep_last_taken, grep_none, grep_passed, grep_taken}
use Rattle.em_laws.proofs.texts.law_grep.Goals as goal

pub returns-clause-none : goal.returns-clause-none
returns-clause-none c = grep_none

pub returns-clause-taken : goal.returns-clause-taken
returns-clause-taken c = grep_taken

pub returns-clause-passed : goal.returns-clause-passed
returns-clause-passed c = grep_passed

pub returns-clause-last_taken : goal.returns-clause-last_taken
returns-clause-last_taken c = grep_last_taken

pub returns-clause-last_passed : goal.returns-clause-last_passed
returns-clause-last_passed c = grep_last_passed
