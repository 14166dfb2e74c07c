use Rattle.em_laws.proofs.Naming.{dir_before, dir_here, file_behind, file_plain}
use Rattle.em_laws.proofs.names.law_slash.Goals as goal

pub returns-clause-file : goal.returns-clause-file
returns-clause-file c = file_behind

pub returns-clause-dir : goal.returns-clause-dir
returns-clause-dir c = dir_before

pub returns-clause-plain : goal.returns-clause-plain
returns-clause-plain c = file_plain

pub returns-clause-here : goal.returns-clause-here
returns-clause-here c = dir_here
