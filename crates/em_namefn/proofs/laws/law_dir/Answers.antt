use Rattle.em_namefn.proofs.Behind.{dir_joined, plain_file, plain_dir, none_behind}
use Rattle.em_namefn.proofs.laws.law_dir.Goals as goal

pub returns-clause-joined : goal.returns-clause-joined
returns-clause-joined c = dir_joined

pub returns-clause-plain : goal.returns-clause-plain
returns-clause-plain c = plain_file

pub returns-clause-here : goal.returns-clause-here
returns-clause-here c = plain_dir

pub returns-clause-file : goal.returns-clause-file
returns-clause-file c = none_behind 47
