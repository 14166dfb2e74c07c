use Rattle.em_laws.proofs.Shortening.{dir_below, dir_empty, dir_plain_name, dir_root, dir_top}
use Rattle.em_laws.proofs.paths.law_dirname.Goals as goal

pub returns-clause-below : goal.returns-clause-below
returns-clause-below c = dir_below

pub returns-clause-top : goal.returns-clause-top
returns-clause-top c = dir_top

pub returns-clause-plain : goal.returns-clause-plain
returns-clause-plain c = dir_plain_name

pub returns-clause-root : goal.returns-clause-root
returns-clause-root c = dir_root

pub returns-clause-empty : goal.returns-clause-empty
returns-clause-empty c = dir_empty
