use Rattle.em_laws.proofs.Naming.{base_before, base_of_dir, base_plain, suffix_behind, suffix_of_dir, suffix_plain}
use Rattle.em_laws.proofs.names.law_dot.Goals as goal

pub returns-clause-suffix : goal.returns-clause-suffix
returns-clause-suffix c = suffix_behind

pub returns-clause-base : goal.returns-clause-base
returns-clause-base c = base_before

pub returns-clause-none : goal.returns-clause-none
returns-clause-none c = suffix_of_dir

pub returns-clause-whole : goal.returns-clause-whole
returns-clause-whole c = base_of_dir

pub returns-clause-plain_none : goal.returns-clause-plain_none
returns-clause-plain_none c = suffix_plain

pub returns-clause-plain_whole : goal.returns-clause-plain_whole
returns-clause-plain_whole c = base_plain
