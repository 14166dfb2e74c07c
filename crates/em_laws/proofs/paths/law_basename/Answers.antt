use Rattle.em_laws.proofs.Shortening.{base_below, base_empty, base_plain_name, base_root, suffix_off, suffix_other, suffix_whole}
use Rattle.em_laws.proofs.paths.law_basename.Goals as goal

pub returns-clause-below : goal.returns-clause-below
returns-clause-below c = base_below

pub returns-clause-plain : goal.returns-clause-plain
returns-clause-plain c = base_plain_name

pub returns-clause-root : goal.returns-clause-root
returns-clause-root c = base_root

pub returns-clause-empty : goal.returns-clause-empty
returns-clause-empty c = base_empty

pub returns-clause-suffix : goal.returns-clause-suffix
returns-clause-suffix c = suffix_off

pub returns-clause-whole : goal.returns-clause-whole
returns-clause-whole c = suffix_whole

pub returns-clause-other : goal.returns-clause-other
returns-clause-other c = suffix_other
