use Rattle.em_laws.proofs.Lining.{uniq_counted, uniq_first}
use Rattle.em_laws.proofs.texts.law_uniq.Goals as goal

pub returns-clause-first : goal.returns-clause-first
returns-clause-first c = uniq_first

pub returns-clause-counted : goal.returns-clause-counted
returns-clause-counted c = uniq_counted
