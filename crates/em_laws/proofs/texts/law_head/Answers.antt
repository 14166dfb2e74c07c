use Rattle.em_laws.proofs.Lining.{head_all, head_first}
use Rattle.em_laws.proofs.texts.law_head.Goals as goal

pub returns-clause-first : goal.returns-clause-first
returns-clause-first c = head_first

pub returns-clause-all : goal.returns-clause-all
returns-clause-all c = head_all
