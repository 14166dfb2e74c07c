use Rattle.em_laws.proofs.Lining.{tail_all, tail_last, tail_none, tail_open}
use Rattle.em_laws.proofs.texts.law_tail.Goals as goal

pub returns-clause-none : goal.returns-clause-none
returns-clause-none c = tail_none

pub returns-clause-last : goal.returns-clause-last
returns-clause-last c = tail_last

pub returns-clause-open : goal.returns-clause-open
returns-clause-open c = tail_open

pub returns-clause-all : goal.returns-clause-all
returns-clause-all c = tail_all
