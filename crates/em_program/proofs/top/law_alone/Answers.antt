use Rattle.std.proofs.Common.{[]}
use Rattle.em_program.proofs.Learning.{none_learnt, still}
use Rattle.em_program.proofs.top.law_alone.Goals as goal

pub returns-clause-none : goal.returns-clause-none
returns-clause-none c = λ jobs s made notes noted once. none_learnt jobs s [] made notes noted once

pub returns-clause-still : goal.returns-clause-still
returns-clause-still c = still c.law_united.ensures.history c.law_united.ensures.both c.law_united.ensures.collected c.law_one_history.ensures
