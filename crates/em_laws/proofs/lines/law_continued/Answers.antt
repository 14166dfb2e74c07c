use Rattle.em_laws.proofs.Joining.{continued, continued_end, continued_tab}
use Rattle.em_laws.proofs.lines.law_continued.Goals as goal

pub returns-clause-joined : goal.returns-clause-joined
returns-clause-joined c = continued

pub returns-clause-end : goal.returns-clause-end
returns-clause-end c = continued_end

pub returns-clause-tab : goal.returns-clause-tab
returns-clause-tab c = continued_tab
