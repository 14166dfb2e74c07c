use Rattle.std.proofs.Common.{sym, ◌∙◌}
use Rattle.em_program.proofs.words.ordered.Goals as goal

pub returns-in-Some-clause-told : goal.returns-in-Some-clause-told
returns-in-Some-clause-told g c = rw (sym c.page_in.ensures ∙ c.in-Some.is) (rw c.text.ensures at c.stop.ensures.told)

pub returns-in-None-clause-told : goal.returns-in-None-clause-told
returns-in-None-clause-told g c = rw (sym c.page_in.ensures ∙ c.in-None.is) c.read.ensures.told
