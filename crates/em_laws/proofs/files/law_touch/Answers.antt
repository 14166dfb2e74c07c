use Rattle.em_laws.proofs.Making.{touch_newest, touch_none}
use Rattle.em_laws.proofs.Leaving.{touch_new_law, touch_over_law}
use Rattle.em_laws.proofs.files.law_touch.Goals as goal

pub returns-clause-newest : goal.returns-clause-newest
returns-clause-newest c = touch_newest

pub returns-clause-none : goal.returns-clause-none
returns-clause-none c = touch_none

pub returns-clause-new : goal.returns-clause-new
returns-clause-new c = touch_new_law

pub returns-clause-over : goal.returns-clause-over
returns-clause-over c = touch_over_law
