use Rattle.em_view.proofs.Doing.{then_s, leave_s, finish_s, owned_s}
use Rattle.em_steps.specs.Laps.{try_line}
use Rattle.em_steps.proofs.laps.try_line.Goals as goal

pub returns-in_err-words-clause-does : goal.returns-in_err-words-clause-does
unfolding try_line
returns-in_err-words-clause-does g c = leave_s _ c.from_residual.ensures.1 c.in_err-words.ensures.does

pub returns-in_err-status-in-None-clause-does : goal.returns-in_err-status-in-None-clause-does
unfolding try_line
returns-in_err-status-in-None-clause-does g c = then_s _ c.in_ok-words.ensures.does (rw c.in-None.is (leave_s _ c.from_residual-in_err-status-in-None.ensures.1 c.in_err-status-in-None.ensures))

pub returns-in_ok-status-in-None-clause-does : goal.returns-in_ok-status-in-None-clause-does
unfolding try_line
returns-in_ok-status-in-None-clause-does g c = then_s _ c.in_ok-words.ensures.does (rw c.in-None.is (then_s _ c.in_ok-status-in-None.ensures finish_s))

pub returns-in-Some-Words-clause-does : goal.returns-in-Some-Words-clause-does
unfolding try_line
returns-in-Some-Words-clause-does g c = then_s _ c.in_ok-words.ensures.does (rw (c.in-Some-Words.is, c.in-Some-Words.field-0-is) c.by_order.ensures.does)

pub returns-in-Some-NoDir-clause-does : goal.returns-in-Some-NoDir-clause-does
unfolding try_line
returns-in-Some-NoDir-clause-does g c = then_s _ c.in_ok-words.ensures.does (rw (c.in-Some-NoDir.is, c.in-Some-NoDir.field-0-is) (owned_s _ (rw c.bytes.ensures at c.refuse_dir.ensures.works)))

pub returns-in-Some-Status-clause-does : goal.returns-in-Some-Status-clause-does
unfolding try_line
returns-in-Some-Status-clause-does g c = then_s _ c.in_ok-words.ensures.does (rw (c.in-Some-Status.is, c.in-Some-Status.field-0-is) finish_s)
