use Rattle.std.proofs.Common.{◌∙◌, sym}
use Rattle.em_view.proofs.Doing.{then_s, leave_s, owned_s}
use Rattle.em_exec.proofs.Ending.{jumped_s, free_end}
use Rattle.em_exec.proofs.parts.pass_on.Goals as goal

pub returns-in_err-hand-clause-does : goal.returns-in_err-hand-clause-does
returns-in_err-hand-clause-does g c = rw (sym c.has_no_end.ensures ∙ c.if-has_no_end.true) (leave_s _ c.from_residual.ensures.1 (owned_s _ c.in_err-hand.ensures))

pub returns-then-has_no_end-clause-does : goal.returns-then-has_no_end-clause-does
returns-then-has_no_end-clause-does g c = rw (sym c.has_no_end.ensures ∙ c.if-has_no_end.true) (then_s _ (owned_s _ c.in_ok-hand.ensures) (jumped_s _))

pub returns-in_err-deliver-clause-does : goal.returns-in_err-deliver-clause-does
returns-in_err-deliver-clause-does g c = rw (sym c.has_no_end.ensures ∙ c.if-has_no_end.false) (leave_s _ c.from_residual-in_err-deliver.ensures.1 c.in_err-deliver.ensures)

pub returns-in_err-deliver-clause-kept : goal.returns-in_err-deliver-clause-kept
returns-in_err-deliver-clause-kept g c = λ n. free_end _ (sym c.has_no_end.ensures ∙ c.if-has_no_end.false)

pub returns-clause-does : goal.returns-clause-does
returns-clause-does g c = rw (sym c.has_no_end.ensures ∙ c.if-has_no_end.false) (then_s _ c.in_ok-deliver.ensures (jumped_s _))
