use Rattle.std.proofs.Common.{refl, Ok}
use Rattle.em_view.proofs.Doing.{then_s, leave_s, out_s, owned_s}
use Rattle.em_reader.specs.Makefiles.{read_all}
use Rattle.em_reader.proofs.makefiles.read_all.Goals as goal

pub returns-in_err-makefile : goal.returns-in_err-makefile
unfolding read_all
returns-in_err-makefile g c = leave_s _ c.from_residual.ensures.1 c.in_err-makefile.ensures

pub returns-in_err-read_makefile : goal.returns-in_err-read_makefile
unfolding read_all
returns-in_err-read_makefile g c = then_s _ c.in_ok-makefile.ensures (leave_s _ c.from_residual-in_err-read_makefile.ensures.1 c.in_err-read_makefile.ensures)

pub returns-in_err-end_rule : goal.returns-in_err-end_rule
unfolding read_all
returns-in_err-end_rule g c = then_s _ c.in_ok-makefile.ensures (then_s _ c.in_ok-read_makefile.ensures (leave_s _ c.from_residual-in_err-end_rule.ensures.1 (owned_s _ c.in_err-end_rule.ensures)))

pub returns-in_err-end_conditionals : goal.returns-in_err-end_conditionals
unfolding read_all
returns-in_err-end_conditionals g c = then_s _ c.in_ok-makefile.ensures (then_s _ c.in_ok-read_makefile.ensures (then_s _ (owned_s {r = Ok tt} _ c.in_ok-end_rule.ensures) (leave_s _ c.from_residual-in_err-end_conditionals.ensures.1 (owned_s _ c.in_err-end_conditionals.ensures))))

pub returns-in_err-place : goal.returns-in_err-place
unfolding read_all
returns-in_err-place g c = then_s _ c.in_ok-makefile.ensures (then_s _ c.in_ok-read_makefile.ensures (then_s _ (owned_s {r = Ok tt} _ c.in_ok-end_rule.ensures) (then_s _ (owned_s {r = Ok tt} _ c.in_ok-end_conditionals.ensures) (out_s _ refl c.from_residual-in_err-place.ensures.1))))

pub returns : goal.returns
unfolding read_all
returns g c = then_s _ c.in_ok-makefile.ensures (then_s _ c.in_ok-read_makefile.ensures (then_s _ (owned_s {r = Ok tt} _ c.in_ok-end_rule.ensures) (then_s _ (owned_s {r = Ok tt} _ c.in_ok-end_conditionals.ensures) (rw c.in_ok-place.ensures at c.default_goal.ensures))))
