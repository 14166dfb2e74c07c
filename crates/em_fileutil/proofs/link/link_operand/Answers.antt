use Rattle.std.proofs.Common.{refl}
use Rattle.em_view.proofs.Doing.{then_s, leave_s}
use Rattle.em_utility.proofs.Trying.{named_s}
use Rattle.em_fileutil.proofs.Spotting.{given_s}
use Rattle.em_fileutil.specs.Linking.{link_operand}
use Rattle.em_fileutil.proofs.link.link_operand.Goals as goal

pub make_link-requires : goal.make_link-requires
make_link-requires g c = record { text = c.in_ok-link_text.ensures.holds refl }

pub returns-in_err-link_text : goal.returns-in_err-link_text
unfolding link_operand
returns-in_err-link_text g c = λ d. leave_s _ c.from_residual.ensures.1 (given_s _ c.in_err-link_text.ensures.gives)

pub returns-in_err-operand : goal.returns-in_err-operand
unfolding link_operand
returns-in_err-operand g c = λ d. then_s _ (given_s _ c.in_ok-link_text.ensures.gives) (leave_s _ c.from_residual-in_err-operand.ensures.1 (given_s _ c.in_err-operand.ensures))

pub returns-in_err-kind : goal.returns-in_err-kind
unfolding link_operand
returns-in_err-kind g c = λ d. then_s _ (given_s _ c.in_ok-link_text.ensures.gives) (then_s _ (given_s _ c.in_ok-operand.ensures) (leave_s _ c.from_residual-in_err-kind.ensures.1 (named_s _ c.in_err-kind.ensures c.kind.ensures.performs)))

pub returns-in_err-target : goal.returns-in_err-target
unfolding link_operand
returns-in_err-target g c = λ d. then_s _ (given_s _ c.in_ok-link_text.ensures.gives) (then_s _ (given_s _ c.in_ok-operand.ensures) (then_s _ (named_s _ c.in_ok-kind.ensures c.kind.ensures.performs)
    (leave_s _ c.from_residual-in_err-target.ensures.1 (given_s _ c.in_err-target.ensures))))

pub returns-in_err-clear_if : goal.returns-in_err-clear_if
unfolding link_operand
returns-in_err-clear_if g c = λ d. then_s _ (given_s _ c.in_ok-link_text.ensures.gives) (then_s _ (given_s _ c.in_ok-operand.ensures) (then_s _ (named_s _ c.in_ok-kind.ensures c.kind.ensures.performs)
    (then_s _ (given_s _ c.in_ok-target.ensures) (leave_s _ c.from_residual-in_err-clear_if.ensures.1 (c.in_err-clear_if.ensures d)))))

pub returns : goal.returns
unfolding link_operand
returns g c = λ d. then_s _ (given_s _ c.in_ok-link_text.ensures.gives) (then_s _ (given_s _ c.in_ok-operand.ensures) (then_s _ (named_s _ c.in_ok-kind.ensures c.kind.ensures.performs)
    (then_s _ (given_s _ c.in_ok-target.ensures) (then_s _ (c.in_ok-clear_if.ensures d) (named_s _ c.tried-2.ensures c.make_link.ensures.performs)))))
