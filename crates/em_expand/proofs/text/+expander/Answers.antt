use Rattle.std.proofs.Common.{◌∙◌, refl, ap, sym, None, Some}
use Rattle.std.specs.Prelude.{option_map}
use Rattle.em_view.proofs.Doing.{then_s, leave_s, finish_s, refused_s, gave_s, out_s}
use Rattle.em_expand.specs.declared.no.ExpandNo.TheVariants as no
use Rattle.em_expand.specs.Table.{row_of}
use Rattle.em_expand.specs.Calls.{call_seen, substitution_seen}
use Rattle.em_expand.specs.Values.{plain, recursive}
use Rattle.em_expand.specs.Layered.{entries_of}
use Rattle.em_expand.specs.Scopes.{frames_of}
use Rattle.em_expand.specs.Expansion.{setting_of, expand_text, reference, named, choose, foreach}
use Rattle.em_expand.proofs.Making.{given_s, as_text, as_inner, as_name, as_variable, as_call, one_more, ok_same, part_stop, part_more, part_end, until_stop, until_ends, until_more, until_end, turn_unpaid, turn_lost, turn_stop, turn_more, turn_end, argument_stop, argument_lost, argument_more, argument_end, few_args, enough_args}
use Rattle.em_expand.proofs.text.+expander.Goals as goal

-- ---- a text

pub expand_text-returns-in_err-parts : goal.expand_text-returns-in_err-parts
expand_text-returns-in_err-parts g t c = out_s _ refl c.from_residual.ensures.1

pub expand_text-loop-part-init : goal.expand_text-loop-part-init
expand_text-loop-part-init g t c = λ new u r p. p

pub expand_text-returns-in_err-out : goal.expand_text-returns-in_err-out
expand_text-returns-in_err-out g t c = rw (← c.out.view_is) (as_text (reference c.args.left (setting_of c.args.setting.now) (frames_of c.args.scope.now)) c.args.text.now _ _ _ _ c.items-part-items.ensures c.in_ok-parts.ensures
    (part_stop (reference c.args.left (setting_of c.args.setting.now) (frames_of c.args.scope.now)) c.args.text.now c.in_ok-parts.field-0.unclosed c.items-part-items.result.now c.loop-part.part-index c.loop-part.out c.loop-part.invariant _ c.loop-part-test.true c.from_residual-in_err-out.ensures.1 c.in_err-out.ensures))

pub expand_text-loop-part-preserved : goal.expand_text-loop-part-preserved
expand_text-loop-part-preserved g t c = part_more (reference c.args.left (setting_of c.args.setting.now) (frames_of c.args.scope.now)) c.args.text.now c.in_ok-parts.field-0.unclosed c.items-part-items.result.now c.loop-part.part-index c.loop-part.out c.loop-part.invariant _ c.loop-part-test.true c.in_ok-out.ensures

pub expand_text-returns-in-None : goal.expand_text-returns-in-None
expand_text-returns-in-None g t c = rw (← c.out.view_is) (as_text (reference c.args.left (setting_of c.args.setting.now) (frames_of c.args.scope.now)) c.args.text.now _ _ _ _ c.items-part-items.ensures c.in_ok-parts.ensures
    (part_end (reference c.args.left (setting_of c.args.setting.now) (frames_of c.args.scope.now)) c.args.text.now c.in_ok-parts.field-0.unclosed c.items-part-items.result.now c.loop-part.part-index c.loop-part.out c.loop-part.invariant c.loop-part-test.false (rw c.in-None.is finish_s)))

pub expand_text-returns : goal.expand_text-returns
expand_text-returns g t c = rw (← c.out.view_is) (as_text (reference c.args.left (setting_of c.args.setting.now) (frames_of c.args.scope.now)) c.args.text.now _ _ _ _ c.items-part-items.ensures c.in_ok-parts.ensures
    (part_end (reference c.args.left (setting_of c.args.setting.now) (frames_of c.args.scope.now)) c.args.text.now c.in_ok-parts.field-0.unclosed c.items-part-items.result.now c.loop-part.part-index c.loop-part.out c.loop-part.invariant c.loop-part-test.false (rw c.in-Some.is (refused_s no.Unclosed (λ h. refl)))))

-- ---- a part of a text

pub put_part-returns-in-Literal : goal.put_part-returns-in-Literal
put_part-returns-in-Literal g t c = rw c.in-Literal.is (gave_s _ (rw c.of.ensures at c.put.ensures))

pub put_part-returns-in-Dollar : goal.put_part-returns-in-Dollar
put_part-returns-in-Dollar g t c = rw c.in-Dollar.is (gave_s _ c.put-in-Dollar.ensures)

pub put_part-returns-then-left-eq0 : goal.put_part-returns-then-left-eq0
unfolding reference
put_part-returns-then-left-eq0 g t c = rw (c.in-Ref.is, c.if-left-eq0.true) (refused_s no.TooDeep (λ h. refl))

pub put_part-returns-in_err-pay-in-Ref : goal.put_part-returns-in_err-pay-in-Ref
unfolding reference
put_part-returns-in_err-pay-in-Ref g t c = rw (c.in-Ref.is, one_more c.args.left c.if-left-eq0.false) (leave_s _ c.from_residual.ensures.1 (c.in_err-pay-in-Ref.ensures _))

pub put_part-returns-in_err-all-in-Ref : goal.put_part-returns-in_err-all-in-Ref
unfolding reference
put_part-returns-in_err-all-in-Ref g t c = rw (c.in-Ref.is, one_more c.args.left c.if-left-eq0.false)
    (then_s _ (c.in_ok-pay-in-Ref.ensures _)
    (leave_s _ c.from_residual-in_err-all-in-Ref.ensures.1 (rw (c.before-bracket.ensures, c.of-inner.ensures) at c.in_err-all-in-Ref.ensures)))

pub put_part-returns-in_err-pay-in-Ref-2 : goal.put_part-returns-in_err-pay-in-Ref-2
unfolding reference
put_part-returns-in_err-pay-in-Ref-2 g t c = rw (c.in-Ref.is, one_more c.args.left c.if-left-eq0.false)
    (then_s _ (c.in_ok-pay-in-Ref.ensures _)
    (then_s _ (rw (c.before-bracket.ensures, c.of-inner.ensures) at c.in_ok-all-in-Ref.ensures)
    (leave_s _ c.from_residual-in_err-pay-in-Ref-2.ensures.1 (rw (c.cost.ensures, c.length_of-before.ensures) at (c.in_err-pay-in-Ref-2.ensures c.evaluate.new.spoken)))))

pub put_part-returns-in_ok-pay-in-Ref-2 : goal.put_part-returns-in_ok-pay-in-Ref-2
unfolding reference
put_part-returns-in_ok-pay-in-Ref-2 g t c = rw (c.in-Ref.is, one_more c.args.left c.if-left-eq0.false)
    (then_s _ (c.in_ok-pay-in-Ref.ensures _)
    (then_s _ (rw (c.before-bracket.ensures, c.of-inner.ensures) at c.in_ok-all-in-Ref.ensures)
    (then_s _ (rw (c.cost.ensures, c.length_of-before.ensures) at (c.in_ok-pay-in-Ref-2.ensures c.evaluate.new.spoken)) finish_s)))

-- ---- what a reference asks for

pub evaluate-returns-in_err-call_of : goal.evaluate-returns-in_err-call_of
evaluate-returns-in_err-call_of g t c = out_s _ refl c.from_residual.ensures.1

pub evaluate-returns-in-None : goal.evaluate-returns-in-None
evaluate-returns-in-None g t c = as_inner _ _ _ _ _ _ None (sym (ap (option_map call_seen) c.in-None.is) ∙ c.in_ok-call_of.ensures) c.named.ensures

pub evaluate-returns-in-Some : goal.evaluate-returns-in-Some
evaluate-returns-in-Some g t c = as_inner _ _ _ _ _ _ (Some (call_seen c.in-Some.call)) (sym (ap (option_map call_seen) c.in-Some.is) ∙ c.in_ok-call_of.ensures)
    (rw c.deref.ensures.value at c.put_call.ensures)

pub put_call-returns-in-Refused : goal.put_call-returns-in-Refused
put_call-returns-in-Refused g t c = rw c.in-Refused.is (refused_s _ c.refused.ensures)

pub put_call-returns-in-If : goal.put_call-returns-in-If
put_call-returns-in-If g t c = rw c.in-If.is c.choose.ensures

pub put_call-returns-in-Or : goal.put_call-returns-in-Or
put_call-returns-in-Or g t c = rw c.in-Or.is c.until.ensures

pub put_call-returns-in-And : goal.put_call-returns-in-And
put_call-returns-in-And g t c = rw c.in-And.is c.until-in-And.ensures

pub put_call-returns-in-Foreach : goal.put_call-returns-in-Foreach
put_call-returns-in-Foreach g t c = rw c.in-Foreach.is c.foreach.ensures

pub put_call-returns-in_err-values-in-Call : goal.put_call-returns-in_err-values-in-Call
put_call-returns-in_err-values-in-Call g t c = rw c.in-Call.is (leave_s _ c.from_residual.ensures.1 c.in_err-values-in-Call.ensures)

pub put_call-returns-in_ok-values-in-Call : goal.put_call-returns-in_ok-values-in-Call
put_call-returns-in_ok-values-in-Call g t c = rw c.in-Call.is (then_s _ c.in_ok-values-in-Call.ensures (rw c.items.ensures at c.call.ensures))

pub put_call-returns-in_err-values-in-Plain : goal.put_call-returns-in_err-values-in-Plain
put_call-returns-in_err-values-in-Plain g t c = rw c.in-Plain.is (leave_s _ c.from_residual-in_err-values-in-Plain.ensures.1 c.in_err-values-in-Plain.ensures)

pub put_call-returns-in_ok-values-in-Plain : goal.put_call-returns-in_ok-values-in-Plain
put_call-returns-in_ok-values-in-Plain g t c = rw c.in-Plain.is (then_s _ c.in_ok-values-in-Plain.ensures (rw c.items-in-Plain.ensures at c.put_value.ensures))

-- ---- names

pub named-returns-in_err-name : goal.named-returns-in_err-name
unfolding named
named-returns-in_err-name g t c = leave_s _ c.from_residual.ensures.1 (rw c.new-empty.ensures at c.in_err-name.ensures)

pub named-returns-in-None : goal.named-returns-in-None
unfolding named
named-returns-in-None g t c = then_s _ (rw c.new-empty.ensures at c.in_ok-name.ensures)
    (as_name (expand_text c.args.left (setting_of c.args.setting.now)) (entries_of c.args.setting.now.vars.now) (frames_of c.args.scope.now) c.args.setting.now.cwd.now c.args.setting.now.place.now c.in_ok-name.name c.args.out None (rw c.bytes.ensures at c.in-None.ensures) (rw c.bytes-in-None.ensures at c.variable.ensures))

pub named-returns-in_err-value-in-Some : goal.named-returns-in_err-value-in-Some
unfolding named
named-returns-in_err-value-in-Some g t c = then_s _ (rw c.new-empty.ensures at c.in_ok-name.ensures)
    (as_name (expand_text c.args.left (setting_of c.args.setting.now)) (entries_of c.args.setting.now.vars.now) (frames_of c.args.scope.now) c.args.setting.now.cwd.now c.args.setting.now.place.now c.in_ok-name.name c.args.out (Some (substitution_seen c.in-Some.parts)) (rw c.bytes.ensures at c.in-Some.ensures)
    (leave_s _ c.from_residual-in_err-value-in-Some.ensures.1 (rw c.new-none.ensures at c.in_err-value-in-Some.ensures)))

pub named-returns : goal.named-returns
unfolding named
named-returns g t c = then_s _ (rw c.new-empty.ensures at c.in_ok-name.ensures)
    (as_name (expand_text c.args.left (setting_of c.args.setting.now)) (entries_of c.args.setting.now.vars.now) (frames_of c.args.scope.now) c.args.setting.now.cwd.now c.args.setting.now.place.now c.in_ok-name.name c.args.out (Some (substitution_seen c.in-Some.parts)) (rw c.bytes.ensures at c.in-Some.ensures)
    (then_s _ (rw c.new-none.ensures at c.in_ok-value-in-Some.ensures) (given_s _ c.substituted.ensures)))

pub variable-returns-in-Bound : goal.variable-returns-in-Bound
variable-returns-in-Bound g t c = as_variable _ _ _ _ _ (plain c.in-Bound.text.now) c.in-Bound.ensures (gave_s _ c.put.ensures)

pub variable-returns-in-Simple : goal.variable-returns-in-Simple
variable-returns-in-Simple g t c = as_variable _ _ _ _ _ (plain c.in-Simple.text.now) c.in-Simple.ensures (gave_s _ c.put-in-Simple.ensures)

pub variable-returns-then-is_open : goal.variable-returns-then-is_open
variable-returns-then-is_open g t c = as_variable _ _ _ _ _ (recursive c.in-Recursive.text.now) c.in-Recursive.ensures
    (rw (sym c.is_open.ensures ∙ c.if-is_open.true) (refused_s _ c.self_reference.ensures))

pub variable-returns-else-is_open : goal.variable-returns-else-is_open
variable-returns-else-is_open g t c = as_variable _ _ _ _ _ (recursive c.in-Recursive.text.now) c.in-Recursive.ensures
    (rw (sym c.is_open.ensures ∙ c.if-is_open.false) c.expand_text.ensures)

pub call-returns-in-Bound : goal.call-returns-in-Bound
call-returns-in-Bound g t c = as_call _ _ _ _ _ (plain c.in-Bound.text.now) (rw c.argument-name.ensures at c.in-Bound.ensures) (gave_s _ c.put.ensures)

pub call-returns-in-Simple : goal.call-returns-in-Simple
call-returns-in-Simple g t c = as_call _ _ _ _ _ (plain c.in-Simple.text.now) (rw c.argument-name.ensures at c.in-Simple.ensures) (gave_s _ c.put-in-Simple.ensures)

pub call-returns-in-Recursive : goal.call-returns-in-Recursive
call-returns-in-Recursive g t c = as_call _ _ _ _ _ (recursive c.in-Recursive.text.now) (rw c.argument-name.ensures at c.in-Recursive.ensures) c.expand_text.ensures

-- ---- functions that expand their arguments themselves

pub choose-returns-then-args-row : goal.choose-returns-then-args-row
choose-returns-then-args-row g t c = few_args (row_of c.args.row.now) c.args.args.now _ c.if-args-row.true c.bad_argument.ensures

pub choose-returns-in_err-condition : goal.choose-returns-in_err-condition
unfolding choose
choose-returns-in_err-condition g t c = enough_args (row_of c.args.row.now) c.args.args.now c.if-args-row.false
    (leave_s _ c.from_residual.ensures.1 (rw (c.trim-test.ensures, c.nth-given.ensures, c.new-none.ensures) at c.in_err-condition.ensures))

pub choose-returns : goal.choose-returns
unfolding choose
choose-returns g t c = enough_args (row_of c.args.row.now) c.args.args.now c.if-args-row.false
    (then_s _ (rw (c.trim-test.ensures, c.nth-given.ensures, c.new-none.ensures) at c.in_ok-condition.ensures)
    (rw c.picked-text.ensures at c.expand_text-2.ensures))

pub until-loop-arg-init : goal.until-loop-arg-init
until-loop-arg-init g t c = λ new u r p. rw c.new-last.ensures at p

pub until-returns-in_err-last : goal.until-returns-in_err-last
until-returns-in_err-last g t c = until_stop (expand_text c.args.left (setting_of c.args.setting.now)) (frames_of c.args.scope.now) c.args.filled c.args.args.now c.loop-arg.arg-index c.loop-arg.last c.loop-arg.out c.loop-arg.invariant _ c.loop-arg-test.true c.from_residual.ensures.1
    (rw (c.trim-text.ensures, c.new-none.ensures) at c.in_err-last.ensures)

pub until-returns-then-ends : goal.until-returns-then-ends
until-returns-then-ends g t c = until_ends (expand_text c.args.left (setting_of c.args.setting.now)) (frames_of c.args.scope.now) c.args.filled c.args.args.now c.loop-arg.arg-index c.loop-arg.last c.loop-arg.out c.loop-arg.invariant _ c.loop-arg-test.true
    (rw (c.trim-text.ensures, c.new-none.ensures) at c.in_ok-last.ensures) (sym c.ends.ensures ∙ c.if-ends.true) (rw c.bytes.ensures at c.put.ensures)

pub until-loop-arg-preserved : goal.until-loop-arg-preserved
until-loop-arg-preserved g t c = until_more (expand_text c.args.left (setting_of c.args.setting.now)) (frames_of c.args.scope.now) c.args.filled c.args.args.now c.loop-arg.arg-index c.loop-arg.last c.loop-arg.out c.loop-arg.invariant _ c.loop-arg-test.true
    (rw (c.trim-text.ensures, c.new-none.ensures) at c.in_ok-last.ensures) (sym c.ends.ensures ∙ c.if-ends.false)

pub until-returns : goal.until-returns
until-returns g t c = until_end (expand_text c.args.left (setting_of c.args.setting.now)) (frames_of c.args.scope.now) c.args.filled c.args.args.now c.loop-arg.arg-index c.loop-arg.last c.loop-arg.out c.loop-arg.invariant c.loop-arg-test.false (rw c.bytes-2.ensures at c.put-2.ensures)

pub foreach-returns-then-args-row : goal.foreach-returns-then-args-row
foreach-returns-then-args-row g t c = few_args (row_of c.args.row.now) c.args.args.now _ c.if-args-row.true c.bad_argument.ensures

pub foreach-returns-in_err-name : goal.foreach-returns-in_err-name
unfolding foreach
foreach-returns-in_err-name g t c = enough_args (row_of c.args.row.now) c.args.args.now c.if-args-row.false
    (leave_s _ c.from_residual.ensures.1 (rw (c.nth-given.ensures, c.new-none.ensures) at c.in_err-name.ensures))

pub foreach-returns-in_err-list : goal.foreach-returns-in_err-list
unfolding foreach
foreach-returns-in_err-list g t c = enough_args (row_of c.args.row.now) c.args.args.now c.if-args-row.false
    (then_s _ (rw (c.nth-given.ensures, c.new-none.ensures) at c.in_ok-name.ensures)
    (leave_s _ c.from_residual-in_err-list.ensures.1 (rw (c.nth-listed.ensures, c.new-empty.ensures) at c.in_err-list.ensures)))

pub foreach-returns-in_err-words : goal.foreach-returns-in_err-words
unfolding foreach
foreach-returns-in_err-words g t c = enough_args (row_of c.args.row.now) c.args.args.now c.if-args-row.false
    (then_s _ (rw (c.nth-given.ensures, c.new-none.ensures) at c.in_ok-name.ensures)
    (then_s _ (rw (c.nth-listed.ensures, c.new-empty.ensures) at c.in_ok-list.ensures) (out_s _ refl c.from_residual-in_err-words.ensures.1)))

pub foreach-returns : goal.foreach-returns
unfolding foreach
foreach-returns g t c = enough_args (row_of c.args.row.now) c.args.args.now c.if-args-row.false
    (then_s _ (rw (c.nth-given.ensures, c.new-none.ensures) at c.in_ok-name.ensures)
    (then_s _ (rw (c.nth-listed.ensures, c.new-empty.ensures) at c.in_ok-list.ensures)
    (rw (c.trim-each.ensures, c.bytes-2.ensures, c.nth-body.ensures, c.deref.ensures.value, c.in_ok-words.ensures, c.bytes.ensures) at c.turns.ensures)))

pub turns-loop-word-init : goal.turns-loop-word-init
turns-loop-word-init g t c = λ new u r p. p

pub turns-returns-in_err-pay : goal.turns-returns-in_err-pay
turns-returns-in_err-pay g t c = turn_unpaid (expand_text c.args.left (setting_of c.args.setting.now)) (frames_of c.args.scope.now) c.args.name.now c.args.text.now c.args.words.now c.loop-word.word-index c.loop-word.gap.now c.loop-word.out c.loop-word.invariant c.loop-word-test.true c.from_residual.ensures.1 (c.in_err-pay.ensures _)

pub turns-returns-in_err-begun : goal.turns-returns-in_err-begun
turns-returns-in_err-begun g t c = turn_lost (expand_text c.args.left (setting_of c.args.setting.now)) (frames_of c.args.scope.now) c.args.name.now c.args.text.now c.args.words.now c.loop-word.word-index c.loop-word.gap.now c.loop-word.out c.loop-word.invariant c.loop-word-test.true (c.in_ok-pay.ensures _) c.in_err-begun.ensures c.from_residual-in_err-begun.ensures.1

pub turns-returns-in_err-out : goal.turns-returns-in_err-out
turns-returns-in_err-out g t c = turn_stop (expand_text c.args.left (setting_of c.args.setting.now)) (frames_of c.args.scope.now) c.args.name.now c.args.text.now c.args.words.now c.loop-word.word-index c.loop-word.gap.now c.loop-word.out c.loop-word.invariant _ c.loop-word-test.true (c.in_ok-pay.ensures _) (ok_same (c.in_ok-begun.ensures refl)) c.from_residual-in_err-out.ensures.1 c.in_err-out.ensures

pub turns-loop-word-preserved : goal.turns-loop-word-preserved
turns-loop-word-preserved g t c = turn_more (expand_text c.args.left (setting_of c.args.setting.now)) (frames_of c.args.scope.now) c.args.name.now c.args.text.now c.args.words.now c.loop-word.word-index c.loop-word.gap.now c.loop-word.out c.loop-word.invariant _ c.loop-word-test.true (c.in_ok-pay.ensures _) (ok_same (c.in_ok-begun.ensures refl)) c.in_ok-out.ensures

pub turns-returns : goal.turns-returns
turns-returns g t c = turn_end (expand_text c.args.left (setting_of c.args.setting.now)) (frames_of c.args.scope.now) c.args.name.now c.args.text.now c.args.words.now c.loop-word.word-index c.loop-word.gap.now c.loop-word.out c.loop-word.invariant c.loop-word-test.false

-- ---- all arguments

pub arguments-loop-arg-init : goal.arguments-loop-arg-init
arguments-loop-arg-init g t c = λ new u r p. rw c.new-values.ensures at p

pub arguments-returns-in_err-value : goal.arguments-returns-in_err-value
arguments-returns-in_err-value g t c = argument_stop (expand_text c.args.left (setting_of c.args.setting.now)) (frames_of c.args.scope.now) c.args.args.now c.loop-arg.arg-index c.loop-arg.values c.loop-arg.invariant _ c.loop-arg-test.true c.from_residual.ensures.1 (rw c.new-none.ensures at c.in_err-value.ensures)

pub arguments-returns-in_err-push : goal.arguments-returns-in_err-push
arguments-returns-in_err-push g t c = argument_lost (expand_text c.args.left (setting_of c.args.setting.now)) (frames_of c.args.scope.now) c.args.args.now c.loop-arg.arg-index c.loop-arg.values c.loop-arg.invariant _ c.loop-arg-test.true (rw c.new-none.ensures at c.in_ok-value.ensures) c.from_residual-in_err-push.ensures.1

pub arguments-loop-arg-preserved : goal.arguments-loop-arg-preserved
arguments-loop-arg-preserved g t c = argument_more (expand_text c.args.left (setting_of c.args.setting.now)) (frames_of c.args.scope.now) c.args.args.now c.loop-arg.arg-index c.loop-arg.values c.loop-arg.invariant _ c.loop-arg-test.true (rw c.new-none.ensures at c.in_ok-value.ensures) c.in_ok-push.ensures.ok

pub arguments-returns : goal.arguments-returns
arguments-returns g t c = argument_end (expand_text c.args.left (setting_of c.args.setting.now)) (frames_of c.args.scope.now) c.args.args.now c.loop-arg.arg-index c.loop-arg.values c.loop-arg.invariant c.loop-arg-test.false
