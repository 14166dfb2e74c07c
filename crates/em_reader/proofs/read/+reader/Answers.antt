use Rattle.std.proofs.Common.{◌∙◌, refl, sym, ap, Ok, Some}
use Rattle.em_base.proofs.Lemmas.{left_at, none_at}
use Rattle.em_view.proofs.Doing.{then_s, leave_s, finish_s, out_s, owned_s, refused_s, more_s, stop_s, end_s}
use Rattle.std.specs.Prelude.{true, false, option_copied, if◌then◌else◌}
use Rattle.em_cond.specs.Nests.{may_turn}
use Rattle.em_view.specs.Steps.{done, own}
use Rattle.em_reading.specs.declared.reading.Reading.{Reading}
use Rattle.em_reading.specs.Changes.{take_define, is_read, enter, other}
use Rattle.em_reader.specs.Reading.{read_text, read_line, in_body, if_line, if_read, else_if_line, else_if_read, active_line, statement_line, evals_of, evaluated, include_heard, include_names, include_one}
use Rattle.em_reader.proofs.States.{on_state, one_more}
use Rattle.em_reader.proofs.read.+reader.Goals as goal

pub read_text-returns-then-left-eq0 : goal.read_text-returns-then-left-eq0
unfolding read_text
read_text-returns-then-left-eq0 g t c = rw c.if-left-eq0.true (refused_s _ c.at.ensures)

pub read_text-loop-line-init : goal.read_text-loop-line-init
read_text-loop-line-init g t c = rw c.items-line-items.ensures (λ new u r p. p)

pub read_text-returns-in_err-read_line : goal.read_text-returns-in_err-read_line
unfolding read_text
read_text-returns-in_err-read_line g t c =
    let left = left_at c.items-line-items.result.now c.loop-line.line-index c.line-item.result c.loop-line-test.true c.line-item.is in
    rw (one_more c.args.left c.if-left-eq0.false) (stop_s _ (rw left at c.loop-line.invariant) c.from_residual.ensures.1 c.in_err-read_line.ensures)

pub read_text-loop-line-preserved : goal.read_text-loop-line-preserved
read_text-loop-line-preserved g t c =
    let left = left_at c.items-line-items.result.now c.loop-line.line-index c.line-item.result c.loop-line-test.true c.line-item.is in
    more_s _ (rw left at c.loop-line.invariant) c.in_ok-read_line.ensures

pub read_text-returns : goal.read_text-returns
unfolding read_text
read_text-returns g t c =
    let none = none_at c.items-line-items.result.now c.loop-line.line-index c.loop-line-test.false in
    rw (one_more c.args.left c.if-left-eq0.false) (end_s (rw none at c.loop-line.invariant) (owned_s _ c.end_text.ensures))

pub read_line-returns-in-Some : goal.read_line-returns-in-Some
unfolding read_line
read_line-returns-in-Some g t c = then_s {t = c.take_define.new.self} _ (owned_s {r = Ok c.take_define.result} take_define (λ h. rw (c.take_define.ensures.result, c.take_define.ensures.state) refl)) (rw c.in-Some.is c.in_body.ensures)

pub read_line-returns-then-line : goal.read_line-returns-then-line
unfolding read_line
read_line-returns-then-line g t c = then_s {t = c.take_define.new.self} _ (owned_s {r = Ok c.take_define.result} take_define (λ h. rw (c.take_define.ensures.result, c.take_define.ensures.state) refl)) (rw (c.in-None.is, c.if-line.true) (owned_s _ c.recipe.ensures))

pub read_line-returns-in_err-statement-in-None : goal.read_line-returns-in_err-statement-in-None
unfolding read_line
read_line-returns-in_err-statement-in-None g t c = then_s {t = c.take_define.new.self} _ (owned_s {r = Ok c.take_define.result} take_define (λ h. rw (c.take_define.ensures.result, c.take_define.ensures.state) refl)) (out_s _ refl c.from_residual.ensures.1)

pub read_line-returns-in_ok-statement-in-None : goal.read_line-returns-in_ok-statement-in-None
unfolding read_line
read_line-returns-in_ok-statement-in-None g t c = then_s {t = c.take_define.new.self} _ (owned_s {r = Ok c.take_define.result} take_define (λ h. rw (c.take_define.ensures.result, c.take_define.ensures.state) refl)) (rw (c.in-None.is, c.if-line.false) (rw (c.in_ok-statement-in-None.ensures, c.bytes.ensures) at c.by_statement.ensures))

pub in_body-returns-in_err-ends : goal.in_body-returns-in_err-ends
unfolding in_body
in_body-returns-in_err-ends g t c = out_s _ refl c.from_residual.ensures.1

pub in_body-returns-then-not-branch : goal.in_body-returns-then-not-branch
unfolding in_body
in_body-returns-then-not-branch g t c = rw (sym c.in_ok-ends.ensures ∙ c.if-not-branch.true) (owned_s _ c.body_line.ensures)

pub in_body-returns : goal.in_body-returns
unfolding in_body
in_body-returns g t c = rw (sym c.in_ok-ends.ensures ∙ c.if-not-branch.false) (rw c.whole.ensures at c.statement_line.ensures)

pub by_statement-returns-in-If : goal.by_statement-returns-in-If
by_statement-returns-in-If g t c = rw c.in-If.is c.if_line.ensures

pub by_statement-returns-in-ElseIf : goal.by_statement-returns-in-ElseIf
by_statement-returns-in-ElseIf g t c = rw c.in-ElseIf.is c.else_if_line.ensures

pub by_statement-returns-in-Else : goal.by_statement-returns-in-Else
by_statement-returns-in-Else g t c = rw c.in-Else.is (owned_s _ c.other.ensures)

pub by_statement-returns-in-Endif : goal.by_statement-returns-in-Endif
by_statement-returns-in-Endif g t c = rw c.in-Endif.is (owned_s _ c.leave.ensures)

pub by_statement-returns-in-Extraneous : goal.by_statement-returns-in-Extraneous
by_statement-returns-in-Extraneous g t c = rw c.in-Extraneous.is (refused_s _ c.at.ensures)

pub by_statement-returns-in-Blank : goal.by_statement-returns-in-Blank
by_statement-returns-in-Blank g t c = rw c.in-Blank.is finish_s

pub by_statement-returns-in-Define : goal.by_statement-returns-in-Define
by_statement-returns-in-Define g t c = rw c.in-Define.is (owned_s _ c.define_line.ensures)

pub by_statement-returns-in-Include : goal.by_statement-returns-in-Include
by_statement-returns-in-Include g t c = rw c.in-Include.is (rw c.in-Include.is at c.active_line.ensures)

pub by_statement-returns-in-Undefine : goal.by_statement-returns-in-Undefine
by_statement-returns-in-Undefine g t c = rw c.in-Undefine.is (rw c.in-Undefine.is at c.active_line-in-Undefine.ensures)

pub by_statement-returns-in-Export : goal.by_statement-returns-in-Export
by_statement-returns-in-Export g t c = rw c.in-Export.is (rw c.in-Export.is at c.active_line-in-Export.ensures)

pub by_statement-returns-in-Unexport : goal.by_statement-returns-in-Unexport
by_statement-returns-in-Unexport g t c = rw c.in-Unexport.is (rw c.in-Unexport.is at c.active_line-in-Unexport.ensures)

pub by_statement-returns-in-Assign : goal.by_statement-returns-in-Assign
by_statement-returns-in-Assign g t c = rw c.in-Assign.is (rw c.in-Assign.is at c.active_line-in-Assign.ensures)

pub by_statement-returns-in-Stray : goal.by_statement-returns-in-Stray
by_statement-returns-in-Stray g t c = rw c.in-Stray.is (rw c.in-Stray.is at c.active_line-in-Stray.ensures)

pub by_statement-returns-in-Unsupported : goal.by_statement-returns-in-Unsupported
by_statement-returns-in-Unsupported g t c = rw c.in-Unsupported.is (rw c.in-Unsupported.is at c.active_line-in-Unsupported.ensures)

pub by_statement-returns-in-Rule : goal.by_statement-returns-in-Rule
by_statement-returns-in-Rule g t c = rw c.in-Rule.is (rw c.in-Rule.is at c.active_line-in-Rule.ensures)

pub if_line-returns-then-not-is_read : goal.if_line-returns-then-not-is_read
unfolding if_line
if_line-returns-then-not-is_read g t c = on_state (λ (r : Reading). if is_read r then if_read (read_text c.args.left) c.args.place.now c.args.condition.now else own (enter c.args.place.now false))
    (rw (sym c.is_read.ensures ∙ c.if-not-is_read.true) (owned_s _ c.enter.ensures))

pub if_line-returns-in_err-heard : goal.if_line-returns-in_err-heard
unfolding if_line if_read
if_line-returns-in_err-heard g t c = on_state (λ (r : Reading). if is_read r then if_read (read_text c.args.left) c.args.place.now c.args.condition.now else own (enter c.args.place.now false))
    (rw (sym c.is_read.ensures ∙ c.if-not-is_read.false) (leave_s _ c.from_residual.ensures.1 c.in_err-heard.ensures))

pub if_line-returns-in_err-evaluated : goal.if_line-returns-in_err-evaluated
unfolding if_line if_read
if_line-returns-in_err-evaluated g t c = on_state (λ (r : Reading). if is_read r then if_read (read_text c.args.left) c.args.place.now c.args.condition.now else own (enter c.args.place.now false))
    (rw (sym c.is_read.ensures ∙ c.if-not-is_read.false) (then_s _ c.in_ok-heard.ensures (leave_s _ c.from_residual-in_err-evaluated.ensures.1 c.in_err-evaluated.ensures)))

pub if_line-returns : goal.if_line-returns
unfolding if_line if_read
if_line-returns g t c = on_state (λ (r : Reading). if is_read r then if_read (read_text c.args.left) c.args.place.now c.args.condition.now else own (enter c.args.place.now false))
    (rw (sym c.is_read.ensures ∙ c.if-not-is_read.false) (then_s _ c.in_ok-heard.ensures (then_s _ c.in_ok-evaluated.ensures (owned_s _ c.if_heard.ensures))))

pub else_if_line-returns-then-not-may_turn : goal.else_if_line-returns-then-not-may_turn
unfolding else_if_line
else_if_line-returns-then-not-may_turn g t c = on_state (λ (r : Reading). if may_turn r.nest then else_if_read (read_text c.args.left) c.args.place.now c.args.condition.now else own (other c.args.place.now (Some false)))
    (rw (sym c.may_turn.ensures ∙ c.if-not-may_turn.true) (owned_s _ c.other.ensures))

pub else_if_line-returns-in_err-heard : goal.else_if_line-returns-in_err-heard
unfolding else_if_line else_if_read
else_if_line-returns-in_err-heard g t c = on_state (λ (r : Reading). if may_turn r.nest then else_if_read (read_text c.args.left) c.args.place.now c.args.condition.now else own (other c.args.place.now (Some false)))
    (rw (sym c.may_turn.ensures ∙ c.if-not-may_turn.false) (leave_s _ c.from_residual.ensures.1 c.in_err-heard.ensures))

pub else_if_line-returns-in_err-evaluated : goal.else_if_line-returns-in_err-evaluated
unfolding else_if_line else_if_read
else_if_line-returns-in_err-evaluated g t c = on_state (λ (r : Reading). if may_turn r.nest then else_if_read (read_text c.args.left) c.args.place.now c.args.condition.now else own (other c.args.place.now (Some false)))
    (rw (sym c.may_turn.ensures ∙ c.if-not-may_turn.false) (then_s _ c.in_ok-heard.ensures (leave_s _ c.from_residual-in_err-evaluated.ensures.1 c.in_err-evaluated.ensures)))

pub else_if_line-returns : goal.else_if_line-returns
unfolding else_if_line else_if_read
else_if_line-returns g t c = on_state (λ (r : Reading). if may_turn r.nest then else_if_read (read_text c.args.left) c.args.place.now c.args.condition.now else own (other c.args.place.now (Some false)))
    (rw (sym c.may_turn.ensures ∙ c.if-not-may_turn.false) (then_s _ c.in_ok-heard.ensures (then_s _ c.in_ok-evaluated.ensures (owned_s _ c.else_if_heard.ensures))))

pub active_line-returns-then-not-is_read : goal.active_line-returns-then-not-is_read
unfolding active_line
active_line-returns-then-not-is_read g t c = on_state (λ (r : Reading). if is_read r then statement_line (read_text c.args.left) c.args.place.now c.args.statement.now else done tt)
    (rw (sym c.is_read.ensures ∙ c.if-not-is_read.true) finish_s)

pub active_line-returns : goal.active_line-returns
unfolding active_line
active_line-returns g t c = on_state (λ (r : Reading). if is_read r then statement_line (read_text c.args.left) c.args.place.now c.args.statement.now else done tt)
    (rw (sym c.is_read.ensures ∙ c.if-not-is_read.false) c.statement_line.ensures)

pub statement_line-returns-in_err-close_rule : goal.statement_line-returns-in_err-close_rule
unfolding statement_line
statement_line-returns-in_err-close_rule g t c = leave_s _ c.from_residual.ensures.1 (owned_s _ c.in_err-close_rule.ensures)

pub statement_line-returns-in_err-heard : goal.statement_line-returns-in_err-heard
unfolding statement_line
statement_line-returns-in_err-heard g t c = then_s _ (owned_s {r = Ok tt} _ c.in_ok-close_rule.ensures) (leave_s _ c.from_residual-in_err-heard.ensures.1 c.in_err-heard.ensures)

pub statement_line-returns-in_err-evaluated : goal.statement_line-returns-in_err-evaluated
unfolding statement_line
statement_line-returns-in_err-evaluated g t c = then_s _ (owned_s {r = Ok tt} _ c.in_ok-close_rule.ensures) (then_s _ c.in_ok-heard.ensures (leave_s _ c.from_residual-in_err-evaluated.ensures.1 c.in_err-evaluated.ensures))

pub statement_line-returns-in_err-close_rule-2 : goal.statement_line-returns-in_err-close_rule-2
unfolding statement_line
statement_line-returns-in_err-close_rule-2 g t c = then_s _ (owned_s {r = Ok tt} _ c.in_ok-close_rule.ensures) (then_s _ c.in_ok-heard.ensures (then_s _ c.in_ok-evaluated.ensures (leave_s _ c.from_residual-in_err-close_rule-2.ensures.1 (owned_s _ c.in_err-close_rule-2.ensures))))

pub statement_line-returns-in-Some : goal.statement_line-returns-in-Some
unfolding statement_line
statement_line-returns-in-Some g t c = then_s _ (owned_s {r = Ok tt} _ c.in_ok-close_rule.ensures) (then_s _ c.in_ok-heard.ensures (then_s _ c.in_ok-evaluated.ensures (then_s _ (owned_s {r = Ok tt} _ c.in_ok-close_rule-2.ensures) (rw (sym c.included_in.ensures ∙ ap option_copied c.in-Some.is) c.include_heard.ensures))))

pub statement_line-returns : goal.statement_line-returns
unfolding statement_line
statement_line-returns g t c = then_s _ (owned_s {r = Ok tt} _ c.in_ok-close_rule.ensures) (then_s _ c.in_ok-heard.ensures (then_s _ c.in_ok-evaluated.ensures (then_s _ (owned_s {r = Ok tt} _ c.in_ok-close_rule-2.ensures) (rw (sym c.included_in.ensures ∙ ap option_copied c.in-None.is) c.act_alone.ensures))))

pub evaluated-returns-in-Some : goal.evaluated-returns-in-Some
unfolding evaluated
evaluated-returns-in-Some g t c = then_s {t = c.take_evals-texts.new.self} _ (owned_s {r = Ok c.take_evals-texts.result} evals_of (λ h. rw (c.take_evals-texts.ensures.result, c.take_evals-texts.ensures.state) refl)) (rw (sym c.refused_in.ensures ∙ ap option_copied c.in-Some.is) finish_s)

pub evaluated-returns : goal.evaluated-returns
unfolding evaluated
evaluated-returns g t c = then_s {t = c.take_evals-texts.new.self} _ (owned_s {r = Ok c.take_evals-texts.result} evals_of (λ h. rw (c.take_evals-texts.ensures.result, c.take_evals-texts.ensures.state) refl)) (rw (sym c.refused_in.ensures ∙ ap option_copied c.in-None.is) (rw c.items.ensures at c.read_evals.ensures))

pub read_evals-loop-text-init : goal.read_evals-loop-text-init
read_evals-loop-text-init g t c = λ new u r p. p

pub read_evals-returns-in_err-lines : goal.read_evals-returns-in_err-lines
read_evals-returns-in_err-lines g t c = end_s c.loop-text.invariant (out_s _ refl c.from_residual.ensures.1)

pub read_evals-returns-in_err-read_text : goal.read_evals-returns-in_err-read_text
read_evals-returns-in_err-read_text g t c =
    let left = left_at c.args.texts.now c.loop-text.text-index c.text-item.result c.loop-text-test.true c.text-item.is in
    stop_s _ (rw left at c.loop-text.invariant) c.from_residual-in_err-read_text.ensures.1 (rw (c.in_ok-lines.ensures, c.bytes.ensures) at c.in_err-read_text.ensures)

pub read_evals-loop-text-preserved : goal.read_evals-loop-text-preserved
read_evals-loop-text-preserved g t c =
    let left = left_at c.args.texts.now c.loop-text.text-index c.text-item.result c.loop-text-test.true c.text-item.is in
    more_s _ (rw left at c.loop-text.invariant) (rw (c.in_ok-lines.ensures, c.bytes.ensures) at c.in_ok-read_text.ensures)

pub read_evals-returns : goal.read_evals-returns
read_evals-returns g t c =
    let none = none_at c.args.texts.now c.loop-text.text-index c.loop-text-test.false in
    end_s (rw none at c.loop-text.invariant) finish_s

pub include_heard-returns-in-Some : goal.include_heard-returns-in-Some
unfolding include_heard
include_heard-returns-in-Some g t c = rw (sym c.refused_in.ensures ∙ ap option_copied c.in-Some.is) (refused_s _ (rw c.bytes.ensures at c.refused.ensures))

pub include_heard-returns-in_err-words : goal.include_heard-returns-in_err-words
unfolding include_heard
include_heard-returns-in_err-words g t c = out_s _ refl c.from_residual.ensures.1

pub include_heard-returns-in_err-names : goal.include_heard-returns-in_err-names
unfolding include_heard include_names
include_heard-returns-in_err-names g t c = rw (sym c.refused_in.ensures ∙ ap option_copied c.in_default.is) (leave_s _ c.from_residual-in_err-names.ensures.1 (rw (c.items.ensures, c.in_ok-words.ensures, c.bytes-2.ensures) at c.in_err-names.ensures))

pub include_heard-returns : goal.include_heard-returns
unfolding include_heard include_names
include_heard-returns g t c = rw (sym c.refused_in.ensures ∙ ap option_copied c.in_default.is) (then_s _ (rw (c.items.ensures, c.in_ok-words.ensures, c.bytes-2.ensures) at c.in_ok-names.ensures) (rw c.items-2.ensures at c.include_all.ensures))

pub include_all-loop-name-init : goal.include_all-loop-name-init
include_all-loop-name-init g t c = λ new u r p. p

pub include_all-returns-in_err-include_one : goal.include_all-returns-in_err-include_one
include_all-returns-in_err-include_one g t c =
    let left = left_at c.args.names.now c.loop-name.name-index c.name-item.result c.loop-name-test.true c.name-item.is in
    stop_s _ (rw left at c.loop-name.invariant) c.from_residual.ensures.1 c.in_err-include_one.ensures

pub include_all-loop-name-preserved : goal.include_all-loop-name-preserved
include_all-loop-name-preserved g t c =
    let left = left_at c.args.names.now c.loop-name.name-index c.name-item.result c.loop-name-test.true c.name-item.is in
    more_s _ (rw left at c.loop-name.invariant) c.in_ok-include_one.ensures

pub include_all-returns : goal.include_all-returns
include_all-returns g t c =
    let none = none_at c.args.names.now c.loop-name.name-index c.loop-name-test.false in
    end_s (rw none at c.loop-name.invariant) finish_s

pub include_one-returns-in_err-bytes : goal.include_one-returns-in_err-bytes
unfolding include_one
include_one-returns-in_err-bytes g t c = leave_s _ c.from_residual.ensures.1 (rw c.bytes.ensures at c.in_err-bytes.ensures)

pub include_one-returns-in_err-opens-in-Some : goal.include_one-returns-in_err-opens-in-Some
unfolding include_one
include_one-returns-in_err-opens-in-Some g t c = then_s _ (rw c.bytes.ensures at c.in_ok-bytes.ensures) (rw c.in-Some.is (leave_s _ c.from_residual-in_err-opens-in-Some.ensures.1 (owned_s _ (rw c.bytes-in-Some.ensures at c.in_err-opens-in-Some.ensures))))

pub include_one-returns-in_err-lines-in-Some : goal.include_one-returns-in_err-lines-in-Some
unfolding include_one
include_one-returns-in_err-lines-in-Some g t c = then_s _ (rw c.bytes.ensures at c.in_ok-bytes.ensures) (rw c.in-Some.is (then_s _ (owned_s {r = Ok tt} _ (rw c.bytes-in-Some.ensures at c.in_ok-opens-in-Some.ensures)) (out_s _ refl c.from_residual-in_err-lines-in-Some.ensures.1)))

pub include_one-returns-in_ok-lines-in-Some : goal.include_one-returns-in_ok-lines-in-Some
unfolding include_one
include_one-returns-in_ok-lines-in-Some g t c = then_s _ (rw c.bytes.ensures at c.in_ok-bytes.ensures) (rw c.in-Some.is (then_s _ (owned_s {r = Ok tt} _ (rw c.bytes-in-Some.ensures at c.in_ok-opens-in-Some.ensures)) (rw (c.in_ok-lines-in-Some.ensures, c.bytes-in-Some-3.ensures) at c.read_text.ensures)))

pub include_one-returns-in-None : goal.include_one-returns-in-None
unfolding include_one
include_one-returns-in-None g t c = then_s _ (rw c.bytes.ensures at c.in_ok-bytes.ensures) (rw c.in-None.is (owned_s _ (rw c.bytes-in-None.ensures at c.lacks.ensures)))
