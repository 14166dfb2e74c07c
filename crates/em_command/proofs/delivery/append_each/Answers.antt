use Rattle.em_view.proofs.Doing.{more_s, stop_s, end_s, finish_s}
use Rattle.em_base.proofs.Lemmas.{left_at, none_at}
use Rattle.em_command.proofs.delivery.append_each.Goals as goal

pub loop-i-init : goal.loop-i-init
loop-i-init g c = λ new u r p. p

pub returns-in_default : goal.returns-in_default
returns-in_default g c =
    let file = left_at c.args.files.now c.loop-i.i c.index-files-i.result c.loop-i-test.true c.index-files-i.is in
    let none = none_at c.args.texts.now c.loop-i.i c.in_default.ensures.lookup.3 in
    end_s (rw (file, none) at c.loop-i.invariant) finish_s

pub returns-in_err-appended : goal.returns-in_err-appended
returns-in_err-appended g c =
    let file = left_at c.args.files.now c.loop-i.i c.index-files-i.result c.loop-i-test.true c.index-files-i.is in
    let text = left_at c.args.texts.now c.loop-i.i c.in-Some.text.now c.in-Some.ensures.lookup.3.0 c.in-Some.ensures.lookup.1 in
    stop_s _ (rw (file, text) at c.loop-i.invariant) c.from_residual.ensures.1 (rw c.bytes.ensures at c.in_err-appended.ensures)

pub loop-i-preserved : goal.loop-i-preserved
loop-i-preserved g c =
    let file = left_at c.args.files.now c.loop-i.i c.index-files-i.result c.loop-i-test.true c.index-files-i.is in
    let text = left_at c.args.texts.now c.loop-i.i c.in-Some.text.now c.in-Some.ensures.lookup.3.0 c.in-Some.ensures.lookup.1 in
    more_s _ (rw (file, text) at c.loop-i.invariant) (rw c.bytes.ensures at c.in_ok-appended.ensures)

pub returns : goal.returns
returns g c =
    let none = none_at c.args.files.now c.loop-i.i c.loop-i-test.false in
    end_s (rw none at c.loop-i.invariant) finish_s
