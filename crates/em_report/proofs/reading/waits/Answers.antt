use Rattle.std.proofs.Common.{◌+◌, ◌-◌, length}
use Rattle.std.proofs.lemmas.Result.{err_from_is_err_and}
use Rattle.em_report.specs.Parts.{seen, waits_at}
use Rattle.em_report.proofs.Joins.{gap_fails, waits_end, wait_fails, wait_more, waits_turn, waits_out}
use Rattle.em_report.proofs.reading.waits.Goals as goal

pub returns-in_err-is_end : goal.returns-in_err-is_end
returns-in_err-is_end c =
    let p = err_from_is_err_and c.from_residual.result c.from_residual.ensures.1 in
    let n = length c.args.cursor.rest.now in
    let h = seen c.loop.here in
    let whole = waits_at n (seen c.args.cursor) in
    rw (p.1, p.2) (gap_fails c.in_err-is_end.field-0.0 c.loop.waits (n - (c.loop.counter + 1)) h whole c.in_err-is_end.ensures.gives
    (waits_turn c.loop.waits n c.loop.counter h whole c.loop-test.true c.loop.invariant))

pub returns-then-is_end : goal.returns-then-is_end
returns-then-is_end c =
    let n = length c.args.cursor.rest.now in
    let h = seen c.loop.here in
    let whole = waits_at n (seen c.args.cursor) in
    waits_end c.loop.waits (n - (c.loop.counter + 1)) h (seen c.in_ok-is_end.after) whole (rw c.if-is_end.true at c.in_ok-is_end.ensures.gives)
    (waits_turn c.loop.waits n c.loop.counter h whole c.loop-test.true c.loop.invariant)

pub returns-in_err-wait : goal.returns-in_err-wait
returns-in_err-wait c =
    let p = err_from_is_err_and c.from_residual-in_err-wait.result c.from_residual-in_err-wait.ensures.1 in
    let n = length c.args.cursor.rest.now in
    let h = seen c.loop.here in
    let whole = waits_at n (seen c.args.cursor) in
    rw (p.1, p.2) (wait_fails c.in_err-wait.field-0.0 c.loop.waits (n - (c.loop.counter + 1)) h (seen c.in_ok-is_end.after) whole (rw c.if-is_end.false at c.in_ok-is_end.ensures.gives)
    (rw c.from.ensures at c.in_err-wait.ensures.gives) (waits_turn c.loop.waits n c.loop.counter h whole c.loop-test.true c.loop.invariant))

pub loop-preserved : goal.loop-preserved
loop-preserved c =
    let n = length c.args.cursor.rest.now in
    let h = seen c.loop.here in
    let whole = waits_at n (seen c.args.cursor) in
    rw c.in_ok-push.ensures.ok (wait_more c.loop.waits (n - (c.loop.counter + 1)) c.in_ok-wait.wait h (seen c.in_ok-is_end.after) (seen c.in_ok-wait.after) whole
    (rw c.if-is_end.false at c.in_ok-is_end.ensures.gives) (rw c.from.ensures at c.in_ok-wait.ensures.gives) (waits_turn c.loop.waits n c.loop.counter h whole c.loop-test.true c.loop.invariant))

pub returns : goal.returns
returns c =
    let n = length c.args.cursor.rest.now in
    waits_out c.loop.waits n c.loop.counter (seen c.loop.here) (waits_at n (seen c.args.cursor)) c.loop-test.false c.loop.invariant
