use Rattle.std.proofs.Common.{◌+◌, ◌-◌, ◌∙◌, sym, length}
use Rattle.std.proofs.lemmas.Result.{err_from_is_err_and}
use Rattle.em_report.specs.Parts.{seen}
use Rattle.em_report.specs.Reading.{lines_at}
use Rattle.em_report.proofs.Joins.{lines_end, line_fails, line_more, lines_turn, lines_out}
use Rattle.em_report.proofs.reading.lines.Goals as goal

pub returns-then-not-begins_line : goal.returns-then-not-begins_line
returns-then-not-begins_line c =
    let n = length c.args.cursor.rest.now in
    let h = seen c.loop.here in
    let whole = lines_at n (seen c.args.cursor) in
    lines_end c.loop.lines (n - (c.loop.counter + 1)) h whole (sym c.begins_line.ensures ∙ c.if-not-begins_line.true) (lines_turn c.loop.lines n c.loop.counter h whole c.loop-test.true c.loop.invariant)

pub returns-in_err-line : goal.returns-in_err-line
returns-in_err-line c =
    let p = err_from_is_err_and c.from_residual.result c.from_residual.ensures.1 in
    let n = length c.args.cursor.rest.now in
    let h = seen c.loop.here in
    let whole = lines_at n (seen c.args.cursor) in
    rw (p.1, p.2) (line_fails c.in_err-line.field-0.0 c.loop.lines (n - (c.loop.counter + 1)) h whole (sym c.begins_line.ensures ∙ c.if-not-begins_line.false) c.in_err-line.ensures
    (lines_turn c.loop.lines n c.loop.counter h whole c.loop-test.true c.loop.invariant))

pub loop-preserved : goal.loop-preserved
loop-preserved c =
    let n = length c.args.cursor.rest.now in
    let h = seen c.loop.here in
    let whole = lines_at n (seen c.args.cursor) in
    rw c.in_ok-push.ensures.ok (line_more c.loop.lines (n - (c.loop.counter + 1)) c.in_ok-line.line h (seen c.in_ok-line.after) whole (sym c.begins_line.ensures ∙ c.if-not-begins_line.false) c.in_ok-line.ensures
    (lines_turn c.loop.lines n c.loop.counter h whole c.loop-test.true c.loop.invariant))

pub returns : goal.returns
returns c =
    let n = length c.args.cursor.rest.now in
    lines_out c.loop.lines n c.loop.counter (seen c.loop.here) (lines_at n (seen c.args.cursor)) c.loop-test.false c.loop.invariant
