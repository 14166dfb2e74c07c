use Rattle.std.proofs.lemmas.Result.{err_from_is_err_and}
use Rattle.em_report.specs.Parts.{seen, text_at}
use Rattle.em_report.proofs.Steps.{text_more, text_ends, text_done}
use Rattle.em_report.proofs.parts.text.Goals as goal

pub returns-in_err-after-clause-gives : goal.returns-in_err-after-clause-gives
returns-in_err-after-clause-gives c =
    let p = err_from_is_err_and c.from_residual.result c.from_residual.ensures.1 in
    rw (p.1, p.2) (text_ends c.in_err-after.field-0.0 c.args.bytes.now c.loop-byte.byte-index (seen c.loop-byte.after) (text_at c.args.bytes.now (seen c.args.cursor)) c.loop-byte-test.true c.in_err-after.ensures.gives c.loop-byte.invariant)

pub loop-byte-preserved : goal.loop-byte-preserved
loop-byte-preserved c = text_more c.args.bytes.now c.loop-byte.byte-index (seen c.loop-byte.after) (seen c.in_ok-after.after) (text_at c.args.bytes.now (seen c.args.cursor)) c.loop-byte-test.true c.in_ok-after.ensures.gives c.loop-byte.invariant

pub returns-clause-gives : goal.returns-clause-gives
returns-clause-gives c = text_done c.args.bytes.now c.loop-byte.byte-index (seen c.loop-byte.after) (text_at c.args.bytes.now (seen c.args.cursor)) c.loop-byte-test.false c.loop-byte.invariant
