use Rattle.std.proofs.Common.{◌≡◌, length, refl, subst, arith}
use Rattle.std.proofs.lemmas.Option.{slice_get_read}
use Rattle.em_insight.specs.Queues.{IsFiled}
use Rattle.em_insight.proofs.Linking.{sound}
use Rattle.em_insight.proofs.Filing.{fill_more, fill_last}
use Rattle.em_insight.proofs.queue.Queue.new.Goals as goal

pub file-requires-clause-known : goal.file-requires-clause-known
file-requires-clause-known c =
    let is : c.line-item.result.job ≡ c.loop-line.line-index = (sound c.args.lines.now c.requires).job c.loop-line.line-index c.line-item.result
    (slice_get_read c.args.lines.now (length c.args.lines.now) c.loop-line.line-index c.line-item.result refl c.loop-line-test.true c.line-item.is) in
    omega (arith, is, c.loop-line-test.true)

pub loop-line-preserved : goal.loop-line-preserved
loop-line-preserved c =
    let is : c.line-item.result.job ≡ c.loop-line.line-index = (sound c.args.lines.now c.requires).job c.loop-line.line-index c.line-item.result
    (slice_get_read c.args.lines.now (length c.args.lines.now) c.loop-line.line-index c.line-item.result refl c.loop-line-test.true c.line-item.is) in
    fill_more c.args.lines.now c.loop-line.queue c.file.new.self c.loop-line.line-index c.loop-line.invariant c.in_ok-file.ensures.synced (subst (IsFiled c.args.lines.now c.file.new.self) is c.in_ok-file.ensures.filed)
    c.in_ok-file.ensures.others c.in_ok-file.ensures.loose c.in_ok-file.ensures.starts c.in_ok-file.ensures.ready

pub returns-clause-filed : goal.returns-clause-filed
returns-clause-filed c = fill_last c.args.lines.now c.loop-line.queue c.loop-line.line-index c.loop-line.invariant c.loop-line-test.false
