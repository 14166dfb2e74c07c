use Rattle.std.proofs.Common.{◌<◌, ◌+◌, length, take, get_or, sym, subst, arith}
use Rattle.std.proofs.lemmas.Option.{get_or_from_slice_get}
use Rattle.em_insight.specs.declared.queue.Place.TheVariants.{Started}
use Rattle.em_insight.specs.Queues.{IsDue}
use Rattle.em_insight.proofs.Filing.{due_more, at_of}
use Rattle.em_insight.proofs.Linking.{each_at}
use Rattle.em_insight.proofs.queue.advance.Goals as goal

pub returns-in_default : goal.returns-in_default
returns-in_default c = record {
  stops = omega arith;
  due = c.loop-at.invariant;
  held = λ lt end s. c.in_default.not-Started end (get_or_from_slice_get c.args.places.now (get_or c.args.waits.now c.loop-at.at 0) (Started end) _ s);
}

pub loop-at-preserved : goal.loop-at-preserved
loop-at-preserved c =
    let within : get_or c.args.waits.now c.loop-at.at 0 < length c.args.places.now = each_at (λ w. w < length c.args.places.now) c.args.waits.now c.loop-at.at c.loop-at-test.true c.requires.within in
    subst (IsDue c.args.places.now (take (c.loop-at.at + 1) c.args.waits.now)) (sym c.max-latest.ensures)
    (due_more c.args.places.now c.args.waits.now c.loop-at.at c.loop-at.latest c.in-Started.end c.loop-at-test.true c.loop-at.invariant
    (at_of c.args.places.now (get_or c.args.waits.now c.loop-at.at 0) _ (Started c.in-Started.end) within c.in-Started.is))
