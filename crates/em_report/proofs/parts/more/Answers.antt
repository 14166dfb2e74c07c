use Rattle.std.proofs.Common.{rules}
use Rattle.em_report.specs.Parts.{seen, more_at}
use Rattle.em_report.proofs.Steps.{more_fits, more_stops, more_ends, one_on}
use Rattle.em_report.proofs.parts.more.Goals as goal

pub returns-in_default-clause-more : goal.returns-in_default-clause-more
returns-in_default-clause-more c =
    more_stops c.args.limit c.loop-byte.number c.loop-byte.here.at c.loop-byte.byte-index c.args.cursor.rest.now c.loop-byte.here.rest.now
    (more_at c.args.limit c.args.number (seen c.args.cursor)) c.loop-byte-test.true c.loop-byte.invariant.rest c.in_default.ensures c.loop-byte.invariant.gives

pub loop-byte-preserved : goal.loop-byte-preserved
loop-byte-preserved c = record {
  small = search rules;
  rest = search (rules, one_on);
  gives = rw c.skipped-here.ensures
      (more_fits c.args.limit c.loop-byte.number c.in-Some.next c.loop-byte.here.at c.loop-byte.byte-index c.args.cursor.rest.now c.loop-byte.here.rest.now
      (more_at c.args.limit c.args.number (seen c.args.cursor)) c.loop-byte-test.true c.loop-byte.invariant.rest c.in-Some.ensures c.loop-byte.invariant.gives);
}

pub returns-clause-more : goal.returns-clause-more
returns-clause-more c =
    more_ends c.args.limit c.loop-byte.number c.loop-byte.here.at c.loop-byte.byte-index c.args.cursor.rest.now c.loop-byte.here.rest.now
    (more_at c.args.limit c.args.number (seen c.args.cursor)) c.loop-byte-test.false c.loop-byte.invariant.rest c.loop-byte.invariant.gives
