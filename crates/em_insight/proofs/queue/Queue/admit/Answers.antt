use Rattle.std.proofs.Common.{refl}
use Rattle.em_insight.proofs.Filing.{admit_more, admit_last}
use Rattle.em_insight.proofs.queue.Queue.admit.Goals as goal

pub loop-due-preserved : goal.loop-due-preserved
loop-due-preserved c =
    admit_more c.args.lines.now c.args.moment c.args.self.now c.loop-due.self _ c.in-Some.due c.in-Some.job c.loop-due.invariant c.in-Some.ensures.was c.in-Some.ensures.due refl refl c.in-Some.ensures.taken c.in_ok-insert.ensures.updates

pub returns-clause-later : goal.returns-clause-later
returns-clause-later c = admit_last c.args.lines.now c.args.moment c.loop-due.self c.loop-due.invariant.synced c.in_default.ensures.none
