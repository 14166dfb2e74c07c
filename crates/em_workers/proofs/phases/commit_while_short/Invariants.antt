use Rattle.std.proofs.Common.{◌≡◌, ◌-◌, Ok, None, length}
use Rattle.em_workers.specs.Commits.{Commits}
use Rattle.em_workers.proofs.phases.commit_while_short.Given as goal

abbrev pub invariant-loop-notes : goal.invariant-loop-notes
invariant-loop-notes g l = record {
  commits : Commits g.S.Spec.job_of g.S.PartialEq.eq g.S.Spec.makes g.S.Spec.ends_after {A = Unit {0}} l.notes (Ok tt) l.initial.front l.front
      None None (g.H.Host.told l.initial.host) (g.H.Host.told l.host);
  faults : g.H.Host.faults l.host ≡ g.H.Host.faults l.initial.host;
}

abbrev pub decreases-loop-notes : goal.decreases-loop-notes
decreases-loop-notes g l = length l.front.specs - length l.front.deltas
