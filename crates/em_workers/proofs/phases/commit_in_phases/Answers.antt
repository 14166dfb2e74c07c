use Rattle.std.proofs.Common.{refl, ◌∙◌}
use Rattle.em_workers.proofs.Committing.{commits_none, commits_then, commits_both, commits_more, commits_out, as_err}
use Rattle.em_workers.proofs.phases.commit_in_phases.Goals as goal

pub loop-init : goal.loop-init
loop-init g c = record { commits = rw c.new-notes.ensures (commits_none _ _ _ _ _ _ _ tt); faults = refl }

pub loop-preserved : goal.loop-preserved
loop-preserved g c = record {
  commits = rw c.in_ok-notes.ensures (commits_more _ _ _ _ _ _ _ _ _ _ _ _ _ _ _ _ _ c.loop.invariant.commits c.in_ok-more.ensures.commits);
  faults = c.in_ok-more.ensures.faults ∙ c.loop.invariant.faults;
}

pub returns-in_err-more-clause-commits : goal.returns-in_err-more-clause-commits
returns-in_err-more-clause-commits g c =
    as_err _ _ _ _ _ _ _ _ _ _ _ _ _ _ c.from_residual.ensures.1
    (commits_then _ _ _ _ tt _ _ _ _ _ _ _ _ _ _ _ _ c.loop.invariant.commits c.in_err-more.ensures.commits)

pub returns-in_err-notes-clause-commits : goal.returns-in_err-notes-clause-commits
returns-in_err-notes-clause-commits g c =
    commits_out _ _ _ _ _ _ _ _ _ _ _ _ _ _ _ _ _ _ _ c.from_residual-in_err-notes.ensures.1 c.loop.invariant.commits c.in_ok-more.ensures.commits

pub returns-in_err-rest-clause-commits : goal.returns-in_err-rest-clause-commits
returns-in_err-rest-clause-commits g c =
    as_err _ _ _ _ _ _ _ _ _ _ _ _ _ _ c.from_residual-in_err-rest.ensures.1
    (commits_then _ _ _ _ tt _ _ _ _ _ _ _ _ _ _ _ _ c.loop.invariant.commits c.in_err-rest.ensures.commits)

pub returns-in_err-all-clause-commits : goal.returns-in_err-all-clause-commits
returns-in_err-all-clause-commits g c =
    commits_out _ _ _ _ _ _ _ _ _ _ _ _ _ _ _ _ _ _ _ c.from_residual-in_err-all.ensures.1 c.loop.invariant.commits c.in_ok-rest.ensures.commits

pub returns-clause-commits : goal.returns-clause-commits
returns-clause-commits g c =
    rw c.in_ok-all.ensures (commits_both _ _ _ _ _ _ _ _ _ _ _ _ _ _ _ _ _ _ c.loop.invariant.commits c.in_ok-rest.ensures.commits)
