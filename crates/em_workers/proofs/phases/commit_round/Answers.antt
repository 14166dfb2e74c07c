use Rattle.std.proofs.Common.{None, refl}
use Rattle.em_workers.proofs.Committing.{commits_none, commits_idle, commits_then, commits_both, commits_out, as_err}
use Rattle.em_workers.proofs.phases.commit_round.Goals as goal

pub returns-then-is_none-clause-commits : goal.returns-then-is_none-clause-commits
returns-then-is_none-clause-commits g c = rw c.new.ensures (commits_none _ _ _ _ _ None _ _)

pub returns-in_err-shared-clause-commits : goal.returns-in_err-shared-clause-commits
returns-in_err-shared-clause-commits g c = commits_idle _ _ _ _ _ _ _ _ None _ c.from_residual.ensures.1 refl

pub returns-in_err-notes-clause-commits : goal.returns-in_err-notes-clause-commits
returns-in_err-notes-clause-commits g c = as_err _ _ _ _ _ _ _ _ _ _ _ _ _ _ c.from_residual-in_err-notes.ensures.1 c.in_err-notes.ensures.commits

pub returns-in_err-more-clause-commits : goal.returns-in_err-more-clause-commits
returns-in_err-more-clause-commits g c =
    as_err _ _ _ _ _ _ _ _ _ _ _ _ _ _ c.from_residual-in_err-more.ensures.1
    (commits_then _ _ _ _ _ _ _ _ _ _ _ _ _ _ _ _ _ c.in_ok-notes.ensures.commits c.in_err-more.ensures.commits)

pub returns-in_err-all-clause-commits : goal.returns-in_err-all-clause-commits
returns-in_err-all-clause-commits g c =
    commits_out _ _ _ _ _ _ _ _ _ _ _ _ _ _ _ _ _ _ _ c.from_residual-in_err-all.ensures.1 c.in_ok-notes.ensures.commits c.in_ok-more.ensures.commits

pub returns-clause-commits : goal.returns-clause-commits
returns-clause-commits g c =
    rw c.in_ok-all.ensures (commits_both _ _ _ _ _ _ _ _ _ _ _ _ _ _ _ _ _ _ c.in_ok-notes.ensures.commits c.in_ok-more.ensures.commits)
