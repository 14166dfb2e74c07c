use Rattle.std.proofs.Common.{refl, ◌∙◌}
use Rattle.em_workers.proofs.Committing.{commits_none, commits_then, commits_more, commits_end, commits_out, as_err, fewer}
use Rattle.em_workers.proofs.phases.commit_while_short.Goals as goal

pub loop-notes-init : goal.loop-notes-init
loop-notes-init g c = record { commits = rw c.new-notes.ensures (commits_none _ _ _ _ _ _ _ tt); faults = refl }

pub loop-notes-smaller : goal.loop-notes-smaller
loop-notes-smaller g c = fewer _ _ _ _ _ _ _ _ _ _ _ _ (rw c.in-Some.is at c.in_ok-note.ensures.commits)

pub loop-notes-preserved : goal.loop-notes-preserved
loop-notes-preserved g c = record {
  commits = rw c.in_ok-notes.ensures (commits_more _ _ _ _ _ _ _ _ _ _ _ _ _ _ _ _ _ c.loop-notes.invariant.commits (rw c.in-Some.is at c.in_ok-note.ensures.commits));
  faults = c.in_ok-note.ensures.faults ∙ c.loop-notes.invariant.faults;
}

pub returns-in_err-note-clause-commits : goal.returns-in_err-note-clause-commits
returns-in_err-note-clause-commits g c =
    as_err _ _ _ _ _ _ _ _ _ _ _ _ _ _ c.from_residual.ensures.1
    (commits_then _ _ _ _ tt _ _ _ _ _ _ _ _ _ _ _ _ c.loop-notes.invariant.commits c.in_err-note.ensures.commits)

pub returns-in_err-notes-clause-commits : goal.returns-in_err-notes-clause-commits
returns-in_err-notes-clause-commits g c =
    commits_out _ _ _ _ _ _ _ _ _ _ _ _ _ _ _ _ _ _ _ c.from_residual-in_err-notes.ensures.1 c.loop-notes.invariant.commits
    (rw c.in-Some.is at c.in_ok-note.ensures.commits)

pub returns-clause-commits : goal.returns-clause-commits
returns-clause-commits g c =
    commits_end _ _ _ _ _ _ _ _ _ _ _ _ _ _ _ _ _ c.loop-notes.invariant.commits (rw c.in_default.is at c.in_ok-note.ensures.commits)
