use Rattle.std.proofs.Common.{refl, ◌∙◌}
use Rattle.em_workers.proofs.Building.{builds, breaks, breaks_early}
use Rattle.em_workers.proofs.builder.build_alone.Goals as goal

pub returns-in_err-front-clause-builds : goal.returns-in_err-front-clause-builds
returns-in_err-front-clause-builds g c = breaks_early _ _ _ _ _ _ _ c.from_residual.ensures.1

pub returns-in_err-notes-clause-builds : goal.returns-in_err-notes-clause-builds
returns-in_err-notes-clause-builds g c =
    breaks _ _ _ _ _ _ _ _ _ _ _ _ _ _ _ c.from_residual-in_err-notes.ensures.1 (rw c.in_ok-front.ensures at c.in_err-notes.ensures.commits)

pub returns-clause-builds : goal.returns-clause-builds
returns-clause-builds g c =
    builds _ _ _ _ _ _ _ _ _ _ _ _ _ _ _ (rw c.in_ok-front.ensures at c.in_ok-notes.ensures.commits) c.in_ok-notes.ensures.last (λ one. c.in_ok-notes.ensures.once)
    c.close-state.ensures.state (c.from_vec-fuel.ensures ∙ c.close-state.ensures.fuel) refl
