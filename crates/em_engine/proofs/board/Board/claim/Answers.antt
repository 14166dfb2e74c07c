use Rattle.std.proofs.Common.{◌≡◌, ◌∙◌, List, ap, subst, false}
use Rattle.em_engine.specs.declared.ready.JobStage.{JobStage}
use Rattle.em_engine.specs.Stages.{IsLeast, Finds}
use Rattle.em_engine.specs.Journal.{Replay}
use Rattle.em_engine.specs.Boards.{Seen, told, stages}
use Rattle.em_engine.proofs.Steps.{claims_none}
use Rattle.em_engine.proofs.board.Board.claim.Goals as goal

pub returns-in-Job : goal.returns-in-Job
returns-in-Job g c =
    let P : Seen g.row.S.Denot → Type 0 = λ b. (told b).stopped ≡ false in
    let Q : Seen g.row.S.Denot → Type 0 = λ b. IsLeast (record { waits = b.waits; stages = stages b }) c.in-Job.job in
    let R : List JobStage → Type 0 = λ ss. IsLeast (record { waits = c.self.inside.ready.waits; stages = ss }) c.in-Job.job in (
      subst P c.self.view_is (ap (λ (r : Replay). r.stopped) c.self.invariant.0.replayed ∙ c.if-self.false),
      subst Q c.self.view_is (subst R c.self.invariant.0.staged (rw c.in-Job.is at c.least-found.ensures)),
      c.begin.ensures,
    )

pub returns-in_default : goal.returns-in_default
returns-in_default g c =
    let F : List JobStage → Type 0 = λ ss. Finds (record { waits = c.self.inside.ready.waits; stages = ss }) c.least-found.result in
    rw (← c.self.view_is) (claims_none (record { start = c.self.inside.versions.start; waits = c.self.inside.ready.waits; journal = c.self.inside.journal.items; phases = c.self.inside.phases.items }) c.least-found.result (ap (λ (r : Replay). r.stopped) c.self.invariant.0.replayed ∙ c.if-self.false)
    (subst F c.self.invariant.0.staged c.least-found.ensures) c.in_default.not-Job)
