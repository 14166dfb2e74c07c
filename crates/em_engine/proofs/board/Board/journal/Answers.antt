use Rattle.std.proofs.Common.{subst}
use Rattle.em_engine.specs.Boards.{Seen, AreTied, told}
use Rattle.em_engine.proofs.board.Board.journal.Goals as goal

pub returns-clause-tied : goal.returns-clause-tied
returns-clause-tied g c = subst (λ (b : Seen g.row.S.Denot). AreTied g.S.Spec.job_of b.phases (told b).posts) c.self.view_is c.self.invariant.1
