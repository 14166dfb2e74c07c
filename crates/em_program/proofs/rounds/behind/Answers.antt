use Rattle.std.proofs.Common.{refl, sym, ◌∙◌}
use Rattle.em_program.specs.declared.stop.ProgramEnd.TheVariants.{NoMemory}
use Rattle.em_program.proofs.Following.{ran_out, faults_left}
use Rattle.em_program.proofs.Rounding.{next_round, last_build}
use Rattle.em_program.proofs.rounds.behind.Goals as goal

pub returns-in_err-site-clause-told : goal.returns-in_err-site-clause-told
returns-in_err-site-clause-told g c = ran_out c.from_residual.ensures.1

pub returns-in_err-changed-clause-told : goal.returns-in_err-changed-clause-told
returns-in_err-changed-clause-told g c = ran_out c.from_residual-in_err-changed.ensures.1

pub returns-in_err-changed-clause-faults : goal.returns-in_err-changed-clause-faults
returns-in_err-changed-clause-faults g c = faults_left c.from_residual-in_err-changed.result NoMemory _ _ _ c.from_residual-in_err-changed.ensures.1 refl refl

pub returns-then-branch-clause-told : goal.returns-then-branch-clause-told
returns-then-branch-clause-told g c =
    rw (next_round c.args.remaking _ _ c.in_ok-site.ensures (sym (rw c.items.ensures at c.in_ok-changed.ensures) ∙ c.if-branch.true)) c.round.ensures.told

pub returns-clause-told : goal.returns-clause-told
returns-clause-told g c =
    rw (last_build c.args.remaking _ _ c.in_ok-site.ensures (sym (rw c.items.ensures at c.in_ok-changed.ensures) ∙ c.if-branch.false)) c.last_step.ensures.told
