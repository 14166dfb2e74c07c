use Rattle.std.proofs.Common.{sym, ◌∙◌}
use Rattle.em_program.specs.declared.stop.ProgramEnd.TheVariants.{NoMemory}
use Rattle.em_program.specs.Rounds.{round}
use Rattle.em_program.proofs.Following.{then, leave, ran_out, faults_left}
use Rattle.em_program.proofs.Rounding.{lower, round_more, no_goals, some_goals}
use Rattle.em_program.proofs.rounds.round.Goals as goal

pub returns-then-left-eq0-clause-told : goal.returns-then-left-eq0-clause-told
unfolding round
returns-then-left-eq0-clause-told g c = rw c.if-left-eq0.true c.stop.ensures.told

pub returns-in_err-based-clause-told : goal.returns-in_err-based-clause-told
returns-in_err-based-clause-told g c =
    rw (round_more c.args.left c.args.site c.args.cwd c.if-left-eq0.false)
    (leave _ c.from_residual.ensures.1 c.in_err-based.ensures.told)

pub returns-in_err-found-clause-told : goal.returns-in_err-found-clause-told
returns-in_err-found-clause-told g c =
    rw (round_more c.args.left c.args.site c.args.cwd c.if-left-eq0.false)
    (then _ c.in_ok-based.ensures.told
    (leave _ c.from_residual-in_err-found.ensures.1 c.in_err-found.ensures.told))

pub returns-in_err-goals-clause-told : goal.returns-in_err-goals-clause-told
returns-in_err-goals-clause-told g c =
    rw (round_more c.args.left c.args.site c.args.cwd c.if-left-eq0.false)
    (then _ c.in_ok-based.ensures.told
    (then _ c.in_ok-found.ensures.told (ran_out c.from_residual-in_err-goals.ensures.1)))

pub returns-in_err-goals-clause-faults : goal.returns-in_err-goals-clause-faults
returns-in_err-goals-clause-faults g c = faults_left c.from_residual-in_err-goals.result NoMemory _ _ _ c.from_residual-in_err-goals.ensures.1 c.in_ok-found.ensures.faults c.in_ok-based.ensures.faults

pub returns-then-is_empty-clause-told : goal.returns-then-is_empty-clause-told
returns-then-is_empty-clause-told g c =
    rw (round_more c.args.left c.args.site c.args.cwd c.if-left-eq0.false)
    (then _ c.in_ok-based.ensures.told
    (then _ c.in_ok-found.ensures.told
    (rw (no_goals _ _ _ _ _ _ c.in_ok-goals.ensures (sym c.is_empty.ensures ∙ c.if-is_empty.true)) c.last_step.ensures.told)))

pub returns-then-is_empty-clause-is : goal.returns-then-is_empty-clause-is
returns-then-is_empty-clause-is g c = lower c.last_step.result _ c.args.left c.last_step.ensures.is

pub returns-clause-told : goal.returns-clause-told
returns-clause-told g c =
    rw (round_more c.args.left c.args.site c.args.cwd c.if-left-eq0.false)
    (then _ c.in_ok-based.ensures.told
    (then _ c.in_ok-found.ensures.told
    (rw (some_goals _ _ _ _ _ _ c.in_ok-goals.ensures (sym c.is_empty.ensures ∙ c.if-is_empty.false)) c.remade_step.ensures.told)))
