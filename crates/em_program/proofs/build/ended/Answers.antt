use Rattle.std.proofs.Common.{refl}
use Rattle.em_program.specs.declared.stop.ProgramEnd.TheVariants.{NoMemory}
use Rattle.em_program.proofs.Following.{then, leave, finish, out}
use Rattle.em_program.proofs.Rounding.{tally_out}
use Rattle.em_program.proofs.build.ended.Goals as goal

pub returns-in_err-verdict-clause-told : goal.returns-in_err-verdict-clause-told
returns-in_err-verdict-clause-told g c = tally_out c.from_residual.result _ c.from_residual.ensures.1 (leave _ refl c.in_err-verdict.ensures.told)

pub returns-in_err-joined-clause-told : goal.returns-in_err-joined-clause-told
returns-in_err-joined-clause-told g c = tally_out c.from_residual-in_err-joined.result NoMemory c.from_residual-in_err-joined.ensures.1 (then _ c.in_ok-verdict.ensures.told out)

pub returns-clause-told : goal.returns-clause-told
returns-clause-told g c = rw (c.len-jobs.ensures, c.count-nodes.ensures.count) (then _ c.in_ok-verdict.ensures.told finish)
