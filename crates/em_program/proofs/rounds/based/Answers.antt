use Rattle.em_program.specs.Projects.{HasRoom}
use Rattle.em_program.proofs.Following.{finish, ran_out}
use Rattle.em_program.proofs.Ends.{base_low, base_high, if_err}
use Rattle.em_program.proofs.rounds.based.Goals as goal

pub returns-in_err-line-clause-told : goal.returns-in_err-line-clause-told
returns-in_err-line-clause-told g c = ran_out c.from_residual.ensures.1

pub returns-then-base-gt-LAST_BASE-clause-told : goal.returns-then-base-gt-LAST_BASE-clause-told
returns-then-base-gt-LAST_BASE-clause-told g c = rw (base_high c.args.tree.now (rw c.base.ensures.base at c.if-base-gt-LAST_BASE.true)) (rw (c.bytes.ensures, c.in_ok-line.ensures) at c.stop.ensures.told)

pub returns-then-base-gt-LAST_BASE-clause-room : goal.returns-then-base-gt-LAST_BASE-clause-room
returns-then-base-gt-LAST_BASE-clause-room g c = if_err (λ u. HasRoom c.args.tree.now) c.stop.result c.stop.ensures.ends

pub returns-clause-told : goal.returns-clause-told
returns-clause-told g c = rw (base_low c.args.tree.now (rw c.base.ensures.base at c.if-base-gt-LAST_BASE.false)) finish

pub returns-clause-room : goal.returns-clause-room
returns-clause-room g c = rw c.base.ensures.base at c.if-base-gt-LAST_BASE.false
