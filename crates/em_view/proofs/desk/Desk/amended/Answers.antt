use Rattle.std.proofs.Common.{refl}
use Rattle.em_view.specs.Rows.{amend}
use Rattle.em_view.proofs.Performing.{pure, ran_out}
use Rattle.em_view.proofs.desk.Desk.amended.Goals as goal

pub returns-in_err-with_own-in-Some-clause-performs : goal.returns-in_err-with_own-in-Some-clause-performs
returns-in_err-with_own-in-Some-clause-performs g c = ran_out _ refl c.from_residual.ensures.1

pub returns-in_ok-with_own-in-Some-clause-performs : goal.returns-in_ok-with_own-in-Some-clause-performs
unfolding amend
returns-in_ok-with_own-in-Some-clause-performs g c = rw (← c.self.view_is, c.in-Some.is, c.in_ok-with_own-in-Some.ensures) (pure (λ o. refl))

pub returns-in-None-clause-performs : goal.returns-in-None-clause-performs
unfolding amend
returns-in-None-clause-performs g c = rw c.in-None.is (pure (λ o. refl))
