use Rattle.em_program.proofs.Following.{then, leave, finish, ran_out}
use Rattle.em_program.proofs.site.recalled_from.Goals as goal

pub returns-in-None-clause-told : goal.returns-in-None-clause-told
returns-in-None-clause-told g c = rw (c.in-None.is, c.new.ensures) finish

pub returns-in_err-found-in-Some-clause-told : goal.returns-in_err-found-in-Some-clause-told
returns-in_err-found-in-Some-clause-told g c = rw c.in-Some.is (leave _ c.from_residual.ensures.1 (rw c.bytes.ensures at c.in_err-found-in-Some.ensures.told))

pub returns-in_err-pairs_of-in-Some-clause-told : goal.returns-in_err-pairs_of-in-Some-clause-told
returns-in_err-pairs_of-in-Some-clause-told g c =
    rw c.in-Some.is (then _ (rw c.bytes.ensures at c.in_ok-found-in-Some.ensures.told) (ran_out c.from_residual-in_err-pairs_of-in-Some.ensures.1))

pub returns-in_ok-pairs_of-in-Some-clause-told : goal.returns-in_ok-pairs_of-in-Some-clause-told
returns-in_ok-pairs_of-in-Some-clause-told g c =
    rw c.in-Some.is (then _ (rw c.bytes.ensures at c.in_ok-found-in-Some.ensures.told) (rw c.in_ok-pairs_of-in-Some.ensures finish))
