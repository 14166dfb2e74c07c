use Rattle.std.proofs.Common.{refl}
use Rattle.em_view.proofs.Performing.{then, leave, finish, ran_out}
use Rattle.em_namefn.specs.Wildcards.{wildcard}
use Rattle.em_namefn.proofs.wild.wildcard.Goals as goal

pub returns-in_err-words-clause-performs : goal.returns-in_err-words-clause-performs
returns-in_err-words-clause-performs g c = ran_out _ refl c.from_residual.ensures.1

pub returns-in_err-names-clause-performs : goal.returns-in_err-names-clause-performs
unfolding wildcard
returns-in_err-names-clause-performs g c = leave _ c.from_residual-in_err-names.ensures.1 (rw (c.deref.ensures.value, c.in_ok-words.ensures) at c.in_err-names.ensures.performs)

pub returns-clause-performs : goal.returns-clause-performs
unfolding wildcard
returns-clause-performs g c = then _ (rw (c.deref.ensures.value, c.in_ok-words.ensures) at c.in_ok-names.ensures.performs) (rw (c.in_ok-join_texts.ensures, c.items.ensures) finish)
