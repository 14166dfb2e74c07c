use Rattle.std.proofs.Common.{◌∙◌, refl, sym}
use Rattle.em_view.proofs.Performing.{then, finish, ran_out, lifted, lifted_leave}
use Rattle.em_word.specs.Ends.{of_desk}
use Rattle.em_word.specs.Turns.{names_of, names_that_match}
use Rattle.em_word.proofs.Stepping.{desk_same}
use Rattle.em_word.proofs.names.names_of.Goals as goal

pub returns-in_err-names : goal.returns-in_err-names
unfolding names_of names_that_match
returns-in_err-names g c = rw (sym c.is_pattern.ensures ∙ c.if-is_pattern.true) (lifted_leave of_desk _ desk_same c.from_residual.ensures.1 c.in_err-names.ensures.performs)

pub returns-in_err-or_itself : goal.returns-in_err-or_itself
unfolding names_of names_that_match
returns-in_err-or_itself g c = rw (sym c.is_pattern.ensures ∙ c.if-is_pattern.true) (then _ (lifted of_desk c.in_ok-names.ensures.performs) (ran_out _ refl c.from_residual-in_err-or_itself.ensures.1))

pub returns-in_err-or_itself-2 : goal.returns-in_err-or_itself-2
returns-in_err-or_itself-2 g c = ran_out _ refl c.from_residual-in_err-or_itself-2.ensures.1

pub returns-in_ok-or_itself : goal.returns-in_ok-or_itself
unfolding names_of names_that_match
returns-in_ok-or_itself g c = rw (sym c.is_pattern.ensures ∙ c.if-is_pattern.true) (then _ (lifted of_desk c.in_ok-names.ensures.performs) (rw c.in_ok-or_itself.ensures finish))

pub returns-in_ok-or_itself-2 : goal.returns-in_ok-or_itself-2
unfolding names_of
returns-in_ok-or_itself-2 g c = rw (sym c.is_pattern.ensures ∙ c.if-is_pattern.false) (rw (let e = rw c.new.ensures at c.in_ok-or_itself-2.ensures in e) finish)
