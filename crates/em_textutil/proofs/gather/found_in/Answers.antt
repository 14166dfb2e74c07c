use Rattle.std.proofs.Common.{refl}
use Rattle.em_view.proofs.Performing.{finish, ran_out}
use Rattle.em_textutil.specs.Sources.{found_in}
use Rattle.em_textutil.proofs.gather.found_in.Goals as goal

pub returns-in_err-input_found : goal.returns-in_err-input_found
returns-in_err-input_found g c = ran_out _ refl c.from_residual.ensures.1

pub returns-in_ok-input_found : goal.returns-in_ok-input_found
unfolding found_in
returns-in_ok-input_found g c = rw (← c.is_input.ensures, c.if-is_input.true, c.in_ok-input_found.ensures) finish

pub returns-else-is_input : goal.returns-else-is_input
unfolding found_in
returns-else-is_input g c = rw (← c.is_input.ensures, c.if-is_input.false) c.found.ensures
