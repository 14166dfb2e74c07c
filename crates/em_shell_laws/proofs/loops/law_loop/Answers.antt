use Rattle.em_shell_laws.proofs.Looping as loop
use Rattle.em_shell_laws.proofs.loops.law_loop.Goals as goal

pub returns : goal.returns
returns c = record {
  begins = λ deeper scene o c h w. loop.begins deeper scene o c h w;
  spent = λ deeper scene o c last h w none. loop.spent deeper scene o c last h w none;
  over = λ deeper scene o c last h t w v some e isnt. loop.over deeper scene o c last h w some t v e isnt;
  again = λ deeper scene o c last h t k w v x less_test less some e is f. loop.once_more deeper scene o c last h w some t v e is k x less_test less f;
  break_in_test = λ deeper scene o c last h t w v some e. loop.break_in_test deeper scene o c last h w some t v e;
  continue_in_test = λ deeper scene o c last h t w v less_test less some e. loop.continue_in_test deeper scene o c last h w some t v less_test less e;
  break_in_body = λ deeper scene o c last h t k w v x some e is f. loop.break_in_body deeper scene o c last h w some t v e is k x f;
  continue_in_body = λ deeper scene o c last h t k w v x less_test less some e is f. loop.continue_in_body deeper scene o c last h w some t v e is k x less_test less f;
  exit_in_test = λ deeper scene o c last h t w v some e. loop.exit_in_test deeper scene o c last h w some t v e;
  exit_in_body = λ deeper scene o c last h t k w v x some e is f. loop.exit_in_body deeper scene o c last h w some t v e is k x f;
  no_end_in_test = λ deeper scene o c last h t w v y some e. loop.no_end_in_test deeper scene o c last h w some t v y e;
  no_end_in_body = λ deeper scene o c last h t k w v x y some e is f. loop.no_end_in_body deeper scene o c last h w some t v e is k x y f;
  unbounded = λ deeper scene o c last n h w less_test less low. loop.unbounded deeper scene o c last n h w less_test less low;
}
