use Rattle.em_shell_laws.proofs.Redirecting.{two_to_one, both, apart, both_written, apart_written}
use Rattle.em_shell_laws.proofs.redirections.law_order.Goals as goal

pub returns : goal.returns
returns c = record {
  digit = λ deeper scene o q is e. two_to_one deeper scene o q is e;
  both = λ deeper scene o r q s f h t w v empties doubled. both deeper scene o r q s f h t w v empties doubled;
  apart = λ deeper scene o r q s f h t w v empties doubled. apart deeper scene o r q s f h t w v empties doubled;
  both_written = both_written;
  apart_written = apart_written;
}
