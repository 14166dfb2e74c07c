use Rattle.em_shell_laws.proofs.Compounding.{delivers, no_end, write, append_old}
use Rattle.em_shell_laws.proofs.redirections.law_compound.Goals as goal

pub returns : goal.returns
returns c = record {
  delivered = λ deeper scene o c rs s h t k z w v x y ended opened comes has e. delivers deeper scene o c rs s h t k w v x opened z y ended comes has e;
  no_end = λ deeper scene o c rs s h t k w v x e opened comes. no_end deeper scene o c rs s h t k w v x opened e comes;
  write = write;
  append = append_old;
}
