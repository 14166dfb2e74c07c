use Rattle.em_shell_laws.proofs.Redirecting.{write, append}
use Rattle.em_shell_laws.proofs.Writing.{behind, behind_old, read}
use Rattle.em_shell_laws.proofs.redirections.law_file.Goals as goal

pub returns : goal.returns
returns c = record {
  write = λ deeper scene o r s f h t w v is. write deeper scene o r s f h t w v is;
  append = λ deeper scene o r s f h t w v found. append deeper scene o r s f h t w v found;
  behind = λ o f old text h w v none holds e. behind o f old h w v none text holds e;
  behind_old = λ o f old text h w u v none was some e. behind_old o f old h w v none text u was some e;
  read = read;
}
