use Rattle.em_shell_laws.proofs.Quoting.{double_quoted}
use Rattle.em_shell_laws.proofs.lexemes.law_double_quotes.Goals as goal

pub returns : goal.returns
returns c = double_quoted
