use Rattle.em_shell_laws.proofs.Spelling.{longest}
use Rattle.em_shell_laws.proofs.lexemes.law_longest.Goals as goal

pub returns : goal.returns
returns c = λ within s at what op rest is e all none. longest within s at is what op rest e all none
