use Rattle.em_shell_laws.proofs.Spelling.{vanishes}
use Rattle.em_shell_laws.proofs.lexemes.law_continued.Goals as goal

pub returns : goal.returns
returns c = λ within s at rest none outside heeds. vanishes within s at rest none outside heeds
