use Rattle.em_lines.proofs.Bared.{bare_front}
use Rattle.em_lines.proofs.laws.law_bare.Goals as goal

pub returns : goal.returns
returns c = bare_front
