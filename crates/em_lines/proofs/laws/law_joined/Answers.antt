use Rattle.em_lines.proofs.Keeping.{joined_kept}
use Rattle.em_lines.proofs.laws.law_joined.Goals as goal

pub returns : goal.returns
returns c = joined_kept
