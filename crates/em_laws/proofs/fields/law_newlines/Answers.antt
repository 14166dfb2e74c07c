use Rattle.em_laws.proofs.Splitting.{newlines_off}
use Rattle.em_laws.proofs.fields.law_newlines.Goals as goal

pub returns : goal.returns
returns c = newlines_off
