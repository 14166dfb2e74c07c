use Rattle.em_base.proofs.Trimming.{trimmed_parts, trimmed_first, trimmed_last}
use Rattle.em_base.proofs.laws.law_trimmed.Goals as goal

pub returns : goal.returns
returns c = record { parts = trimmed_parts; first = trimmed_first; last = trimmed_last }
