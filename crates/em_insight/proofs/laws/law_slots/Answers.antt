use Rattle.em_insight.proofs.Finding.{slots_are}
use Rattle.em_insight.proofs.laws.law_slots.Goals as goal

pub returns : goal.returns
returns c = slots_are
