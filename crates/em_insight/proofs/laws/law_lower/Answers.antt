use Rattle.em_insight.proofs.Lower.{no_shorter, shared}
use Rattle.em_insight.proofs.laws.law_lower.Goals as goal

pub returns-clause-chain : goal.returns-clause-chain
returns-clause-chain c = no_shorter

pub returns-clause-shared : goal.returns-clause-shared
returns-clause-shared c = shared
