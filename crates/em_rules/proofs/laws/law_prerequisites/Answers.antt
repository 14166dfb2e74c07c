use Rattle.em_rules.proofs.Lawful.{joined, phony_joined}
use Rattle.em_rules.proofs.laws.law_prerequisites.Goals as goal

pub returns : goal.returns
returns c = record { joined = joined; phony = phony_joined }
