use Rattle.em_program_laws.proofs.Showing.{shown, other_history}
use Rattle.em_program_laws.proofs.laws.law_unseen.Goals as goal

pub returns-clause-seen : goal.returns-clause-seen
returns-clause-seen c = λ words builds others f g made seen. shown words builds others made f g seen

pub returns-clause-history : goal.returns-clause-history
returns-clause-history c = λ words builds others files name bytes made. other_history words builds others made files name bytes
