use Rattle.std.proofs.Common.{refl}
use Rattle.em_program_laws.proofs.laws.law_no_rounds.Goals as goal

pub returns-clause-first : goal.returns-clause-first
returns-clause-first c = λ left s cwd r none. rw none refl

pub returns-clause-last : goal.returns-clause-last
returns-clause-last c = λ p b. refl
