use Rattle.em_workers.proofs.Noting.{notes_are}
use Rattle.em_workers.proofs.laws.law_notes.Goals as goal

pub returns : goal.returns
returns g c = λ s ds jobs lent made notes numbered turns. notes_are g.S.Spec.job_of g.S.PartialEq.eq s ds jobs lent made notes numbered turns
