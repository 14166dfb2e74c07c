use Rattle.em_laws.proofs.Filing.{rm_law}
use Rattle.em_laws.proofs.Sparing.{rm_below_law, rm_others_law}
use Rattle.em_laws.proofs.files.law_rm.Goals as goal

pub returns-clause-gone : goal.returns-clause-gone
returns-clause-gone c = rm_law

pub returns-clause-below : goal.returns-clause-below
returns-clause-below c = rm_below_law

pub returns-clause-others : goal.returns-clause-others
returns-clause-others c = rm_others_law
