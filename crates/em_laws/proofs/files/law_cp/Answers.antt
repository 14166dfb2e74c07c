use Rattle.em_laws.proofs.Filing.{cp_bytes}
use Rattle.em_laws.proofs.Leaving.{cp_new_law, cp_over_law}
use Rattle.em_laws.proofs.files.law_cp.Goals as goal

pub returns-clause-bytes : goal.returns-clause-bytes
returns-clause-bytes c = cp_bytes

pub returns-clause-new : goal.returns-clause-new
returns-clause-new c = cp_new_law

pub returns-clause-over : goal.returns-clause-over
returns-clause-over c = cp_over_law
