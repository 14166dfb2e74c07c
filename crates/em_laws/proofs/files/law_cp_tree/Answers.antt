use Rattle.em_laws.proofs.Commanding.{cp_command}
use Rattle.em_laws.proofs.files.law_cp_tree.Goals as goal

pub returns : goal.returns
returns c = cp_command
