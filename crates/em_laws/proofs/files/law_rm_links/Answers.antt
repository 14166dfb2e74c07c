use Rattle.em_laws.proofs.Linking.{rm_link}
use Rattle.em_laws.proofs.files.law_rm_links.Goals as goal

pub returns : goal.returns
returns c = rm_link
