use Rattle.em_program_laws.proofs.Leaving.{left_refused}
use Rattle.em_program_laws.proofs.Replacing.{nothing_generated, nothing_asked, nothing_explained, nothing_on_page, nothing_unordered}
use Rattle.em_program_laws.proofs.laws.law_nothing_replaced.Goals as goal

pub returns-clause-refused : goal.returns-clause-refused
returns-clause-refused c = λ words builds files verdict e. left_refused builds words files verdict e

pub returns-clause-unordered : goal.returns-clause-unordered
returns-clause-unordered c = nothing_unordered

pub returns-clause-page : goal.returns-clause-page
returns-clause-page c = nothing_on_page

pub returns-clause-explained : goal.returns-clause-explained
returns-clause-explained c = nothing_explained

pub returns-clause-generated : goal.returns-clause-generated
returns-clause-generated c = nothing_generated

pub returns-clause-asked : goal.returns-clause-asked
returns-clause-asked c = nothing_asked
