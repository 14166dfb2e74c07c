use Rattle.em_program_laws.proofs.Heading.{printed, status_is, put, stays, has}
use Rattle.em_program_laws.proofs.laws.law_headline.Goals as goal

pub returns-clause-printed : goal.returns-clause-printed
returns-clause-printed c = printed

pub returns-clause-status : goal.returns-clause-status
returns-clause-status c = status_is

pub returns-clause-image : goal.returns-clause-image
returns-clause-image c = put

pub returns-clause-limit : goal.returns-clause-limit
returns-clause-limit c = stays

pub returns-clause-tree : goal.returns-clause-tree
returns-clause-tree c = has
