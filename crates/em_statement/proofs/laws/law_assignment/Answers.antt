use Rattle.em_statement.proofs.Assigned.{assigned}
use Rattle.em_statement.proofs.laws.law_assignment.Goals as goal

pub returns : goal.returns
returns c = assigned c.law_trimmed.ensures.parts
