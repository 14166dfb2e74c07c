use Rattle.em_program.proofs.Following.{finish}
use Rattle.em_program.proofs.site.recalled.Goals as goal

pub returns-in-Create-clause-told : goal.returns-in-Create-clause-told
returns-in-Create-clause-told g c = rw (c.in-Create.is, c.new.ensures) finish
