use Rattle.em_gram.proofs.Holding.{no_commands_is}
use Rattle.em_gram.proofs.piece.no_commands.Goals as goal

pub returns : goal.returns
returns c = no_commands_is c.new.result c.new.ensures.items
