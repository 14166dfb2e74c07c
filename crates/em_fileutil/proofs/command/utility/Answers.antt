use Rattle.em_fileutil.proofs.Commands.{no_words}
use Rattle.em_fileutil.proofs.command.utility.Goals as goal

pub returns-in-Some : goal.returns-in-Some
returns-in-Some g c = rw c.in-Some.ensures.cases.0 (rw c.bytes.ensures at c.utility_for.ensures)

pub returns-in-None : goal.returns-in-None
returns-in-None g c = no_words c.args.words.now c.args.cwd.now c.in-None.ensures.cases
