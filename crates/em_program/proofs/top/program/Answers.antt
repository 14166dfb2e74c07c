use Rattle.em_program.proofs.Reaching.{exits, exits_none}
use Rattle.em_program.specs.Words.{words_of}
use Rattle.em_program.proofs.top.program.Goals as goal

pub returns-in-Ok-clause-headline : goal.returns-in-Ok-clause-headline
returns-in-Ok-clause-headline g c =
    exits (words_of c.args.args) c.emake.result.status c.emake.result.notes _ _ (rw (c.behind_first.ensures, c.items.ensures, c.in-Ok.ensures.words) at c.emake.ensures.headline)

pub returns-in-Err-clause-headline : goal.returns-in-Err-clause-headline
returns-in-Err-clause-headline g c = exits_none (words_of c.args.args) _
