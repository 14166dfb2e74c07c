use Rattle.em_program.proofs.Reaching.{headline, none_at}
use Rattle.em_program.proofs.top.emake.Goals as goal

pub returns-clause-headline : goal.returns-clause-headline
returns-clause-headline g c = rw (c.exit_status-status.ensures, c.notes_in-notes.ensures) (headline c.args.words.now _ _ _ c.run-answer.ensures.told)

pub returns-clause-none : goal.returns-clause-none
returns-clause-none g c = rw (c.exit_status-status.ensures, c.notes_in-notes.ensures) (none_at _)
