use Rattle.em_view.proofs.Doing.{finish_s}
use Rattle.em_script.proofs.line.ShellLine.sub_words.Goals as goal

pub returns-in-Script-clause-does : goal.returns-in-Script-clause-does
returns-in-Script-clause-does g c = rw c.in-Script.is c.sub_words.ensures.does

pub returns-in-Wrong-clause-does : goal.returns-in-Wrong-clause-does
returns-in-Wrong-clause-does g c = rw c.in-Wrong.is finish_s

pub returns-in-Refused-clause-does : goal.returns-in-Refused-clause-does
returns-in-Refused-clause-does g c = rw c.in-Refused.is finish_s
