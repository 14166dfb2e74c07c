use Rattle.em_laws.proofs.Commenting.{bare_begins, bare_none, bare_plain, bare_quoted}
use Rattle.em_laws.proofs.comments.law_comment.Goals as goal

pub returns-clause-none : goal.returns-clause-none
returns-clause-none c = bare_none

pub returns-clause-begins : goal.returns-clause-begins
returns-clause-begins c = bare_begins

pub returns-clause-escaped : goal.returns-clause-escaped
returns-clause-escaped c = bare_quoted

pub returns-clause-plain : goal.returns-clause-plain
returns-clause-plain c = bare_plain
