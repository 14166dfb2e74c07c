use Rattle.em_rules.proofs.Indexing.{noted_name}
use Rattle.em_rules.proofs.uses.note.Goals as goal

pub returns : goal.returns
returns c = λ q. rw (c.in_ok-insert.ensures.ok, c.uses_before.ensures.rest, c.in_ok-copy.ensures, c.in_ok-uses.ensures, c.uses_before.ensures.value, c.bytes.ensures) (noted_name _ _ _ q)
