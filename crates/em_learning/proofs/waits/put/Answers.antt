use Rattle.em_learning.proofs.Numbers.{numbers_put}
use Rattle.em_learning.proofs.waits.put.Goals as goal

pub returns : goal.returns
returns c = λ q. rw (c.in_ok-insert.ensures.ok, c.taken-own.ensures.rest, c.in_ok-copy.ensures, c.in_ok-push.ensures.ok, c.taken-own.ensures.value, c.bytes.ensures) (numbers_put _ _ _ q)
