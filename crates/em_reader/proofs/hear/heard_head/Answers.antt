use Rattle.std.proofs.Common.{refl}
use Rattle.em_view.proofs.Doing.{out_s}
use Rattle.em_reader.specs.Hearing.{heard_head}
use Rattle.em_reader.proofs.hear.heard_head.Goals as goal

pub returns-in_err-pieces : goal.returns-in_err-pieces
unfolding heard_head
returns-in_err-pieces g c = out_s _ refl c.from_residual.ensures.1

pub returns : goal.returns
unfolding heard_head
returns g c = rw (c.items.ensures, c.in_ok-pieces.ensures) at c.heard_pieces.ensures
