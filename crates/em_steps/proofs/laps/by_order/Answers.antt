use Rattle.std.proofs.Common.{refl, arith}
use Rattle.em_view.proofs.Doing.{out_s, owned_s}
use Rattle.em_cmdline.specs.SubWords.{sub_order}
use Rattle.em_steps.proofs.laps.by_order.Goals as goal

pub returns-in_err-order-clause-does : goal.returns-in_err-order-clause-does
returns-in_err-order-clause-does g c = out_s _ refl c.from_residual.ensures.1

pub in_dir-requires : goal.in_dir-requires
unfolding sub_order
in_dir-requires g c = let h = rw c.items.ensures at (rw c.in-Ok.is at c.in_ok-order.ensures) in rw h.0.1 (omega arith)

pub returns-in-Err-clause-does : goal.returns-in-Err-clause-does
returns-in-Err-clause-does g c = let h = rw c.items.ensures at (rw c.in-Err.is at c.in_ok-order.ensures) in rw h.1 (owned_s _ c.refuse_words.ensures.works)
