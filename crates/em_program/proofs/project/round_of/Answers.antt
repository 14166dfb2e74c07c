use Rattle.std.proofs.Common.{refl}
use Rattle.em_program.proofs.Following.{then, leave, finish}
use Rattle.em_program.proofs.Ends.{round_ok, round_err}
use Rattle.em_program.proofs.project.round_of.Goals as goal

pub returns-in_err-say-in-Ok-clause-told : goal.returns-in_err-say-in-Ok-clause-told
returns-in_err-say-in-Ok-clause-told g c =
    let is = round_ok c.args.order.now c.args.start.now c.in-Ok.round _ c.read_round.new.said c.new-said.ensures (c.in-Ok.ensures refl) in
    rw is (leave _ c.from_residual.ensures.1 (rw c.bytes.ensures at c.in_err-say-in-Ok.ensures.told))

pub returns-in-Ok-clause-told : goal.returns-in-Ok-clause-told
returns-in-Ok-clause-told g c =
    let is = round_ok c.args.order.now c.args.start.now c.in-Ok.round _ c.read_round.new.said c.new-said.ensures (c.in-Ok.ensures refl) in
    rw is (then _ (rw c.bytes.ensures at c.in_ok-say-in-Ok.ensures.told) finish)

pub returns-in_err-say-in-At-clause-told : goal.returns-in_err-say-in-At-clause-told
returns-in_err-say-in-At-clause-told g c =
    let told = rw c.in-At.is at c.in-Err.ensures in
    let is = round_err c.args.order.now c.args.start.now _ _ c.read_round.new.said c.new-said.ensures (told refl) in
    rw is (leave _ c.from_residual-in_err-say-in-At.ensures.1 (rw c.bytes-in-At.ensures at c.in_err-say-in-At.ensures.told))

pub returns-clause-told : goal.returns-clause-told
returns-clause-told g c =
    let told = rw c.in-At.is at c.in-Err.ensures in
    let is = round_err c.args.order.now c.args.start.now _ _ c.read_round.new.said c.new-said.ensures (told refl) in
    rw is (then _ (rw c.bytes-in-At.ensures at c.in_ok-say-in-At.ensures.told) (rw (c.bytes-in-At-2.ensures, c.in_ok-line-in-At.ensures) at c.stop.ensures.told))
