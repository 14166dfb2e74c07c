use Rattle.std.proofs.Common.{◌≡◌, Some, true, sym, ap, ◌∙◌}
use Rattle.std.specs.Prelude.{nat_eq, slice_get}
use Rattle.em_cond.specs.Nests.{is_waiting}
use Rattle.em_cond.proofs.Turning.{one_off}
use Rattle.em_cond.proofs.nest.Nest.may_turn.Goals as goal

pub returns-then-is_waiting : goal.returns-then-is_waiting
returns-then-is_waiting c =
    let waits : is_waiting c.in-Some.top.now ≡ true = sym c.is_waiting.ensures ∙ c.if-is_waiting.true in
    let e : Some c.in-Some.top.now ≡ slice_get c.self.inside.«open» 0 = c.in-Some.ensures in
    rw (← c.self.view_is) (ap (λ n. nat_eq n 1) c.self.invariant ∙ one_off c.self.inside.«open» c.in-Some.top.now e waits)
