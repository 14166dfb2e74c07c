use Rattle.std.proofs.Common.{sym, subst}
use Rattle.em_insight.proofs.Dispatching.{Stand, stand_first}
use Rattle.em_insight.proofs.dispatch.Dispatch.new.Goals as goal

pub returns-clause-standing : goal.returns-clause-standing
returns-clause-standing c =
    let h = subst (λ ss. Stand c.args.lines.now ss c.in_ok-new.field-0 c.in_ok-idle.field-0.items 0) (sym c.in_ok-with_capacity.ensures.items)
    (stand_first c.args.lines.now c.in_ok-new.field-0 c.in_ok-idle.field-0.items c.in_ok-new.ensures.synced c.in_ok-new.ensures.filed c.in_ok-new.ensures.none c.in_ok-new.ensures.ready c.in_ok-idle.ensures.free) in
    record { next = h.next; based = h.based; come = h.come; low = h.low; late = h.late }
