use Rattle.std.proofs.Common.{◌≡◌, ◌∙◌, ◌<◌, ◌≤◌, ◌^◌, length, sym, subst, None, arith}
use Rattle.em_insight.specs.Each.{Each}
use Rattle.em_insight.specs.Jobs.{refusal}
use Rattle.em_insight.specs.Schedules.{end_of, IsGreedy}
use Rattle.em_insight.proofs.Dispatching.{slots_small, slots_within, greedy}
use Rattle.em_insight.proofs.Finding.{slots_are}
use Rattle.em_insight.proofs.listing.schedule.Goals as goal

pub loop-dispatch-smaller : goal.loop-dispatch-smaller
loop-dispatch-smaller c =
    let more = c.in_ok-step.ensures.more c.if-branch.true in
    let few = subst (λ z. length c.step.new.self.slots.items ≤ length z) (c.step.ensures.lines ∙ c.loop-dispatch.invariant.lines) (slots_within c.step.new.self c.in_ok-step.ensures.standing) in
    omega (arith, more, few)

pub last_end-span-requires : goal.last_end-span-requires
last_end-span-requires c =
    let lines = c.step.ensures.lines ∙ c.loop-dispatch.invariant.lines ∙ sym c.items-lines.ensures in
    let ok = subst (λ z. refusal z ≡ None) (sym lines) c.in_ok-check.ensures.ok in
    let small = slots_small c.step.new.self c.in_ok-step.ensures.standing ok in
    subst (Each (λ s. (s.job < length c.items-lines.result.now) × (end_of c.items-lines.result.now s ≤ 2 ^ 62))) (sym c.deref.ensures.value)
    (subst (λ z. Each (λ s. (s.job < length z) × (end_of z s ≤ 2 ^ 62)) c.step.new.self.slots.items) lines small)

pub returns-clause-greedy : goal.returns-clause-greedy
returns-clause-greedy c =
    subst (IsGreedy c.args.report.now.lines c.args.agents) (sym c.from_vec.ensures)
    (greedy c.step.new.self c.args.report.now.lines c.args.agents c.in_ok-step.ensures.standing (c.in_ok-step.ensures.none c.if-branch.false) (c.step.ensures.lines ∙ c.loop-dispatch.invariant.lines)
    (c.in_ok-step.ensures.agents ∙ c.loop-dispatch.invariant.agents))

pub returns-clause-slots : goal.returns-clause-slots
returns-clause-slots c = slots_are c.args.report.now.lines c.args.agents c.from_vec.result (returns-clause-greedy c)
