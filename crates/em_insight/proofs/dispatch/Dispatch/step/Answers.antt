use Rattle.std.proofs.Common.{◌≡◌, ◌+◌, ◌<◌, ◌≤◌, ℕ, Some, length, get_or, slice_get, set, sym, ap, subst, arith, false}
use Rattle.std.specs.Ordering.{nat_cmp}
use Rattle.std.specs.Prelude.{◌↔◌}
use Rattle.std.specs.BTreeSet.{Updates}
use Rattle.em_insight.specs.declared.queue.Place.TheVariants.{Ready}
use Rattle.em_insight.specs.Queues.{HasStarted}
use Rattle.em_insight.specs.Jobs.{fuel_at}
use Rattle.em_insight.proofs.Filing.{synced_started, start_loose, start_filed, start_mine}
use Rattle.em_insight.proofs.Dispatching.{picked, some_ready, none_pop, none_in_set, stand_then, Stand, fuel_is, pick_end, get_within}
use Rattle.em_insight.proofs.dispatch.Dispatch.step.Goals as goal

pub returns-in_default-pop_first-clause-standing : goal.returns-in_default-pop_first-clause-standing
returns-in_default-pop_first-clause-standing c = absurd (let one = some_ready c.args.self.now c.in-Some.moment c.admit.new.self c.requires.standing c.in-Some.ensures.offers c.in_ok-admit.ensures.synced c.in_ok-admit.ensures.filed c.in_ok-admit.ensures.starts c.in_ok-admit.ensures.come c.in_ok-admit.ensures.later in none_in_set c.admit.new.self.ready one.0 (none_pop c.pop_first.result (length c.admit.new.self.ready.keys) c.in_default-pop_first.is c.pop_first.ensures.variant) one.1)

pub returns-in_default-pop_first-clause-none : goal.returns-in_default-pop_first-clause-none
returns-in_default-pop_first-clause-none c = absurd (let one = some_ready c.args.self.now c.in-Some.moment c.admit.new.self c.requires.standing c.in-Some.ensures.offers c.in_ok-admit.ensures.synced c.in_ok-admit.ensures.filed c.in_ok-admit.ensures.starts c.in_ok-admit.ensures.come c.in_ok-admit.ensures.later in none_in_set c.admit.new.self.ready one.0 (none_pop c.pop_first.result (length c.admit.new.self.ready.keys) c.in_default-pop_first.is c.pop_first.ensures.variant) one.1)

pub bounds-self-job : goal.bounds-self-job
bounds-self-job c = (picked c.args.self.now c.in-Some.moment c.admit.new.self c.requires.standing c.in-Some.ensures.offers c.in_ok-admit.ensures.synced c.in_ok-admit.ensures.filed c.in_ok-admit.ensures.starts c.in_ok-admit.ensures.come c.in_ok-admit.ensures.later c.in-Some-pop_first.job c.agent_at-agent.result c.in-Some-pop_first.ensures.member c.in-Some-pop_first.ensures.least (subst (λ z. c.agent_at-agent.result < length z) c.deref.ensures.value c.agent_at-agent.ensures.known) (subst (λ z. get_or z c.agent_at-agent.result 0 ≤ c.in-Some.moment) c.deref.ensures.value c.agent_at-agent.ensures.free) (subst (λ z. (a : ℕ) → get_or z a 0 ≤ c.in-Some.moment → a < length z → c.agent_at-agent.result ≤ a) c.deref.ensures.value c.agent_at-agent.ensures.first)).next.can.known.0

pub overflow_add-end : goal.overflow_add-end
overflow_add-end c = (let p = (picked c.args.self.now c.in-Some.moment c.admit.new.self c.requires.standing c.in-Some.ensures.offers c.in_ok-admit.ensures.synced c.in_ok-admit.ensures.filed c.in_ok-admit.ensures.starts c.in_ok-admit.ensures.come c.in_ok-admit.ensures.later c.in-Some-pop_first.job c.agent_at-agent.result c.in-Some-pop_first.ensures.member c.in-Some-pop_first.ensures.least (subst (λ z. c.agent_at-agent.result < length z) c.deref.ensures.value c.agent_at-agent.ensures.known) (subst (λ z. get_or z c.agent_at-agent.result 0 ≤ c.in-Some.moment) c.deref.ensures.value c.agent_at-agent.ensures.free) (subst (λ z. (a : ℕ) → get_or z a 0 ≤ c.in-Some.moment → a < length z → c.agent_at-agent.result ≤ a) c.deref.ensures.value c.agent_at-agent.ensures.first)) in omega (arith, pick_end c.args.self.now c.in-Some.moment c.in-Some-pop_first.job c.agent_at-agent.result c.admit.new.self c.requires.standing p c.requires.order, fuel_is c.args.self.now.lines.now c.in-Some-pop_first.job c.index-self-job.result p.next.can.known.0))

pub overflow_cast-agent : goal.overflow_cast-agent
overflow_cast-agent c = (let k : c.agent_at-agent.result < length c.args.self.now.free.items = (picked c.args.self.now c.in-Some.moment c.admit.new.self c.requires.standing c.in-Some.ensures.offers c.in_ok-admit.ensures.synced c.in_ok-admit.ensures.filed c.in_ok-admit.ensures.starts c.in_ok-admit.ensures.come c.in_ok-admit.ensures.later c.in-Some-pop_first.job c.agent_at-agent.result c.in-Some-pop_first.ensures.member c.in-Some-pop_first.ensures.least (subst (λ z. c.agent_at-agent.result < length z) c.deref.ensures.value c.agent_at-agent.ensures.known) (subst (λ z. get_or z c.agent_at-agent.result 0 ≤ c.in-Some.moment) c.deref.ensures.value c.agent_at-agent.ensures.free) (subst (λ z. (a : ℕ) → get_or z a 0 ≤ c.in-Some.moment → a < length z → c.agent_at-agent.result ≤ a) c.deref.ensures.value c.agent_at-agent.ensures.first)).next.can.known.1 in omega (arith, k, c.requires.few))

pub start-requires : goal.start-requires
start-requires c = (let p = (picked c.args.self.now c.in-Some.moment c.admit.new.self c.requires.standing c.in-Some.ensures.offers c.in_ok-admit.ensures.synced c.in_ok-admit.ensures.filed c.in_ok-admit.ensures.starts c.in_ok-admit.ensures.come c.in_ok-admit.ensures.later c.in-Some-pop_first.job c.agent_at-agent.result c.in-Some-pop_first.ensures.member c.in-Some-pop_first.ensures.least (subst (λ z. c.agent_at-agent.result < length z) c.deref.ensures.value c.agent_at-agent.ensures.known) (subst (λ z. get_or z c.agent_at-agent.result 0 ≤ c.in-Some.moment) c.deref.ensures.value c.agent_at-agent.ensures.free) (subst (λ z. (a : ℕ) → get_or z a 0 ≤ c.in-Some.moment → a < length z → c.agent_at-agent.result ≤ a) c.deref.ensures.value c.agent_at-agent.ensures.first)) in (get_within c.admit.new.self.places.items c.in-Some-pop_first.job _ p.at))

pub release-requires-clause-known : goal.release-requires-clause-known
release-requires-clause-known c = (picked c.args.self.now c.in-Some.moment c.admit.new.self c.requires.standing c.in-Some.ensures.offers c.in_ok-admit.ensures.synced c.in_ok-admit.ensures.filed c.in_ok-admit.ensures.starts c.in_ok-admit.ensures.come c.in_ok-admit.ensures.later c.in-Some-pop_first.job c.agent_at-agent.result c.in-Some-pop_first.ensures.member c.in-Some-pop_first.ensures.least (subst (λ z. c.agent_at-agent.result < length z) c.deref.ensures.value c.agent_at-agent.ensures.known) (subst (λ z. get_or z c.agent_at-agent.result 0 ≤ c.in-Some.moment) c.deref.ensures.value c.agent_at-agent.ensures.free) (subst (λ z. (a : ℕ) → get_or z a 0 ≤ c.in-Some.moment → a < length z → c.agent_at-agent.result ≤ a) c.deref.ensures.value c.agent_at-agent.ensures.first)).next.can.known.0

pub release-requires-clause-synced : goal.release-requires-clause-synced
release-requires-clause-synced c = (let p = (picked c.args.self.now c.in-Some.moment c.admit.new.self c.requires.standing c.in-Some.ensures.offers c.in_ok-admit.ensures.synced c.in_ok-admit.ensures.filed c.in_ok-admit.ensures.starts c.in_ok-admit.ensures.come c.in_ok-admit.ensures.later c.in-Some-pop_first.job c.agent_at-agent.result c.in-Some-pop_first.ensures.member c.in-Some-pop_first.ensures.least (subst (λ z. c.agent_at-agent.result < length z) c.deref.ensures.value c.agent_at-agent.ensures.known) (subst (λ z. get_or z c.agent_at-agent.result 0 ≤ c.in-Some.moment) c.deref.ensures.value c.agent_at-agent.ensures.free) (subst (λ z. (a : ℕ) → get_or z a 0 ≤ c.in-Some.moment → a < length z → c.agent_at-agent.result ≤ a) c.deref.ensures.value c.agent_at-agent.ensures.first)) in synced_started c.args.self.now.lines.now c.admit.new.self c.start.new.self c.in-Some-pop_first.job p.due (c.in-Some.moment + (get_or c.args.self.now.lines.now c.in-Some-pop_first.job c.index-self-job.result).fuel) p.based.synced p.at c.start.ensures.places c.start.ensures.held c.start.ensures.coming
    (subst (λ z. Updates nat_cmp c.admit.new.self.ready z c.in-Some-pop_first.job false) (sym c.start.ensures.ready) c.in-Some-pop_first.ensures.updates))

pub release-requires-clause-started : goal.release-requires-clause-started
release-requires-clause-started c = (let p = (picked c.args.self.now c.in-Some.moment c.admit.new.self c.requires.standing c.in-Some.ensures.offers c.in_ok-admit.ensures.synced c.in_ok-admit.ensures.filed c.in_ok-admit.ensures.starts c.in_ok-admit.ensures.come c.in_ok-admit.ensures.later c.in-Some-pop_first.job c.agent_at-agent.result c.in-Some-pop_first.ensures.member c.in-Some-pop_first.ensures.least (subst (λ z. c.agent_at-agent.result < length z) c.deref.ensures.value c.agent_at-agent.ensures.known) (subst (λ z. get_or z c.agent_at-agent.result 0 ≤ c.in-Some.moment) c.deref.ensures.value c.agent_at-agent.ensures.free) (subst (λ z. (a : ℕ) → get_or z a 0 ≤ c.in-Some.moment → a < length z → c.agent_at-agent.result ≤ a) c.deref.ensures.value c.agent_at-agent.ensures.first)) in (c.in-Some.moment + (get_or c.args.self.now.lines.now c.in-Some-pop_first.job c.index-self-job.result).fuel, start_mine c.args.self.now.lines.now c.admit.new.self c.start.new.self c.in-Some-pop_first.job p.due (c.in-Some.moment + (get_or c.args.self.now.lines.now c.in-Some-pop_first.job c.index-self-job.result).fuel) p.at (get_within c.admit.new.self.places.items c.in-Some-pop_first.job _ p.at) c.start.ensures.places c.start.ensures.held))

pub release-requires-clause-loose : goal.release-requires-clause-loose
release-requires-clause-loose c = (let p = (picked c.args.self.now c.in-Some.moment c.admit.new.self c.requires.standing c.in-Some.ensures.offers c.in_ok-admit.ensures.synced c.in_ok-admit.ensures.filed c.in_ok-admit.ensures.starts c.in_ok-admit.ensures.come c.in_ok-admit.ensures.later c.in-Some-pop_first.job c.agent_at-agent.result c.in-Some-pop_first.ensures.member c.in-Some-pop_first.ensures.least (subst (λ z. c.agent_at-agent.result < length z) c.deref.ensures.value c.agent_at-agent.ensures.known) (subst (λ z. get_or z c.agent_at-agent.result 0 ≤ c.in-Some.moment) c.deref.ensures.value c.agent_at-agent.ensures.free) (subst (λ z. (a : ℕ) → get_or z a 0 ≤ c.in-Some.moment → a < length z → c.agent_at-agent.result ≤ a) c.deref.ensures.value c.agent_at-agent.ensures.first)) in start_loose c.args.self.now.lines.now c.admit.new.self c.start.new.self c.in-Some-pop_first.job p.due (c.in-Some.moment + (get_or c.args.self.now.lines.now c.in-Some-pop_first.job c.index-self-job.result).fuel) p.at (get_within c.admit.new.self.places.items c.in-Some-pop_first.job _ p.at) c.start.ensures.places c.start.ensures.held p.based.filed)

pub release-requires-clause-filed : goal.release-requires-clause-filed
release-requires-clause-filed c = (let p = (picked c.args.self.now c.in-Some.moment c.admit.new.self c.requires.standing c.in-Some.ensures.offers c.in_ok-admit.ensures.synced c.in_ok-admit.ensures.filed c.in_ok-admit.ensures.starts c.in_ok-admit.ensures.come c.in_ok-admit.ensures.later c.in-Some-pop_first.job c.agent_at-agent.result c.in-Some-pop_first.ensures.member c.in-Some-pop_first.ensures.least (subst (λ z. c.agent_at-agent.result < length z) c.deref.ensures.value c.agent_at-agent.ensures.known) (subst (λ z. get_or z c.agent_at-agent.result 0 ≤ c.in-Some.moment) c.deref.ensures.value c.agent_at-agent.ensures.free) (subst (λ z. (a : ℕ) → get_or z a 0 ≤ c.in-Some.moment → a < length z → c.agent_at-agent.result ≤ a) c.deref.ensures.value c.agent_at-agent.ensures.first)) in start_filed c.args.self.now.lines.now c.admit.new.self c.start.new.self c.in-Some-pop_first.job p.due (c.in-Some.moment + (get_or c.args.self.now.lines.now c.in-Some-pop_first.job c.index-self-job.result).fuel) p.at (get_within c.admit.new.self.places.items c.in-Some-pop_first.job _ p.at) c.start.ensures.places c.start.ensures.held p.based.filed)

pub returns-clause-standing : goal.returns-clause-standing
returns-clause-standing c =
    let p = (picked c.args.self.now c.in-Some.moment c.admit.new.self c.requires.standing c.in-Some.ensures.offers c.in_ok-admit.ensures.synced c.in_ok-admit.ensures.filed c.in_ok-admit.ensures.starts c.in_ok-admit.ensures.come c.in_ok-admit.ensures.later c.in-Some-pop_first.job c.agent_at-agent.result c.in-Some-pop_first.ensures.member c.in-Some-pop_first.ensures.least (subst (λ z. c.agent_at-agent.result < length z) c.deref.ensures.value c.agent_at-agent.ensures.known) (subst (λ z. get_or z c.agent_at-agent.result 0 ≤ c.in-Some.moment) c.deref.ensures.value c.agent_at-agent.ensures.free) (subst (λ z. (a : ℕ) → get_or z a 0 ≤ c.in-Some.moment → a < length z → c.agent_at-agent.result ≤ a) c.deref.ensures.value c.agent_at-agent.ensures.first)) in
    let e : c.in-Some.moment + (get_or c.args.self.now.lines.now c.in-Some-pop_first.job c.index-self-job.result).fuel ≡ c.in-Some.moment + fuel_at c.args.self.now.lines.now c.in-Some-pop_first.job = ap (λ z. c.in-Some.moment + z) (fuel_is c.args.self.now.lines.now c.in-Some-pop_first.job c.index-self-job.result p.next.can.known.0) in
    let stand = stand_then c.args.self.now c.in-Some.moment c.in-Some-pop_first.job c.agent_at-agent.result (c.in-Some.moment + (get_or c.args.self.now.lines.now c.in-Some-pop_first.job c.index-self-job.result).fuel) c.admit.new.self c.release.new.self c.requires.standing c.in-Some.ensures.offers c.in_ok-admit.ensures.come p
    p.next.can.known.1 (subst (λ z. get_or z c.agent_at-agent.result 0 ≤ c.in-Some.moment) c.deref.ensures.value c.agent_at-agent.ensures.free) e
    (subst (λ ps. (j e : ℕ) → HasStarted ps e j ↔ HasStarted c.release.new.self.places.items e j) c.start.ensures.places c.in_ok-release.ensures.starts)
    (subst (λ ps. (j due : ℕ) → slice_get c.release.new.self.places.items j ≡ Some (Ready due) → slice_get ps j ≡ Some (Ready due)) c.start.ensures.places c.in_ok-release.ensures.ready)
    c.in_ok-release.ensures.synced c.in_ok-release.ensures.filed in
    let h = subst (λ ss. Stand c.args.self.now.lines.now ss c.release.new.self (set c.args.self.now.free.items c.agent_at-agent.result (c.in-Some.moment + (get_or c.args.self.now.lines.now c.in-Some-pop_first.job c.index-self-job.result).fuel)) c.in-Some.moment) (sym c.in_ok-push.ensures.items) stand in
    record { next = h.next; based = h.based; come = h.come; low = h.low; late = h.late }
