use Rattle.std.proofs.Common.{◌≡◌, ◌∙◌, ◌<◌, ◌≤◌, ℕ, length, get_or, sym, ap, subst, true}
use Rattle.std.specs.Prelude.{max}
use Rattle.std.specs.Ordering.{nat_cmp}
use Rattle.std.specs.BTreeSet.{contains}
use Rattle.em_insight.proofs.Dispatching.{offers_ready, offers_due, none_offered, some_member, if_none, none_len}
use Rattle.em_insight.proofs.dispatch.Dispatch.moment.Goals as goal

pub returns-then-is_some-clause-offers : goal.returns-then-is_some-clause-offers
returns-then-is_some-clause-offers c =
    let some = subst (λ z. (a : ℕ) × (a < length z) × (get_or z a 0 ≡ c.first_free.result)) c.deref.ensures.value c.first_free.ensures.some in
    let lowest = subst (λ z. (a : ℕ) → a < length z → c.first_free.result ≤ get_or z a 0) c.deref.ensures.value c.first_free.ensures.least in
    let k = some_member c.first.result (λ x. contains nat_cmp c.args.self.now.queue.ready x.now ≡ true) (sym c.is_some.ensures ∙ c.if-is_some.true) c.first.ensures.member in
    offers_ready c.args.self.now c.requires.order c.requires.standing c.first_free.result some lowest k.0.now c.max-free.result k.1 c.max-free.ensures

pub returns-in_err-due-clause-none : goal.returns-in_err-due-clause-none
returns-in_err-due-clause-none c =
    let some = subst (λ z. (a : ℕ) × (a < length z) × (get_or z a 0 ≡ c.first_free.result)) c.deref.ensures.value c.first_free.ensures.some in
    let lowest = subst (λ z. (a : ℕ) → a < length z → c.first_free.result ≤ get_or z a 0) c.deref.ensures.value c.first_free.ensures.least in
    let empty = none_len c.first.result (length c.args.self.now.queue.ready.keys) (sym c.is_some.ensures ∙ c.if-is_some.false) c.first.ensures.variant in
    if_none c.from_residual.result (none_offered c.args.self.now c.requires.order c.requires.standing c.first_free.result some lowest empty c.in_err-due.ensures.none)

pub returns-clause-offers : goal.returns-clause-offers
returns-clause-offers c =
    let some = subst (λ z. (a : ℕ) × (a < length z) × (get_or z a 0 ≡ c.first_free.result)) c.deref.ensures.value c.first_free.ensures.some in
    let lowest = subst (λ z. (a : ℕ) → a < length z → c.first_free.result ≤ get_or z a 0) c.deref.ensures.value c.first_free.ensures.least in
    let empty = none_len c.first.result (length c.args.self.now.queue.ready.keys) (sym c.is_some.ensures ∙ c.if-is_some.false) c.first.ensures.variant in
    offers_due c.args.self.now c.requires.order c.requires.standing c.first_free.result some lowest c.in_ok-due.due c.max.result empty c.in_ok-due.ensures.some c.in_ok-due.ensures.least
    (c.max.ensures ∙ ap (λ z. max z c.in_ok-due.due) c.max-free.ensures)
