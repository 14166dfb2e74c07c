use Rattle.std.proofs.Common.{◌≡◌, ◌∙◌, false, refl, sym, ap, subst}
use Rattle.std.specs.Prelude.{not, ◌==◌}
use Rattle.std.specs.declared.cmp.Ordering.{Ordering}
use Rattle.std.specs.declared.cmp.Ordering.TheVariants.{Less, Equal, Greater}
use Rattle.std.specs.Ordering.{ordering_index}
use Rattle.em_history.proofs.Reading.{Passed, passed_none, passed_all, passed_more, no_pair, no_order}
use Rattle.em_history.proofs.text.pairs_in.Goals as goal

less : (o : Ordering) → not (ordering_index o == 0) ≡ false → o ≡ Less
less Less h = refl
less Equal h = absurd cc
less Greater h = absurd cc

pub loop-line-init : goal.loop-line-init
loop-line-init c = rw (c.new-pairs.ensures.items, c.into_iter-line-iterator.ensures.into_iter_gives, c.lines_with_terminator-line-items.ensures.value) (passed_none c.args.body.now)

pub returns-in_default : goal.returns-in_default
returns-in_default c =
    let passed = subst (Passed c.args.body.now c.loop-line.pairs.items c.loop-line.previous.now) c.in-Some.ensures.steps c.loop-line.invariant in
    no_pair c.args.body.now c.loop-line.pairs.items c.loop-line.previous.now c.in-Some.line.now c.next.new.self passed c.in_default.ensures

pub returns-then-ne : goal.returns-then-ne
returns-then-ne c =
    let passed = subst (Passed c.args.body.now c.loop-line.pairs.items c.loop-line.previous.now) c.in-Some.ensures.steps c.loop-line.invariant in
    no_order c.args.body.now c.loop-line.pairs.items c.loop-line.previous.now c.in-Some.line.now c.next.new.self passed
    (λ rises. let bad = c.if-ne.ensures ∙ ap (λ o. not (ordering_index o == 0)) (c.cmp.ensures ∙ rises) in absurd cc)

pub loop-line-preserved : goal.loop-line-preserved
loop-line-preserved c =
    let passed = subst (Passed c.args.body.now c.loop-line.pairs.items c.loop-line.previous.now) c.in-Some.ensures.steps c.loop-line.invariant in
    let names = c.in-Some-names_in.ensures in
    rw (c.in_ok-push.ensures.items, c.in_ok-from_slice.ensures, c.in_ok-from_slice-2.ensures) (passed_more c.args.body.now c.loop-line.pairs.items c.loop-line.previous.now c.in-Some.line.now c.next.new.self
    (c.in-Some-names_in.target.now, c.in-Some-names_in.needed.now) passed names.0 names.1 (sym c.cmp.ensures ∙ less c.cmp.result (sym c.ne.ensures ∙ c.if-ne.false)))

pub returns : goal.returns
returns c =
    let passed = subst (Passed c.args.body.now c.loop-line.pairs.items c.loop-line.previous.now) c.in-None.ensures.steps.0 c.loop-line.invariant in
    (passed.history, passed_all c.args.body.now c.loop-line.pairs.items c.loop-line.previous.now passed)
