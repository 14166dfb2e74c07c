use Rattle.std.proofs.Common.{◌≡◌, ◌+◌, ◌-◌, ◌^◌, ◌∙◌, List, ℕ, length, min, ap, sym, arith, true, false}
use Rattle.std.specs.FinMap.{entries}
use Rattle.em_chain.specs.declared.lines.PathChain.{PathChain}
use Rattle.em_chain.specs.Lines.{LineTable}
use Rattle.em_chain.proofs.Lining.{line_entries}
use Rattle.em_chain.proofs.Posting.{heads, len_merged, head_counted, head_passed}
use Rattle.em_chain.proofs.lines.PathChains.count_below.Goals as goal

pub loop-line-init : goal.loop-line-init
loop-line-init c = record {
  fits = omega arith;
  count = ap (λ (es : List (List ℕ × PathChain)). min (0 + length (heads c.args.floor es)) (2 ^ 64 - 1))
      (c.into_iter-line-iterator.ensures.into_iter_gives ∙ c.iter-line-items.ensures.rest ∙ sym (line_entries c.self.inside.held.entries c.self.invariant.0) ∙ ap (λ (t : LineTable). entries t) c.self.view_is)
      ∙ ap (λ (n : ℕ). min n (2 ^ 64 - 1)) (let e : 0 + length (heads c.args.floor (entries c.args.self.now)) ≡ length (heads c.args.floor (entries c.args.self.now)) = omega arith in e);
}

pub loop-line-preserved-then-begins_below : goal.loop-line-preserved-then-begins_below
loop-line-preserved-then-begins_below c =
    let more = head_counted c.args.floor (c.in-Some.field-0-0.now, c.in-Some.line.now) c.next.new.self c.loop-line.line-iterator c.in-Some.ensures.steps (sym c.begins_below.ensures ∙ c.if-begins_below.true) in
    let was = c.loop-line.invariant.count in
    let at = c.saturating_add-count.ensures in
    record { fits = omega (arith, at); count = omega (arith, at, more, was) }

pub loop-line-preserved : goal.loop-line-preserved
loop-line-preserved c =
    let same = head_passed c.args.floor (c.in-Some.field-0-0.now, c.in-Some.line.now) c.next.new.self c.loop-line.line-iterator c.in-Some.ensures.steps (sym c.begins_below.ensures ∙ c.if-begins_below.false) in
    let was = c.loop-line.invariant.count in
    record { fits = c.loop-line.invariant.fits; count = omega (arith, same, was) }

pub returns : goal.returns
returns c =
    let none : length (heads c.args.floor c.loop-line.line-iterator) ≡ 0 = ap (λ (es : List (List ℕ × PathChain)). length (heads c.args.floor es)) c.in-None.ensures.steps.0 in
    let is : min c.loop-line.count (2 ^ 64 - 1) ≡ min (length (heads c.args.floor (entries c.args.self.now))) (2 ^ 64 - 1) =
    ap (λ (n : ℕ). min n (2 ^ 64 - 1)) (let e : c.loop-line.count ≡ c.loop-line.count + length (heads c.args.floor c.loop-line.line-iterator) = omega (arith, none) in e) ∙ c.loop-line.invariant.count in
    (let e : c.loop-line.count ≡ min c.loop-line.count (2 ^ 64 - 1) = (let f = c.loop-line.invariant.fits in omega (arith, f)) in e) ∙ is ∙ ap (λ (n : ℕ). min n (2 ^ 64 - 1)) (sym (len_merged c.args.floor c.args.self.now))
