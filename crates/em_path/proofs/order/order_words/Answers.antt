use Rattle.std.proofs.Common.{◌∙◌, sym, arith, ◌≤◌, ◌+◌, ◌-◌, length}
use Rattle.std.proofs.Math.Nat.{min-le_left, min-le_right}
use Rattle.em_path.proofs.Words.{window, by_word, further, ended}
use Rattle.em_path.proofs.order.order_words.Goals as goal

pub returns-then-x-y : goal.returns-then-x-y
returns-then-x-y c =
    let one : c.args.both ≤ length c.args.one.now = omega (arith, c.requires.both, min-le_left (length c.args.one.now) (length c.args.other.now)) in
    let other : c.args.both ≤ length c.args.other.now = omega (arith, c.requires.both, min-le_right (length c.args.one.now) (length c.args.other.now)) in
    let room = c.loop-at-test.true in
    let at = c.loop-at.at in
    let read = window c.args.one.now c.args.other.now (λ k. (c.type_inv.one k).fits) (λ k. (c.type_inv.other k).fits) at 8 _ _ (omega arith) (omega arith) c.word-x.ensures c.word-y.ensures in
    c.cmp.ensures ∙ sym (by_word at 8 at _ _ c.args.one.now c.args.other.now (omega arith) (omega arith) (omega arith) c.loop-at.invariant.1 read c.if-x-y.true)

pub loop-at-preserved : goal.loop-at-preserved
loop-at-preserved c =
    let one : c.args.both ≤ length c.args.one.now = omega (arith, c.requires.both, min-le_left (length c.args.one.now) (length c.args.other.now)) in
    let other : c.args.both ≤ length c.args.other.now = omega (arith, c.requires.both, min-le_right (length c.args.one.now) (length c.args.other.now)) in
    let room = c.loop-at-test.true in
    let at = c.loop-at.at in
    let read = window c.args.one.now c.args.other.now (λ k. (c.type_inv.one k).fits) (λ k. (c.type_inv.other k).fits) at 8 _ _ (omega arith) (omega arith) c.word-x.ensures c.word-y.ensures in
    (room, further at 8 at c.args.one.now c.args.other.now (omega arith) c.loop-at.invariant.1 (read.alike c.if-x-y.false))

pub returns-then-v-w : goal.returns-then-v-w
returns-then-v-w c =
    let one : c.args.both ≤ length c.args.one.now = omega (arith, c.requires.both, min-le_left (length c.args.one.now) (length c.args.other.now)) in
    let other : c.args.both ≤ length c.args.other.now = omega (arith, c.requires.both, min-le_right (length c.args.one.now) (length c.args.other.now)) in
    let at = c.args.both - 8 in
    let read = window c.args.one.now c.args.other.now (λ k. (c.type_inv.one k).fits) (λ k. (c.type_inv.other k).fits) at 8 _ _ (omega arith) (omega arith) c.word-v.ensures c.word-w.ensures in
    c.cmp-then-v-w.ensures ∙ sym (by_word at 8 c.loop-at.at _ _ c.args.one.now c.args.other.now (omega arith) (omega arith) (omega arith) c.loop-at.invariant.1 read c.if-v-w.true)

pub returns : goal.returns
returns c =
    let one : c.args.both ≤ length c.args.one.now = omega (arith, c.requires.both, min-le_left (length c.args.one.now) (length c.args.other.now)) in
    let other : c.args.both ≤ length c.args.other.now = omega (arith, c.requires.both, min-le_right (length c.args.one.now) (length c.args.other.now)) in
    let at = c.args.both - 8 in
    let read = window c.args.one.now c.args.other.now (λ k. (c.type_inv.one k).fits) (λ k. (c.type_inv.other k).fits) at 8 _ _ (omega arith) (omega arith) c.word-v.ensures c.word-w.ensures in
    c.cmp-2.ensures ∙ sym (ended (at + 8) c.args.one.now c.args.other.now (omega arith) (further at 8 c.loop-at.at c.args.one.now c.args.other.now (omega arith) c.loop-at.invariant.1 (read.alike c.if-v-w.false)))
