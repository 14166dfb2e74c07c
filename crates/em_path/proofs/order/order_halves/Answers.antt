use Rattle.std.proofs.Common.{◌∙◌, sym, arith, ◌≤◌, ◌+◌, ◌-◌, length}
use Rattle.std.proofs.Math.Nat.{min-le_left, min-le_right}
use Rattle.em_path.proofs.Words.{window, by_word, further, ended}
use Rattle.em_path.proofs.order.order_halves.Goals as goal

pub returns-then-x-y : goal.returns-then-x-y
returns-then-x-y c =
    let one : c.args.both ≤ length c.args.one.now = omega (arith, c.requires.both, min-le_left (length c.args.one.now) (length c.args.other.now)) in
    let other : c.args.both ≤ length c.args.other.now = omega (arith, c.requires.both, min-le_right (length c.args.one.now) (length c.args.other.now)) in
    let read = window c.args.one.now c.args.other.now (λ k. (c.type_inv.one k).fits) (λ k. (c.type_inv.other k).fits) 0 4 _ _ (omega arith) (omega arith) c.half_word-x.ensures c.half_word-y.ensures in
    c.cmp.ensures ∙ sym (read.apart c.if-x-y.true)

pub returns-then-v-w : goal.returns-then-v-w
returns-then-v-w c =
    let one : c.args.both ≤ length c.args.one.now = omega (arith, c.requires.both, min-le_left (length c.args.one.now) (length c.args.other.now)) in
    let other : c.args.both ≤ length c.args.other.now = omega (arith, c.requires.both, min-le_right (length c.args.one.now) (length c.args.other.now)) in
    let at = c.args.both - 4 in
    let first = window c.args.one.now c.args.other.now (λ k. (c.type_inv.one k).fits) (λ k. (c.type_inv.other k).fits) 0 4 _ _ (omega arith) (omega arith) c.half_word-x.ensures c.half_word-y.ensures in
    let read = window c.args.one.now c.args.other.now (λ k. (c.type_inv.one k).fits) (λ k. (c.type_inv.other k).fits) at 4 _ _ (omega arith) (omega arith) c.half_word-v.ensures c.half_word-w.ensures in
    c.cmp-then-v-w.ensures ∙ sym (by_word at 4 4 _ _ c.args.one.now c.args.other.now (omega arith) (omega arith) (omega arith) (first.alike c.if-x-y.false) read c.if-v-w.true)

pub returns : goal.returns
returns c =
    let one : c.args.both ≤ length c.args.one.now = omega (arith, c.requires.both, min-le_left (length c.args.one.now) (length c.args.other.now)) in
    let other : c.args.both ≤ length c.args.other.now = omega (arith, c.requires.both, min-le_right (length c.args.one.now) (length c.args.other.now)) in
    let at = c.args.both - 4 in
    let first = window c.args.one.now c.args.other.now (λ k. (c.type_inv.one k).fits) (λ k. (c.type_inv.other k).fits) 0 4 _ _ (omega arith) (omega arith) c.half_word-x.ensures c.half_word-y.ensures in
    let read = window c.args.one.now c.args.other.now (λ k. (c.type_inv.one k).fits) (λ k. (c.type_inv.other k).fits) at 4 _ _ (omega arith) (omega arith) c.half_word-v.ensures c.half_word-w.ensures in
    c.cmp-2.ensures ∙ sym (ended (at + 4) c.args.one.now c.args.other.now (omega arith) (further at 4 4 c.args.one.now c.args.other.now (omega arith) (first.alike c.if-x-y.false) (read.alike c.if-v-w.false)))
