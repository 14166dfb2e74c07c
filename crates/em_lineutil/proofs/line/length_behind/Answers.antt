use Rattle.std.proofs.Common.{◌≡◌, ◌∙◌, ℕ, List, ap, sym, refl, length, drop, arith, true, false, is_some, not}
use Rattle.std.specs.List.{concat}
use Rattle.em_lineutil.proofs.Passing.{passed, ended_at, bytes_left, behind_within}
use Rattle.em_lineutil.proofs.line.length_behind.Goals as goal

pub loop-left-init : goal.loop-left-init
loop-left-init c = ap (drop c.args.n) c.lines_with_terminator-lines.ensures.value

pub loop-left-preserved : goal.loop-left-preserved
loop-left-preserved c =
    passed c.loop-left.lines c.next.new.self c.next.result c.loop-left.left c.next.ensures.steps (c.is_none.ensures ∙ ap not c.if-is_none.false) c.loop-left-test.true
    ∙ c.loop-left.invariant

pub returns-then-is_none-clause-count : goal.returns-then-is_none-clause-count
returns-then-is_none-clause-count c =
    ap (λ (ls : List (List ℕ)). length (concat ls)) (sym (ended_at c.loop-left.lines c.next.new.self c.next.result c.loop-left.left c.next.ensures.steps (c.is_none.ensures ∙ ap not c.if-is_none.true)) ∙ c.loop-left.invariant)

pub returns-clause-count : goal.returns-clause-count
returns-clause-count c =
    let none : c.loop-left.left ≡ 0 = omega arith in
    let here : c.loop-left.lines ≡ drop c.loop-left.left c.loop-left.lines = rw none refl in
    bytes_left _ _ (c.as_bytes.ensures ∙ here ∙ c.loop-left.invariant)

pub returns-clause-within : goal.returns-clause-within
returns-clause-within c =
    let none : c.loop-left.left ≡ 0 = omega arith in
    let here : c.loop-left.lines ≡ drop c.loop-left.left c.loop-left.lines = rw none refl in
    omega (arith, bytes_left _ _ (c.as_bytes.ensures ∙ here ∙ c.loop-left.invariant), behind_within c.args.n c.args.text.now)
