use Rattle.std.proofs.Common.{◌≡◌, ◌∙◌, ◌+◌, ap, sym, drop, refl, arith, add-zero}
use Rattle.std.specs.FinMap.{get}
use Rattle.em_base.proofs.Lemmas.{left_at, none_at}
use Rattle.em_rules.specs.Index.{uses_from, noted}
use Rattle.em_rules.proofs.uses.note_rules.Goals as goal

pub loop-i-init : goal.loop-i-init
loop-i-init c = λ q. rw (add-zero c.args.first) refl

pub loop-i-preserved : goal.loop-i-preserved
loop-i-preserved c = λ q.
    let rules = c.args.rules.now in
    let i = c.loop-i.i in
    let left = left_at rules i c.index-rules-i.result c.loop-i-test.true c.index-rules-i.is in
    let next : c.args.first + (i + 1) ≡ c.args.first + i + 1 = omega arith in
    ap (uses_from (c.args.first + (i + 1)) (drop (i + 1) rules) q) (c.in_ok-note_rule.ensures q)
    ∙ ap (λ k. uses_from k (drop (i + 1) rules) q (noted (c.args.first + i) c.index-rules-i.result q (get c.loop-i.index q))) next
    ∙ ap (λ rs. uses_from (c.args.first + i) rs q (get c.loop-i.index q)) (sym left) ∙ c.loop-i.invariant q

pub returns : goal.returns
returns c = λ q.
    let none = none_at c.args.rules.now c.loop-i.i c.loop-i-test.false in
    ap (λ rs. uses_from (c.args.first + c.loop-i.i) rs q (get c.loop-i.index q)) (sym none) ∙ c.loop-i.invariant q
