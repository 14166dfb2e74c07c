use Rattle.std.proofs.Common.{◌∙◌, ◌+◌, ◌++◌, ap, sym, drop, refl, append-nil}
use Rattle.em_base.proofs.Lemmas.{left_at, none_at}
use Rattle.em_rules.specs.Rules.{has_target, numbers_from}
use Rattle.em_rules.proofs.Indexing.{number_more}
use Rattle.em_rules.proofs.walk.numbers.Goals as goal

pub loop-i-init : goal.loop-i-init
loop-i-init c = rw c.new-numbers.ensures refl

pub loop-i-preserved : goal.loop-i-preserved
loop-i-preserved c =
    let rules = c.args.rules.now in
    let name = c.args.name.now in
    let i = c.loop-i.i in
    let left = left_at rules i c.index-rules-i.result c.loop-i-test.true c.index-rules-i.is in
    ap (λ xs. xs ++ numbers_from (i + 1) (drop (i + 1) rules) name) c.in_ok-add_number.ensures
    ∙ number_more (has_target c.index-rules-i.result name) i c.loop-i.numbers (numbers_from (i + 1) (drop (i + 1) rules) name)
    ∙ ap (λ rs. c.loop-i.numbers ++ numbers_from i rs name) (sym left) ∙ c.loop-i.invariant

pub returns : goal.returns
returns c =
    let none = none_at c.args.rules.now c.loop-i.i c.loop-i-test.false in
    sym (append-nil c.loop-i.numbers) ∙ ap (λ rs. c.loop-i.numbers ++ numbers_from c.loop-i.i rs c.args.name.now) (sym none) ∙ c.loop-i.invariant
