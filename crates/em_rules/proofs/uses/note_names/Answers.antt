use Rattle.std.proofs.Common.{◌∙◌, ◌+◌, ap, sym, drop}
use Rattle.std.specs.FinMap.{get}
use Rattle.em_base.proofs.Lemmas.{left_at, none_at}
use Rattle.em_rules.specs.Rules.{is_in}
use Rattle.em_rules.specs.Index.{used}
use Rattle.em_rules.proofs.Indexing.{used_twice}
use Rattle.em_rules.proofs.uses.note_names.Goals as goal

pub loop-name-preserved : goal.loop-name-preserved
loop-name-preserved c = λ q.
    let names = c.args.names.now in
    let i = c.loop-name.name-index in
    let left = left_at names i c.name-item.result c.loop-name-test.true c.name-item.is in
    ap (used (is_in (drop (i + 1) names) q) c.args.new) (c.in_ok-note.ensures q) ∙ used_twice (is_in (drop (i + 1) names) q) _ c.args.new (get c.loop-name.index q)
    ∙ ap (λ ns. used (is_in ns q) c.args.new (get c.loop-name.index q)) (sym left) ∙ c.loop-name.invariant q

pub returns : goal.returns
returns c = λ q.
    let none = none_at c.args.names.now c.loop-name.name-index c.loop-name-test.false in
    ap (λ ns. used (is_in ns q) c.args.new (get c.loop-name.index q)) (sym none) ∙ c.loop-name.invariant q
