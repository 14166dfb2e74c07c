use Rattle.std.proofs.Common.{◌∙◌, ◌+◌, ◌&&◌, cond, Some, None, ap, sym, drop}
use Rattle.std.specs.Prelude.{is_some}
use Rattle.std.specs.Option.{option_or}
use Rattle.em_base.proofs.Lemmas.{left_at, none_at}
use Rattle.em_rules.specs.Rules.{has_target, recipe_from}
use Rattle.em_rules.proofs.Indexing.{option_or-None, option_or-assoc}
use Rattle.em_rules.proofs.walk.recipe.Goals as goal

pub loop-i-init : goal.loop-i-init
loop-i-init c = option_or-None _

pub loop-i-preserved : goal.loop-i-preserved
loop-i-preserved c =
    let rules = c.args.rules.now in
    let name = c.args.name.now in
    let i = c.loop-i.i in
    let r = c.index-rules-i.result in
    let left = left_at rules i r c.loop-i-test.true c.index-rules-i.is in
    let rest = recipe_from (i + 1) (drop (i + 1) rules) name in
    ap (option_or rest) (c.or-last.ensures ∙ ap (λ o. option_or o c.loop-i.last) c.with_recipe.ensures)
    ∙ option_or-assoc rest (cond (has_target r name && is_some r.recipe) (Some i) None) c.loop-i.last
    ∙ ap (λ rs. option_or (recipe_from i rs name) c.loop-i.last) (sym left) ∙ c.loop-i.invariant

pub returns : goal.returns
returns c =
    let none = none_at c.args.rules.now c.loop-i.i c.loop-i-test.false in
    ap (λ rs. option_or (recipe_from c.loop-i.i rs c.args.name.now) c.loop-i.last) (sym none) ∙ c.loop-i.invariant
