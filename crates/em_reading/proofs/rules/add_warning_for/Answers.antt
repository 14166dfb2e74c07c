use Rattle.std.proofs.Common.{◌≡◌, true, is_some, arith}
use Rattle.std.proofs.lemmas.Grind.{common_steps}
use Rattle.em_rules.specs.Rules.{recipe_rule}
use Rattle.em_rules.proofs.Told.{told_new}
use Rattle.em_reading.proofs.rules.add_warning_for.Goals as goal

pub returns-clause-told : goal.returns-clause-told
returns-clause-told c = λ q.
    let rules = c.args.book.now.rules in
    let has : is_some (recipe_rule rules c.args.target.now) ≡ true = grind (arith, common_steps) in
    rw (c.in_ok-insert.ensures.ok, c.in_ok-from_slice.ensures) (told_new c.args.told.now c.args.target.now q (λ n. is_some (recipe_rule rules n)) has)
