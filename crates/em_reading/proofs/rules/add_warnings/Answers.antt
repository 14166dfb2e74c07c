use Rattle.std.proofs.Common.{ℕ, List, take, is_some, refl, rules}
use Rattle.std.specs.FinMap.{get}
use Rattle.em_rules.specs.Rules.{recipe_rule}
use Rattle.em_rules.specs.Groups.{each_once}
use Rattle.em_reading.specs.Changes.{warning_for}
use Rattle.em_rules.proofs.Told.{none_told, names_more, told_more, said_more}
use Rattle.em_reading.proofs.rules.add_warnings.Goals as goal

pub loop-target-init : goal.loop-target-init
loop-target-init c = record {
  told = rw c.new-told.ensures none_told;
  said = search rules;
}

pub loop-target-preserved : goal.loop-target-preserved
loop-target-preserved c =
    let book = c.args.book.now in
    let targets = c.args.targets.now in
    let i = c.loop-target.target-index in
    let t = c.target-item.result in
    let names = each_once (take i targets) in
    let has = λ (q : List ℕ). is_some (recipe_rule book.rules q) in
    let before = c.loop-target.invariant in
    let step = rw c.bytes.ensures at c.in_ok-add_warning_for.ensures in
    rw (names_more targets i t c.loop-target-test.true c.target-item.is) record {
      told = λ q. rw (step.told q) (told_more names t q (has q) (is_some (get c.loop-target.told q)) (before.told q));
      said = rw (step.said, before.said) (said_more (warning_for book c.args.place.now) names t c.args.text.now (is_some (get c.loop-target.told t)) (has t) (before.told t) (λ isnt. rw isnt refl));
    }
