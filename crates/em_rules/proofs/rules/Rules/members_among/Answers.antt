use Rattle.std.proofs.Common.{take, refl, rules}
use Rattle.std.specs.Prelude.{is_some}
use Rattle.std.specs.FinMap.{get}
use Rattle.em_rules.specs.Groups.{is_made_by, each_once}
use Rattle.em_rules.proofs.Told.{none_told, names_more, told_more, passed_more}
use Rattle.em_rules.proofs.rules.Rules.members_among.Goals as goal

pub loop-target-init : goal.loop-target-init
loop-target-init c = record {
  told = rw c.new-told.ensures none_told;
  members = search rules;
}

pub loop-target-preserved : goal.loop-target-preserved
loop-target-preserved c =
    let targets = c.args.targets.now in
    let i = c.loop-target.target-index in
    let t = c.target-item.result in
    let names = each_once (take i targets) in
    let has = is_made_by c.args.self.now c.args.number in
    let before = c.loop-target.invariant in
    let step = c.in_ok-add_member.ensures in
    rw (names_more targets i t c.loop-target-test.true c.target-item.is) record {
      told = λ q. rw (step.told q) (told_more names t q (has q) (is_some (get c.loop-target.told q)) (before.told q));
      members = rw (step.members, before.members) (passed_more has names t (is_some (get c.loop-target.told t)) (before.told t));
    }
