use Rattle.std.proofs.Common.{◌≡◌, true, arith}
use Rattle.std.proofs.lemmas.Grind.{common_steps}
use Rattle.em_rules.specs.Groups.{is_made_by}
use Rattle.em_rules.proofs.Told.{told_new}
use Rattle.em_rules.proofs.rules.Rules.add_member.Goals as goal

pub returns-clause-told : goal.returns-clause-told
returns-clause-told c = λ q.
    let rules = c.args.self.now in
    let has : is_made_by rules c.args.number c.args.target.now ≡ true = grind (arith, common_steps) in
    rw (c.in_ok-insert.ensures.ok, c.in_ok-copy-2.ensures) (told_new c.args.told.now c.args.target.now q (is_made_by rules c.args.number) has)
