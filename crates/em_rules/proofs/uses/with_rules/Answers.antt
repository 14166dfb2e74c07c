use Rattle.std.proofs.Common.{◌≡◌, ◌++◌, subst}
use Rattle.em_rules.specs.Index.{Tells}
use Rattle.em_rules.proofs.Indexing.{tells_more}
use Rattle.em_rules.proofs.uses.with_rules.Goals as goal

pub returns-in_ok-note_rules-in-Some : goal.returns-in_ok-note_rules-in-Some
returns-in_ok-note_rules-in-Some c = λ before is told index some.
    let same : c.note_rules.new.index ≡ index = cc in
    subst (λ t. Tells t (before ++ c.args.rules.now)) same (tells_more c.in-Some.index c.note_rules.new.index c.args.first before c.args.rules.now is (told c.in-Some.index c.in-Some.is) c.in_ok-note_rules-in-Some.ensures)
