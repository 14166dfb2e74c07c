use Rattle.std.proofs.Common.{◌≡◌, ◌-◌, length, take, drop, length-drop, arith}
use Rattle.std.proofs.lemmas.List.{take_all}
use Rattle.em_refs.proofs.Plain.{first_literal}
use Rattle.em_refs.proofs.read.part_at.Goals as goal

pub returns-clause-parts : goal.returns-clause-parts
returns-clause-parts c =
    let text = c.args.text.now in
    let rest = drop c.args.at text in
    let all : take (length text - c.args.at) rest ≡ rest = take_all (length text - c.args.at) rest (omega (arith, length-drop c.args.at text)) in
    first_literal text c.args.at c.before_dollar.result c.requires c.if-text-at-eq36.false (rw all at c.before_dollar.ensures.first)
