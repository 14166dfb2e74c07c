use Rattle.std.proofs.Common.{◌∙◌, ap, sym}
use Rattle.std.specs.Prelude.{option_copied}
use Rattle.em_chain.specs.Lines.{chain_at}
use Rattle.em_chain.specs.Marks.{ChangeList, dropped}
use Rattle.em_chain.proofs.Marking.{undone}
use Rattle.em_chain.proofs.marks.stage.Goals as goal

pub returns-in-Err-clause-err : goal.returns-in-Err-clause-err
returns-in-Err-clause-err c = λ q. c.drop_stale.ensures q
    ∙ ap (λ (es : ChangeList). dropped c.args.job (option_copied c.args.old) q es (chain_at c.make_room.new.lines q)) (sym c.requires.same)
    ∙ undone c.args.job (option_copied c.args.old) q c.args.changes.now (chain_at c.args.lines.now q) (chain_at c.make_room.new.lines q) (c.requires.sorted q) (c.make_room.ensures.roomed q) (c.make_room.ensures.others q) (c.requires.posted q)
