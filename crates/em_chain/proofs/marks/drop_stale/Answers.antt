use Rattle.std.proofs.Common.{◌∙◌, sym, ap}
use Rattle.std.specs.Prelude.{option_copied}
use Rattle.em_chain.specs.Lines.{chain_at}
use Rattle.em_chain.specs.Marks.{ChangeList, dropped}
use Rattle.em_chain.proofs.marks.drop_stale.Goals as goal

pub loop-path-preserved : goal.loop-path-preserved
loop-path-preserved c = λ q.
    ap (dropped c.args.job (option_copied c.args.keep) q c.next.new.self) (c.drop_one.ensures q)
    ∙ sym (ap (λ (es : ChangeList). dropped c.args.job (option_copied c.args.keep) q es (chain_at c.loop-path.lines q)) c.in-Some.ensures.steps)
    ∙ c.loop-path.invariant q
