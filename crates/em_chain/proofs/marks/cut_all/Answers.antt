use Rattle.std.proofs.Common.{◌∙◌, sym, ap, List, ℕ, Option}
use Rattle.em_tree.specs.declared.node.Node.{Node}
use Rattle.std.specs.Ordering.{eq_by_cmp}
use Rattle.em_tree.proofs.Maps.{order}
use Rattle.em_chain.specs.Lines.{chain_at}
use Rattle.em_chain.specs.Marks.{ChangeList, names, cut_at}
use Rattle.em_chain.proofs.Marking.{names_first, names_rest, cut_stays, cut_step}
use Rattle.em_chain.proofs.marks.cut_all.Goals as goal

pub cut-requires : goal.cut-requires
cut-requires c =
    let e : List ℕ × Option Node = (c.in-Some.path.now, c.in-Some.field-0-1.now) in
    c.loop-path.invariant.room c.in-Some.path.now (ap (λ (es : ChangeList). names es c.in-Some.path.now) c.in-Some.ensures.steps ∙ names_first e c.next.new.self)

pub loop-path-preserved : goal.loop-path-preserved
loop-path-preserved c =
    let e : List ℕ × Option Node = (c.in-Some.path.now, c.in-Some.field-0-1.now) in
    let rest : ChangeList = c.next.new.self in
    record {
      room = λ q h. cut_stays c.args.job (chain_at c.loop-path.lines q) (chain_at c.cut.new.self q) (eq_by_cmp order q c.in-Some.path.now) (c.cut.ensures q)
          (c.loop-path.invariant.room q (ap (λ (es : ChangeList). names es q) c.in-Some.ensures.steps ∙ names_rest e rest q h));
      done = λ q. cut_step c.args.job q e rest (chain_at c.loop-path.lines q) (chain_at c.cut.new.self q) (c.cut.ensures q)
          ∙ sym (ap (λ (es : ChangeList). cut_at c.args.job q es (chain_at c.loop-path.lines q)) c.in-Some.ensures.steps) ∙ c.loop-path.invariant.done q;
    }
