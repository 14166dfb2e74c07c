use Rattle.std.proofs.Common.{◌≡◌, ◌∙◌, sym, ap, List, ℕ, ◌∷◌, Option}
use Rattle.std.specs.Ordering.{eq_by_cmp}
use Rattle.std.specs.Vec.Iter.{into_iter_items}
use Rattle.em_tree.specs.declared.node.Node.{Node}
use Rattle.em_tree.proofs.Maps.{order}
use Rattle.em_chain.specs.Lines.{chain_at}
use Rattle.em_chain.specs.Marks.{ChangeList, names, written}
use Rattle.em_chain.proofs.Marking.{names_first, names_rest, write_stays}
use Rattle.em_chain.proofs.marks.write_all.Goals as goal

pub write-requires : goal.write-requires
write-requires c =
    let rest : ChangeList = into_iter_items c.next.new.self in
    c.loop-path.invariant.room c.in-Some.path (ap (λ (es : ChangeList). names es c.in-Some.path) c.in-Some.ensures.steps.0 ∙ names_first (c.in-Some.path, c.in-Some.becomes) rest)

pub loop-path-preserved : goal.loop-path-preserved
loop-path-preserved c =
    let rest : ChangeList = into_iter_items c.next.new.self in
    let e : List ℕ × Option Node = (c.in-Some.path, c.in-Some.becomes) in
    let steps : into_iter_items c.loop-path.path-iterator ≡ e ∷ rest = c.in-Some.ensures.steps.0 in
    record {
      room = λ q h. write_stays c.args.job c.in-Some.becomes (chain_at c.loop-path.lines q) (chain_at c.write.new.self q) (eq_by_cmp order q c.in-Some.path) (c.write.ensures q)
          (c.loop-path.invariant.room q (ap (λ (es : ChangeList). names es q) steps ∙ names_rest e rest q h));
      done = λ q. ap (written c.args.job q rest) (c.write.ensures q) ∙ sym (ap (λ (es : ChangeList). written c.args.job q es (chain_at c.loop-path.lines q)) steps) ∙ c.loop-path.invariant.done q;
    }

pub loop-path-preserved-in-Some : goal.loop-path-preserved-in-Some
loop-path-preserved-in-Some c =
    let rest : ChangeList = into_iter_items c.next.new.self in
    let e : List ℕ × Option Node = (c.in-Some.path, c.in-Some.becomes) in
    let steps : into_iter_items c.loop-path.path-iterator ≡ e ∷ rest = c.in-Some.ensures.steps.0 in
    record {
      room = λ q h. write_stays c.args.job c.in-Some.becomes (chain_at c.loop-path.lines q) (chain_at c.write.new.self q) (eq_by_cmp order q c.in-Some.path) (c.write.ensures q)
          (c.loop-path.invariant.room q (ap (λ (es : ChangeList). names es q) steps ∙ names_rest e rest q h));
      done = λ q. ap (written c.args.job q rest) (c.write.ensures q) ∙ sym (ap (λ (es : ChangeList). written c.args.job q es (chain_at c.loop-path.lines q)) steps) ∙ c.loop-path.invariant.done q;
    }
