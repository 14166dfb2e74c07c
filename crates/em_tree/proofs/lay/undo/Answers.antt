use Rattle.std.proofs.Common.{◌∙◌, sym, ap, List}
use Rattle.std.specs.Borrow.{Bor}
use Rattle.em_tree.specs.declared.index.Place.{Place}
use Rattle.em_tree.specs.Trees.{Table, changed_all}
use Rattle.em_tree.specs.Steps.{removals}
use Rattle.em_tree.proofs.Laying.{undo_push}
use Rattle.em_tree.proofs.lay.undo.Goals as goal

pub loop-place-preserved : goal.loop-place-preserved
loop-place-preserved c =
    let rest = c.pop.new.self.items in
    let t = c.loop-place.nodes in
    record {
      index = c.take_out.ensures.index;
      left = ap (λ (u : Table). changed_all (removals rest) u) c.take_out.ensures.nodes ∙ sym (undo_push rest c.in-Some.place t) ∙ sym (ap (λ (ps : List (Bor Place)). changed_all (removals ps) t) c.in-Some.ensures.items) ∙ c.loop-place.invariant.left;
    }
