use Rattle.std.proofs.Common.{◌∙◌, refl, sym}
use Rattle.em_base.proofs.Lemmas.{left_at, none_at}
use Rattle.em_exec.proofs.Formal.{nothing_more}
use Rattle.em_exec.proofs.form.is_written.Goals as goal

pub loop-piece-preserved : goal.loop-piece-preserved
loop-piece-preserved c = let at_item = left_at c.deref-piece-items.result.now c.loop-piece.piece-index c.piece-item.result c.loop-piece-test.true c.piece-item.is in
    sym (c.in-Some.ensures.left _) ∙ (rw at_item at c.loop-piece.invariant)

pub returns-in-None : goal.returns-in-None
returns-in-None c = let at_item = left_at c.deref-piece-items.result.now c.loop-piece.piece-index c.piece-item.result c.loop-piece-test.true c.piece-item.is in
    rw (sym c.deref-piece-items.ensures.value) (sym (c.in-None.ensures.other refl _) ∙ (rw at_item at c.loop-piece.invariant))

pub returns : goal.returns
returns c = let at_end = none_at c.deref-piece-items.result.now c.loop-piece.piece-index c.loop-piece-test.false in
    rw (sym c.deref-piece-items.ensures.value) (c.is_empty.ensures ∙ nothing_more _ ∙ (rw at_end at c.loop-piece.invariant))
