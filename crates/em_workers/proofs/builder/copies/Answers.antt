use Rattle.std.proofs.Common.{◌≡◌, true}
use Rattle.std.proofs.lemmas.List.Elements.{all_zip_more}
use Rattle.em_workers.proofs.builder.copies.Goals as goal

pub loop-spec-preserved : goal.loop-spec-preserved
loop-spec-preserved g c =
    rw c.in_ok-push.ensures.items
    (all_zip_more (λ spec copy. g.S.PartialEq.eq copy spec ≡ true) c.args.specs.now c.loop-spec.all.items c.loop-spec.spec-index _ c.in_ok-copy.field-0 c.loop-spec-test.true c.spec-item.is c.loop-spec.invariant c.in_ok-copy.ensures)
