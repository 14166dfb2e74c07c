use Rattle.std.proofs.Common.{◌≡◌, ◌∙◌, ◌++◌, ap, sym, take}
use Rattle.std.proofs.lemmas.List.{take_more}
use Rattle.em_tree.specs.Usages.{flat, entries_of}
use Rattle.em_tree.proofs.Keeping.{flat-one}
use Rattle.em_tree.proofs.usage.Usage.entries.Goals as goal

pub loop-look-preserved : goal.loop-look-preserved
loop-look-preserved c =
    rw (take_more c.deref-look-items.result.now c.loop-look.look-index c.look-item.result c.loop-look-test.true, ← c.look-item.is, flat-one (take c.loop-look.look-index c.deref-look-items.result.now) c.look-item.result)
    (c.in_ok-push_to.ensures ∙ ap (λ es. es ++ entries_of c.look-item.result) c.loop-look.invariant)
