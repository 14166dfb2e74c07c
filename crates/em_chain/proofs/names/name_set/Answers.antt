use Rattle.std.proofs.Common.{◌∙◌, ap, List, ℕ, take}
use Rattle.std.specs.BTreeSet.{insert_key}
use Rattle.em_tree.proofs.Maps.{order}
use Rattle.em_chain.proofs.Naming.{next_name}
use Rattle.em_chain.proofs.names.name_set.Goals as goal

pub loop-name-preserved : goal.loop-name-preserved
loop-name-preserved c =
    c.in_ok-insert.ensures.keys ∙ ap (λ (ks : List (List ℕ)). insert_key order ks c.in_ok-copy.field-0) c.loop-name.invariant
    ∙ ap (insert_key order (take c.loop-name.name-index c.args.names.now)) c.in_ok-copy.ensures
    ∙ next_name c.args.names.now c.loop-name.name-index c.name-item.result c.requires c.loop-name-test.true c.name-item.is
