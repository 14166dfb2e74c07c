use Rattle.std.proofs.Common.{sym, ap, subst}
use Rattle.std.specs.Prelude.{is_some}
use Rattle.em_tree.specs.Index.{IsIndex}
use Rattle.em_tree.specs.Trees.{Table}
use Rattle.em_tree.proofs.Indexes.{IsIndex-put}
use Rattle.em_tree.proofs.lay.apply_one.Goals as goal

pub returns-in-Ok-clause-index : goal.returns-in-Ok-clause-index
returns-in-Ok-clause-index c =
    subst (λ (t : Table). IsIndex c.args.children.now t) (sym c.in-Ok.ensures.ok) (IsIndex-put c.args.children.now c.args.nodes.now c.args.step.place.path c.in-Some.n c.requires.index (c.requires.room (ap is_some c.in-Some.is)))
