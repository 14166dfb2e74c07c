use Rattle.std.proofs.Common.{◌≡◌, sym, ◌∙◌}
use Rattle.em_tree.specs.declared.node.Kind.TheVariants as kind
use Rattle.em_states.proofs.trees.put.Goals as goal

pub set-requires : goal.set-requires
set-requires c = record { tree = c.law_put.ensures c.args.tree.now c.args.path c.args.above.now c.args.node c.requires.tree c.requires.path c.requires.parent c.requires.dir (λ e. absurd (let z : kind.Absent ≡ kind.Dir = sym c.requires.absent ∙ e in cc)) }
