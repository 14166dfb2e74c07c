use Rattle.std.proofs.Common.{◌≡◌, List, ℕ, Ok, Err, subst, sym}
use Rattle.std.specs.Prelude.{OnOk}
use Rattle.std.specs.FinMap.{insert}
use Rattle.em_path.specs.Paths.{IsPath}
use Rattle.em_tree.specs.declared.node.Node.TheVariants.{File}
use Rattle.em_tree.specs.Trees.{IsTree, Table}
use Rattle.em_gen.specs.Flat.{IsFlat}
use Rattle.em_gen.proofs.Flatness.{flat_put}
use Rattle.em_gen.proofs.tree.put_file.Goals as goal

pub set-requires : goal.set-requires
set-requires c = record {
  tree =
      let at = c.in_ok-path.ensures.text in
      let t = c.args.tree.now in
      subst (λ (p : List ℕ). IsTree (insert t p (File c.in_ok-body.body 1))) (sym at)
      (flat_put t c.args.name.now c.in_ok-body.body c.requires.flat c.requires.component (subst IsPath at c.in_ok-path.ensures.path)).tree;
}

pub returns-clause-flat : goal.returns-clause-flat
returns-clause-flat c =
    let at = c.in_ok-path.ensures.text in
    let t = c.args.tree.now in
    let flat = flat_put t c.args.name.now c.in_ok-body.body c.requires.flat c.requires.component (subst IsPath at c.in_ok-path.ensures.path) in
    elim c.set.result as (λ r. OnOk r (c.set.new.self ≡ insert t c.in_ok-path.path (File c.in_ok-body.body 1)) → OnOk r (IsFlat c.set.new.self)) [
      | Ok u ↦ λ put. subst (λ (u : Table). IsFlat u) (sym put) (subst (λ (p : List ℕ). IsFlat (insert t p (File c.in_ok-body.body 1))) (sym at) flat)
      | Err e ↦ λ put. tt
    ] c.set.ensures.ok
