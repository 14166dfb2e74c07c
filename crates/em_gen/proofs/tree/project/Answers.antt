use Rattle.std.proofs.Common.{◌≡◌, ◌-◌, ◌≤◌, ℕ, fold, subst, sym, arith}
use Rattle.std.specs.List.{range_with_len}
use Rattle.em_gen.specs.Generated as generated
use Rattle.em_tree.specs.Trees.{Table, base_of}
use Rattle.em_gen.specs.Flat.{IsFlat}
use Rattle.em_gen.proofs.Flatness.{flat_root}
use Rattle.em_gen.proofs.Stamps.{base_small}
use Rattle.em_gen.proofs.tree.project.Goals as goal

pub put_file-requires-clause-flat : goal.put_file-requires-clause-flat
put_file-requires-clause-flat c = subst (λ (t : Table). IsFlat t) (sym c.in_ok-tree.ensures) flat_root

pub returns-clause-base : goal.returns-clause-base
returns-clause-base c =
    let left : c.args.n - c.loop-i.i ≡ 0 = omega (arith, c.loop-i-test.false) in
    let is = subst (λ (k : ℕ). fold generated.with_source c.loop-i.tree (range_with_len c.loop-i.i k) ≡ generated.project c.args.n) left c.loop-i.invariant.rest in
    subst (λ (t : Table). base_of t ≤ 1) (sym is) (base_small c.args.n)
