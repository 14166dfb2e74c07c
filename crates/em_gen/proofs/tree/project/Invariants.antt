use Rattle.std.proofs.Common.{◌≡◌, ◌-◌, fold}
use Rattle.std.specs.List.{range_with_len}
use Rattle.em_gen.specs.Flat.{IsFlat}
use Rattle.em_gen.specs.Generated as generated
use Rattle.em_gen.proofs.tree.project.Given as goal

-- with what is left the tree becomes the project
abbrev pub invariant-loop-i : goal.invariant-loop-i
invariant-loop-i l = record {
  rest : fold generated.with_source l.tree (range_with_len l.i (l.n - l.i)) ≡ generated.project l.n;
  flat : IsFlat l.tree;
}
