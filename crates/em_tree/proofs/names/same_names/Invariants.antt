use Rattle.std.proofs.Common.{◌≡◌}
use Rattle.std.specs.Prelude.{filter_map, ◌↔◌}
use Rattle.em_path.specs.Paths.{last_of}
use Rattle.em_tree.proofs.names.same_names.Given as goal

abbrev pub invariant-loop-path : goal.invariant-loop-path
invariant-loop-path l = (filter_map last_of l.path-iterator ≡ l.rest) ↔ (filter_map last_of l.fn.paths ≡ l.initial.rest)
