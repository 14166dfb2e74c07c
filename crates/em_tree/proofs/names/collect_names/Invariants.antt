use Rattle.std.proofs.Common.{◌≡◌, ◌++◌}
use Rattle.std.specs.Prelude.{filter_map}
use Rattle.em_path.specs.Paths.{last_of}
use Rattle.em_tree.proofs.names.collect_names.Given as goal

abbrev pub invariant-loop-path : goal.invariant-loop-path
invariant-loop-path l = l.names ++ filter_map last_of l.path-iterator ≡ filter_map last_of l.fn.paths
