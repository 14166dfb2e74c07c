use Rattle.std.proofs.Common.{subst, sym, ◌∙◌, arith}
use Rattle.em_path.specs.Paths.{IsComponent}
use Rattle.em_gen.proofs.Flatness.{source_name}
use Rattle.em_gen.proofs.tree.put_source.Goals as goal

pub put_file-requires-clause-component : goal.put_file-requires-clause-component
put_file-requires-clause-component c = subst IsComponent (sym (c.bytes-2.ensures ∙ c.in_ok-name.ensures)) (source_name c.args.i (omega arith))
