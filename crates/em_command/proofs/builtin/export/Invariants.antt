use Rattle.std.proofs.Common.{◌≡◌, drop}
use Rattle.em_command.specs.Builtins.{each, export_one}
use Rattle.em_command.proofs.builtin.export.Given as goal

abbrev pub invariant-loop-word : goal.invariant-loop-word
invariant-loop-word l = each export_one (drop l.word-index l.operands) l.shell ≡ each export_one l.operands l.fn.shell
