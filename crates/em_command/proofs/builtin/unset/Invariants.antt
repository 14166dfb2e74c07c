use Rattle.std.proofs.Common.{◌≡◌, drop}
use Rattle.em_command.specs.Builtins.{each, unset_one}
use Rattle.em_command.proofs.builtin.unset.Given as goal

abbrev pub invariant-loop-word : goal.invariant-loop-word
invariant-loop-word l = each unset_one (drop l.word-index l.operands) l.shell ≡ each unset_one l.operands l.fn.shell
