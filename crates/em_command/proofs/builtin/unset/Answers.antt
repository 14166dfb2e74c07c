use Rattle.std.proofs.Common.{refl}
use Rattle.em_base.proofs.Lemmas.{left_at, none_at}
use Rattle.em_command.specs.Builtins.{unset_one}
use Rattle.em_command.proofs.Words.{each_some}
use Rattle.em_command.proofs.builtin.unset.Goals as goal

pub loop-word-preserved : goal.loop-word-preserved
loop-word-preserved c =
    let left = left_at c.args.operands.now c.loop-word.word-index c.word-item.result c.loop-word-test.true c.word-item.is in
    rw (c.undefine.ensures, c.bytes.ensures) (rw left at c.loop-word.invariant)

pub returns : goal.returns
returns c =
    let none = none_at c.args.operands.now c.loop-word.word-index c.loop-word-test.false in
    λ h. rw (each_some unset_one c.args.operands.now c.args.shell.now c.if-is_empty.ensures, c.well.ensures, ← (rw none at c.loop-word.invariant)) refl
