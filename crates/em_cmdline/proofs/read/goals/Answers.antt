use Rattle.std.proofs.Common.{◌∙◌}
use Rattle.em_cmdline.proofs.Found.{goal_kept, goal_left}
use Rattle.em_cmdline.proofs.read.goals.Goals as goal
use Rattle.em_cmdline.proofs.read.goals.Goals.{then-is_goal+in_ok-from_slice+in_ok-push, else-is_goal}

pub loop-word-preserved : goal.loop-word-preserved
loop-word-preserved c =
    let words = c.args.words.now in
    let i = c.loop-word.word-index in
    elim c.if-is_goal.branch [
      | then-is_goal+in_ok-from_slice+in_ok-push w ↦ goal_kept words i _ c.loop-word.goals c.if-is_goal.goals w.in_ok-from_slice.field-0 c.is_goal.result c.loop-word-test.true c.loop-word.invariant
          c.is_goal.ensures w.if-is_goal.true (w.in_ok-from_slice.ensures ∙ w.as_bytes.ensures.value) (w.goals-is ∙ w.in_ok-push.ensures.ok)
      | else-is_goal w ↦ goal_left words i _ c.loop-word.goals c.if-is_goal.goals c.is_goal.result c.loop-word-test.true c.loop-word.invariant c.is_goal.ensures w.if-is_goal.false w.goals-is
    ]
