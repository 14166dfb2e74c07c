use Rattle.std.proofs.Common.{◌∙◌, ap, sym, option_map, Some}
use Rattle.em_cmdline.proofs.Found.{Str, assigned_kept, assigned_left}
use Rattle.em_cmdline.proofs.read.assigned.Goals as goal
use Rattle.em_cmdline.proofs.read.assigned.Goals.{in-Some+in_ok-name+in_ok-from_slice+in_ok-push, in_default}

pub loop-word-preserved : goal.loop-word-preserved
loop-word-preserved c =
    let words = c.args.words.now in
    let i = c.loop-word.word-index in
    let texts = option_map (λ (a : Str × Str). (a.0.now, a.1.now)) in
    elim c.match-assignment.branch [
      | in-Some+in_ok-name+in_ok-from_slice+in_ok-push w ↦ assigned_kept words i _ c.loop-word.assigned c.match-assignment.assigned (w.in_ok-name.name, w.in_ok-from_slice.field-0)
          c.loop-word-test.true c.loop-word.invariant
          (sym c.assignment.ensures ∙ ap texts w.in-Some.is
          ∙ sym (λ j. Some ((w.in_ok-name.ensures ∙ w.as_bytes.ensures.value) j, (w.in_ok-from_slice.ensures ∙ w.as_bytes-in-Some.ensures.value) j)))
          (w.assigned-is ∙ w.in_ok-push.ensures.ok)
      | in_default w ↦ assigned_left words i _ c.loop-word.assigned c.match-assignment.assigned c.loop-word-test.true c.loop-word.invariant (sym c.assignment.ensures ∙ ap texts w.in_default.is) w.assigned-is
    ]
