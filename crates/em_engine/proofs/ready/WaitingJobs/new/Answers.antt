use Rattle.std.proofs.Common.{◌≡◌, ◌∙◌, ◌==◌, ℕ, List, [], arith, length, get_or, ap, map, replicate}
use Rattle.em_engine.specs.declared.ready.JobStage.TheVariants as stage
use Rattle.em_engine.specs.Waits.{times}
use Rattle.em_engine.proofs.Readying.{begins, lowered_flag}
use Rattle.em_engine.proofs.ready.WaitingJobs.new.Goals as goal

pub raise_all-requires-clause-down : goal.raise_all-requires-clause-down
raise_all-requires-clause-down c j = lowered_flag c.in_ok-flagged.flagged j (c.in_ok-flagged.ensures.1 j)

pub invariant_of-result : goal.invariant_of-result
invariant_of-result c =
    let n : c.len-free.result ≡ length c.args.waits = c.len-free.ensures in
    let free : c.in_ok-stages.stages.items ≡ replicate (length c.args.waits) stage.Free =
    c.in_ok-stages.ensures.items_if_clones_equal (λ y e. e) ∙ ap (λ (k : ℕ). replicate k stage.Free) c.len.ensures in
    let left : c.in_ok-left.left.items ≡ map length c.args.waits = c.in_ok-left.ensures ∙ ap (map length) c.items.ensures in
    rw n (begins c.args.waits c.in_ok-stages.stages.items c.in_ok-left.left.items c.in_ok-waiters.waiters.items c.raise_all.new.flagged c.requires.small free left
    (c.in_ok-waiters.ensures.count ∙ ap length c.items-2.ensures)
    (λ j k. c.in_ok-waiters.ensures.each j k ∙ ap (λ (ws : List (List ℕ)). times k (get_or ws j [])) c.items-2.ensures)
    (omega (arith, c.in_ok-flagged.ensures.0, c.len-2.ensures, c.raise_all.ensures.room))
    (λ j. c.raise_all.ensures.flags j ∙ ap (λ (ns : List ℕ). get_or ns j 1 == 0) c.as_slice.ensures.value))
