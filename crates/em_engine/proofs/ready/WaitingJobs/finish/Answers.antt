use Rattle.std.proofs.Common.{◌≡◌, ◌+◌, ◌∙◌, subst, sym, ap, arith, ℕ, List, [], length, get_or}
use Rattle.std.specs.Prelude.{Some, slice_get}
use Rattle.std.proofs.lemmas.Option.{slice_get_within}
use Rattle.em_engine.specs.declared.ready.JobStage.TheVariants as stage
use Rattle.em_engine.specs.Stages.{Waiting}
use Rattle.em_engine.specs.Waits.{times}
use Rattle.em_engine.proofs.Places.{get_or_any, whole}
use Rattle.em_engine.proofs.Readying.{still_marked, enough, waiters_within, finished}
use Rattle.em_engine.proofs.ready.WaitingJobs.finish.Goals as goal

pub release-requires-clause-within : goal.release-requires-clause-within
release-requires-clause-within c =
    let P : Waiting → Type 0 = λ w. slice_get w.stages c.args.job ≡ Some stage.Claimed in
    let at = subst P (sym c.self.view_is) c.requires.running in
    let lt = slice_get_within c.self.inside.stages.items c.args.job stage.Claimed at in
    let jobs : c.items.result.now ≡ get_or c.self.inside.waiters.items c.args.job [] =
    c.items.ensures ∙ c.index.ensures ∙ get_or_any c.self.inside.waiters.items c.args.job c.index.result.now [] (omega (arith, lt, c.self.invariant.stages_len, c.self.invariant.waiters_len)) in
    rw (c.as_mut_slice.ensures.value, jobs) (waiters_within _ c.args.job c.self.invariant)

pub release-requires-clause-enough : goal.release-requires-clause-enough
release-requires-clause-enough c =
    let P : Waiting → Type 0 = λ w. slice_get w.stages c.args.job ≡ Some stage.Claimed in
    let at = subst P (sym c.self.view_is) c.requires.running in
    let lt = slice_get_within c.self.inside.stages.items c.args.job stage.Claimed at in
    let jobs : c.items.result.now ≡ get_or c.self.inside.waiters.items c.args.job [] =
    c.items.ensures ∙ c.index.ensures ∙ get_or_any c.self.inside.waiters.items c.args.job c.index.result.now [] (omega (arith, lt, c.self.invariant.stages_len, c.self.invariant.waiters_len)) in
    rw (c.as_mut_slice.ensures.value, jobs) (enough _ c.args.job c.args.end c.self.invariant at c.requires.over)

pub release-requires-clause-marked : goal.release-requires-clause-marked
release-requires-clause-marked c =
    let P : Waiting → Type 0 = λ w. slice_get w.stages c.args.job ≡ Some stage.Claimed in
    rw (c.as_slice.ensures.value, c.as_mut_slice.ensures.value) (still_marked _ c.args.job c.args.end c.self.invariant (subst P (sym c.self.view_is) c.requires.running) c.requires.over)

pub invariant_of-self : goal.invariant_of-self
invariant_of-self c =
    let P : Waiting → Type 0 = λ w. slice_get w.stages c.args.job ≡ Some stage.Claimed in
    let at = subst P (sym c.self.view_is) c.requires.running in
    let lt = slice_get_within c.self.inside.stages.items c.args.job stage.Claimed at in
    let jobs : c.items.result.now ≡ get_or c.self.inside.waiters.items c.args.job [] =
    c.items.ensures ∙ c.index.ensures ∙ get_or_any c.self.inside.waiters.items c.args.job c.index.result.now [] (omega (arith, lt, c.self.invariant.stages_len, c.self.invariant.waiters_len)) in
    let value : c.as_mut_slice.result.now ≡ c.self.inside.left.items = c.as_mut_slice.ensures.value in
    let len : length c.release.new.left ≡ length c.self.inside.left.items = c.release.auto.left ∙ ap length value in
    rw (whole c.self.inside.left.len c.release.new.left c.self.inside.left.items len (omega arith))
    (finished _ c.args.job c.args.end c.release.new.left c.release.new.flagged c.self.invariant at c.requires.over
    (λ i. ap (λ (ks : List ℕ). get_or c.release.new.left i 0 + times i ks) (sym jobs) ∙ c.release.ensures.left i ∙ ap (λ (ns : List ℕ). get_or ns i 0) value)
    len c.release.ensures.room (rw c.as_slice.ensures.value at c.release.ensures.marked))
