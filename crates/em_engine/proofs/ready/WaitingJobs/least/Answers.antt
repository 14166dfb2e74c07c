use Rattle.std.proofs.Common.{◌≡◌, ◌∙◌, sym, arith, true, false}
use Rattle.std.proofs.lemmas.Option.{get_or_from_slice_get}
use Rattle.em_engine.specs.Waits.{flag}
use Rattle.em_engine.proofs.Counts.{flag_can, can_flag, no_free, some_free}
use Rattle.em_engine.proofs.Nodes.{raised}
use Rattle.em_engine.proofs.ready.WaitingJobs.least.Goals as goal

pub returns-in-Some : goal.returns-in-Some
returns-in-Some c =
    let k = c.self.invariant in
    let up : flag c.self.inside.flagged c.in-Some.job ≡ true = get_or_from_slice_get c.self.inside.flagged c.in-Some.job true false c.in-Some.ensures.here in
    rw (← c.self.view_is) (record {
      here = flag_can _ _ _ _ c.in-Some.job k.flagged_is (k.left_is c.in-Some.job) up;
      below = λ i less can. c.in-Some.ensures.before i less (raised c.self.inside.flagged i (can_flag _ _ _ _ i k.flagged_is (k.left_is i) can));
    })

pub returns-then-self-eq0 : goal.returns-then-self-eq0
returns-then-self-eq0 c = rw (← c.self.view_is) (no_free c.self.inside.stages.items (sym c.self.invariant.free_is ∙ c.if-self-eq0.true))

pub returns-else-self-eq0 : goal.returns-else-self-eq0
returns-else-self-eq0 c =
    let k = c.self.invariant in
    rw (← c.self.view_is) (record {
      waiting = some_free c.self.inside.stages.items (omega (arith, k.free_is, c.if-self-eq0.false));
      none = λ i can. c.in-None.ensures i (raised c.self.inside.flagged i (can_flag _ _ _ _ i k.flagged_is (k.left_is i) can));
    })
