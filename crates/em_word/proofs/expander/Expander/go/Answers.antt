use Rattle.std.proofs.Common.{◌∙◌, refl}
use Rattle.std.specs.Prelude.{Err}
use Rattle.em_view.proofs.Performing.{ran_out}
use Rattle.em_word.specs.declared.fault.WordFault.TheVariants as fault
use Rattle.em_word.proofs.Seeing.{seen_left}
use Rattle.em_word.proofs.Stepping.{on}
use Rattle.em_word.proofs.expander.Expander.go.Goals as goal

pub returns-in_err-step-clause-turn : goal.returns-in_err-step-clause-turn
returns-in_err-step-clause-turn g c =
    let inv = c.loop.invariant in
    seen_left c.step.new.self c.from_residual.result c.from_residual.ensures.1 (inv.0.leads.goes _ _ (rw inv.1.1 at c.in_err-step.ensures.steps).performs)

pub returns-in-Turn-clause-turn : goal.returns-in-Turn-clause-turn
returns-in-Turn-clause-turn g c =
    let inv = c.loop.invariant in
    inv.0.leads.goes _ _ (rw (c.in-Turn.is, inv.1.1) at c.in_ok-step.ensures.steps).turned

pub returns-in-Ended-clause-turn : goal.returns-in-Ended-clause-turn
returns-in-Ended-clause-turn g c =
    let inv = c.loop.invariant in
    let step = rw (c.in-Ended.is, inv.1.1) at c.in_ok-step.ensures.steps in
    inv.0.leads.goes _ _ (step.leads.goes _ _ (rw (c.in_ok-step.ensures.same.1, inv.1.1) at c.finish.ensures.turn))

pub loop-preserved : goal.loop-preserved
loop-preserved g c =
    let inv = c.loop.invariant in
    let step = rw (c.in-Goes.is, inv.1.1) at c.in_ok-step.ensures.steps in
    (record { leads = on inv.0.leads step.leads; steady = step.steady }, (c.in_ok-step.ensures.same.0 ∙ inv.1.0, c.in_ok-step.ensures.same.1 ∙ inv.1.1))

pub returns-clause-turn : goal.returns-clause-turn
returns-clause-turn g c = c.loop.invariant.0.leads.goes _ _ (ran_out {r = Err fault.NoMemory} fault.NoMemory refl refl)
