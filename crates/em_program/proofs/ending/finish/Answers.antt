use Rattle.std.proofs.Common.{ap, ◌∙◌, List}
use Rattle.em_tree.specs.declared.outcome.Outcome.{Outcome}
use Rattle.em_closing.specs.declared.goals.Goal.{Goal}
use Rattle.em_closing.specs.Closing.{closing}
use Rattle.em_program.proofs.Following.{finish}
use Rattle.em_program.proofs.ending.finish.Goals as goal

pub returns-then-asked-clause-told : goal.returns-then-asked-clause-told
returns-then-asked-clause-told g c = rw (c.if-asked.true, c.status_of.ensures, c.items.ensures, c.items-outcomes.ensures) finish

pub returns-clause-told : goal.returns-clause-told
returns-clause-told g c =
    let text = c.in_ok-text.ensures ∙ ap (λ (os : List Outcome). closing c.args.terms.now.order.silent c.args.terms.now.plan os c.items-goals.result.now c.args.early) c.items-outcomes.ensures
    ∙ ap (λ (gs : List Goal). closing c.args.terms.now.order.silent c.args.terms.now.plan c.args.state.now.outcomes gs c.args.early) c.items-goals.ensures in
    rw c.if-asked.false (rw text at c.replace_all.ensures.told)
