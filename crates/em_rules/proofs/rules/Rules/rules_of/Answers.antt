use Rattle.std.proofs.Common.{◌≡◌, ◌∙◌, None, ap, subst}
use Rattle.std.specs.Prelude.{IfOk}
use Rattle.em_rules.proofs.Indexing.{numbers_in, told_numbers}
use Rattle.em_rules.proofs.rules.Rules.rules_of.Goals as goal

pub returns-in-Some : goal.returns-in-Some
returns-in-Some c =
    let told = c.self.invariant c.in-Some.index c.in-Some.is c.args.name.now in
    rw (← c.self.view_is) (subst (λ xs. IfOk c.numbers.result (λ s. s ≡ xs)) (ap numbers_in told ∙ told_numbers 0 c.self.inside.held.items c.args.name.now None tt) c.numbers.ensures)
