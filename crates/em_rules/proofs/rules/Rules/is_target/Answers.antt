use Rattle.std.proofs.Common.{◌∙◌, None, ltb, length, ap}
use Rattle.em_rules.proofs.Indexing.{numbers_in, told_numbers, told_target}
use Rattle.em_rules.proofs.rules.Rules.is_target.Goals as goal

pub returns-in-Some : goal.returns-in-Some
returns-in-Some c =
    let told = c.self.invariant c.in-Some.index c.in-Some.is c.args.name.now in
    rw (← c.self.view_is) (c.is_target.ensures ∙ ap (λ o. ltb 0 (length (numbers_in o))) told ∙ ap (λ xs. ltb 0 (length xs)) (told_numbers 0 c.self.inside.held.items c.args.name.now None tt) ∙ told_target 0 c.self.inside.held.items c.args.name.now)
