use Rattle.std.proofs.Common.{◌∙◌, None, ap}
use Rattle.em_rules.proofs.Indexing.{phony_in, told_phony}
use Rattle.em_rules.proofs.rules.Rules.is_phony.Goals as goal

pub returns-in-Some : goal.returns-in-Some
returns-in-Some c =
    let told = c.self.invariant c.in-Some.index c.in-Some.is c.args.name.now in
    rw (← c.self.view_is) (c.is_phony.ensures ∙ ap phony_in told ∙ told_phony 0 c.self.inside.held.items c.args.name.now None)
