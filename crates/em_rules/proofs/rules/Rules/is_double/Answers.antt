use Rattle.std.proofs.Common.{◌∙◌, None, ap}
use Rattle.em_rules.proofs.Indexing.{double_in, told_double}
use Rattle.em_rules.proofs.rules.Rules.is_double.Goals as goal

pub returns-in-Some : goal.returns-in-Some
returns-in-Some c =
    let told = c.self.invariant c.in-Some.index c.in-Some.is c.args.name.now in
    rw (← c.self.view_is) (c.is_double.ensures ∙ ap double_in told ∙ told_double 0 c.self.inside.held.items c.args.name.now None)
