use Rattle.std.proofs.Common.{◌∙◌, None, ap}
use Rattle.std.specs.Prelude.{is_some}
use Rattle.em_rules.proofs.Indexing.{told_mentioned}
use Rattle.em_rules.proofs.rules.Rules.is_mentioned.Goals as goal

pub returns-in-Some : goal.returns-in-Some
returns-in-Some c =
    let told = c.self.invariant c.in-Some.index c.in-Some.is c.args.name.now in
    rw (← c.self.view_is) (c.is_used.ensures ∙ ap is_some told ∙ told_mentioned 0 c.self.inside.held.items c.args.name.now None)
