use Rattle.std.proofs.Common.{sym, ap}
use Rattle.em_chain.specs.Lines.{chain_in}
use Rattle.em_chain.proofs.Lining.{at_line, not_there}
use Rattle.em_chain.proofs.lines.PathChains.chain.Goals as goal

pub returns-in-Some : goal.returns-in-Some
returns-in-Some c = sym (at_line c.self.inside.held.entries c.args.p.now c.in-Some.line.now c.args.self.now c.self.view_is c.in-Some.ensures.value)

pub returns-in-None : goal.returns-in-None
returns-in-None c = sym (ap chain_in (not_there c.self.inside.held.entries c.args.p.now c.args.self.now c.self.view_is c.in-None.ensures.value))
