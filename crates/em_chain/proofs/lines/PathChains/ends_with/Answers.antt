use Rattle.std.proofs.Common.{◌∙◌, sym, ap, length, nat_eq, Option}
use Rattle.em_chain.specs.declared.lines.PathChain.{PathChain}
use Rattle.em_chain.specs.Pairs.{Pairs}
use Rattle.em_chain.specs.Chains.{without}
use Rattle.em_chain.specs.Lines.{chain_in}
use Rattle.em_chain.proofs.Lining.{at_line, not_there}
use Rattle.em_chain.proofs.lines.PathChains.ends_with.Goals as goal

pub returns-in-Some : goal.returns-in-Some
returns-in-Some c = c.ends_with.ensures ∙ ap (λ (k : Pairs). nat_eq (length (without c.args.job k)) 0) (sym (at_line c.self.inside.held.entries c.args.p.now c.in-Some.line.now c.args.self.now c.self.view_is c.in-Some.ensures.value))

pub returns-in-None : goal.returns-in-None
returns-in-None c = sym (ap (λ (o : Option PathChain). nat_eq (length (without c.args.job (chain_in o))) 0) (not_there c.self.inside.held.entries c.args.p.now c.args.self.now c.self.view_is c.in-None.ensures.value))
