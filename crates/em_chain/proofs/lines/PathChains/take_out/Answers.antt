use Rattle.std.proofs.Common.{refl}
use Rattle.em_chain.proofs.Lining.{taken_at, taken_lines, is_there}
use Rattle.em_chain.proofs.lines.PathChains.take_out.Goals as goal

pub returns-in_default : goal.returns-in_default
returns-in_default c = taken_at c.self.inside.held c.remove.new.self c.args.p.now c.args.self.now c.remove.ensures.updates c.self.view_is

pub unlist-requires : goal.unlist-requires
unlist-requires c = c.self.invariant.1.homed c.args.p.now c.in-Some.line (is_there c.self.inside.held.entries c.args.p.now c.in-Some.line _ refl c.in-Some.ensures.value)

pub invariant_of-self-2 : goal.invariant_of-self-2
invariant_of-self-2 c = (c.remove.ensures.ordered, taken_lines c.self.inside.held c.remove.new.self c.args.p.now c.self.inside.children c.unlist.new.children c.remove.ensures.updates c.self.invariant.1 c.unlist.ensures)

pub returns : goal.returns
returns c = taken_at c.self.inside.held c.remove.new.self c.args.p.now c.args.self.now c.remove.ensures.updates c.self.view_is
