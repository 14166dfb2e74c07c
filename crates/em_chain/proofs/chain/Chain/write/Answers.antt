use Rattle.std.proofs.Common.{refl}
use Rattle.em_chain.proofs.Pairs.{written, put_sorted, no_pair, none_some}
use Rattle.em_chain.proofs.chain.Chain.write.Goals as goal

pub invariant_of-self : goal.invariant_of-self
invariant_of-self c =
    let h = c.self.inside.held.items in
    let n = c.args.self.now in
    put_sorted c.args.job h n c.self.view_is c.args.becomes _ c.self.invariant (written c.args.job h n c.self.view_is c.args.becomes c.in-Ok.i _ c.replace.new.dest c.in-Ok.ensures.found c.replace.ensures.after refl)

pub unreachable-requires : goal.unreachable-requires
unreachable-requires c =
    none_some _ (no_pair c.args.job c.self.inside.held.items c.args.self.now c.self.view_is c.in-Err.field-0 c.self.invariant c.in-Err.ensures.gap) c.requires

pub returns : goal.returns
returns c = written c.args.job c.self.inside.held.items c.args.self.now c.self.view_is c.args.becomes c.in-Ok.i _ c.replace.new.dest c.in-Ok.ensures.found c.replace.ensures.after refl
