use Rattle.std.proofs.Common.{◌∙◌, ap, Option, List, ℕ}
use Rattle.std.specs.BTreeSet.{BTreeSet}
use Rattle.std.specs.FinMap.{from_entries}
use Rattle.em_tree.specs.Index.{is_in}
use Rattle.em_tree.proofs.Naming.{children_are, children_none}
use Rattle.em_chain.proofs.lines.PathChains.under.Goals as goal

pub returns-in-Some : goal.returns-in-Some
returns-in-Some c = rw (← c.self.view_is) (c.iter.ensures.rest ∙ children_are (from_entries c.self.inside.held.entries) c.args.p.now c.in-Some.paths.now c.iter.ensures.ordered
    (λ k. ap (λ (o : Option (BTreeSet (List ℕ))). is_in o k) c.in-Some.ensures.value ∙ c.self.invariant.1.indexed.exact c.args.p.now k))

pub returns-in-None : goal.returns-in-None
returns-in-None c = rw (← c.self.view_is) (children_none (from_entries c.self.inside.held.entries) c.args.p.now
    (λ k. ap (λ (o : Option (BTreeSet (List ℕ))). is_in o k) c.in-None.ensures.value ∙ c.self.invariant.1.indexed.exact c.args.p.now k))
