use Rattle.std.proofs.Common.{◌∙◌, ap, cond, false, Option, List, ℕ}
use Rattle.std.specs.Ordering.{is_eq}
use Rattle.std.specs.BTreeSet.{BTreeSet}
use Rattle.em_tree.specs.Index.{is_in, has_child}
use Rattle.em_tree.proofs.Maps.{order}
use Rattle.em_tree.proofs.Indexes.{taken, nothing_taken, some_is}
use Rattle.em_chain.proofs.Lining.{emptied_set}
use Rattle.em_chain.proofs.index.take.Goals as goal

pub returns-then-is_empty : goal.returns-then-is_empty
returns-then-is_empty c = λ p k.
    let e = c.in-Some.ensures.value in
    let wrote = c.get_mut.follows.holds c.remove.new.self in
    emptied_set c.args.children.now (c.get_mut.follows.lender c.remove.new.self) c.remove-then-is_empty.new.self c.args.parent.now c.remove.new.self p k
    ((wrote.3 (some_is e)).0 p) (c.remove-then-is_empty.ensures.updates.0 p) (c.is_empty.ensures.0 c.if-is_empty.true)
    ∙ taken c.args.children.now (c.get_mut.follows.lender c.remove.new.self) c.args.parent.now c.remove.new.self (λ q. (wrote.3 (some_is e)).0 q) c.args.child.now
    (λ k. c.remove.ensures.updates.0 k ∙ ap (λ (o : Option (BTreeSet (List ℕ))). cond (is_eq (order c.args.child.now k)) false (is_in o k)) e) p k

pub returns-else-is_empty : goal.returns-else-is_empty
returns-else-is_empty c =
    let e = c.in-Some.ensures.value in
    let wrote = c.get_mut.follows.holds c.remove.new.self in
    taken c.args.children.now (c.get_mut.follows.lender c.remove.new.self) c.args.parent.now c.remove.new.self (λ q. (wrote.3 (some_is e)).0 q) c.args.child.now
    (λ k. c.remove.ensures.updates.0 k ∙ ap (λ (o : Option (BTreeSet (List ℕ))). cond (is_eq (order c.args.child.now k)) false (is_in o k)) e)

pub returns-in_default : goal.returns-in_default
returns-in_default c = λ p k. ap (λ m. has_child m p k) c.get_mut.follows.holds-at-none ∙ nothing_taken c.args.children.now c.args.parent.now c.args.child.now p k c.in_default.ensures.value
