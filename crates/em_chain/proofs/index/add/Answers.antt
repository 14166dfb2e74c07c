use Rattle.std.proofs.Common.{◌∙◌, ap, cond, true, Option, List, ℕ, Some}
use Rattle.std.specs.Ordering.{is_eq}
use Rattle.std.specs.BTreeSet.{BTreeSet}
use Rattle.std.specs.List.{list_any}
use Rattle.std.specs.BTreeMap.{get}
use Rattle.em_tree.specs.Index.{Children, is_in}
use Rattle.em_tree.proofs.Maps.{order, at_err}
use Rattle.em_tree.proofs.Indexes.{added, kept, some_is}
use Rattle.em_chain.proofs.index.add.Goals as goal

pub returns-in_err-insert-clause-err : goal.returns-in_err-insert-clause-err
returns-in_err-insert-clause-err c =
    let e = c.in-Some.ensures.value in
    let wrote = c.get_mut.follows.holds c.insert.new.self in
    at_err _ (kept c.args.children.now (c.get_mut.follows.lender c.insert.new.self) c.args.parent c.insert.new.self (λ q. (wrote.3 (some_is e)).0 q)
    (λ k. ap (list_any (λ q. is_eq (order k q))) c.in_err-insert.ensures.err ∙ ap (λ (o : Option (BTreeSet (List ℕ))). is_in o k) e))

pub returns-in-Some-clause-ok : goal.returns-in-Some-clause-ok
returns-in-Some-clause-ok c =
    let e = c.in-Some.ensures.value in
    let wrote = c.get_mut.follows.holds c.insert.new.self in
    added c.args.children.now (c.get_mut.follows.lender c.insert.new.self) c.args.parent c.insert.new.self (λ q. (wrote.3 (some_is e)).0 q) c.args.child
    (λ k. c.in_ok-insert.ensures.updates.0 k ∙ ap (λ (o : Option (BTreeSet (List ℕ))). cond (is_eq (order c.args.child k)) true (is_in o k)) e)

pub returns-clause-ok : goal.returns-clause-ok
returns-clause-ok c =
    let m = c.args.children.now in
    added m c.insert-3.new.self c.args.parent c.insert-2.new.self
    (λ q. c.in_ok-insert-3.ensures.updates.0 q ∙ ap (λ (n : Children). cond (is_eq (order c.args.parent q)) (Some c.insert-2.new.self) (get order n q)) c.get_mut.follows.holds-at-none) c.args.child
    (λ k. c.in_ok-insert-2.ensures.updates.0 k ∙ ap (cond (is_eq (order c.args.child k)) true) (ap (list_any (λ q. is_eq (order k q))) c.new-paths.ensures.empty ∙ ap (λ (o : Option (BTreeSet (List ℕ))). is_in o k) c.in_default.ensures.value))
