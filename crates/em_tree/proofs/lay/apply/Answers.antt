use Rattle.std.proofs.Common.{◌≡◌, ◌∙◌, ◌++◌, ◌∷◌, [], sym, ap, subst, List, ℕ, Option}
use Rattle.std.specs.Prelude.{T}
use Rattle.std.specs.FinMap.{is_sorted}
use Rattle.em_tree.specs.declared.node.Node.{Node}
use Rattle.em_tree.specs.Trees.{Table, changed_all}
use Rattle.em_tree.specs.Steps.{changes_of, HasRoom}
use Rattle.em_tree.proofs.Maps.{order}
use Rattle.em_tree.proofs.Tables.{changed_all-push}
use Rattle.em_tree.proofs.Laying.{room_here, room_left, sorted-front, changes_of-push}
use Rattle.em_tree.proofs.lay.apply.Goals as goal

pub apply_one-requires-clause-room : goal.apply_one-requires-clause-room
apply_one-requires-clause-room c =
    let rest = c.pop.new.self.items in
    let s = c.in-Some.step in
    let e : changes_of c.loop-step.rest.items ≡ changes_of rest ++ (s.place.path, s.becomes) ∷ [] = ap changes_of c.in-Some.ensures.items ∙ changes_of-push rest s in
    room_here (changes_of rest) s.place.path s.becomes c.loop-step.nodes
    (subst (λ (cs : List (List ℕ × Option Node)). T (is_sorted order cs)) e c.loop-step.invariant.sorted)
    (subst (λ (cs : List (List ℕ × Option Node)). HasRoom cs c.loop-step.nodes) e c.loop-step.invariant.room)

pub loop-step-preserved : goal.loop-step-preserved
loop-step-preserved c =
    let rest = c.pop.new.self.items in
    let s = c.in-Some.step in
    let t = c.loop-step.nodes in
    let e : changes_of c.loop-step.rest.items ≡ changes_of rest ++ (s.place.path, s.becomes) ∷ [] = ap changes_of c.in-Some.ensures.items ∙ changes_of-push rest s in
    let sorted = subst (λ (cs : List (List ℕ × Option Node)). T (is_sorted order cs)) e c.loop-step.invariant.sorted in
    let room = subst (λ (cs : List (List ℕ × Option Node)). HasRoom cs t) e c.loop-step.invariant.room in
    record {
      index = c.apply_one.ensures.index;
      sorted = sorted-front (changes_of rest) s.place.path s.becomes sorted;
      room = subst (λ (u : Table). HasRoom (changes_of rest) u) (sym c.apply_one.ensures.nodes) (room_left (changes_of rest) s.place.path s.becomes t sorted room);
      left = ap (λ (u : Table). changed_all (changes_of rest) u) c.apply_one.ensures.nodes ∙ sym (changed_all-push (changes_of rest) s.place.path s.becomes t) ∙ sym (ap (λ (cs : List (List ℕ × Option Node)). changed_all cs t) e) ∙ c.loop-step.invariant.left;
    }
