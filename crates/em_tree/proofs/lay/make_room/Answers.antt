use Rattle.std.proofs.Common.{◌≡◌, ◌∙◌, ◌+◌, ◌++◌, ◌∷◌, [], sym, ap, subst, List, ℕ, Option, take, take_all, false}
use Rattle.std.proofs.lemmas.List.{take_more}
use Rattle.std.specs.Ordering.{eq_by_cmp}
use Rattle.em_tree.specs.declared.node.Node.{Node}
use Rattle.em_tree.specs.declared.lay.Step.{Step}
use Rattle.em_tree.specs.Steps.{changes_of, HasRoom}
use Rattle.em_tree.proofs.Maps.{order}
use Rattle.em_tree.proofs.Laying.{room_more, not_named, changes_of-push}
use Rattle.em_tree.proofs.lay.make_room.Goals as goal

pub returns-in_err-add_room-clause-others : goal.returns-in_err-add_room-clause-others
returns-in_err-add_room-clause-others c = λ q h.
    let s = c.step-item.result in
    let apart = subst (λ (r : Step). eq_by_cmp order q r.place.path ≡ false) (sym c.step-item.is) (not_named c.args.steps.now c.loop-step.step-index s q c.loop-step-test.true h) in
    c.add_room.ensures.others q apart ∙ c.loop-step.invariant.others q h

pub loop-step-preserved : goal.loop-step-preserved
loop-step-preserved c =
    let steps = c.args.steps.now in
    let i = c.loop-step.step-index in
    let s = c.step-item.result in
    let e : changes_of (take (i + 1) steps) ≡ changes_of (take i steps) ++ (s.place.path, s.becomes) ∷ [] = ap changes_of (take_more steps i s c.loop-step-test.true ∙ ap (λ (r : Step). take i steps ++ r ∷ []) (sym c.step-item.is)) ∙ changes_of-push (take i steps) s in
    record {
      index = c.add_room.ensures.index;
      undo = c.add_room.ensures.undo ∙ c.loop-step.invariant.undo;
      room = subst (λ (cs : List (List ℕ × Option Node)). HasRoom cs c.add_room.new.nodes) (sym e) (room_more (changes_of (take i steps)) s.place.path s.becomes c.loop-step.nodes c.add_room.new.nodes c.loop-step.invariant.room c.add_room.ensures.stays c.in_ok-add_room.ensures.room);
      others = λ q h. (let apart = subst (λ (r : Step). eq_by_cmp order q r.place.path ≡ false) (sym c.step-item.is) (not_named steps i s q c.loop-step-test.true h) in c.add_room.ensures.others q apart ∙ c.loop-step.invariant.others q h);
    }

pub returns-clause-room : goal.returns-clause-room
returns-clause-room c = subst (λ (ss : List Step). HasRoom (changes_of ss) c.loop-step.nodes) (take_all c.loop-step.step-index c.args.steps.now c.loop-step-test.false) c.loop-step.invariant.room
