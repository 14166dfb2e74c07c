use Rattle.std.proofs.Common.{◌∙◌, sym, ap, subst, refl, List, Some}
use Rattle.std.specs.Prelude.{IsSome}
use Rattle.std.specs.Borrow.{Bor}
use Rattle.std.specs.FinMap.{get, remove}
use Rattle.em_tree.specs.declared.index.Place.{Place}
use Rattle.em_tree.specs.declared.node.Node.TheVariants.{Dir}
use Rattle.em_tree.specs.Trees.{Table, changed_all}
use Rattle.em_tree.specs.Steps.{removals}
use Rattle.em_tree.proofs.Laying.{remove-insert, stays-insert, changed-here, changed-other, undo_push, missing}
use Rattle.em_tree.proofs.lay.add_room.Goals as goal

pub returns-in-Ok-clause-undo : goal.returns-in-Ok-clause-undo
returns-in-Ok-clause-undo c =
    let t = c.args.nodes.now in
    let p = c.args.step.now.place.path in
    let absent = missing c.get.result (get t p) c.get.ensures (sym c.is_some.ensures ∙ c.if-is_some.false) in
    ap (λ (ps : List (Bor Place)). changed_all (removals ps) c.put_new.new.nodes) c.in-Ok.ensures.items ∙ undo_push c.args.added.now.items _ c.put_new.new.nodes
    ∙ ap (λ (s : Table). changed_all (removals c.args.added.now.items) s) (ap (λ (s : Table). remove s p) c.in_ok-put_new.ensures.ok ∙ remove-insert t p (Dir 0) absent)

pub returns-in-Ok-clause-room : goal.returns-in-Ok-clause-room
returns-in-Ok-clause-room c = λ _. subst (λ o. IsSome o) (sym (ap (λ (s : Table). get s c.args.step.now.place.path) c.in_ok-put_new.ensures.ok ∙ changed-here c.args.nodes.now c.args.step.now.place.path (Some (Dir 0)))) refl

pub returns-in-Ok-clause-others : goal.returns-in-Ok-clause-others
returns-in-Ok-clause-others c = λ q e. ap (λ (s : Table). get s q) c.in_ok-put_new.ensures.ok ∙ changed-other c.args.nodes.now c.args.step.now.place.path (Some (Dir 0)) q e

pub returns-in-Ok-clause-stays : goal.returns-in-Ok-clause-stays
returns-in-Ok-clause-stays c = λ q h. subst (λ (s : Table). IsSome (get s q)) (sym c.in_ok-put_new.ensures.ok) (stays-insert c.args.nodes.now c.args.step.now.place.path (Dir 0) q h)

pub returns-in-Err-clause-undo : goal.returns-in-Err-clause-undo
returns-in-Err-clause-undo c =
    let t = c.args.nodes.now in
    let p = c.args.step.now.place.path in
    let absent = missing c.get.result (get t p) c.get.ensures (sym c.is_some.ensures ∙ c.if-is_some.false) in
    let back = c.take_out.ensures.nodes ∙ ap (λ (s : Table). remove s p) c.in_ok-put_new.ensures.ok ∙ remove-insert t p (Dir 0) absent in
    ap (λ (ps : List (Bor Place)). changed_all (removals ps) c.take_out.new.nodes) c.in-Err.ensures.items ∙ ap (λ (s : Table). changed_all (removals c.args.added.now.items) s) back

pub returns-in-Err-clause-others : goal.returns-in-Err-clause-others
returns-in-Err-clause-others c =
    let t = c.args.nodes.now in
    let p = c.args.step.now.place.path in
    let absent = missing c.get.result (get t p) c.get.ensures (sym c.is_some.ensures ∙ c.if-is_some.false) in
    let back = c.take_out.ensures.nodes ∙ ap (λ (s : Table). remove s p) c.in_ok-put_new.ensures.ok ∙ remove-insert t p (Dir 0) absent in
    λ q e. ap (λ (s : Table). get s q) back

pub returns-in-Err-clause-stays : goal.returns-in-Err-clause-stays
returns-in-Err-clause-stays c =
    let t = c.args.nodes.now in
    let p = c.args.step.now.place.path in
    let absent = missing c.get.result (get t p) c.get.ensures (sym c.is_some.ensures ∙ c.if-is_some.false) in
    let back = c.take_out.ensures.nodes ∙ ap (λ (s : Table). remove s p) c.in_ok-put_new.ensures.ok ∙ remove-insert t p (Dir 0) absent in
    λ q h. subst (λ (s : Table). IsSome (get s q)) (sym back) h
