use Rattle.std.proofs.Common.{◌≡◌, ◌∙◌, sym, ap, subst, List, ℕ, Option}
use Rattle.std.specs.Prelude.{T}
use Rattle.std.specs.FinMap.{entries, entries_sorted, is_sorted, find}
use Rattle.em_tree.specs.declared.node.Node.{Node}
use Rattle.em_tree.specs.declared.lay.Step.{Step}
use Rattle.em_tree.specs.Trees.{changed_all}
use Rattle.em_tree.specs.Steps.{changes_of, HasRoom}
use Rattle.em_tree.proofs.Maps.{order}
use Rattle.em_tree.proofs.Laying.{same_after}
use Rattle.em_tree.proofs.lay.lay_on.Goals as goal

pub apply-requires-clause-sorted : goal.apply-requires-clause-sorted
apply-requires-clause-sorted c = subst (λ (cs : List (List ℕ × Option Node)). T (is_sorted order cs)) (sym c.in_ok-steps.ensures) (entries_sorted c.args.d.now)

pub apply-requires-clause-room : goal.apply-requires-clause-room
apply-requires-clause-room c = subst (λ (ss : List Step). HasRoom (changes_of ss) c.make_room.new.nodes) c.as_slice.ensures.value c.in-Ok.ensures.room

pub returns-in-Ok-clause-ok : goal.returns-in-Ok-clause-ok
returns-in-Ok-clause-ok c =
    let named : changes_of c.as_slice.result.now ≡ entries c.args.d.now = ap changes_of c.as_slice.ensures.value ∙ c.in_ok-steps.ensures in
    c.apply.ensures.nodes ∙ ap (λ (cs : List (List ℕ × Option Node)). changed_all cs c.make_room.new.nodes) c.in_ok-steps.ensures
    ∙ same_after (entries c.args.d.now) c.make_room.new.nodes c.args.nodes.now (λ q h. c.in-Ok.ensures.others q (ap (λ (cs : List (List ℕ × Option Node)). find order q cs) named ∙ h))
