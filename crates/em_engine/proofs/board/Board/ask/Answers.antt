use Rattle.std.proofs.Common.{◌≡◌, ◌∙◌, arith, subst, sym, ap, refl, Some, slice_get, List, ◌++◌, ◌∷◌, [], length}
use Rattle.std.proofs.lemmas.Option.{slice_get_within}
use Rattle.em_tree.specs.declared.question.Entry.{Entry}
use Rattle.em_engine.specs.declared.event.Phase.TheVariants as phase
use Rattle.em_engine.specs.Boards.{Seen}
use Rattle.em_engine.specs.Calls.{entry}
use Rattle.em_engine.proofs.Steps.{asks, reserved, unasked, asked_now}
use Rattle.em_engine.specs.declared.event.Event.TheVariants as event
use Rattle.em_engine.proofs.Tying.{tied_noted}
use Rattle.em_engine.proofs.board.Board.ask.Goals as goal

pub invariant_of-self-2 : goal.invariant_of-self-2
invariant_of-self-2 g c =
    let P : Seen g.row.S.Denot → Type 0 = λ b. slice_get b.phases c.args.job ≡ Some phase.Claimed in
    let at = subst P (sym c.self.view_is) c.requires in
    let was : List Entry = c.index_mut.result.now in
    rw (c.push_reserved.ensures.items, c.reserve.ensures.items, c.push_reserved.ensures.capacity, c.in_ok-noted.ensures)
    (asks _ c.args.job (entry c.args.q.now c.in_ok-answer.answer) was c.push.new.self _ _ c.self.invariant.0 at c.in_ok-answer.ensures.ok c.index_mut.ensures.value (c.in_ok-push.ensures.ok ∙ ap (λ (e : Entry). was ++ e ∷ []) c.in_ok-kept.ensures) (omega (arith, c.push_reserved.ensures.len, c.reserve.ensures.len, c.in_ok-reserve.ensures.ok)), tied_noted g.S.Spec.job_of c.self.inside.phases.items (length c.self.inside.ready.waits) c.self.inside.journal.items (event.Ask c.args.job (entry c.args.q.now c.in_ok-answer.answer)) c.self.invariant.1 refl)

pub invariant_of-self-in_err-push : goal.invariant_of-self-in_err-push
invariant_of-self-in_err-push g c =
    rw c.reserve.ensures.items
    (unasked _ c.args.job c.index_mut.result.now c.push.new.self _ _ c.self.invariant.0 c.index_mut.ensures.value c.in_err-push.ensures.err (omega (arith, c.reserve.ensures.len, c.in_ok-reserve.ensures.ok)), c.self.invariant.1)

pub returns-clause-answer : goal.returns-clause-answer
returns-clause-answer g c =
    let P : Seen g.row.S.Denot → Type 0 = λ b. slice_get b.phases c.args.job ≡ Some phase.Claimed in
    let at = subst P (sym c.self.view_is) c.requires in
    rw (← c.self.view_is) (c.in_ok-answer.ensures.ok ∙ asked_now _ c.self.invariant.0 c.args.job c.args.q.now at)

pub invariant_of-self : goal.invariant_of-self
invariant_of-self g c =
    rw c.reserve.ensures.items (reserved _ _ _ c.self.invariant.0 (omega (arith, c.reserve.ensures.len, c.reserve.ensures.capacity, c.self.invariant.0.room)), c.self.invariant.1)

pub index_mut-requires : goal.index_mut-requires
index_mut-requires g c =
    let P : Seen g.row.S.Denot → Type 0 = λ b. slice_get b.phases c.args.job ≡ Some phase.Claimed in
    let lt = slice_get_within c.self.inside.phases.items c.args.job phase.Claimed (subst P (sym c.self.view_is) c.requires) in
    omega (arith, lt, c.self.invariant.0.phases_len, c.self.invariant.0.asked_len)
