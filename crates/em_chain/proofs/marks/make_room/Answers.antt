use Rattle.std.proofs.Common.{◌∙◌, inl, inr, sym, ap, subst, refl, cond, ℕ, add-one, take}
use Rattle.std.specs.Ordering.{eq_by_cmp}
use Rattle.em_tree.proofs.Maps.{order}
use Rattle.em_chain.specs.Pairs.{Pairs}
use Rattle.em_chain.specs.Chains.{roomed}
use Rattle.em_chain.specs.Lines.{chain_at}
use Rattle.em_chain.specs.Marks.{ChangeList, names, Roomed}
use Rattle.em_chain.proofs.Marking.{roomed_step, room_step, room_stays, names_other, names_more, all_taken}
use Rattle.em_chain.proofs.marks.make_room.Goals as goal

pub loop-change-init : goal.loop-change-init
loop-change-init c = record { roomed = λ q. inl refl; others = λ q h. refl; room = λ q h. absurd (cc) }

pub loop-change-preserved : goal.loop-change-preserved
loop-change-preserved c =
    let x = c.change-item.result in
    let lt = c.loop-change-test.true in
    let step = c.in_ok-make_place.ensures.ok in
    record {
      roomed = λ q. roomed_step c.args.job (chain_at c.args.lines.now q) (chain_at c.loop-change.lines q) (chain_at c.make_place.new.self q) (eq_by_cmp order q x.0) (step q) (c.loop-change.invariant.roomed q);
      others = λ q h. step q ∙ ap (λ b. cond b (roomed c.args.job (chain_at c.loop-change.lines q)) (chain_at c.loop-change.lines q)) (names_other c.args.changes.now c.loop-change.change-index x q lt c.change-item.is h) ∙ c.loop-change.invariant.others q h;
      room = λ q h. elim (names_more c.args.changes.now c.loop-change.change-index x q lt c.change-item.is (ap (λ (k : ℕ). names (take k c.args.changes.now) q) (sym (add-one c.loop-change.change-index)) ∙ h)) [
        | inl f ↦ room_stays c.args.job (chain_at c.args.lines.now q) (chain_at c.loop-change.lines q) (chain_at c.make_place.new.self q) (eq_by_cmp order q x.0) (step q) (c.loop-change.invariant.room q f)
        | inr f ↦ room_step c.args.job (chain_at c.args.lines.now q) (chain_at c.loop-change.lines q) (chain_at c.make_place.new.self q) (eq_by_cmp order q x.0) (step q) f
      ];
    }

pub returns-in_err-make_place-clause-roomed : goal.returns-in_err-make_place-clause-roomed
returns-in_err-make_place-clause-roomed c = λ q. subst (λ (d : Pairs). Roomed c.args.job (chain_at c.args.lines.now q) d) (sym (c.in_err-make_place.ensures.err q)) (c.loop-change.invariant.roomed q)

pub returns-in_err-make_place-clause-others : goal.returns-in_err-make_place-clause-others
returns-in_err-make_place-clause-others c = λ q h. c.in_err-make_place.ensures.err q ∙ c.loop-change.invariant.others q h

pub returns-clause-room : goal.returns-clause-room
returns-clause-room c = λ q h. c.loop-change.invariant.room q (ap (λ (es : ChangeList). names es q) (all_taken c.args.changes.now c.loop-change.change-index c.loop-change-test.false) ∙ h)
