use Rattle.std.proofs.Common.{◌≡◌, ◌∙◌, ◌<◌, [], length, get_or, set, refl, ap, subst, inl, inr, arith}
use Rattle.em_insight.specs.Each.{Any}
use Rattle.em_insight.proofs.Filing.{release_first, release_more, any_at, drop_all, get_any}
use Rattle.em_insight.proofs.queue.Queue.release.Goals as goal

pub loop-next-init : goal.loop-next-init
loop-next-init c =
    let room : c.args.job < length c.args.self.now.held.items = omega (arith, c.requires.known, c.requires.synced.helds) in
    let list : c.items-next-items.result.now ≡ get_or c.args.self.now.held.items c.args.job [] = c.items-next-items.ensures ∙ c.replace-held.ensures.value ∙ c.index_mut.ensures.value ∙ get_any c.args.self.now.held.items c.args.job _ [] room in
    release_first c.args.lines.now c.args.self.now _ c.args.job c.items-next-items.result.now c.requires.synced c.requires.known c.requires.started c.requires.loose c.requires.filed refl
    (ap (set c.args.self.now.held.items c.args.job) (c.replace-held.ensures.after ∙ c.new.ensures)) refl refl list

pub file-requires-clause-known : goal.file-requires-clause-known
file-requires-clause-known c =
    let room : c.args.job < length c.args.self.now.held.items = omega (arith, c.requires.known, c.requires.synced.helds) in
    let list : c.items-next-items.result.now ≡ get_or c.args.self.now.held.items c.args.job [] = c.items-next-items.ensures ∙ c.replace-held.ensures.value ∙ c.index_mut.ensures.value ∙ get_any c.args.self.now.held.items c.args.job _ [] room in
    c.requires.synced.within c.args.job (get_or c.items-next-items.result.now c.loop-next.next-index 0)
    (subst (Any (λ x. x ≡ get_or c.items-next-items.result.now c.loop-next.next-index 0)) list (any_at c.items-next-items.result.now c.loop-next.next-index c.loop-next-test.true))

pub loop-next-preserved : goal.loop-next-preserved
loop-next-preserved c =
    release_more c.args.lines.now _ c.loop-next.self c.file.new.self c.items-next-items.result.now c.loop-next.next-index c.loop-next-test.true c.loop-next.invariant c.in_ok-file.ensures.synced c.in_ok-file.ensures.filed
    c.in_ok-file.ensures.others c.in_ok-file.ensures.loose c.in_ok-file.ensures.starts c.in_ok-file.ensures.ready

pub returns-clause-filed : goal.returns-clause-filed
returns-clause-filed c = λ j. elim (c.loop-next.invariant.filed j) [
  | inl f ↦ f
  | inr a ↦ absurd (subst (Any (λ x. x ≡ j)) (drop_all c.items-next-items.result.now c.loop-next.next-index c.loop-next-test.false) a)
]
