use Rattle.std.proofs.Common.{◌≡◌, sym, ap, subst, ◌∙◌, Some, List, ℕ}
use Rattle.std.specs.List.{AllByRecursion}
use Rattle.em_path.specs.Paths.{parent_text}
use Rattle.em_tree.specs.Trees.{Table}
use Rattle.em_chain.specs.Floors.{change_over}
use Rattle.em_chain.specs.Listing.{IsListing, changed_at}
use Rattle.em_chain.proofs.Naming.{listing_step}
use Rattle.em_chain.proofs.versions.Versions.amend_all.Goals as goal

pub loop-path-init : goal.loop-path-init
loop-path-init c = (c.requires, λ p t up h. (t, ap (λ (qs : List (List ℕ)). changed_at (change_over c.args.self.now c.args.job) qs t) c.into_iter-path-iterator.ensures.into_iter_gives, subst (AllByRecursion (λ q. parent_text q ≡ Some p)) (sym c.into_iter-path-iterator.ensures.into_iter_gives) up, h))

pub loop-path-preserved : goal.loop-path-preserved
loop-path-preserved c = (
  c.in_ok-amend.ensures.named,
  λ p t up h.
      let r = c.loop-path.invariant.1 p t up h in
      listing_step (change_over c.args.self.now c.args.job) p c.loop-path.path-iterator c.next.new.self r.0 _ c.in-Some.path.now _ c.amend.new.set.keys c.in-Some.ensures.steps c.change.ensures r.1 r.2 (λ above. c.in_ok-amend.ensures.listing p r.0 above r.3),
)

pub returns : goal.returns
returns c = λ p t up h.
    let r = c.loop-path.invariant.1 p t up h in
    subst (λ (u : Table). IsListing p u c.loop-path.set.keys) (sym (ap (λ (qs : List (List ℕ)). changed_at (change_over c.args.self.now c.args.job) qs r.0) c.in-None.ensures.steps.0) ∙ r.1) r.3
