use Rattle.std.proofs.Common.{◌≡◌, ◌∙◌, ◌+◌, ap, sym, subst, ℕ}
use Rattle.std.specs.Ordering.{nat_cmp}
use Rattle.std.specs.List.Sorted.{IsStrictlySortedBy}
use Rattle.std.specs.Map.{keys_of}
use Rattle.std.specs.FinMap.{from_entries}
use Rattle.em_chain.specs.Posts.{Floored}
use Rattle.em_chain.specs.Floors.{IsRaised}
use Rattle.em_chain.specs.Lines.{IsHeld, chain_at, merged_in}
use Rattle.em_chain.proofs.Raising.{raise_step, cut_some, cut_none, floor_has}
use Rattle.em_chain.proofs.versions.Versions.raise_over.Goals.{in-Some, in_default}
use Rattle.em_chain.proofs.versions.Versions.raise_over.Goals as goal

pub cut_all-requires : goal.cut_all-requires
cut_all-requires c = λ q h.
    let at : c.self.inside.floor ≡ c.args.job = ap (λ (v : Floored). v.floor) c.self.view_is ∙ sym c.requires.here in
    floor_has c.self.inside.lines (from_entries c.self.inside.posts.entries) c.args.job c.in-Some.delta q (subst (λ (f : ℕ). IsHeld f c.self.inside.lines (from_entries c.self.inside.posts.entries)) at c.self.invariant.1) c.in-Some.ensures.delta h

pub invariant_of-self : goal.invariant_of-self
invariant_of-self c =
    let at : c.self.inside.floor ≡ c.args.job = ap (λ (v : Floored). v.floor) c.self.view_is ∙ sym c.requires.here in
    let ps = from_entries {R = nat_cmp} c.self.inside.posts.entries in
    let qs = from_entries {R = nat_cmp} c.take_delta.new.posts.entries in
    elim c.match-take_delta.branch [
      | in-Some w ↦ subst (λ x. IsStrictlySortedBy nat_cmp (keys_of x.posts.entries) × IsHeld (c.args.job + 1) x.lines (from_entries {R = nat_cmp} x.posts.entries)) (sym w.self-inside-is) (
        c.take_delta.ensures.sorted c.self.invariant.0,
        (raise_step c.self.inside.start c.self.inside.floor c.args.job c.self.inside.lines w.cut_all.new.lines ps qs at c.self.invariant.1 c.take_delta.ensures.left
            (λ q. cut_some ps c.args.job w.in-Some.delta q (chain_at c.self.inside.lines q) (chain_at w.cut_all.new.lines q) w.in-Some.ensures.delta (w.cut_all.ensures q))).0,
      )
      | in_default w ↦ subst (λ x. IsStrictlySortedBy nat_cmp (keys_of x.posts.entries) × IsHeld (c.args.job + 1) x.lines (from_entries {R = nat_cmp} x.posts.entries)) (sym w.self-inside-is) (
        c.take_delta.ensures.sorted c.self.invariant.0,
        (raise_step c.self.inside.start c.self.inside.floor c.args.job c.self.inside.lines c.self.inside.lines ps qs at c.self.invariant.1 c.take_delta.ensures.left
            (λ q. cut_none ps c.args.job q (chain_at c.self.inside.lines q) w.in_default.ensures.delta)).0,
      )
    ]

pub returns : goal.returns
returns c =
    let at : c.self.inside.floor ≡ c.args.job = ap (λ (v : Floored). v.floor) c.self.view_is ∙ sym c.requires.here in
    let ps = from_entries {R = nat_cmp} c.self.inside.posts.entries in
    let qs = from_entries {R = nat_cmp} c.take_delta.new.posts.entries in
    subst (λ (v : Floored). IsRaised v (c.args.job + 1) (record { start = c.match-take_delta.self-inside.start; floor = c.args.job + 1; merged = merged_in (c.args.job + 1) c.match-take_delta.self-inside.lines; posts = from_entries c.match-take_delta.self-inside.posts.entries })) c.self.view_is (elim c.match-take_delta.branch [
      | in-Some w ↦ subst (λ x. IsRaised (record { start = c.self.inside.start; floor = c.self.inside.floor; merged = merged_in c.self.inside.floor c.self.inside.lines; posts = ps }) (c.args.job + 1)
          (record { start = x.start; floor = c.args.job + 1; merged = merged_in (c.args.job + 1) x.lines; posts = from_entries x.posts.entries })) (sym w.self-inside-is)
          (raise_step c.self.inside.start c.self.inside.floor c.args.job c.self.inside.lines w.cut_all.new.lines ps qs at c.self.invariant.1 c.take_delta.ensures.left
          (λ q. cut_some ps c.args.job w.in-Some.delta q (chain_at c.self.inside.lines q) (chain_at w.cut_all.new.lines q) w.in-Some.ensures.delta (w.cut_all.ensures q))).1
      | in_default w ↦ subst (λ x. IsRaised (record { start = c.self.inside.start; floor = c.self.inside.floor; merged = merged_in c.self.inside.floor c.self.inside.lines; posts = ps }) (c.args.job + 1)
          (record { start = x.start; floor = c.args.job + 1; merged = merged_in (c.args.job + 1) x.lines; posts = from_entries x.posts.entries })) (sym w.self-inside-is)
          (raise_step c.self.inside.start c.self.inside.floor c.args.job c.self.inside.lines c.self.inside.lines ps qs at c.self.invariant.1 c.take_delta.ensures.left
          (λ q. cut_none ps c.args.job q (chain_at c.self.inside.lines q) w.in_default.ensures.delta)).1
    ])
