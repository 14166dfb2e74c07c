use Rattle.std.proofs.Common.{rules, ◌≡◌, nat_eq, Bool, true, false, ◌&&◌, refl, ap}
use Rattle.std.specs.Bool.{Decides}
use Rattle.std.specs.Cmp.Lexicographic.{pointwise, bytes_decides}
use Rattle.std.specs.Ordering.{is_lt}
use Rattle.std.proofs.lemmas.List.Elements.{recursion_from_All}
use Rattle.std.proofs.lemmas.List.Filters.{dedup_is}
use Rattle.std.proofs.lemmas.List.Sorted.{answers_always, ranks_by}
use Rattle.em_history.specs.Histories.{Pair, fits, by_names}
use Rattle.em_history.proofs.Lines.{gathered, names_order}
use Rattle.em_history.proofs.pair.gather.Goals as goal

-- `==` of pairs
abbrev equal : Pair → Pair → Bool
equal p q = pointwise nat_eq p.0 q.0 && pointwise nat_eq p.1 q.1

parts : (a b : Bool) → (a && b) ≡ true → (a ≡ true) × (b ≡ true)
parts true b h = (refl, h)
parts false b h = absurd cc

decided : (p q : Pair) → Decides (equal p q) (p ≡ q)
decided p q = (
  λ h. let (f, g) = parts (pointwise nat_eq p.0 q.0) (pointwise nat_eq p.1 q.1) h in let e = (bytes_decides p.0 q.0).0 f in let k = (bytes_decides p.1 q.1).0 g in λ i. (e i, k i),
  λ e. let f = (bytes_decides p.0 q.0).1 (ap (λ (r : Pair). r.0) e) in let g = (bytes_decides p.1 q.1).1 (ap (λ (r : Pair). r.1) e) in λ i. f i && g i,
)

pub returns-clause-ok : goal.returns-clause-ok
returns-clause-ok c =
    let pairs = c.args.pairs.now.items in
    let up = c.in_ok-sort_by.ensures.sorted (λ p q. is_lt (by_names p q)) (ranks_by names_order (λ (p : Pair). p)) (answers_always _ _ _ (λ f a r g called. let e : r ≡ by_names a.0.now a.1.0.now = search rules in ap is_lt e)) in
    gathered equal decided pairs c.sort_by.new.self.items c.dedup.new.self.items (recursion_from_All (λ p. fits p ≡ true) pairs c.requires) c.sort_by.ensures.permutation up
    (dedup_is equal c.sort_by.new.self.items c.dedup.new.self.items c.dedup.ensures.filtered)
