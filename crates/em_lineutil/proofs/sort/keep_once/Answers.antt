use Rattle.std.proofs.Common.{◌≡◌, ◌∙◌, ap, nat_eq, Bool, true, false, cond, Bor, List, [], ◌∷◌, ℕ, map, refl}
use Rattle.std.specs.List.{dedup, dedup_from}
use Rattle.std.specs.Cmp.Lexicographic.{pointwise}
use Rattle.std.proofs.lemmas.List.Filters.{dedup_is}
use Rattle.em_base.proofs.Lemmas.{by_cases}
use Rattle.em_lineutil.proofs.sort.keep_once.Goals as goal

-- the texts of what is kept are what is kept of the texts
kept : (k : Bor (List ℕ)) (ls : List (Bor (List ℕ))) → map (λ (l : Bor (List ℕ)). l.now) (dedup_from (λ x y. pointwise nat_eq x.now y.now) k ls) ≡ dedup_from (pointwise nat_eq) k.now (map (λ l. l.now) ls)
kept k [] = refl
kept k (l ∷ ls) = by_cases (pointwise nat_eq l.now k.now)
    (λ b. map (λ (l : Bor (List ℕ)). l.now) (cond b (dedup_from (λ x y. pointwise nat_eq x.now y.now) k ls) (k ∷ dedup_from (λ x y. pointwise nat_eq x.now y.now) l ls))
    ≡ cond b (dedup_from (pointwise nat_eq) k.now (map (λ l. l.now) ls)) (k.now ∷ dedup_from (pointwise nat_eq) l.now (map (λ l. l.now) ls)))
    (λ _. kept k ls)
    (λ _. ap (λ (ms : List (List ℕ)). k.now ∷ ms) (kept l ls))

kept_all : (ls : List (Bor (List ℕ))) → map (λ (l : Bor (List ℕ)). l.now) (dedup (λ x y. pointwise nat_eq x.now y.now) ls) ≡ dedup (pointwise nat_eq) (map (λ l. l.now) ls)
kept_all [] = refl
kept_all (l ∷ ls) = kept l ls

pub returns-then-unique : goal.returns-then-unique
returns-then-unique c =
    let left = dedup_is (λ (x y : Bor (List ℕ)). pointwise nat_eq x.now y.now) c.args.lines.now.items c.dedup.new.self.items c.dedup.ensures.filtered in
    rw c.if-unique.true (ap (map (λ (l : Bor (List ℕ)). l.now)) left ∙ kept_all c.args.lines.now.items)
