-- Counts that stay at the greatest number.
use Rattle.std.proofs.Common.{◌≡◌, ◌≤◌, ◌<◌, ◌+◌, ℕ, List, [], ◌∷◌, min, sym, ap, ◌∙◌, arith, cond, not}
use Rattle.std.specs.List.{filter, fold}
use Rattle.std.specs.FinMap.{len}
use Rattle.std.proofs.lemmas.Bool.{lt-ltb, le-ltb}
use Rattle.em_chain.specs.declared.post.Post.{Post}
use Rattle.em_chain.specs.Floors.{is_live}

pub capped : (m : ℕ) (es : List (ℕ × Post)) (x y : ℕ) → min x m ≡ min y m → min (fold (λ a e. a + len e.1.delta) x es) m ≡ min (fold (λ a e. a + len e.1.delta) y es) m
capped m [] x y e = e
capped m (z ∷ es) x y e = capped m es (x + len z.1.delta) (y + len z.1.delta) (omega (arith, e))

-- a post from the floor on is counted
pub counts : (m f count next : ℕ) (e : ℕ × Post) (es all : List (ℕ × Post)) → f ≤ e.0 → all ≡ e ∷ es → next ≡ min (count + len e.1.delta) m
    → min (fold (λ a x. a + len x.1.delta) next (filter (λ x. is_live f x.0) es)) m ≡ min (fold (λ a x. a + len x.1.delta) count (filter (λ x. is_live f x.0) all)) m
counts m f count next e es all le is at =
    capped m (filter (λ x. is_live f x.0) es) next (count + len e.1.delta) (omega (arith, at))
    ∙ sym (ap (λ (l : List (ℕ × Post)). min (fold (λ a x. a + len x.1.delta) count l) m) (ap (filter (λ x. is_live f x.0)) is
    ∙ ap (λ b. cond (not b) (e ∷ filter (λ x. is_live f x.0) es) (filter (λ x. is_live f x.0) es)) (le-ltb e.0 f le)))

-- one below it isn't
pub passes : (m f count : ℕ) (e : ℕ × Post) (es all : List (ℕ × Post)) → e.0 < f → all ≡ e ∷ es
    → min (fold (λ a x. a + len x.1.delta) count (filter (λ x. is_live f x.0) es)) m ≡ min (fold (λ a x. a + len x.1.delta) count (filter (λ x. is_live f x.0) all)) m
passes m f count e es all lt is =
    sym (ap (λ (l : List (ℕ × Post)). min (fold (λ a x. a + len x.1.delta) count l) m) (ap (filter (λ x. is_live f x.0)) is
    ∙ ap (λ b. cond (not b) (e ∷ filter (λ x. is_live f x.0) es) (filter (λ x. is_live f x.0) es)) (lt-ltb e.0 f lt)))
