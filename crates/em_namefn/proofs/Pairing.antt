-- The words of two lists one by one.
use Rattle.std.proofs.Common.{◌≡◌, ℕ, zero, suc, ◌<◌, List, [], ◌∷◌, ◌++◌, length, drop, refl, sym, ap, ◌∙◌, append-nil, arith}
use Rattle.std.specs.Prelude.{max, slice_get, unwrap_or}
use Rattle.em_namefn.specs.Names.{pairs}

-- the n-th word; nothing beyond the end
abbrev pub at : List (List ℕ) → ℕ → List ℕ
at ws n = unwrap_or (slice_get ws n) []

alone : (xs : List (List ℕ)) → pairs xs [] ≡ xs
alone [] = refl
alone (x ∷ xs) = refl

one_more : (ws : List (List ℕ)) (n : ℕ) → n < length ws → drop n ws ≡ at ws n ∷ drop (suc n) ws
one_more [] n lt = absurd (omega arith)
one_more (w ∷ ws) zero lt = refl
one_more (w ∷ ws) (suc n) lt = one_more ws n (omega arith)

pub pairs_at : (xs ys : List (List ℕ)) (n : ℕ) → n < max (length xs) (length ys) → pairs (drop n xs) (drop n ys) ≡ (at xs n ++ at ys n) ∷ pairs (drop (suc n) xs) (drop (suc n) ys)
pairs_at [] [] n lt = absurd (omega arith)
pairs_at [] (y ∷ ys) zero lt = refl
pairs_at [] (y ∷ ys) (suc n) lt = one_more ys n (omega arith)
pairs_at (x ∷ xs) [] zero lt = ap (λ (w : List ℕ). w ∷ xs) (sym (append-nil x)) ∙ ap (λ (ws : List (List ℕ)). (x ++ []) ∷ ws) (sym (alone xs))
pairs_at (x ∷ xs) [] (suc n) lt =
    alone (drop n xs) ∙ one_more xs n (omega arith) ∙ ap (λ (w : List ℕ). w ∷ drop (suc n) xs) (sym (append-nil (at xs n)))
    ∙ ap (λ (ws : List (List ℕ)). (at xs n ++ []) ∷ ws) (sym (alone (drop (suc n) xs)))
pairs_at (x ∷ xs) (y ∷ ys) zero lt = refl
pairs_at (x ∷ xs) (y ∷ ys) (suc n) lt = pairs_at xs ys n (omega arith)
