-- How a text is parted at commas, one comma after another.
use Rattle.std.proofs.Common.{◌≡◌, ◌∙◌, ℕ, zero, suc, ◌+◌, List, [], ◌∷◌, ◌++◌, take, drop, map, None, Some, Bor, refl, sym, ap, append_assoc}
use Rattle.std.proofs.lemmas.List.{map-append}
use Rattle.em_refs.specs.declared.part.Bracket.{Bracket}
use Rattle.em_expand.specs.Calls.{comma, split, parted_at}

-- without a comma it is one argument
pub split_none : (bracket : Bracket) (n : ℕ) (text : List ℕ) → comma bracket 0 0 text ≡ None → split bracket n text ≡ text ∷ []
split_none bracket zero text e = refl
split_none bracket (suc n) text e = ap (λ o. parted_at (split bracket n) o text) e

-- with one it is what stands in front of it, and the rest
pub split_some : (bracket : Bracket) (n m at : ℕ) (text : List ℕ) → n ≡ suc m → Some at ≡ comma bracket 0 0 text → split bracket n text ≡ take at text ∷ split bracket m (drop (at + 1) text)
split_some bracket n m at text more e = ap (λ k. split bracket k text) more ∙ ap (λ o. parted_at (split bracket m) o text) (sym e)

-- one more text behind those so far
pub pushed : (xs ys : List (Bor (List ℕ))) (x : Bor (List ℕ)) (rest more whole : List (List ℕ)) → ys ≡ xs ++ x ∷ [] → rest ≡ x.now ∷ more → map (λ t. t.now) xs ++ rest ≡ whole → map (λ t. t.now) ys ++ more ≡ whole
pushed xs ys x rest more whole e first all =
    ap (λ (ts : List (Bor (List ℕ))). map (λ t. t.now) ts ++ more) e
    ∙ ap (λ (ts : List (List ℕ)). ts ++ more) (map-append (λ (t : Bor (List ℕ)). t.now) xs (x ∷ []))
    ∙ append_assoc (map (λ t. t.now) xs) (x.now ∷ []) more
    ∙ ap (λ (ts : List (List ℕ)). map (λ t. t.now) xs ++ ts) (sym first)
    ∙ all
