-- A name as it is known is the rest of the name behind its first dots.
use Rattle.std.proofs.Common.{◌≡◌, ◌∙◌, refl, ap, ℕ, suc, ◌+◌, ◌-◌, ◌≤◌, ◌&&◌, cond, List, [], ◌∷◌, ◌++◌, length, take, drop, arith}
use Rattle.std.specs.Prelude.{◌==◌}
use Rattle.std.proofs.Common.{append-nil, length-append, length-drop}
use Rattle.std.proofs.lemmas.List.{take_all, drop_all, take-append-le, length-take-le}
use Rattle.em_base.proofs.Lemmas.{by_cases}
use Rattle.em_rules.specs.Dots.{undotted}

pub undotted_short : (name : List ℕ) → length (undotted name) ≤ length name
undotted_short [] = omega arith
undotted_short (a ∷ []) = omega arith
undotted_short (a ∷ b ∷ rest) = by_cases ((a == 46) && (b == 47)) (λ t. length (cond t (undotted rest) (a ∷ b ∷ rest)) ≤ length (a ∷ b ∷ rest))
    (λ _. omega (arith, undotted_short rest))
    (λ _. omega arith)

pub undotted_rest : (name : List ℕ) → undotted name ≡ drop (length name - length (undotted name)) name
undotted_rest [] = refl
undotted_rest (a ∷ []) = refl
undotted_rest (a ∷ b ∷ rest) = by_cases ((a == 46) && (b == 47)) (λ t. cond t (undotted rest) (a ∷ b ∷ rest) ≡ drop (length (a ∷ b ∷ rest) - length (cond t (undotted rest) (a ∷ b ∷ rest))) (a ∷ b ∷ rest))
    (λ _. let k : suc (suc (length rest)) - length (undotted rest) ≡ suc (suc (length rest - length (undotted rest))) = omega (arith, undotted_short rest) in rw k (undotted_rest rest))
    (λ _. let k : suc (suc (length rest)) - suc (suc (length rest)) ≡ 0 = omega arith in rw k refl)

-- a front that was moved to the end and cut off
pub rotated : (xs ys : List ℕ) (n k m : ℕ) → n ≡ length xs → m + k ≡ n → ys ≡ drop k xs ++ take k xs → take m (take n (ys ++ drop (length ys) xs)) ≡ drop k xs
rotated xs ys n k m is sum turned =
    let within : k ≤ length xs = omega arith in
    let left : length (drop k xs) ≡ m = omega (arith, length-drop k xs) in
    let whole : length ys ≡ length xs = ap length turned ∙ length-append (drop k xs) (take k xs) ∙ (let e : length (drop k xs) + length (take k xs) ≡ length xs = omega (arith, length-drop k xs, length-take-le k xs within) in e) in
    ap (take m) (ap (λ r. take n (ys ++ r)) (drop_all (length ys) xs (omega arith)) ∙ ap (take n) (append-nil ys) ∙ take_all n ys (omega arith) ∙ turned)
    ∙ take-append-le m (drop k xs) (take k xs) (omega arith) ∙ take_all m (drop k xs) (omega arith)
