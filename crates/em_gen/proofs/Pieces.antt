-- What is written for each number in a row, one more at a time.
use Rattle.std.proofs.Common.{◌≡◌, ℕ, suc, ◌+◌, ◌-◌, ◌<◌, List, ◌∷◌, ◌++◌, sym, ap, ◌∙◌, append_assoc, arith}
use Rattle.std.specs.List.{flat_map, range_with_len}

pub range_more : (i n : ℕ) → i < n → range_with_len i (n - i) ≡ i ∷ range_with_len (i + 1) (n - (i + 1))
range_more i n lt = let one : n - i ≡ suc (n - (i + 1)) = omega arith in ap (range_with_len i) one

-- what is written and what is left make the whole, also behind one piece more
pub piece_more : (f : ℕ → List ℕ) (out new whole : List ℕ) (i n : ℕ) → i < n → new ≡ out ++ f i → out ++ flat_map f (range_with_len i (n - i)) ≡ whole
    → new ++ flat_map f (range_with_len (i + 1) (n - (i + 1))) ≡ whole
piece_more f out new whole i n lt put rest =
    let left = range_with_len (i + 1) (n - (i + 1)) in
    ap (λ (o : List ℕ). o ++ flat_map f left) put ∙ append_assoc out (f i) (flat_map f left)
    ∙ ap (λ (is : List ℕ). out ++ flat_map f is) (sym (range_more i n lt)) ∙ rest
