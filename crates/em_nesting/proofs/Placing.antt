-- What stands at a place of a list.
--     stands_at      an item that is there
use Rattle.std.proofs.Common.{◌≡◌, ◌<◌, ℕ, zero, suc, List, [], ◌∷◌, length, get_or, slice_get, Some, refl, sym, ap, arith}

pub stands_at : {A : Type 0} (xs : List A) (i : ℕ) (x : A) → i < length xs → x ≡ get_or xs i x → slice_get xs i ≡ Some x
stands_at [] i x less is = absurd (omega (arith, less))
stands_at (y ∷ xs) zero x less is = ap Some (sym is)
stands_at (y ∷ xs) (suc i) x less is = stands_at xs i x (omega (arith, less)) is
