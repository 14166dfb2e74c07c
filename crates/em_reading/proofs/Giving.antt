-- The exported variables, one more given at each turn.
use Rattle.std.proofs.Common.{◌≡◌, ℕ, zero, suc, ◌<◌, [], ◌∷◌, take, length, refl, arith}
use Rattle.std.specs.Prelude.{fold, slice_get}
use Rattle.em_vars.specs.Entries.{Entries}
use Rattle.em_reading.specs.Start.{given_one, given_at}

pub one_more : (vars defaults : Entries) (i : ℕ) → i < length defaults
    → given_at (fold given_one vars (take i defaults)) (slice_get defaults i) ≡ fold given_one vars (take (suc i) defaults)
one_more vars [] i lt = absurd (omega arith)
one_more vars (d ∷ ds) zero lt = refl
one_more vars (d ∷ ds) (suc i) lt = one_more (given_one vars d) ds i (omega arith)
