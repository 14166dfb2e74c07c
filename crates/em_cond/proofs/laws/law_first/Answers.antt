use Rattle.std.proofs.Common.{◌≡◌, ℕ, Bool, true, false, List, [], ◌∷◌, length, refl, arith}
use Rattle.std.specs.List.{position_or_len}
use Rattle.em_cond.specs.declared.nest.Branch.TheVariants.{Taken, Behind}
use Rattle.em_cond.specs.Nests.{branch_from, branch_after}
use Rattle.em_cond.proofs.laws.law_first.Goals as goal

abbrev first : List Bool → ℕ
first cs = position_or_len (λ b. b) cs

stays_behind : (cs : List Bool) → branch_from Behind cs ≡ Behind
stays_behind [] = refl
stays_behind (c ∷ cs) = stays_behind cs

is_first : (c : Bool) (cs : List Bool) → branch_after (c ∷ cs) ≡ Taken → first (c ∷ cs) ≡ length cs
is_first true [] e = refl
is_first true (d ∷ ds) e = absurd (let b = stays_behind ds in cc)
is_first false [] e = absurd cc
is_first false (d ∷ ds) e = let ih = is_first d ds e in omega (arith, ih)

is_taken : (c : Bool) (cs : List Bool) → first (c ∷ cs) ≡ length cs → branch_after (c ∷ cs) ≡ Taken
is_taken true [] e = refl
is_taken true (d ∷ ds) e = absurd (omega arith)
is_taken false [] e = absurd (omega arith)
is_taken false (d ∷ ds) e = is_taken d ds (omega arith)

pub returns : goal.returns
returns c = λ d ds. (is_first d ds, is_taken d ds)
