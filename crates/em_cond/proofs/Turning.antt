-- How the number of conditionals that are off tells that only the innermost is.
use Rattle.std.proofs.Common.{◌≡◌, ℕ, ◌+◌, Bool, true, false, List, [], ◌∷◌, Some, None, refl, ap, ◌∙◌, arith}
use Rattle.std.specs.Prelude.{nat_eq, cond, not, ◌&&◌, count_by, slice_get}
use Rattle.std.proofs.lemmas.List.Sums.{sum_by-cons}
use Rattle.em_cond.specs.declared.nest.Branch.{Branch}
use Rattle.em_cond.specs.declared.nest.Branch.TheVariants.{Before, Taken, Behind}
use Rattle.em_cond.specs.declared.nest.Conditional.{Conditional}
use Rattle.em_cond.specs.Nests.{is_taken, is_before, is_waiting, is_active, may_turn}

abbrev pub off_in : List Conditional → ℕ
off_in ks = count_by (λ k. not (is_taken k.branch)) ks

more : (k : Conditional) (ks : List Conditional) → off_in (k ∷ ks) ≡ cond (not (is_taken k.branch)) 1 0 + off_in ks
more k ks = sum_by-cons (λ (x : Conditional). cond (not (is_taken x.branch)) 1 0) k ks

one : (b : Branch) (n : ℕ) (a : Bool) → nat_eq n 0 ≡ a → nat_eq (cond (not (is_taken b)) 1 0 + n) 0 ≡ (is_taken b && a)
one Taken n a e = let z : 0 + n ≡ n = omega arith in rw z e
one Before n a e = grind arith
one Behind n a e = grind arith

none_off : (ks : List Conditional) → nat_eq (off_in ks) 0 ≡ is_active ks
none_off [] = refl
none_off (k ∷ ks) = ap (λ n. nat_eq n 0) (more k ks) ∙ one k.branch (off_in ks) (is_active ks) (none_off ks)

same_less : (n : ℕ) → nat_eq (1 + n) 1 ≡ nat_eq n 0
same_less n = grind arith

-- a branch that waits is off
waits_off : (b : Branch) (closed : Bool) (n : ℕ) (a : Bool) → (not closed && is_before b) ≡ true → nat_eq n 0 ≡ a
    → nat_eq (cond (not (is_taken b)) 1 0 + n) 1 ≡ ((not closed && is_before b) && a)
waits_off Before false n a w e = same_less n ∙ e
waits_off Before true n a w e = absurd (let f : false ≡ true = w in cc)
waits_off Taken false n a w e = absurd (let f : false ≡ true = w in cc)
waits_off Taken true n a w e = absurd (let f : false ≡ true = w in cc)
waits_off Behind false n a w e = absurd (let f : false ≡ true = w in cc)
waits_off Behind true n a w e = absurd (let f : false ≡ true = w in cc)

pub one_off : (ks : List Conditional) (top : Conditional) → Some top ≡ slice_get ks 0 → is_waiting top ≡ true → nat_eq (off_in ks) 1 ≡ may_turn ks
one_off [] top e waits = absurd (let w : Some top ≡ None = e in cc)
one_off (k ∷ ks) top e waits =
    let same : Some top ≡ Some k = e in
    let is : top ≡ k = cc in
    ap (λ n. nat_eq n 1) (more k ks) ∙ waits_off k.branch k.closed (off_in ks) (is_active ks) (rw is at waits) (none_off ks)
