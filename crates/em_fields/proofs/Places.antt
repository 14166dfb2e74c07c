-- The first place that passes a test, place by place.
use Rattle.std.proofs.Common.{◌≡◌, ◌∙◌, ◌<◌, ◌+◌, ◌-◌, ℕ, zero, suc, Bool, true, false, Option, Some, None, sym, ap, refl, arith}
use Rattle.std.specs.Prelude.{if◌then◌else◌}
use Rattle.em_fields.specs.Cuts.{first_from}

next : (test : ℕ → Bool) (n i : ℕ) → i < n → first_from test i (n - i) ≡ (if test i then Some i else first_from test (i + 1) (n - (i + 1)))
next test n i low =
    let e : n - i ≡ suc (n - (i + 1)) = omega (arith, low) in
    ap (first_from test i) e

pub found : (test : ℕ → Bool) (n i : ℕ) → i < n → first_from test 0 n ≡ first_from test i (n - i) → test i ≡ true → first_from test 0 n ≡ Some i
found test n i low inv holds = inv ∙ next test n i low ∙ ap (λ b. if b then Some i else first_from test (i + 1) (n - (i + 1))) holds

pub passed : (test : ℕ → Bool) (n i : ℕ) → i < n → first_from test 0 n ≡ first_from test i (n - i) → test i ≡ false → first_from test 0 n ≡ first_from test (i + 1) (n - (i + 1))
passed test n i low inv fails = inv ∙ next test n i low ∙ ap (λ b. if b then Some i else first_from test (i + 1) (n - (i + 1))) fails

pub none_left : (test : ℕ → Bool) (n i : ℕ) → n ≡ i → first_from test 0 n ≡ first_from test i (n - i) → first_from test 0 n ≡ None
none_left test n i e inv =
    let z : n - i ≡ 0 = omega (arith, e) in
    inv ∙ ap (first_from test i) z
