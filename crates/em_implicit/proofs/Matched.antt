-- Matches that are collected one after another.
--     none_of             where none of a list passes a test, this one doesn't
--     is_none             what isn't there
--     more_matches        what is collected so far, with one stretch more
--     nothing, something  an empty list, by its length
--     none_sought         where nothing matches nothing is asked
use Rattle.std.proofs.Common.{◌≡◌, ◌∙◌, refl, ap, zero, suc, ℕ, ◌<◌, ◌||◌, Bool, true, false, List, [], ◌∷◌, ◌++◌, length, get_or, Option, Some, None, is_some, arith, append_assoc, sym, subst, ◌==◌, eqb-true, eq-eqb}
use Rattle.std.specs.List.{list_any}
use Rattle.em_rules.specs.declared.rule.Rule.{Rule}
use Rattle.em_implicit.specs.Asking.{Had, Asks, Follows, Here}
use Rattle.em_implicit.specs.Seeking.{matches, by_stem, seek, seeking}

neither : (a b : Bool) → (a || b) ≡ false → (a ≡ false) × (b ≡ false)
neither true b h = absurd cc
neither false b h = (refl, h)

pub none_of : {X : Type 0} (test : X → Bool) (xs : List X) (i : ℕ) (x : X) → i < length xs → x ≡ get_or xs i x → list_any test xs ≡ false → test x ≡ false
none_of test [] i x lt is h = absurd (omega arith)
none_of test (y ∷ ys) zero x lt is h = ap test is ∙ (neither (test y) (list_any test ys) h).0
none_of test (y ∷ ys) (suc i) x lt is h = none_of test ys i x (omega arith) is (neither (test y) (list_any test ys) h).1

pub is_none : {X : Type 0} (o : Option X) → is_some o ≡ false → o ≡ None
is_none None h = refl
is_none (Some x) h = absurd cc

pub more_matches : {X : Type 0} (before after here rest whole : List X) → after ≡ before ++ here → before ++ (here ++ rest) ≡ whole → after ++ rest ≡ whole
more_matches before after here rest whole more e = ap (λ xs. xs ++ rest) more ∙ append_assoc before here rest ∙ e

pub nothing : {X : Type 0} (xs : List X) (n : ℕ) (b : Bool) → n ≡ length xs → b ≡ (n == 0) → b ≡ true → xs ≡ []
nothing [] n b len e is = refl
nothing (x ∷ xs) n b len e is = let z : n ≡ 0 = eqb-true n 0 (sym e ∙ is) in absurd (omega (arith, len, z))

pub something : {X : Type 0} (xs : List X) (n : ℕ) (b : Bool) → n ≡ length xs → b ≡ (n == 0) → b ≡ false → xs ≡ [] → ⊥
something xs n b len e isnt none =
    let z : n ≡ 0 = len ∙ ap length none in
    let bad : true ≡ false = sym (eq-eqb n 0 z) ∙ sym e ∙ isnt in
    cc

pub none_sought : {T : Type 0} (asks : Asks T) (a : T) (rules patterns : List Rule) (cwd target : List ℕ) → matches patterns target ≡ [] → Follows asks a a (seeking rules patterns cwd target) (Had None)
none_sought asks a rules patterns cwd target e = subst (λ cs. Follows asks a a (seek rules cwd (by_stem cs)) (Had None)) (sym e) (Here a (Had None))
