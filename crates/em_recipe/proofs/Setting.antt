-- What many variables come to that are set one after the other.
use Rattle.std.proofs.Common.{◌≡◌, ◌≢◌, ◌∙◌, ◌&&◌, ◌||◌, Bool, true, false, List, ◌∷◌, [], ℕ, All, Some, refl, sym}
use Rattle.std.specs.Prelude.{not}
use Rattle.std.specs.List.{AllByRecursion, list_any}
use Rattle.std.specs.Str.{bytes_eq}
use Rattle.std.proofs.lemmas.Slice.Eq.{bytes_eq-Decides}
use Rattle.std.proofs.lemmas.List.Elements.{All-from_recursion, recursion_from_All}
use Rattle.em_base.proofs.Lemmas.{by_cases}
use Rattle.em_vars.specs.declared.var.Var.{Var}
use Rattle.em_vars.specs.Entries.{Entries, value_of, with_value}
use Rattle.em_vars.proofs.Named.{set_own, set_other}
use Rattle.em_plan.specs.declared.planned.PlanJob.{PlanJob}
use Rattle.em_expand.specs.Layered.{automatic, with_own}
use Rattle.em_recipe.specs.Automatic.{texts, with_automatic}

abbrev Named : Type 0
Named = List ℕ × List ℕ

all_other : (vars : Entries) (ps : List Named) (n : List ℕ) → AllByRecursion (λ p. p.0 ≢ n) ps → value_of (with_own vars ps) n ≡ value_of vars n
all_other vars [] n ne = refl
all_other vars (p ∷ ps) n ne = set_other (with_own vars ps) p.0 n (automatic p.1) ne.0 ∙ all_other vars ps n ne.1

-- no two have the same name
abbrev apart : List Named → Bool
apart [] = true
apart (p ∷ ps) = not (list_any (λ q. bytes_eq q.0 p.0) ps) && apart ps

others_are : (n : List ℕ) (ps : List Named) → list_any (λ q. bytes_eq q.0 n) ps ≡ false → AllByRecursion (λ q. q.0 ≢ n) ps
others_are n [] none = tt
others_are n (q ∷ qs) none = by_cases (bytes_eq q.0 n) (λ b. bytes_eq q.0 n ≡ b → (b || list_any (λ q. bytes_eq q.0 n) qs) ≡ false → AllByRecursion (λ q. q.0 ≢ n) (q ∷ qs))
    (λ _ _ bad. absurd cc)
    (λ _ differs rest. (λ same. let is = (bytes_eq-Decides q.0 n).1 same in let bad : true ≡ false = sym is ∙ differs in cc, others_are n qs rest)) refl none

-- what is known of names stays so where another name is set
abbrev Known : Entries → List Named → Type 0
Known es ps = AllByRecursion (λ p. value_of es p.0 ≡ Some (automatic p.1)) ps

still : (es : Entries) (n : List ℕ) (v : Var) (ps : List Named) → AllByRecursion (λ q. q.0 ≢ n) ps → Known es ps → Known (with_value es n v) ps
still es n v [] ne known = tt
still es n v (q ∷ qs) ne known = (set_other es n q.0 v (λ e. ne.0 (sym e)) ∙ known.0, still es n v qs ne.1 known.1)

all_own : (vars : Entries) (ps : List Named) → apart ps ≡ true → Known (with_own vars ps) ps
all_own vars [] single = tt
all_own vars (p ∷ ps) single = by_cases (list_any (λ q. bytes_eq q.0 p.0) ps)
    (λ b. list_any (λ q. bytes_eq q.0 p.0) ps ≡ b → (not b && apart ps) ≡ true → Known (with_value (with_own vars ps) p.0 (automatic p.1)) (p ∷ ps))
    (λ _ _ bad. absurd cc)
    (λ _ none rest. (
      set_own (with_own vars ps) p.0 (automatic p.1),
      still (with_own vars ps) p.0 (automatic p.1) ps (others_are p.0 ps none) (all_own vars ps rest),
    )) refl single

pub own_texts : (vars : Entries) (job : PlanJob) (newer : List (List ℕ)) → All (λ p. value_of (with_automatic vars job newer) p.0 ≡ Some (automatic p.1)) (texts job newer)
unfolding with_automatic texts
own_texts vars job newer = All-from_recursion (λ p. value_of (with_automatic vars job newer) p.0 ≡ Some (automatic p.1)) (texts job newer) (all_own vars (texts job newer) refl)

pub other_texts : (vars : Entries) (job : PlanJob) (newer : List (List ℕ)) (n : List ℕ) → All (λ p. p.0 ≢ n) (texts job newer) → value_of (with_automatic vars job newer) n ≡ value_of vars n
unfolding with_automatic
other_texts vars job newer n ne = all_other vars (texts job newer) n (recursion_from_All (λ p. p.0 ≢ n) (texts job newer) ne)
