-- The text of a path, read as a name.
--     reads_itself       it is a path
use Rattle.std.proofs.Common.{◌≡◌, ◌≢◌, ℕ, ◌≤◌, ◌==◌, false, List, [], ◌∷◌, length, None, refl, sym, subst, arith}
use Rattle.std.specs.Prelude.{nat_lt}
use Rattle.std.specs.List.{AllByRecursion, flat_map, list_any}
use Rattle.std.proofs.lemmas.Bool.{ne_eqb, ltb-true, false_from_ne_true}
use Rattle.std.proofs.lemmas.List.Concat.{flat_map-cons}
use Rattle.std.proofs.lemmas.List.Elements.{recursion_from_All}
use Rattle.em_path.specs.Paths.{IsComponent, IsPath, root_text, path_text, components}
use Rattle.em_path.specs.Reading.{read_fault}
use Rattle.em_path.proofs.Lemmas.{path_begins, resolves_itself}
use Rattle.em_plan.proofs.Lists.{all_append, each_other}

none_of : (n : ℕ) (bs : List ℕ) → AllByRecursion (λ b. b ≢ n) bs → list_any (λ b. b == n) bs ≡ false
none_of n [] h = refl
none_of n (b ∷ bs) h = rw (ne_eqb b n h.0, none_of n bs h.1) refl

module _ (n : ℕ) (slash : 47 ≢ n) (isnt : (b : ℕ) → (b ≢ 47) × (b ≢ 0) × (b ≢ 10) → b ≢ n) where
  in_name : (c : List ℕ) → IsComponent c → AllByRecursion (λ b. b ≢ n) c
  in_name c h = each_other (λ b. (b ≢ 47) × (b ≢ 0) × (b ≢ 10)) (λ b. b ≢ n) isnt c (recursion_from_All (λ b. (b ≢ 47) × (b ≢ 0) × (b ≢ 10)) c h.plain)

  in_names : (cs : List (List ℕ)) → AllByRecursion IsComponent cs → AllByRecursion (λ b. b ≢ n) (flat_map (λ (d : List ℕ). 47 ∷ d) cs)
  in_names [] h = tt
  in_names (c ∷ cs) h = subst (λ (bs : List ℕ). AllByRecursion (λ b. b ≢ n) bs) (sym (flat_map-cons (λ (d : List ℕ). 47 ∷ d) c cs))
      (all_append (λ b. b ≢ n) (47 ∷ c) (flat_map (λ (d : List ℕ). 47 ∷ d) cs) (slash, in_name c h.0) (in_names cs h.1))

  in_text : (cs : List (List ℕ)) → AllByRecursion IsComponent cs → AllByRecursion (λ b. b ≢ n) (path_text cs)
  in_text [] h = (slash, tt)
  in_text (c ∷ cs) h = in_names (c ∷ cs) h

  free_of : (text : List ℕ) → IsPath text → list_any (λ b. b == n) text ≡ false
  free_of text h = none_of n text (subst (λ (bs : List ℕ). AllByRecursion (λ b. b ≢ n) bs) (sym h.spelled) (in_text (components text) (recursion_from_All IsComponent (components text) h.names)))

within : (m n : ℕ) → n ≤ m → nat_lt m n ≡ false
within m n h = false_from_ne_true (nat_lt m n) (λ e. let less = ltb-true m n e in omega (arith, h, less))

pub reads_itself : (text : List ℕ) → IsPath text → read_fault root_text text ≡ None
reads_itself text h =
    let filled : (length text == 0) ≡ false = ne_eqb (length text) 0 (λ e. let some = (path_begins text h).0 in omega (arith, e, some)) in
    let no_nul = free_of 0 (λ e. omega (arith, e)) (λ b p. p.1) text h in
    let no_newline = free_of 10 (λ e. omega (arith, e)) (λ b p. p.2) text h in
    rw (filled, no_nul, no_newline, resolves_itself root_text text h, within 1024 (length text) h.long, within 64 (length (components text)) h.deep) refl
