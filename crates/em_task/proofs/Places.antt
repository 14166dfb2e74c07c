-- The places of the variables that a job's shell gets, one entry after another.
--     places_from n es     those of the entries, of which the first stands at place n
--     at_front             what is left from a place on tells the entry there, and what follows it
--     next_place           the next entry is handed over, so that its place is the next one, or not
use Rattle.std.proofs.Common.{◌≡◌, ◌<◌, ◌+◌, ◌-◌, ◌∙◌, ℕ, zero, suc, Bool, true, false, cond, List, [], ◌∷◌, map, length, drop, Some, refl, sym, add-one, arith, length-drop, ap}
use Rattle.std.specs.Prelude.{slice_get, MatchOption}
use Rattle.std.specs.List.{filter, enumerate_from}
use Rattle.em_vars.specs.Entries.{Entries}
use Rattle.em_task.specs.Handed.{is_handed}

abbrev pub places_from : ℕ → Entries → List ℕ
places_from n es = map (λ p. p.0) (filter (λ p. is_handed p.1.1) (enumerate_from n es))

module _ {A : Type 0} where
  front : (xs : List A) (i : ℕ) (x : A) (rest : List A) → drop i xs ≡ x ∷ rest → (slice_get xs i ≡ Some x) × (drop (suc i) xs ≡ rest)
  front [] zero x rest e = absurd (cc)
  front [] (suc i) x rest e = absurd (cc)
  front (y ∷ xs) zero x rest e = (cc, cc)
  front (y ∷ xs) (suc i) x rest e = front xs i x rest e

  pub at_front : (xs : List A) (i : ℕ) (x : A) (rest : List A) → drop i xs ≡ x ∷ rest → (slice_get xs i ≡ Some x) × (drop (i + 1) xs ≡ rest)
  at_front xs i x rest e = rw add-one (front xs i x rest e)

-- what the entry at the front of the rest is for the places
next : (es : Entries) (i : ℕ) (rest : Entries) → drop i es ≡ rest → i < length es → (b : Bool) → MatchOption (slice_get es i) (b ≡ false) (λ e. b ≡ is_handed e.1)
    → places_from i rest ≡ cond b (i ∷ places_from (i + 1) (drop (i + 1) es)) (places_from (i + 1) (drop (i + 1) es))
next es i [] is lt b tells = let none : length es - i ≡ 0 = sym (length-drop i es) ∙ ap length is in absurd (omega arith)
next es i (e ∷ rest) is lt b tells =
    let f = at_front es i e rest is in
    let same : b ≡ is_handed e.1 = rw f.0 at tells in
    rw (f.1, ← same) (elim b as (λ (b : Bool). map (λ p. p.0) (cond b ((i, e) ∷ filter (λ p. is_handed p.1.1) (enumerate_from (i + 1) rest)) (filter (λ p. is_handed p.1.1) (enumerate_from (i + 1) rest))) ≡ cond b (i ∷ places_from (i + 1) rest) (places_from (i + 1) rest)) [
      | true ↦ refl
      | false ↦ refl
    ])

pub next_place : (es : Entries) (i : ℕ) → i < length es → (b : Bool) → MatchOption (slice_get es i) (b ≡ false) (λ e. b ≡ is_handed e.1)
    → places_from i (drop i es) ≡ cond b (i ∷ places_from (i + 1) (drop (i + 1) es)) (places_from (i + 1) (drop (i + 1) es))
next_place es i = next es i (drop i es) refl
