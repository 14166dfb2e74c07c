-- The test at a place of a pattern and one of a name: ends of the name behind `*`, and pieces of
-- one byte.
use Rattle.std.proofs.Common.{◌≡◌, ℕ, zero, suc, ◌+◌, ◌<◌, ◌&&◌, ◌||◌, Bool, true, false, cond, List, [], ◌∷◌, length, take, drop, Option, Some, None, arith, refl, sym, ap, ◌∙◌}
use Rattle.std.specs.List.{list_all}
use Rattle.std.proofs.lemmas.Bool.{ne_eqb}
use Rattle.em_base.proofs.Lemmas.{by_cases}
use Rattle.em_glob.specs.declared.glyph.Glyph.{Glyph}
use Rattle.em_glob.specs.Patterns.{Piece, AnyBytes, is_star, list_length, list_start, set_of, set_by, is_negated, piece, pieces, pieces_behind, takes, some_end, fits}
use Rattle.em_glob.proofs.Reading.{piece_cases}
use Rattle.em_glob.specs.Steps.{passed, begins_any}

-- ---- ends

pub end_here : (test : List ℕ → Bool) (name : List ℕ) → test name ≡ true → some_end test name ≡ true
end_here test [] h = h
end_here test (b ∷ bs) h = rw h refl

pub end_later : (test : List ℕ → Bool) (k : ℕ) (name : List ℕ) → some_end test (drop k name) ≡ true →
    some_end test name ≡ true
end_later test zero name h = h
end_later test (suc k) [] h = h
end_later test (suc k) (b ∷ bs) h = by_cases (test (b ∷ bs)) (λ t. (t || some_end test bs) ≡ true)
    (λ _. refl)
    (λ _. end_later test k bs h)

pub end_found : (test : List ℕ → Bool) (name : List ℕ) → some_end test name ≡ true →
    (k : ℕ) × (test (drop k name) ≡ true)
end_found test [] h = (0, h)
end_found test (b ∷ bs) h = by_cases (test (b ∷ bs))
    (λ t. (t || some_end test bs) ≡ true → (k : ℕ) × (test (drop k (b ∷ bs)) ≡ true))
    (λ t e. (0, t))
    (λ _ e. let later = end_found test bs e in (suc later.0, later.1)) h

-- ---- one piece

one_passed : (t : Bool) (ps qs : List Piece) (test : List Piece → Bool) → cond t (Some ps) None ≡ Some qs →
    (t && test ps) ≡ test qs
one_passed true ps qs test h = ap test (let e : ps ≡ qs = cc in e)
one_passed false ps qs test h = absurd cc

one_on : (t u : Bool) (ps qs : List Piece) (test : List Piece → Bool) → cond t (Some ps) None ≡ Some qs →
    (u && test ps) ≡ true → test qs ≡ true
one_on true true ps qs test h f = ap test (let e : qs ≡ ps = cc in e) ∙ f
one_on true false ps qs test h f = absurd cc
one_on false u ps qs test h f = absurd cc

one_not : (t : Bool) (ps : List Piece) (test : Bool) → cond t (Some ps) None ≡ None → (t && test) ≡ false
one_not true ps test h = absurd cc
one_not false ps test h = refl

pub passed_fits : (ps qs : List Piece) (b : ℕ) (bs : List ℕ) → passed ps b ≡ Some qs →
    fits ps (b ∷ bs) ≡ fits qs bs
passed_fits [] qs b bs h = absurd cc
passed_fits (AnyBytes ∷ ps) qs b bs h = absurd cc
passed_fits (p ∷ ps) qs b bs h = one_passed (takes p b) ps qs (λ rs. fits rs bs) h

-- what fits from a piece of one byte on fits from the next byte on behind it
pub passed_on : (ps qs : List Piece) (b : ℕ) (name : List ℕ) → passed ps b ≡ Some qs → fits ps name ≡ true →
    fits qs (drop 1 name) ≡ true
passed_on [] qs b name h f = absurd cc
passed_on (AnyBytes ∷ ps) qs b name h f = absurd cc
passed_on (p ∷ ps) qs b [] h f = absurd cc
passed_on (p ∷ ps) qs b (c ∷ cs) h f = one_on (takes p b) (takes p c) ps qs (λ rs. fits rs cs) h f

pub not_passed : (ps : List Piece) (b : ℕ) (bs : List ℕ) → passed ps b ≡ None → begins_any ps ≡ false →
    fits ps (b ∷ bs) ≡ false
not_passed [] b bs h any = ne_eqb _ _ (λ e. omega arith)
not_passed (AnyBytes ∷ ps) b bs h any = absurd cc
not_passed (p ∷ ps) b bs h any = one_not (takes p b) ps (fits ps bs) h

-- ---- the first piece

empty_not : (p : Piece) (ps : List Piece) → begins_any (p ∷ ps) ≡ false → fits (p ∷ ps) [] ≡ false
empty_not AnyBytes ps h = absurd cc
empty_not p ps h = refl

set_no_star : (o : Option ℕ) (gs : List Glyph) (ps : List Piece) → begins_any ((set_by o gs).0 ∷ ps) ≡ false
set_no_star None gs ps = refl
set_no_star (Some n) gs ps = by_cases (is_negated gs)
    (λ b. begins_any (set_of b (take n (drop (list_start gs) gs)) ∷ ps) ≡ false)
    (λ _. refl)
    (λ _. refl)

no_star : (g : Glyph) (gs : List Glyph) (ps : List Piece) → is_star g ≡ false → begins_any ((piece g gs).0 ∷ ps) ≡ false
no_star g gs ps h = piece_cases g gs (λ f. begins_any (f.0 ∷ ps) ≡ false)
    (λ star. absurd cc) refl (λ _. set_no_star (list_length (drop (list_start gs) gs)) gs ps) refl

pub only_stars : (gs : List Glyph) → list_all is_star gs ≡ fits (pieces gs) []
only_stars [] = refl
only_stars (g ∷ gs) = by_cases (is_star g) (λ b. (b && list_all is_star gs) ≡ fits (pieces (g ∷ gs)) [])
    (λ star. rw star (only_stars gs))
    (λ star. let ps = pieces_behind (piece g gs).1 gs in sym (empty_not (piece g gs).0 ps (no_star g gs ps star)))

pub star_at : (gs : List Glyph) (at : ℕ) → begins_any (pieces (drop at gs)) ≡ true →
    (at < length gs) × (pieces (drop at gs) ≡ AnyBytes ∷ pieces (drop (at + 1) gs))
star_at [] zero h = absurd cc
star_at [] (suc at) h = absurd cc
star_at (g ∷ gs) zero h = by_cases (is_star g)
    (λ _. (zero < suc (length gs)) × (pieces (g ∷ gs) ≡ AnyBytes ∷ pieces gs))
    (λ star. (omega arith, rw star refl))
    (λ star. absurd (let e = no_star g gs (pieces_behind (piece g gs).1 gs) star in cc))
star_at (g ∷ gs) (suc at) h =
    let rest = star_at gs at h in
    let next : suc at + 1 ≡ suc (at + 1) = omega arith in
    (omega arith, rw next rest.1)
