-- The test tells the names that match; patterns without wildcards, and quoted ones.
use Rattle.std.proofs.Common.{◌≡◌, ℕ, ◌&&◌, ◌||◌, Bool, true, false, not, List, [], ◌∷◌, ◌++◌, length, take, drop, Option, Some, None, arith, refl, sym, ap, subst, ◌∙◌}
use Rattle.std.specs.Prelude.{All, IsTrue, ◌==◌}
use Rattle.std.specs.List.{AllByRecursion, list_any}
use Rattle.std.proofs.lemmas.Bool.{eq-eqb, eqb-true}
use Rattle.std.proofs.lemmas.List.{take-append-drop}
use Rattle.std.proofs.Math.Seq.{drop-append_seam}
use Rattle.std.proofs.lemmas.List.Elements.{recursion_from_All}
use Rattle.em_base.proofs.Lemmas.{by_cases}
use Rattle.em_glob.specs.declared.glyph.Glyph.{Glyph}
use Rattle.em_glob.specs.Patterns.{Piece, AnyBytes, AnyByte, OneOf, NoneOf, Itself, is_negated, list_start, list_length, set_by, set_of, piece, pieces, pieces_behind, has, Takes, Matches, takes, one_fits, fits, is_wild, is_pattern, bytes_of}
use Rattle.em_glob.specs.Steps.{takes_one, begins_any}
use Rattle.em_glob.proofs.Reading.{piece_cases}
use Rattle.em_glob.proofs.Fitting.{end_here, end_later, end_found}

-- ---- the test

no_bytes : (name : List ℕ) → length name ≡ 0 → name ≡ []
no_bytes [] h = refl
no_bytes (b ∷ bs) h = absurd (omega arith)

same_not : (b : Bool) → not b ≡ true → b ≡ false
same_not true h = absurd cc
same_not false h = refl

one_takes : (p : Piece) (b : ℕ) → takes_one p b ≡ true → Takes p (b ∷ [])
one_takes AnyBytes b h = absurd cc
one_takes AnyByte b h = refl
one_takes (OneOf list) b h = (b, refl, h)
one_takes (NoneOf list) b h = (b, refl, same_not (has list b) h)
one_takes (Itself c) b h = ap (λ x. x ∷ []) (sym (eqb-true c b h))

both : (s t : Bool) → (s && t) ≡ true → (s ≡ true) × (t ≡ true)
both true t h = (refl, h)
both false t h = absurd cc

pub fits_matches : (ps : List Piece) (name : List ℕ) → fits ps name ≡ true → Matches ps name
fits_matches [] name h = no_bytes name (eqb-true _ _ h)
fits_matches (AnyBytes ∷ ps) name h =
    let found = end_found (fits ps) name h in
    (take found.0 name, (drop found.0 name, sym (take-append-drop found.0 name), tt, fits_matches ps (drop found.0 name) found.1))
fits_matches (p ∷ ps) [] h = absurd cc
fits_matches (p ∷ ps) (b ∷ bs) h =
    let two = both (takes p b) (fits ps bs) h in
    (b ∷ [], (bs, refl, one_takes p b two.0, fits_matches ps bs two.1))

one_taken : (p : Piece) (part : List ℕ) → begins_any (p ∷ []) ≡ false → Takes p part →
    (b : ℕ) × ((part ≡ b ∷ []) × (takes p b ≡ true))
one_taken AnyBytes part one t = absurd cc
one_taken AnyByte [] one t = absurd (omega arith)
one_taken AnyByte (b ∷ []) one t = (b, (refl, refl))
one_taken AnyByte (b ∷ c ∷ bs) one t = absurd (omega arith)
one_taken (OneOf list) part one t = (t.0, (t.1, t.2))
one_taken (NoneOf list) part one t = (t.0, (t.1, ap not t.2))
one_taken (Itself c) part one t = (c, (t, eq-eqb c c refl))

first_takes : (p : Piece) (ps : List Piece) (name part rest : List ℕ) → begins_any (p ∷ []) ≡ false →
    name ≡ part ++ rest → Takes p part → fits ps rest ≡ true → one_fits (fits ps) p name ≡ true
first_takes p ps name part rest one is t f =
    let taken = one_taken p part one t in
    let front : name ≡ taken.0 ∷ rest = is ∙ ap (λ (w : List ℕ). w ++ rest) taken.1.0 in
    rw (front, taken.1.1) f

pub matches_fits : (ps : List Piece) (name : List ℕ) → Matches ps name → fits ps name ≡ true
matches_fits [] name m = rw m refl
matches_fits (AnyBytes ∷ ps) name m =
    let behind : drop (length m.0) name ≡ m.1.0 = ap (drop (length m.0)) m.1.1 ∙ drop-append_seam m.0 m.1.0 in
    end_later (fits ps) (length m.0) name (rw behind (end_here (fits ps) m.1.0 (matches_fits ps m.1.0 m.1.3)))
matches_fits (p ∷ ps) name m = first_takes p ps name m.0 m.1.0 refl m.1.1 m.1.2 (matches_fits ps m.1.0 m.1.3)

pub tells : (b : Bool) (ps : List Piece) (name : List ℕ) → b ≡ fits ps name →
    (IsTrue b → Matches ps name) × (Matches ps name → IsTrue b)
tells b ps name is = (λ t. fits_matches ps name (sym is ∙ t), λ m. is ∙ matches_fits ps name m)

-- ---- patterns without wildcards

wild_of : (negated : Bool) (list : List Glyph) → is_wild (set_of negated list) ≡ false → ⊥
wild_of true list h = cc
wild_of false list h = cc

plain_set : (o : Option ℕ) (gs : List Glyph) → is_wild (set_by o gs).0 ≡ false → set_by o gs ≡ (Itself 91, 0)
plain_set None gs h = refl
plain_set (Some n) gs h = absurd (wild_of (is_negated gs) (take n (drop (list_start gs) gs)) h)

bare_byte : (quoted same : Bool) → (not quoted && same) ≡ true → same ≡ true
bare_byte true same h = absurd cc
bare_byte false same h = h

plain_piece : (g : Glyph) (gs : List Glyph) → is_wild (piece g gs).0 ≡ false → piece g gs ≡ (Itself g.byte, 0)
plain_piece g gs h = piece_cases g gs (λ f. is_wild f.0 ≡ false → f ≡ (Itself g.byte, 0))
    (λ _ wild. absurd cc) (λ wild. absurd cc)
    (λ opening plain.
    let byte : g.byte ≡ 91 = eqb-true _ _ (bare_byte g.quoted (g.byte == 91) opening) in
    rw byte (plain_set (list_length (drop (list_start gs) gs)) gs plain))
    (λ _. refl) h

plain_first : (g : Glyph) (gs : List Glyph) → is_pattern (g ∷ gs) ≡ false →
    pieces (g ∷ gs) ≡ Itself g.byte ∷ pieces gs
plain_first g gs h = by_cases (is_wild (piece g gs).0)
    (λ b. (b || list_any is_wild (pieces_behind (piece g gs).1 gs)) ≡ false →
    pieces (g ∷ gs) ≡ Itself g.byte ∷ pieces gs)
    (λ _ e. absurd cc)
    (λ plain _. ap (λ (f : Piece × ℕ). f.0 ∷ pieces_behind f.1 gs) (plain_piece g gs plain)) h

pub plain_law : (gs : List Glyph) (name : List ℕ) → is_pattern gs ≡ false →
    (Matches (pieces gs) name → name ≡ bytes_of gs) × (name ≡ bytes_of gs → Matches (pieces gs) name)
plain_law [] name h = (λ m. m, λ e. e)
plain_law (g ∷ gs) name h =
    let first = plain_first g gs h in
    let rest : is_pattern gs ≡ false = ap (list_any is_wild) (sym first) ∙ h in (
      λ m.
          let n = subst (λ ps. Matches ps name) first m in
          n.1.1 ∙ ap (λ (w : List ℕ). w ++ n.1.0) n.1.2
          ∙ ap (λ r. g.byte ∷ r) ((plain_law gs n.1.0 rest).0 n.1.3),
      λ e. subst (λ ps. Matches ps name) (sym first)
          (g.byte ∷ [], (bytes_of gs, e, refl, (plain_law gs (bytes_of gs) rest).1 refl)),
    )

quoted : (gs : List Glyph) → AllByRecursion (λ g. g.quoted ≡ true) gs → is_pattern gs ≡ false
quoted [] h = refl
quoted (g ∷ gs) h = rw h.0 (quoted gs h.1)

pub quoted_law : (gs : List Glyph) → All (λ g. g.quoted ≡ true) gs → is_pattern gs ≡ false
quoted_law gs h = quoted gs (recursion_from_All _ gs h)
