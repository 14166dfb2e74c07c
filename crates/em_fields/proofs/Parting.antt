-- Fields of quoted texts, and of texts that are joined by spaces.
use Rattle.std.proofs.Common.{◌≡◌, ◌∙◌, ◌<◌, ℕ, zero, suc, Bool, true, false, List, All, [], ◌∷◌, ◌++◌, length, map, cond, refl, sym, ap, arith}
use Rattle.std.specs.Prelude.{nat_lt}
use Rattle.std.specs.List.{filter, slice_split, join_with_byte}
use Rattle.std.proofs.lemmas.List.{map-append}
use lib.ListN.{length-map}
use Rattle.std.proofs.lemmas.List.Splits.{slice_split_none, slice_split_at}
use Rattle.em_glob.specs.declared.glyph.Glyph.{Glyph}
use Rattle.em_fields.specs.declared.part.Part.{Part}
use Rattle.em_fields.specs.declared.part.Part.TheVariants.{Byte, Quotes}
use Rattle.em_fields.specs.Parts.{fields, filled, marked, glyphs, glyph, part_of, is_break, is_space, IsFilled}

glyphs_of : (q : Bool) (text : List ℕ) → glyphs (map (part_of q) text) ≡ map (glyph q) text
glyphs_of q [] = refl
glyphs_of q (b ∷ bs) = ap (λ gs. glyph q b ∷ gs) (glyphs_of q bs)

quoted_stays : (text : List ℕ) → All (λ p. is_break p ≡ false) (map (part_of true) text)
quoted_stays [] k d low = absurd (omega (arith, low))
quoted_stays (b ∷ bs) zero d low = refl
quoted_stays (b ∷ bs) (suc k) d low = quoted_stays bs k d (omega (arith, low))

marked_stays : (text : List ℕ) → All (λ p. is_break p ≡ false) (Quotes ∷ map (part_of true) text)
marked_stays text zero d low = refl
marked_stays text (suc k) d low = quoted_stays text k d (omega (arith, low))

plain_stays : (text : List ℕ) → All (λ b. is_space b ≡ false) text → All (λ p. is_break p ≡ false) (map (part_of false) text)
plain_stays [] h k d low = absurd (omega (arith, low))
plain_stays (b ∷ bs) h zero d low = h 0 0 (omega arith)
plain_stays (b ∷ bs) h (suc k) d low = plain_stays bs (λ k d low. h (suc k) d (omega (arith, low))) k d (omega (arith, low))

is_there : (n : ℕ) → 0 < n → nat_lt 0 n ≡ true
is_there n low = grind (arith, low)

kept : (f : List Part) (fs : List (List Part)) → 0 < length f → map glyphs (filter (λ f. nat_lt 0 (length f)) (f ∷ fs)) ≡ glyphs f ∷ map glyphs (filter (λ f. nat_lt 0 (length f)) fs)
kept f fs low = ap (λ b. map glyphs (cond b (f ∷ filter (λ f. nat_lt 0 (length f)) fs) (filter (λ f. nat_lt 0 (length f)) fs))) (is_there (length f) low)

pub quoted_law : (text : List ℕ) → fields (marked true text) ≡ map (glyph true) text ∷ []
quoted_law text =
    let ps = Quotes ∷ map (part_of true) text in
    let low : 0 < length ps = omega arith in
    ap (λ fs. map glyphs (filter (λ f. nat_lt 0 (length f)) fs)) (slice_split_none is_break ps (marked_stays text))
    ∙ kept ps [] low ∙ ap (λ gs. gs ∷ []) (glyphs_of true text)

long : (text : List ℕ) → 0 < length text → 0 < length (map (part_of false) text)
long text low = let e = length-map text (part_of false) in omega (arith, e, low)

pub joined_law : (texts : List (List ℕ)) → All IsFilled texts → fields (marked false (join_with_byte 32 texts)) ≡ map (map (glyph false)) texts
joined_law [] h = refl
joined_law (t ∷ []) h =
    ap (λ fs. map glyphs (filter (λ f. nat_lt 0 (length f)) fs)) (slice_split_none is_break (map (part_of false) t) (plain_stays t (h 0 [] (omega arith)).1))
    ∙ kept (map (part_of false) t) [] (long t (h 0 [] (omega arith)).0) ∙ ap (λ gs. gs ∷ []) (glyphs_of false t)
joined_law (t ∷ u ∷ us) h =
    let rest = join_with_byte 32 (u ∷ us) in
    ap fields (map-append (part_of false) t (32 ∷ rest))
    ∙ ap (λ fs. map glyphs (filter (λ f. nat_lt 0 (length f)) fs)) (slice_split_at is_break (map (part_of false) t) (part_of false 32) (map (part_of false) rest) (plain_stays t (h 0 [] (omega arith)).1) refl)
    ∙ kept (map (part_of false) t) (slice_split is_break (map (part_of false) rest)) (long t (h 0 [] (omega arith)).0)
    ∙ (λ i. glyphs_of false t i ∷ joined_law (u ∷ us) (λ k d low. h (suc k) d (omega (arith, low))) i)
