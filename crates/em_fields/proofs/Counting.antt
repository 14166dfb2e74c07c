-- Parts one by one.
use Rattle.std.proofs.Common.{◌≡◌, ◌∙◌, ◌+◌, ◌<◌, ℕ, List, [], ◌∷◌, ◌++◌, length, drop, get_or, refl, sym, ap, length-append, add-one, drop-cons, arith}
use Rattle.em_fields.specs.declared.part.Part.{Part}
use Rattle.em_fields.specs.declared.part.Part.TheVariants.{Byte, Quotes}
use Rattle.em_fields.specs.Parts.{glyphs, bytes}

pub first_glyph : (p : Part) (ps : List Part) → glyphs (p ∷ ps) ≡ glyphs (p ∷ []) ++ glyphs ps
first_glyph (Byte g) ps = refl
first_glyph Quotes ps = refl

pub first_byte : (p : Part) (ps : List Part) → bytes (p ∷ ps) ≡ bytes (p ∷ []) ++ bytes ps
first_byte (Byte g) ps = refl
first_byte Quotes ps = refl

pub one_more : (ps : List Part) (i n m : ℕ) (d : Part) → i < length ps → m ≡ length (glyphs (get_or ps i d ∷ [])) → n + length (glyphs (drop i ps)) ≡ length (glyphs ps) → (n + m) + length (glyphs (drop (i + 1) ps)) ≡ length (glyphs ps)
one_more ps i n m d low is inv =
    let p = get_or ps i d in
    let l : drop i ps ≡ p ∷ drop (i + 1) ps = rw add-one (drop-cons ps i d low) in
    let e : length (glyphs (drop i ps)) ≡ length (glyphs (p ∷ [])) + length (glyphs (drop (i + 1) ps)) = ap (λ l. length (glyphs l)) l ∙ ap length (first_glyph p (drop (i + 1) ps)) ∙ length-append (glyphs (p ∷ [])) (glyphs (drop (i + 1) ps)) in
    omega (arith, e, inv, is)
