-- The shape of a text is the text with some bytes blotted out.
use Rattle.std.proofs.Common.{◌≡◌, ◌≢◌, ◌⊎◌, inl, inr, ℕ, zero, suc, ◌&&◌, Bool, true, false, List, [], ◌∷◌, ◌++◌, length, drop, Option, Some, None, refl, sym, subst, ap, ◌∙◌, arith}
use Rattle.std.specs.Prelude.{All, nat_eq, codes, option_and_then, option_map}
use Rattle.std.specs.List.{AllByRecursion, flat_map, position, starts_with}
use Rattle.std.proofs.lemmas.Bool.{ne_eqb}
use Rattle.std.proofs.lemmas.List.Elements.{recursion_from_All}
use Rattle.em_base.specs.Spans.{cut}
use Rattle.em_refs.specs.declared.part.Bracket.{Bracket}
use Rattle.em_refs.specs.declared.part.Part.{Part}
use Rattle.em_refs.specs.declared.part.Part.TheVariants.{Literal, Dollar, Ref}
use Rattle.em_refs.specs.Parts.{parted, bracketed, bracket_before, closing_of, source, left}
use Rattle.em_refs.proofs.Whole.{told_law}
use Rattle.em_statement.specs.declared.assignment.Modifiers.{Modifiers}
use Rattle.em_statement.specs.Shapes.{blotted, blotted_reference, part_shape, shape}
use Rattle.em_statement.specs.Written.{IsBlotted}
use Rattle.em_statement.specs.Assignments.{is_mark, at_mark, assignment_at, assignment_of}

kept : (text : List ℕ) → IsBlotted text text
kept [] = tt
kept (b ∷ text) = (inl refl, kept text)

all_blotted : (text : List ℕ) → IsBlotted (blotted text) text
all_blotted [] = tt
all_blotted (b ∷ text) = (inr refl, all_blotted text)

joined : (a b c d : List ℕ) → IsBlotted a b → IsBlotted c d → IsBlotted (a ++ c) (b ++ d)
joined [] [] c d front back = back
joined [] (b ∷ bs) c d front back = absurd front
joined (a ∷ l) [] c d front back = absurd front
joined (a ∷ l) (b ∷ bs) c d front back = (front.0, joined l bs c d front.1 back)

of_reference : (k : Option Bracket) (name : List ℕ) → IsBlotted (blotted_reference k name) (bracketed k name)
of_reference None name = (inr refl, all_blotted name)
of_reference (Some k) name = (inr refl, (inr refl, joined (blotted name) name (120 ∷ []) (closing_of k ∷ []) (all_blotted name) (inr refl, tt)))

of_part : (text : List ℕ) (p : Part) → IsBlotted (part_shape text p) (source text p)
of_part text (Literal s) = kept (cut text s)
of_part text Dollar = (inr refl, (inr refl, tt))
of_part text (Ref s) = of_reference (bracket_before text s) (cut text s)

of_parts : (text : List ℕ) (ps : List Part) → IsBlotted (flat_map (part_shape text) ps) (flat_map (source text) ps)
of_parts text [] = tt
of_parts text (p ∷ ps) = joined (part_shape text p) (source text p) (flat_map (part_shape text) ps) (flat_map (source text) ps) (of_part text p) (of_parts text ps)

pub shape_blotted : (text : List ℕ) → IsBlotted (shape text) text
unfolding shape
shape_blotted text =
    let ps = (parted text).parts in
    let rest = left text (parted text).unclosed in
    subst (IsBlotted (flat_map (part_shape text) ps ++ blotted rest)) (told_law text).whole
    (joined (flat_map (part_shape text) ps) (flat_map (source text) ps) (blotted rest) rest (of_parts text ps) (all_blotted rest))

pub blotted_length : (s t : List ℕ) → IsBlotted s t → length s ≡ length t
blotted_length [] [] b = refl
blotted_length [] (y ∷ t) b = absurd b
blotted_length (x ∷ s) [] b = absurd b
blotted_length (x ∷ s) (y ∷ t) b = ap suc (blotted_length s t b.1)

-- ---- without `=`

abbrev Without : List ℕ → Type 0
Without text = AllByRecursion (λ b. b ≢ 61) text

other : (a b : ℕ) → (a ≡ b) ⊎ (a ≡ 120) → b ≢ 61 → a ≢ 61
other a b (inl same) differs = λ is. differs (sym same ∙ is)
other a b (inr x) differs = λ is. omega arith

without : (s t : List ℕ) → IsBlotted s t → Without t → Without s
without [] t b h = tt
without (x ∷ s) [] b h = absurd b
without (x ∷ s) (y ∷ t) b h = (other x y b.0 h.0, without s t b.1 h.1)

without_drop : (n : ℕ) (s : List ℕ) → Without s → Without (drop n s)
without_drop zero s h = h
without_drop (suc n) [] h = tt
without_drop (suc n) (x ∷ s) h = without_drop n s h.1

never : (b : Bool) → (b && false) ≡ false
never true = refl
never false = refl

unequal : (x : ℕ) → x ≢ 61 → nat_eq 61 x ≡ false
unequal x differs = ne_eqb 61 x (λ is. differs (sym is))

one : (s : List ℕ) → Without s → starts_with nat_eq s (codes "=") ≡ false
one [] h = refl
one (x ∷ s) h = rw (unequal x h.0) refl

two : (s : List ℕ) → Without s → starts_with nat_eq s (codes ":=") ≡ false
two [] h = refl
two (x ∷ s) h = ap (λ t. nat_eq 58 x && t) (one s h.1) ∙ never (nat_eq 58 x)

three : (s : List ℕ) → Without s → starts_with nat_eq s (codes "::=") ≡ false
three [] h = refl
three (x ∷ s) h = ap (λ t. nat_eq 58 x && t) (two s h.1) ∙ never (nat_eq 58 x)

four : (s : List ℕ) → Without s → starts_with nat_eq s (codes ":::=") ≡ false
four [] h = refl
four (x ∷ s) h = ap (λ t. nat_eq 58 x && t) (three s h.1) ∙ never (nat_eq 58 x)

no_mark : (s : List ℕ) (at : ℕ) → Without s → at_mark s at ≡ None
no_mark s at h =
    let d = without_drop at s h in
    rw (one (drop at s) d, two (drop at s) d, three (drop at s) d, four (drop at s) d) refl

no_sign : (s : List ℕ) (place : Option ℕ) → Without s → option_and_then (at_mark s) place ≡ None
no_sign s None h = refl
no_sign s (Some at) h = no_mark s at h

pub no_operator : (m : Modifiers) (text : List ℕ) → All (λ b. b ≢ 61) text → assignment_of m text ≡ None
unfolding assignment_of
no_operator m text all =
    let h = without (shape text) text (shape_blotted text) (recursion_from_All _ text all) in
    ap (option_map (assignment_at m text)) (no_sign (shape text) (position is_mark (shape text)) h)
