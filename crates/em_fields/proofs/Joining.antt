-- Parts one behind the other, where two marks side by side are one.
use Rattle.std.proofs.Common.{◌≡◌, ◌∙◌, ◌+◌, ◌<◌, ℕ, suc, Bool, true, false, List, [], ◌∷◌, ◌++◌, length, map, cond, refl, sym, ap, append_assoc, length-append, arith}
use Rattle.std.specs.Prelude.{nat_lt}
use Rattle.std.specs.List.{filter, slice_split, onto_first}
use Rattle.std.proofs.lemmas.List.{append-nil}
use Rattle.em_glob.specs.declared.glyph.Glyph.{Glyph}
use Rattle.em_fields.specs.declared.part.Part.{Part}
use Rattle.em_fields.specs.declared.part.Part.TheVariants.{Byte, Quotes}
use Rattle.em_fields.specs.Parts.{fields, glyphs, mark, marked, part_of, is_break, joined, ends_marked, behind_mark}

pub joined_nothing : (ps : List Part) → joined ps [] ≡ ps
joined_nothing ps = at (ends_marked ps)
  where
    at : (b : Bool) → ps ++ behind_mark b [] ≡ ps
    at true = append-nil ps
    at false = append-nil ps

-- a part in front of others that are there
front : (p q : Part) (ps more : List Part) → joined (p ∷ q ∷ ps) more ≡ p ∷ joined (q ∷ ps) more
front Quotes q ps more = refl
front (Byte g) q ps more = refl

-- the bytes
behind_glyphs : (b : Bool) (ps : List Part) → glyphs (behind_mark b ps) ≡ glyphs ps
behind_glyphs true [] = refl
behind_glyphs true (Quotes ∷ ps) = refl
behind_glyphs true (Byte g ∷ ps) = refl
behind_glyphs false ps = refl

glyphs_append : (ps qs : List Part) → glyphs (ps ++ qs) ≡ glyphs ps ++ glyphs qs
glyphs_append [] qs = refl
glyphs_append (Byte g ∷ ps) qs = ap (λ l. g ∷ l) (glyphs_append ps qs)
glyphs_append (Quotes ∷ ps) qs = glyphs_append ps qs

pub joined_glyphs : (ps qs : List Part) → glyphs (joined ps qs) ≡ glyphs (ps ++ qs)
joined_glyphs ps qs = glyphs_append ps (behind_mark (ends_marked ps) qs) ∙ ap (λ l. glyphs ps ++ l) (behind_glyphs (ends_marked ps) qs) ∙ sym (glyphs_append ps qs)

-- what is seen of a run between two breaks: whether something stands there, and its bytes
pub record Seen : Type 0 where
  pub filled : Bool
  pub bytes : List Glyph

abbrev seen : List Part → Seen
seen f = record { filled = nat_lt 0 (length f); bytes = glyphs f }

abbrev put_first : Part → List Seen → List Seen
put_first p [] = record { filled = true; bytes = glyphs (p ∷ []) } ∷ []
put_first p (k ∷ ks) = record { filled = true; bytes = glyphs (p ∷ []) ++ k.bytes } ∷ ks

is_filled : (p : Part) (f : List Part) → nat_lt 0 (length (p ∷ f)) ≡ true
is_filled p f = let low : 0 < length (p ∷ f) = omega arith in grind (arith, low)

seen_first : (p : Part) (fs : List (List Part)) → map seen (onto_first p fs) ≡ put_first p (map seen fs)
seen_first p [] = λ i. record { filled = is_filled p [] i; bytes = glyphs (p ∷ []) } ∷ []
seen_first p (f ∷ fs) = λ i. record { filled = is_filled p f i; bytes = glyphs_append (p ∷ []) f i } ∷ map seen fs

abbrev runs : List Part → List Seen
runs ps = map seen (slice_split is_break ps)

-- the runs follow from those behind
runs_first : (p : Part) (ps qs : List Part) → runs ps ≡ runs qs → runs (p ∷ ps) ≡ runs (p ∷ qs)
runs_first p ps qs e = at (is_break p)
  where
    at : (b : Bool) → map seen (cond b ([] ∷ slice_split is_break ps) (onto_first p (slice_split is_break ps))) ≡ map seen (cond b ([] ∷ slice_split is_break qs) (onto_first p (slice_split is_break qs)))
    at true = ap (λ l. seen [] ∷ l) e
    at false = seen_first p (slice_split is_break ps) ∙ ap (put_first p) e ∙ sym (seen_first p (slice_split is_break qs))

mark_twice : (ks : List Seen) → put_first Quotes (put_first Quotes ks) ≡ put_first Quotes ks
mark_twice [] = refl
mark_twice (k ∷ ks) = refl

one_mark : (ps : List Part) → runs (Quotes ∷ ps) ≡ runs (Quotes ∷ Quotes ∷ ps)
one_mark ps =
    let s = slice_split is_break ps in
    seen_first Quotes s ∙ sym (mark_twice (map seen s)) ∙ sym (seen_first Quotes (onto_first Quotes s) ∙ ap (put_first Quotes) (seen_first Quotes s))

joined_runs : (ps qs : List Part) → runs (joined ps qs) ≡ runs (ps ++ qs)
joined_runs [] qs = refl
joined_runs (Byte g ∷ []) qs = refl
joined_runs (Quotes ∷ []) [] = refl
joined_runs (Quotes ∷ []) (Byte g ∷ qs) = refl
joined_runs (Quotes ∷ []) (Quotes ∷ qs) = one_mark qs
joined_runs (p ∷ q ∷ ps) qs = ap runs (front p q ps qs) ∙ runs_first p (joined (q ∷ ps) qs) ((q ∷ ps) ++ qs) (joined_runs (q ∷ ps) qs)

abbrev those_filled : List Seen → List (List Glyph)
those_filled [] = []
those_filled (k ∷ ks) = cond k.filled (k.bytes ∷ those_filled ks) (those_filled ks)

filled_seen : (fs : List (List Part)) → map glyphs (filter (λ f. nat_lt 0 (length f)) fs) ≡ those_filled (map seen fs)
filled_seen [] = refl
filled_seen (f ∷ fs) = at (nat_lt 0 (length f)) (filled_seen fs)
  where
    at : (b : Bool) → map glyphs (filter (λ f. nat_lt 0 (length f)) fs) ≡ those_filled (map seen fs) → map glyphs (cond b (f ∷ filter (λ f. nat_lt 0 (length f)) fs) (filter (λ f. nat_lt 0 (length f)) fs)) ≡ cond b (glyphs f ∷ those_filled (map seen fs)) (those_filled (map seen fs))
    at true e = ap (λ l. glyphs f ∷ l) e
    at false e = e

pub joined_fields : (ps qs : List Part) → fields (joined ps qs) ≡ fields (ps ++ qs)
joined_fields ps qs = filled_seen (slice_split is_break (joined ps qs)) ∙ ap those_filled (joined_runs ps qs) ∙ sym (filled_seen (slice_split is_break (ps ++ qs)))

-- three of them
ends_behind : (p : Part) (ps qs : List Part) → ends_marked (ps ++ p ∷ qs) ≡ ends_marked (p ∷ qs)
ends_behind p [] qs = refl
ends_behind p (Quotes ∷ []) qs = refl
ends_behind p (Byte g ∷ []) qs = refl
ends_behind p (r ∷ s ∷ ps) qs = after r ∙ ends_behind p (s ∷ ps) qs
  where
    after : (r : Part) → ends_marked (r ∷ s ∷ ps ++ p ∷ qs) ≡ ends_marked (s ∷ ps ++ p ∷ qs)
    after Quotes = refl
    after (Byte g) = refl

pub joined_assoc : (a b c : List Part) → joined (joined a b) c ≡ joined a (joined b c)
joined_assoc a [] c = ap (λ l. joined l c) (joined_nothing a)
joined_assoc a (p ∷ b) c = at p (ends_marked a) refl
  where
    whole : (more : List Part) (e : Bool) → ends_marked (a ++ more) ≡ e → joined (a ++ more) c ≡ a ++ (more ++ behind_mark e c)
    whole more e i = ap (λ k. (a ++ more) ++ behind_mark k c) i ∙ append_assoc a more (behind_mark e c)

    one_left : (b : List Part) → ends_marked a ≡ true → ends_marked (a ++ b) ≡ ends_marked (Quotes ∷ b)
    one_left [] e = ap ends_marked (append-nil a) ∙ e
    one_left (q ∷ b) e = ends_behind q a b

    at : (p : Part) (e : Bool) → ends_marked a ≡ e → joined (a ++ behind_mark (ends_marked a) (p ∷ b)) c ≡ a ++ behind_mark (ends_marked a) ((p ∷ b) ++ behind_mark (ends_marked (p ∷ b)) c)
    at p false e = rw e (whole (p ∷ b) (ends_marked (p ∷ b)) (ends_behind p a b))
    at (Byte g) true e = rw e (whole (Byte g ∷ b) (ends_marked (Byte g ∷ b)) (ends_behind (Byte g) a b))
    at Quotes true e = rw e (whole b (ends_marked (Quotes ∷ b)) (one_left b e))

-- the last part tells
pub last_marked : (ps qs : List Part) (p : Part) → ps ≡ qs ++ p ∷ [] → ends_marked ps ≡ ends_marked (p ∷ [])
last_marked ps qs p e = ap ends_marked e ∙ ends_behind p qs []

-- a mark, and then bytes
bytes_behind : (b : Bool) (q : Bool) (text : List ℕ) → behind_mark b (mark q) ++ map (part_of q) text ≡ behind_mark b (marked q text)
bytes_behind true true text = refl
bytes_behind false true text = refl
bytes_behind true false [] = refl
bytes_behind true false (c ∷ cs) = refl
bytes_behind false false text = refl

pub joined_marked : (ps : List Part) (q : Bool) (text : List ℕ) → joined ps (mark q) ++ map (part_of q) text ≡ joined ps (marked q text)
joined_marked ps q text = append_assoc ps (behind_mark (ends_marked ps) (mark q)) (map (part_of q) text) ∙ ap (λ l. ps ++ l) (bytes_behind (ends_marked ps) q text)

-- what is expanded has as many bytes with a mark in front
pub marked_alike : (q : Bool) (ps : List Part) → glyphs (joined (mark q) ps) ≡ glyphs ps
marked_alike q ps = joined_glyphs (mark q) ps ∙ at q
  where
    at : (q : Bool) → glyphs (mark q ++ ps) ≡ glyphs ps
    at true = refl
    at false = refl
