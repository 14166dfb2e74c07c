-- What an expansion gives: bytes, quoted or not, and the places where a quoted text begins, which
-- keep a field that is empty.
--     marked q text        the bytes of a text, all quoted or none
--     glyphs, bytes        the bytes with their quoting, and without
--     joined ps qs         one behind the other; two marks side by side are one
--     fields ps            what stands between unquoted spaces, tabs and newlines, where something does
--     without_newlines t   the text without the newlines at its end
use Rattle.std.specs.Prelude.{◌≡◌, ◌<◌, All, ℕ, ◌-◌, ◌==◌, ◌&&◌, ◌||◌, nat_lt, Bool, true, false, not, List, [], ◌∷◌, ◌++◌, length, map, take, Option, Some, None}
use Rattle.std.specs.List.{filter, filter_map, slice_split, suffix_len}
use Rattle.em_glob.specs.declared.glyph.Glyph.{Glyph}
use Rattle.em_glob.specs.Patterns.{bytes_of}
use Rattle.em_fields.specs.declared.part.Part.{Part}
use Rattle.em_fields.specs.declared.part.Part.TheVariants.{Byte, Quotes}

abbrev pub mark : Bool → List Part
mark true = Quotes ∷ []
mark false = []

abbrev pub glyph : Bool → ℕ → Glyph
glyph quoted b = record { byte = b; quoted = quoted }

abbrev pub part_of : Bool → ℕ → Part
part_of quoted b = Byte (glyph quoted b)

abbrev pub marked : Bool → List ℕ → List Part
marked quoted text = mark quoted ++ map (part_of quoted) text

-- whether a quoted text begins at the end
abbrev pub ends_marked : List Part → Bool
ends_marked [] = false
ends_marked (Quotes ∷ []) = true
ends_marked (Byte g ∷ []) = false
ends_marked (p ∷ q ∷ ps) = ends_marked (q ∷ ps)

-- what follows such a place: the mark is there
abbrev pub behind_mark : Bool → List Part → List Part
behind_mark true (Quotes ∷ ps) = ps
behind_mark marks ps = ps

abbrev pub joined : List Part → List Part → List Part
joined ps qs = ps ++ behind_mark (ends_marked ps) qs

abbrev pub glyph_of : Part → Option Glyph
glyph_of (Byte g) = Some g
glyph_of Quotes = None

abbrev pub glyphs : List Part → List Glyph
glyphs ps = filter_map glyph_of ps

abbrev pub bytes : List Part → List ℕ
bytes ps = bytes_of (glyphs ps)

-- an unquoted space, tab or newline
abbrev pub is_space : ℕ → Bool
is_space b = (b == 32) || ((b == 9) || (b == 10))

abbrev pub is_break : Part → Bool
is_break (Byte g) = not g.quoted && is_space g.byte
is_break Quotes = false

abbrev pub filled : List Part → List (List Part)
filled ps = filter (λ f. nat_lt 0 (length f)) (slice_split is_break ps)

abbrev pub fields : List Part → List (List Glyph)
fields ps = map glyphs (filled ps)

abbrev pub is_newline : ℕ → Bool
is_newline b = b == 10

abbrev pub without_newlines : List ℕ → List ℕ
without_newlines text = take (length text - suffix_len is_newline text) text

-- a text that is one field where it isn't quoted
abbrev pub IsFilled : List ℕ → Type 0
IsFilled text = (0 < length text) × All (λ b. is_space b ≡ false) text
