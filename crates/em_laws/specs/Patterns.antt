-- Words of the laws on patterns of names.
use Rattle.std.specs.Prelude.{◌≡◌, ◌≢◌, ◌≤◌, ◌⊎◌, All, Any, ℕ, false, List, [], ◌∷◌, ◌++◌}
use Rattle.std.specs.List.{flat_map}
use Rattle.em_glob.specs.declared.glyph.Glyph.{Glyph}

-- the byte, not quoted
abbrev pub bare : ℕ → Glyph
bare b = record { byte = b; quoted = false }

abbrev pub in_brackets : List Glyph → List Glyph
in_brackets inner = bare 91 ∷ inner ++ bare 93 ∷ []

abbrev pub HasNoEnd : List Glyph → Type 0
HasNoEnd gs = All (λ g. g ≢ bare 93) gs

-- a list of a set: a `]` that comes first is of it
abbrev pub IsList : List Glyph → Type 0
IsList [] = ⊥
IsList (g ∷ gs) = HasNoEnd gs

-- a list in front of which no `!` stands
abbrev pub IsPlainList : List Glyph → Type 0
IsPlainList [] = ⊥
IsPlainList (g ∷ gs) = (g ≢ bare 33) × HasNoEnd gs

-- what stands between a `[` and its `]`
abbrev pub IsInner : List Glyph → Type 0
IsInner inner = IsPlainList inner ⊎ ((list : List Glyph) × IsList list × (inner ≡ bare 33 ∷ list))

-- what stands behind a `[` that has no `]`
abbrev pub IsUnended : List Glyph → Type 0
IsUnended gs =
    (gs ≡ []) ⊎ (gs ≡ bare 33 ∷ [])
    ⊎ ((g : Glyph) × (rest : List Glyph) × (gs ≡ g ∷ rest) × (g ≢ bare 33) × HasNoEnd rest)
    ⊎ ((g : Glyph) × (rest : List Glyph) × (gs ≡ bare 33 ∷ g ∷ rest) × HasNoEnd rest)

-- ---- lists: glyphs that stand for their bytes, and ranges `a-z`

pub data Item : Type 0 where
  One : Glyph → Item
  Range : Glyph → Glyph → Item

abbrev pub written : Item → List Glyph
written (One g) = g ∷ []
written (Range a z) = a ∷ bare 45 ∷ z ∷ []

abbrev pub Holds : ℕ → Item → Type 0
Holds b (One g) = b ≡ g.byte
Holds b (Range a z) = (a.byte ≤ b) × (b ≤ z.byte)

-- no `-` with a glyph behind it comes first
abbrev pub BeginsNoRange : List Glyph → Type 0
BeginsNoRange (g ∷ h ∷ gs) = g ≢ bare 45
BeginsNoRange _ = Unit {0}

-- a glyph with a `-` and another glyph behind it is no item of its own
abbrev pub AreItems : List Item → Type 0
AreItems [] = Unit {0}
AreItems (One g ∷ items) = BeginsNoRange (flat_map written items) × AreItems items
AreItems (Range a z ∷ items) = AreItems items

-- the byte is of the list, or within a range in it
abbrev pub Lists : List Glyph → ℕ → Type 0
Lists list b = (items : List Item) × (flat_map written items ≡ list) × AreItems items × Any (Holds b) items

-- ---- patterns put together

-- a glyph other than `[`, or a set
abbrev pub IsUnit : List Glyph → Type 0
IsUnit gs =
    ((g : Glyph) × (gs ≡ g ∷ []) × (g ≢ bare 91)) ⊎ ((inner : List Glyph) × (gs ≡ in_brackets inner) × IsInner inner)

-- each `[` has its `]`
abbrev pub IsClosed : List Glyph → Type 0
IsClosed gs = (units : List (List Glyph)) × (flat_map (λ (w : List Glyph). w) units ≡ gs) × All IsUnit units
