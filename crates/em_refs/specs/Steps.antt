-- What one part of a text is to its parts.
use Rattle.std.specs.Prelude.{ℕ, ◌+◌, List, [], ◌∷◌, drop, Option, Some, None}
use Rattle.em_refs.specs.declared.part.Part.{Part}
use Rattle.em_refs.specs.declared.part.Part.TheVariants.{Ref}
use Rattle.em_refs.specs.declared.part.Parted.{Parted}
use Rattle.em_refs.specs.Parts.{plain, span, with_front, parts_from}

-- the parts from the place `at` on
abbrev pub rest_from : List ℕ → ℕ → Parted
rest_from text at = parts_from (plain at) at (drop at text)

-- a reference that isn't closed
abbrev pub stops : ℕ → Parted
stops at = record { parts = []; unclosed = Some at }

-- a part that begins at `at` and those from the place behind it on, or none
abbrev pub begins : List ℕ → ℕ → Option (Part × ℕ) → Parted
begins text at (Some (part, after)) = with_front (part ∷ []) (rest_from text after)
begins text at None = stops at

-- the reference whose `$` stands at `from` and whose brackets hold the first bytes behind them, and
-- the parts behind it
abbrev pub closes : ℕ → List ℕ → Option ℕ → Parted
closes from bytes None = stops from
closes from bytes (Some n) = with_front (Ref (span (from + 2) (from + 2 + n)) ∷ []) (parts_from (plain (from + 2 + n + 1)) (from + 2 + n + 1) (drop (n + 1) bytes))
