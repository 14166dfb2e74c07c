-- `wildcard`: the names in a tree that match a pattern, for one pattern after another.
use Rattle.std.specs.Prelude.{ℕ, false, List, [], ◌∷◌, ◌++◌, map}
use Rattle.em_wordlist.specs.Words.{words_of, joined}
use Rattle.em_view.specs.declared.no.DeskNo.{DeskNo}
use Rattle.em_view.specs.Actions.{Action, ◌>>=◌, done}
use Rattle.em_glob.specs.declared.glyph.Glyph.{Glyph}
use Rattle.em_pathname.specs.Walking.{matching_names}

-- nothing is quoted
abbrev pub glyphs_of : List ℕ → List Glyph
glyphs_of bytes = map (λ b. record { byte = b; quoted = false }) bytes

-- each pattern in order
abbrev pub each_pattern : List ℕ → List (List ℕ) → List (List ℕ) → Action DeskNo (List (List ℕ))
each_pattern cwd so_far [] = done so_far
each_pattern cwd so_far (pattern ∷ patterns) = do
  more ← matching_names cwd (glyphs_of pattern)
  each_pattern cwd (so_far ++ more) patterns

unfoldable pub wildcard : List ℕ → List ℕ → Action DeskNo (List ℕ)
wildcard patterns cwd = do
  ns ← each_pattern cwd [] (words_of patterns)
  done (joined ns)
