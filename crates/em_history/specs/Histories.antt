-- A history: pairs of names, of what was made and of what it needed. Its text has a line for each
-- pair; the pairs stand in byte order of these lines, newline and all, each once.
--     fits p               both names can stand in a line
--     line_of p, text_of ps
--     by_line, by_names   the order of lines; that of names, which is the same for pairs that fit
--     IsHistory ps         all fit, and their lines rise strictly
--     placed p ps          ps with p at its place, unless it stands there
--     united ps qs         the pairs of both
--     collected ps         those of ps that fit, as a history
--     reading bytes        the history whose text the bytes are; no pairs where they are no history's, or too many
use Rattle.std.specs.Prelude.{◌≡◌, ℕ, ◌+◌, ◌-◌, ◌==◌, ◌&&◌, Bool, true, List, [], ◌∷◌, ◌++◌, length, take, drop, map, nat_le, codes, All, if◌then◌else◌}
use Rattle.std.specs.List.{filter, flat_map, position_or_len}
use Rattle.std.specs.List.Sorted.{IsStrictlySortedBy}
use Rattle.std.specs.Ordering.{nat_cmp, ordering_then}
use Rattle.std.specs.declared.cmp.Ordering.{Ordering}
use Rattle.std.specs.declared.cmp.Ordering.TheVariants.{Less, Equal, Greater}
use Rattle.std.specs.Cmp.Lexicographic.{slice_cmp}
use Rattle.std.specs.Str.{bytes_eq}
use Rattle.bstr.specs.Text.{lines_of}
use Rattle.em_history.specs.Names.{is_name}

-- what was made, and what it needed
abbrev pub Pair : Type 0
Pair = List ℕ × List ℕ

abbrev pub fits : Pair → Bool
fits p = is_name p.0 && is_name p.1

abbrev pub line_of : Pair → List ℕ
line_of p = p.0 ++ codes " " ++ p.1 ++ codes "\n"

-- between the head and the end
abbrev pub framed : List ℕ → List ℕ
framed body = codes "EMHIST 1\n" ++ body ++ codes ".\n"

abbrev pub text_of : List Pair → List ℕ
text_of ps = framed (flat_map line_of ps)

abbrev pub by_line : Pair → Pair → Ordering
by_line p q = slice_cmp nat_cmp (line_of p) (line_of q)

-- the targets with a blank behind them decide, or else the others with a newline
abbrev pub by_names : Pair → Pair → Ordering
by_names p q = ordering_then (slice_cmp nat_cmp (p.0 ++ codes " ") (q.0 ++ codes " ")) (slice_cmp nat_cmp (p.1 ++ codes "\n") (q.1 ++ codes "\n"))

pub record IsHistory (ps : List Pair) : Type 0 where
  pub fit : All (λ p. fits p ≡ true) ps
  pub rising : IsStrictlySortedBy by_line ps

-- p, which is so to q, among q and the pairs behind it; `later` is p among those behind it
abbrev pub beside : Ordering → Pair → Pair → List Pair → List Pair → List Pair
beside Less p q qs later = p ∷ q ∷ qs
beside Equal p q qs later = q ∷ qs
beside Greater p q qs later = q ∷ later

abbrev pub placed : Pair → List Pair → List Pair
placed p [] = p ∷ []
placed p (q ∷ qs) = beside (by_line p q) p q qs (placed p qs)

abbrev pub united : List Pair → List Pair → List Pair
united [] qs = qs
united (p ∷ ps) qs = placed p (united ps qs)

abbrev pub collected : List Pair → List Pair
collected ps = united (filter fits ps) []

-- ---- a text, read

-- the longest text that is read
abbrev pub limit : ℕ
limit = 16777216

abbrev pub is_blank : ℕ → Bool
is_blank b = b == 32

-- what a line says: the names before and behind its first blank
abbrev pub pair_in : List ℕ → Pair
pair_in line = let n = position_or_len is_blank line in (take n line, drop (n + 1) (take (length line - 1) line))

-- the lines between the first and the last
abbrev pub inner_lines : List ℕ → List (List ℕ)
inner_lines bytes = let ls = drop 1 (lines_of bytes) in take (length ls - 1) ls

abbrev pub pairs_in : List ℕ → List Pair
pairs_in bytes = collected (map pair_in (inner_lines bytes))

unfoldable pub reading : List ℕ → List Pair
reading bytes = if nat_le (length bytes) limit && bytes_eq (text_of (pairs_in bytes)) bytes then pairs_in bytes else []
