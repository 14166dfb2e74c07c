-- A project of n sources, to measure builds with: each target is its source and behind it the
-- target of half the number before its own, and doesn't say that it needs the latter.
--     makefile n, source i       the files' bytes
--     project n                  the tree; all stamps are 1
use Rattle.std.specs.Prelude.{ℕ, ◌-◌, ◌/◌, ◌==◌, List, ◌++◌, codes, decimal, fold, if◌then◌else◌}
use Rattle.std.specs.List.{flat_map, range_with_len}
use Rattle.std.specs.FinMap.{empty, insert}
use Rattle.em_path.specs.Paths.{root_text}
use Rattle.em_tree.specs.declared.node.Node.TheVariants.{File, Dir}
use Rattle.em_tree.specs.Trees.{Table}

abbrev pub word_of : ℕ → List ℕ
word_of i = codes " t" ++ decimal i

-- the first target is made of its source alone
abbrev pub rule_of : ℕ → List ℕ
rule_of i =
    if i == 0 then codes "t0:\n\tcat s0 > t0\n"
    else codes "t" ++ decimal i ++ codes ":\n\tcat s" ++ decimal i ++ codes " t" ++ decimal ((i - 1) / 2) ++ codes " > t" ++ decimal i ++ codes "\n"

abbrev pub makefile : ℕ → List ℕ
makefile n = codes "all:" ++ flat_map word_of (range_with_len 0 n) ++ codes "\n" ++ flat_map rule_of (range_with_len 0 n)

abbrev pub source : ℕ → List ℕ
source i = decimal i ++ codes "\n"

abbrev pub source_path : ℕ → List ℕ
source_path i = codes "/s" ++ decimal i

abbrev pub with_source : Table → ℕ → Table
with_source t i = insert t (source_path i) (File (source i) 1)

abbrev pub project : ℕ → Table
project n = fold with_source (insert (insert empty root_text (Dir 1)) (codes "/Makefile") (File (makefile n) 1)) (range_with_len 0 n)
