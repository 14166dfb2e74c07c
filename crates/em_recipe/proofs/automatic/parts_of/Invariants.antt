use Rattle.std.proofs.Common.{◌≡◌, ◌++◌, List, ℕ, Bor, drop, map}
use Rattle.em_namefn.specs.Names.{file_of}
use Rattle.em_recipe.specs.Automatic.{dir_part}
use Rattle.em_recipe.proofs.automatic.parts_of.Given as goal

abbrev now : List (Bor (List ℕ)) → List (List ℕ)
now words = map (λ (w : Bor (List ℕ)). w.now) words

abbrev pub invariant-loop-word : goal.invariant-loop-word
invariant-loop-word l = record {
  directories : now l.directories.items ++ map dir_part (now (drop l.word-index l.word-items)) ≡ map dir_part (now l.word-items);
  files : now l.files.items ++ map file_of (now (drop l.word-index l.word-items)) ≡ map file_of (now l.word-items);
}
