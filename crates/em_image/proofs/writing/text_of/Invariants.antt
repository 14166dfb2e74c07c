use Rattle.std.proofs.Common.{◌≡◌, ◌++◌, codes}
use Rattle.std.specs.List.{flat_map}
use Rattle.std.specs.FinMap.{entries}
use Rattle.em_image.specs.Image.{node_text, entries_text}
use Rattle.em_image.proofs.writing.text_of.Given as goal

-- what is written and what is left make the whole
abbrev pub invariant-loop-path : goal.invariant-loop-path
invariant-loop-path l = l.out ++ (flat_map node_text l.path-iterator ++ codes ".\n") ≡ entries_text (entries l.tree)
