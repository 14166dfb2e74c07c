use Rattle.std.proofs.Common.{◌≡◌, map, Some, take}
use Rattle.em_syntax.specs.Texts as texts
use Rattle.em_syntax.proofs.texts.texts_of.Given as goal

abbrev pub invariant-loop-word : goal.invariant-loop-word
invariant-loop-word l = map texts.bytes_of (take l.word-index l.words) ≡ map Some l.texts.items
