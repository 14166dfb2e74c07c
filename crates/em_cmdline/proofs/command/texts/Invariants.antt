use Rattle.std.proofs.Common.{◌≡◌, true, map, take}
use Rattle.std.specs.List.{list_all}
use Rattle.std.specs.Str.{is_utf8}
use Rattle.em_cmdline.proofs.command.texts.Given as goal

abbrev pub invariant-loop-word : goal.invariant-loop-word
invariant-loop-word l = (list_all is_utf8 (take l.word-index l.words) ≡ true) × (map (λ s. s.now) l.texts.items ≡ take l.word-index l.words)
