use Rattle.std.proofs.Common.{◌≡◌, map, take}
use Rattle.em_base.specs.Spans.{cut}
use Rattle.em_wordlist.proofs.word.texts.Given as goal

abbrev pub invariant-loop-span : goal.invariant-loop-span
invariant-loop-span l = map (λ w. w.now) l.texts.items ≡ map (λ s. cut l.text s) (take l.span-index l.span-items)
