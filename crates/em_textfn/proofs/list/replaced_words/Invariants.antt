use Rattle.std.proofs.Common.{◌≡◌, map, take}
use Rattle.em_wordlist.specs.Stems.{replaced}
use Rattle.em_textfn.specs.Texts.{nonempty}
use Rattle.em_textfn.proofs.list.replaced_words.Given as goal

abbrev pub invariant-loop-word : goal.invariant-loop-word
invariant-loop-word l = l.kept.items ≡ nonempty (map (λ w. replaced l.p l.r w.now) (take l.word-index l.word-items))
