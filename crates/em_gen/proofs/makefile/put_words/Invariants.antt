use Rattle.std.proofs.Common.{◌≡◌, ◌-◌, ◌++◌}
use Rattle.std.specs.List.{flat_map, range_with_len}
use Rattle.em_gen.specs.Generated.{word_of}
use Rattle.em_gen.proofs.makefile.put_words.Given as goal

-- what is written and what is left make the whole
abbrev pub invariant-loop-i : goal.invariant-loop-i
invariant-loop-i l = l.out ++ flat_map word_of (range_with_len l.i (l.n - l.i)) ≡ l.fn.out ++ flat_map word_of (range_with_len 0 l.n)
