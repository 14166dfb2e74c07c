use Rattle.std.proofs.Common.{◌≡◌, ◌-◌, ◌^◌, min, sum, map, length, take}
use Rattle.em_view.proofs.cost.texts_size.Given as goal

abbrev pub invariant-loop-text : goal.invariant-loop-text
invariant-loop-text l = l.size ≡ min (sum (map length (take l.text-index l.texts))) (2 ^ 64 - 1)
