use Rattle.std.proofs.Common.{◌≡◌, map, take, Bor, List, ℕ}
use Rattle.std.specs.List.{flat_map}
use Rattle.em_lineutil.specs.Sorting.{bare_lines}
use Rattle.em_lineutil.proofs.sort.all_lines.Given as goal

abbrev pub invariant-loop-text : goal.invariant-loop-text
invariant-loop-text l = map (λ (r : Bor (List ℕ)). r.now) l.all.items ≡ flat_map (λ (t : Bor (List ℕ)). bare_lines t.now) (take l.text-index l.texts)
