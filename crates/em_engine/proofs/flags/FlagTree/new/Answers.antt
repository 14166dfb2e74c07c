use Rattle.std.proofs.Common.{◌≡◌, ◌*◌, false, replicate, length, length-drop, arith}
use Rattle.std.proofs.lemmas.List.{length-replicate}
use Rattle.em_engine.proofs.Nodes.{none_raised}
use Rattle.em_engine.proofs.flags.FlagTree.new.Goals as goal

pub returns : goal.returns
returns c =
    let is : c.in_ok-any.any.items ≡ replicate (2 * c.size_for-levels.result.1) false = c.in_ok-any.ensures.items_if_clones_equal (λ y e. e) in
    let l : length (replicate (2 * c.size_for-levels.result.1) false) ≡ 2 * c.size_for-levels.result.1 = length-replicate _ _ in
    let z = none_raised (2 * c.size_for-levels.result.1) c.size_for-levels.result.1 in
    rw is ((let d = length-drop c.size_for-levels.result.1 (replicate (2 * c.size_for-levels.result.1) false) in omega (arith, d, l, c.size_for-levels.ensures.reach)), z)
