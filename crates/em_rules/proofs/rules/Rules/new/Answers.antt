use Rattle.std.proofs.Common.{◌≡◌}
use Rattle.std.specs.FinMap.{get-empty}
use Rattle.em_base.proofs.Lemmas.{order}
use Rattle.em_rules.proofs.rules.Rules.new.Goals as goal

pub invariant_of-result : goal.invariant_of-result
invariant_of-result c = λ index is name.
    let same : index ≡ c.new-2.result = cc in
    rw (same, c.new-2.ensures, c.new.ensures.items) (get-empty order name)
