use Rattle.std.proofs.Common.{◌∙◌, sym}
use lib.Pointwise.{pointwise_decides}
use Rattle.em_vars.proofs.Same.{entries_decide}
use Rattle.em_vars.proofs.laws.law_equal.Goals as goal

pub returns : goal.returns
returns c =
    let same = pointwise_decides entries_decide c.args.a.now c.args.b.now in
    (λ told. same.0 (sym c.eq.ensures ∙ told), λ e. c.eq.ensures ∙ same.1 e)
