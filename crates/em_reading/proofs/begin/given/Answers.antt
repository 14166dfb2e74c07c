use Rattle.std.proofs.Common.{◌∙◌, ap, add-one, []}
use Rattle.std.specs.Prelude.{slice_get}
use Rattle.em_reading.specs.Start.{given_at}
use Rattle.em_reading.proofs.Giving.{one_more}
use Rattle.em_reading.proofs.begin.given.Goals as goal

pub loop-i-preserved : goal.loop-i-preserved
loop-i-preserved c = rw add-one (c.in_ok-give_at.ensures ∙ ap (λ vars. given_at vars (slice_get c.args.defaults.now c.loop-i.i)) c.loop-i.invariant ∙ one_more [] c.args.defaults.now c.loop-i.i (rw c.len-i-end.ensures.len at c.loop-i-test.true))
