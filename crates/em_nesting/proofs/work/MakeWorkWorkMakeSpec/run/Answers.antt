use Rattle.std.proofs.Common.{◌∙◌, refl}
use Rattle.em_nesting.proofs.Valid.{valid_ways}
use Rattle.em_nesting.proofs.work.MakeWorkWorkMakeSpec.run.Goals as goal

pub new-requires-2 : goal.new-requires-2
new-requires-2 g c =
    let begun = rw (c.new.ensures, c.get-job.ensures.job) at c.new-desk.ensures in
    let went = rw (c.in_ok-steps.ensures, c.job.ensures) at c.in_ok-outcome.ensures in
    valid_ways begun c.new-output.ensures went (λ s end comes. record { end = end; comes = comes; effect = refl; fuel = refl })
    c.close-usage.ensures.usage c.close-usage.ensures.changes c.close-usage.ensures.used c.close-usage.ensures.fits refl refl
