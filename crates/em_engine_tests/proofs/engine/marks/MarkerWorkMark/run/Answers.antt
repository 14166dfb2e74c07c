use Rattle.std.proofs.Common.{refl, ◌∙◌}
use Rattle.em_run.specs.Examples.{end_of}
use Rattle.em_run.proofs.Running.{valid, told}
use Rattle.em_engine_tests.proofs.engine.marks.MarkerWorkMark.run.Goals as goal

pub new-run-requires : goal.new-run-requires
new-run-requires g c =
    let begun = rw (c.new-fuel.ensures, c.from.ensures) at c.new-desk.ensures in
    valid end_of begun c.new-output.ensures c.make.ensures
    (λ s tree agrees. (refl, refl))
    c.in_ok-outcome.ensures.plain
    c.close-usage.ensures.usage c.close-usage.ensures.changes c.close-usage.ensures.used c.close-usage.ensures.fits
    refl c.in_ok-outcome.ensures.outcome

pub returns-clause-told : goal.returns-clause-told
returns-clause-told g c =
    rw (c.new-run.ensures, c.close-usage.ensures.usage) (told c.new-desk.ensures c.make.ensures.performs)
