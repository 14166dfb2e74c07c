use Rattle.std.proofs.Common.{refl}
use Rattle.em_plan.proofs.walk.close.Goals as goal

pub returns-clause-marks : goal.returns-clause-marks
returns-clause-marks c =
    let made = rw c.in_ok-needed_by.ensures at c.in_ok-job.ensures in
    rw (c.items.ensures, c.len-number.ensures, made) at c.in_ok-close_all.ensures

pub returns-clause-walked : goal.returns-clause-walked
returns-clause-walked c =
    let made = rw c.in_ok-needed_by.ensures at c.in_ok-job.ensures in
    rw (c.in_ok-push.ensures.ok, c.in_ok-shared.ensures, made) refl
