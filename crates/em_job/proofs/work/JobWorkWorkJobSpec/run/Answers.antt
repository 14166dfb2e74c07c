use Rattle.std.proofs.Common.{◌∙◌, Result, List, refl, sym, subst}
use Rattle.em_tree.specs.declared.state.State.{State}
use Rattle.em_run.proofs.Running.{valid, told}
use Rattle.em_job.specs.declared.prepare.Placed.{Placed}
use Rattle.em_job.specs.declared.ready.Course.{Course}
use Rattle.em_job.specs.declared.stop.JobStop.{JobStop}
use Rattle.em_job.specs.Carrying.{AreRead, courses}
use Rattle.em_job.specs.Effects.{no_end}
use Rattle.em_job.proofs.Ended.{Carried, whole, onward, plain_before, closing, ended_plain, same_lines}
use Rattle.em_job.proofs.work.JobWorkWorkJobSpec.run.Goals as goal

pub new-requires-2 : goal.new-requires-2
new-requires-2 g c =
    let j = c.in_ok-spec.spec in
    let reading = c.in_ok-course.ensures in
    let mid = c.prepare_job-prepared.new.desk in
    let new = c.carry_out-ended.new.desk in
    let s = c.prepare_job-prepared.new.spoken in
    let t = c.carry_out-ended.new.spoken in
    let r = c.carry_out-ended.result in
    let p = c.prepare_job-prepared.result in
    let begun = rw (c.new.ensures, c.get-job.ensures.job) at c.new-desk.ensures in
    let prepared = rw (c.get-job.ensures.job, c.new-spoken.ensures) at c.prepare_job-prepared.ensures in
    let carried : Carried g.V.View.tells mid new s t j r (courses reading.ready p) = subst (λ (x : Result Course JobStop). Carried g.V.View.tells mid new s t j r x) reading.is (rw c.get-job.ensures.job at c.carry_out-ended.ensures.ok, c.carry_out-ended.ensures.err) in
    let ends = rw (c.bytes.ensures, c.get.ensures, c.get-job.ensures.job) at c.in_ok-output.ensures in
    let on = onward g.V.View.tells mid new s t r j reading.ready p carried in
    let plain = plain_before g.V.View.tells mid new s t r j reading.ready p carried (ended_plain t r (c.in_ok-output.outcome, c.in_ok-output.output) j.plan.target ends) in
    valid no_end begun refl (closing t r j reading.ready (whole j reading.ready p prepared carried) ends)
    (λ (x : State) tree agrees. record {
      ready = reading.ready;
      read = subst (λ (ls : List Placed). AreRead ls reading.ready) (sym (same_lines new j p begun prepared on plain x agrees)) reading.read;
      effect = refl;
      fuel = refl;
    })
    refl c.close-usage.ensures.usage c.close-usage.ensures.changes c.close-usage.ensures.used c.close-usage.ensures.fits refl refl

pub returns-clause-told : goal.returns-clause-told
returns-clause-told g c =
    let j = c.in_ok-spec.spec in
    let reading = c.in_ok-course.ensures in
    let mid = c.prepare_job-prepared.new.desk in
    let new = c.carry_out-ended.new.desk in
    let s = c.prepare_job-prepared.new.spoken in
    let t = c.carry_out-ended.new.spoken in
    let r = c.carry_out-ended.result in
    let p = c.prepare_job-prepared.result in
    let begun = rw (c.new.ensures, c.get-job.ensures.job) at c.new-desk.ensures in
    let prepared = rw (c.get-job.ensures.job, c.new-spoken.ensures) at c.prepare_job-prepared.ensures in
    let carried : Carried g.V.View.tells mid new s t j r (courses reading.ready p) = subst (λ (x : Result Course JobStop). Carried g.V.View.tells mid new s t j r x) reading.is (rw c.get-job.ensures.job at c.carry_out-ended.ensures.ok, c.carry_out-ended.ensures.err) in
    rw (c.new-2.ensures, c.close-usage.ensures.usage) (told begun (whole j reading.ready p prepared carried).performs)
