use Rattle.std.proofs.Common.{sym}
use Rattle.em_submake.proofs.Turning.{begun, done_all, sound_more, below_of}
use Rattle.em_submake.proofs.climbing.go_on.Goals as goal

pub returns-in-Some-clause-goes : goal.returns-in-Some-clause-goes
returns-in-Some-clause-goes g c =
    let v = c.args.level in
    let vs = c.args.levels.now in
    let at = sym (rw c.len.ensures at c.in-Some.ensures) in
    rw c.in_ok-push.ensures.ok (
      begun (g.M.Maker.job_of c.args.maker.now) g.J.Steps.plot g.J.Steps.back v vs c.args.out.now c.in-Some.planned.now c.in_ok-job.job at c.in_ok-job.ensures,
      sound_more v vs c.requires.some c.requires.free (record { runs = below_of _ _ _ at; few = c.requires.few; vars = c.requires.vars; sent = c.requires.sent }),
    )

pub returns-clause-goes : goal.returns-clause-goes
returns-clause-goes g c =
    let none = sym (rw c.len.ensures at c.in_default.ensures) in
    (done_all (g.M.Maker.job_of c.args.maker.now) g.J.Steps.plot g.J.Steps.back c.args.level c.args.levels.now c.args.out.now c.close.new.out c.in_ok-job-2.job none c.in_ok-job-2.ensures.said c.in_ok-job-2.ensures.goes, c.requires.some)
