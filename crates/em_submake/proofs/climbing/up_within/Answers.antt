use Rattle.std.proofs.Common.{◌≡◌, ◌∙◌, ◌++◌, ◌∷◌, [], length-append, sym, arith}
use Rattle.em_submake.proofs.Turning.{ended_first, ended_all, ended_early, goes_further, sound_first, sound_rest, less_than}
use Rattle.em_submake.proofs.climbing.up_within.Goals as goal

pub returns-in_default-clause-goes : goal.returns-in_default-clause-goes
returns-in_default-clause-goes g c = rw c.in_default.ensures.0 (ended_first (g.M.Maker.job_of c.args.maker.now) g.J.Steps.plot g.J.Steps.back c.args.outcome)

pub returns-then-ends_all-clause-goes : goal.returns-then-ends_all-clause-goes
returns-then-ends_all-clause-goes g c =
    rw c.in-Some.ensures (ended_all (g.M.Maker.job_of c.args.maker.now) g.J.Steps.plot g.J.Steps.back c.in-Some.level c.pop.new.self c.pop.new.self c.args.outcome (sym c.ends_all.ensures ∙ c.if-ends_all.true))

pub returns-then-early-clause-goes : goal.returns-then-early-clause-goes
returns-then-early-clause-goes g c =
    let v = c.in-Some.level in
    let vs = c.pop.new.self in
    let goes = sym c.ends_all.ensures ∙ c.if-ends_all.false in
    let ends = sym (rw c.of_order.ensures at c.ends_after-early.ensures) ∙ c.if-early.true in
    let said : c.close.new.out ≡ c.args.out.now ++ [] = c.in_ok-job.ensures.said in
    rw c.in-Some.ensures (
      ended_early (g.M.Maker.job_of c.args.maker.now) g.J.Steps.plot g.J.Steps.back v vs c.args.outcome c.args.out.now c.close.new.out c.in_ok-job.job goes ends
          said (rw c.in_ok-level.ensures at c.in_ok-job.ensures.goes),
      sound_rest v vs (rw c.in-Some.ensures at c.requires),
    )

pub go_on-requires-clause-some : goal.go_on-requires-clause-some
go_on-requires-clause-some g c = sound_rest c.in-Some.level c.pop.new.self (rw c.in-Some.ensures at c.requires)

pub go_on-requires-clause-sent : goal.go_on-requires-clause-sent
go_on-requires-clause-sent g c = rw c.in_ok-level.ensures (sound_first c.in-Some.level c.pop.new.self (rw c.in-Some.ensures at c.requires)).sent

pub returns-clause-goes : goal.returns-clause-goes
returns-clause-goes g c =
    let goes = sym c.ends_all.ensures ∙ c.if-ends_all.false in
    let stays = sym (rw c.of_order.ensures at c.ends_after-early.ensures) ∙ c.if-early.false in
    rw c.in-Some.ensures (goes_further (g.M.Maker.job_of c.args.maker.now) g.J.Steps.plot g.J.Steps.back c.in-Some.level c.pop.new.self c.args.outcome c.args.out.now c.go_on.new.out c.go_on.new.levels c.go_on.result goes stays
    (rw c.in_ok-level.ensures at c.go_on.ensures.goes))

pub returns-clause-less : goal.returns-clause-less
returns-clause-less g c =
    let v = c.in-Some.level in
    let runs = (sound_first v c.pop.new.self (rw c.in-Some.ensures at c.requires)).runs in
    rw c.in-Some.ensures (less_than c.pop.new.self c.go_on.new.levels _ _ c.go_on.result (omega (arith, runs, length-append v.ended (c.args.outcome ∷ []))) (rw c.in_ok-level.ensures at c.go_on.ensures.less))
