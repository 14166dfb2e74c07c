use Rattle.std.proofs.Common.{◌≡◌, ◌∙◌, ap, map, sym}
use Rattle.std.specs.List.{zip}
use Rattle.std.proofs.iter.Yields.{fronts, gives_Drains}
use Rattle.std.proofs.lemmas.Iterator.{YieldsList, YieldsList-from_slice, YieldsList-from_zip, zips}
use Rattle.em_base.proofs.Lemmas.{map_map}
use Rattle.em_learning.specs.Telling.{line_of, report_of}
use Rattle.em_learning.proofs.telling.report_of.Goals as goal

pub returns : goal.returns
unfolding report_of
returns c =
    let steps = zips (zips fronts fronts) (zips fronts fronts) in
    let all = zip (zip c.args.jobs.now c.args.waits.now) (zip c.args.notes.now c.args.fuel.now) in
    let start : YieldsList steps (λ p. ((p.0.0.now, p.0.1.now), (p.1.0.now, p.1.1.now))) c.into_iter-job-iterator.result all =
    YieldsList-from_zip
    (YieldsList-from_zip (YieldsList-from_slice c.args.jobs.now (cc)) (YieldsList-from_slice c.args.waits.now (cc)))
    (YieldsList-from_zip (YieldsList-from_slice c.args.notes.now (cc)) (YieldsList-from_slice c.args.fuel.now (cc))) in
    let lines : c.loop-job.lines ≡ map line_of all =
    c.loop-job.invariant ∙ sym (map_map line_of (λ p. ((p.0.0.now, p.0.1.now), (p.1.0.now, p.1.1.now))) c.loop-job.yielded)
    ∙ ap (map line_of) (gives_Drains steps (λ p. ((p.0.0.now, p.0.1.now), (p.1.0.now, p.1.1.now))) c.loop-job.yielded all c.into_iter-job-iterator.result start.runs
    (c.next.new.self, (c.loop-job.job-iterator, c.loop-job.yielded_by, c.in-None.ensures.steps))) in
    ap (λ ls. record { lines = ls; status = c.args.status }) lines
