use Rattle.std.proofs.Common.{◌+◌, drop, map, Some}
use Rattle.em_base.proofs.Lemmas.{left_at, none_at}
use Rattle.em_implicit.specs.Asking.{Had, Here}
use Rattle.em_implicit.specs.Seeking.{or_next, seek, seen}
use Rattle.em_implicit.proofs.Following.{on, first, went_on, then_asked, leave_asked, lacked}
use Rattle.em_implicit.proofs.seek.seek.Goals as goal

pub loop-candidate-init : goal.loop-candidate-init
loop-candidate-init g c = Here _ _

pub returns-in_err-applies-clause-asked : goal.returns-in_err-applies-clause-asked
returns-in_err-applies-clause-asked g c =
    let rules = c.args.known.rules.now in
    let cwd = c.args.known.cwd.now in
    let left = left_at c.args.candidates.now c.loop-candidate.candidate-index c.candidate-item.result c.loop-candidate-test.true c.candidate-item.is in
    let begin = rw left at c.loop-candidate.invariant in
    let later = or_next rules cwd (seen c.candidate-item.result) (seek rules cwd (map seen (drop (c.loop-candidate.candidate-index + 1) c.args.candidates.now))) in
    went_on _ _ begin (leave_asked later _ c.from_residual.ensures.1 c.in_err-applies.ensures.asked)

pub returns-in_err-copied-clause-asked : goal.returns-in_err-copied-clause-asked
returns-in_err-copied-clause-asked g c =
    let rules = c.args.known.rules.now in
    let cwd = c.args.known.cwd.now in
    let left = left_at c.args.candidates.now c.loop-candidate.candidate-index c.candidate-item.result c.loop-candidate-test.true c.candidate-item.is in
    let begin = rw left at c.loop-candidate.invariant in
    let later = or_next rules cwd (seen c.candidate-item.result) (seek rules cwd (map seen (drop (c.loop-candidate.candidate-index + 1) c.args.candidates.now))) in
    went_on _ _ begin (then_asked later _ _ (rw c.if-branch.true at c.in_ok-applies.ensures.asked) (lacked g.T.There.asks _ (Had (Some c.candidate-item.result.found)) _ c.from_residual-in_err-copied.ensures.1))

pub returns-then-branch-clause-asked : goal.returns-then-branch-clause-asked
returns-then-branch-clause-asked g c =
    let rules = c.args.known.rules.now in
    let cwd = c.args.known.cwd.now in
    let left = left_at c.args.candidates.now c.loop-candidate.candidate-index c.candidate-item.result c.loop-candidate-test.true c.candidate-item.is in
    let begin = rw left at c.loop-candidate.invariant in
    let later = or_next rules cwd (seen c.candidate-item.result) (seek rules cwd (map seen (drop (c.loop-candidate.candidate-index + 1) c.args.candidates.now))) in
    rw c.in_ok-copied.ensures (on begin (first later (rw c.if-branch.true at c.in_ok-applies.ensures.asked)))

pub loop-candidate-preserved : goal.loop-candidate-preserved
loop-candidate-preserved g c =
    let rules = c.args.known.rules.now in
    let cwd = c.args.known.cwd.now in
    let left = left_at c.args.candidates.now c.loop-candidate.candidate-index c.candidate-item.result c.loop-candidate-test.true c.candidate-item.is in
    let begin = rw left at c.loop-candidate.invariant in
    let later = or_next rules cwd (seen c.candidate-item.result) (seek rules cwd (map seen (drop (c.loop-candidate.candidate-index + 1) c.args.candidates.now))) in
    on begin (first later (rw c.if-branch.false at c.in_ok-applies.ensures.asked))

pub returns-clause-asked : goal.returns-clause-asked
returns-clause-asked g c = rw (none_at c.args.candidates.now c.loop-candidate.candidate-index c.loop-candidate-test.false) at c.loop-candidate.invariant
