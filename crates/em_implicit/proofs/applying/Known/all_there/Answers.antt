use Rattle.std.proofs.Common.{◌+◌, drop}
use Rattle.em_base.proofs.Lemmas.{left_at, none_at}
use Rattle.em_implicit.specs.Asking.{Here}
use Rattle.em_implicit.specs.Seeking.{if_there, all_there}
use Rattle.em_implicit.proofs.Following.{on, first, went_on, leave_asked}
use Rattle.em_implicit.proofs.applying.Known.all_there.Goals as goal

pub loop-name-init : goal.loop-name-init
loop-name-init g c = Here _ _

pub returns-in_err-name_there-clause-asked : goal.returns-in_err-name_there-clause-asked
returns-in_err-name_there-clause-asked g c =
    let rules = c.args.self.now.rules.now in
    let cwd = c.args.self.now.cwd.now in
    let left = left_at c.args.names.now c.loop-name.name-index c.name-item.result c.loop-name-test.true c.name-item.is in
    let begin = rw left at c.loop-name.invariant in
    went_on _ _ begin (leave_asked (if_there rules cwd (all_there rules cwd (drop (c.loop-name.name-index + 1) c.args.names.now))) _ c.from_residual.ensures.1 (rw c.bytes.ensures at c.in_err-name_there.ensures.asked))

pub returns-then-not-branch-clause-asked : goal.returns-then-not-branch-clause-asked
returns-then-not-branch-clause-asked g c =
    let rules = c.args.self.now.rules.now in
    let cwd = c.args.self.now.cwd.now in
    let left = left_at c.args.names.now c.loop-name.name-index c.name-item.result c.loop-name-test.true c.name-item.is in
    let begin = rw left at c.loop-name.invariant in
    on begin (first (if_there rules cwd (all_there rules cwd (drop (c.loop-name.name-index + 1) c.args.names.now))) (rw (c.bytes.ensures, c.if-not-branch.true) at c.in_ok-name_there.ensures.asked))

pub loop-name-preserved : goal.loop-name-preserved
loop-name-preserved g c =
    let rules = c.args.self.now.rules.now in
    let cwd = c.args.self.now.cwd.now in
    let left = left_at c.args.names.now c.loop-name.name-index c.name-item.result c.loop-name-test.true c.name-item.is in
    let begin = rw left at c.loop-name.invariant in
    on begin (first (if_there rules cwd (all_there rules cwd (drop (c.loop-name.name-index + 1) c.args.names.now))) (rw (c.bytes.ensures, c.if-not-branch.false) at c.in_ok-name_there.ensures.asked))

pub returns-clause-asked : goal.returns-clause-asked
returns-clause-asked g c = rw (none_at c.args.names.now c.loop-name.name-index c.loop-name-test.false) at c.loop-name.invariant
