use Rattle.std.proofs.Common.{◌≡◌, refl}
use Rattle.em_view.proofs.Performing.{more, stop, end, then, finish, ran_out}
use Rattle.em_base.proofs.Lemmas.{left_at, none_at}
use Rattle.em_textutil.proofs.gather.sources.Goals as goal

pub returns-in_err-what : goal.returns-in_err-what
returns-in_err-what g c =
    let left = left_at c.args.names.now c.loop-name.name-index c.name-item.result c.loop-name-test.true c.name-item.is in
    stop _ (rw left at c.loop-name.invariant) c.from_residual.ensures.1 (rw c.bytes.ensures at c.in_err-what.ensures)

pub returns-in_err-source : goal.returns-in_err-source
returns-in_err-source g c =
    let left = left_at c.args.names.now c.loop-name.name-index c.name-item.result c.loop-name-test.true c.name-item.is in
    end (rw left at c.loop-name.invariant) (then _ (rw c.bytes.ensures at c.in_ok-what.ensures) (ran_out _ refl c.from_residual-in_err-source.ensures.1))

pub returns-in_err-push : goal.returns-in_err-push
returns-in_err-push g c =
    let left = left_at c.args.names.now c.loop-name.name-index c.name-item.result c.loop-name-test.true c.name-item.is in
    end (rw left at c.loop-name.invariant) (then _ (rw c.bytes.ensures at c.in_ok-what.ensures) (ran_out _ refl c.from_residual-in_err-push.ensures.1))

pub loop-name-preserved : goal.loop-name-preserved
loop-name-preserved g c =
    let left = left_at c.args.names.now c.loop-name.name-index c.name-item.result c.loop-name-test.true c.name-item.is in
    rw (c.in_ok-push.ensures.ok, c.in_ok-source.ensures, c.bytes-in-loop-name.ensures) (more _ (rw left at c.loop-name.invariant) (rw c.bytes.ensures at c.in_ok-what.ensures))

pub returns : goal.returns
returns g c =
    let none = none_at c.args.names.now c.loop-name.name-index c.loop-name-test.false in
    end (rw none at c.loop-name.invariant) finish
