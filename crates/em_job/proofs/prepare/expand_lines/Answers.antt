use Rattle.std.proofs.Common.{refl}
use Rattle.em_view.proofs.Doing.{then_s, finish_s, out_s, more_s, stop_s, end_s}
use Rattle.em_base.proofs.Lemmas.{left_at, none_at}
use Rattle.em_job.proofs.prepare.expand_lines.Goals as goal

pub returns-in_err-text : goal.returns-in_err-text
returns-in_err-text g c = let left = left_at c.args.recipe.now c.loop-line.line-index c.line-item.result c.loop-line-test.true c.line-item.is in
    stop_s _ (rw left at c.loop-line.invariant) c.from_residual.ensures.1 (rw c.bytes.ensures at c.in_err-text.ensures)

pub returns-in_err-commands : goal.returns-in_err-commands
returns-in_err-commands g c = let left = left_at c.args.recipe.now c.loop-line.line-index c.line-item.result c.loop-line-test.true c.line-item.is in
    end_s (rw left at c.loop-line.invariant) (then_s _ (rw c.bytes.ensures at c.in_ok-text.ensures) (out_s _ refl c.from_residual-in_err-commands.ensures.1))

pub returns-in_err-put_placed : goal.returns-in_err-put_placed
returns-in_err-put_placed g c = let left = left_at c.args.recipe.now c.loop-line.line-index c.line-item.result c.loop-line-test.true c.line-item.is in
    end_s (rw left at c.loop-line.invariant) (then_s _ (rw c.bytes.ensures at c.in_ok-text.ensures) (out_s _ refl c.from_residual-in_err-put_placed.ensures.1))

pub loop-line-preserved : goal.loop-line-preserved
loop-line-preserved g c = let left = left_at c.args.recipe.now c.loop-line.line-index c.line-item.result c.loop-line-test.true c.line-item.is in
    rw (c.in_ok-put_placed.ensures, c.in_ok-commands.ensures, c.bytes-in-loop-line.ensures, c.bytes-in-loop-line-2.ensures) (more_s _ (rw left at c.loop-line.invariant) (rw c.bytes.ensures at c.in_ok-text.ensures))

pub returns : goal.returns
returns g c =
    let none = none_at c.args.recipe.now c.loop-line.line-index c.loop-line-test.false in
    end_s (rw none at c.loop-line.invariant) finish_s
