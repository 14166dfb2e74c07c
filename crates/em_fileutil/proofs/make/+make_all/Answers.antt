use Rattle.std.proofs.Common.{refl, arith}
use Rattle.em_view.proofs.Doing.{then_s, leave_s, finish_s, out_s}
use Rattle.em_fileutil.proofs.Levels.{make_level}
use Rattle.em_fileutil.proofs.make.+make_all.Goals as goal

pub returns-then-left-eq0 : goal.returns-then-left-eq0
returns-then-left-eq0 g t c = λ d. rw c.if-left-eq0.true finish_s

pub returns-in_err-parent : goal.returns-in_err-parent
returns-in_err-parent g t c = λ d. out_s _ refl c.from_residual.ensures.1

pub returns-in_default : goal.returns-in_default
returns-in_default g t c = λ d. make_level c.args.name.now c.args.path.now c.args.left (omega arith) (rw (← c.in_ok-parent.ensures, c.in_default.is) finish_s)

pub returns-in_err-make_all : goal.returns-in_err-make_all
returns-in_err-make_all g t c = λ d. make_level c.args.name.now c.args.path.now c.args.left (omega arith) (rw (← c.in_ok-parent.ensures, c.in-Some.is) (leave_s _ c.from_residual-in_err-make_all.ensures.1 (c.in_err-make_all.ensures d)))

pub returns : goal.returns
returns g t c = λ d. make_level c.args.name.now c.args.path.now c.args.left (omega arith) (rw (← c.in_ok-parent.ensures, c.in-Some.is) (then_s _ (c.in_ok-make_all.ensures d) (c.make_missing.ensures d)))
