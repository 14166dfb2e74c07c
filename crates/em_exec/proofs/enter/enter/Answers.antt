use Rattle.std.proofs.Common.{◌∙◌, refl, sym}
use Rattle.em_view.proofs.Doing.{out_s, finish_s}
use Rattle.em_exec.proofs.Lines.{entered}
use Rattle.em_exec.proofs.enter.enter.Goals as goal

pub returns-in_err-path : goal.returns-in_err-path
returns-in_err-path g c = out_s _ refl c.from_residual.ensures.1

pub returns-in-Some : goal.returns-in-Some
returns-in-Some g c = entered c.args.name.now _ (sym c.in_ok-path.ensures ∙ c.in-Some.is) c.enter_path.ensures

pub returns-in-None : goal.returns-in-None
returns-in-None g c = entered c.args.name.now _ (sym c.in_ok-path.ensures ∙ c.in-None.is) finish_s
