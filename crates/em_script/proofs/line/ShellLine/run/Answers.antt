use Rattle.std.proofs.Common.{Ok, refl, ap}
use Rattle.em_view.specs.declared.done.ExecNo.TheVariants as exec
use Rattle.em_view.proofs.Doing.{out_s, owned_s, refused_s}
use Rattle.em_script.specs.Lines.{wrong}
use Rattle.em_script.proofs.line.ShellLine.run.Goals as goal

pub returns-in-Script : goal.returns-in-Script
returns-in-Script g c = rw c.in-Script.is c.exec.ensures

pub returns-in_err-add-in-Wrong : goal.returns-in_err-add-in-Wrong
returns-in_err-add-in-Wrong g c = out_s _ refl c.from_residual.ensures.1

pub returns-in_ok-add-in-Wrong : goal.returns-in_ok-add-in-Wrong
returns-in_ok-add-in-Wrong g c = rw c.in-Wrong.is (owned_s {r = Ok 2} wrong (λ n. rw c.in_ok-add-in-Wrong.ensures.ok refl))

pub returns-in_err-copy-in-Refused : goal.returns-in_err-copy-in-Refused
returns-in_err-copy-in-Refused g c = out_s _ refl c.from_residual-in_err-copy-in-Refused.ensures.1

pub returns-in_ok-copy-in-Refused : goal.returns-in_ok-copy-in-Refused
returns-in_ok-copy-in-Refused g c = rw c.in-Refused.is (refused_s _ (λ h. ap exec.Refused c.in_ok-copy-in-Refused.ensures.equal))
