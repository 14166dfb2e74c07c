use Rattle.std.proofs.Common.{refl}
use Rattle.em_view.proofs.Doing.{out_s}
use Rattle.em_reader.proofs.makefiles.noting.Goals as goal

pub returns-in_err-vars : goal.returns-in_err-vars
returns-in_err-vars g c = out_s _ refl c.from_residual.ensures.1

pub returns-in-Err : goal.returns-in-Err
returns-in-Err g c = out_s _ refl refl
