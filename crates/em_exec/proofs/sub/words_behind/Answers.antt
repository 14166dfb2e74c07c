use Rattle.std.proofs.Common.{refl}
use Rattle.em_view.proofs.Doing.{out_s}
use Rattle.em_exec.proofs.Closing.{closing_words}
use Rattle.em_exec.proofs.Burning.{unended}
use Rattle.em_exec.proofs.sub.words_behind.Goals as goal

pub returns-in_err-here-clause-does : goal.returns-in_err-here-clause-does
returns-in_err-here-clause-does g c = out_s _ refl c.from_residual.ensures.1

pub returns-in_err-scene-clause-does : goal.returns-in_err-scene-clause-does
returns-in_err-scene-clause-does g c = out_s _ refl c.from_residual-in_err-scene.ensures.1

pub returns-clause-does : goal.returns-clause-does
returns-clause-does g c = closing_words _ (rw (c.in_ok-here.ensures, c.in_ok-scene.ensures) at c.heard_behind-ended.ensures.does) c.close_with.ensures

pub returns-clause-burns : goal.returns-clause-burns
returns-clause-burns g c = unended _ (record { shell = c.args.shell.now; output = c.args.out.now }) (record { shell = c.close_with.new.shell; output = c.close_with.new.out }) c.heard_behind-ended.new.here c.heard_behind-ended.result c.close_with.result c.close_with.ensures c.heard_behind-ended.ensures.burns
