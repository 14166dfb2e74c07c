use Rattle.std.proofs.Common.{refl}
use Rattle.em_view.proofs.Doing.{out_s}
use Rattle.em_reader.proofs.Wholes.{whole_ok, whole_err}
use Rattle.em_reader.proofs.makefiles.round_from.Goals as goal

pub returns-in_err-reading : goal.returns-in_err-reading
returns-in_err-reading g c = out_s _ refl c.from_residual.ensures.1

pub returns-in-Ok : goal.returns-in-Ok
returns-in-Ok g c = rw c.round_of.ensures (whole_ok c.args.noted c.args.order.now.makefile c.args.cwd c.args.vars {r = c.read_all-result.new.reading} (rw (c.in_ok-reading.ensures, c.replace.ensures.value) at c.in-Ok.ensures))

pub returns : goal.returns
returns g c = whole_err c.args.noted c.args.order.now.makefile c.args.cwd c.args.vars {r = c.read_all-result.new.reading} (rw (c.in_ok-reading.ensures, c.replace.ensures.value) at c.in-Err.ensures)
