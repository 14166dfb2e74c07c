use Rattle.std.proofs.Common.{refl}
use Rattle.em_program.proofs.Building.{runs, breaks, breaks_early}
use Rattle.em_program.proofs.build.ran.Goals as goal

pub build-requires-clause-waits : goal.build-requires-clause-waits
build-requires-clause-waits g c = λ κs lives. rw (c.in_ok-waits.ensures, c.items.ensures) c.requires.count

pub build-requires-clause-lower : goal.build-requires-clause-lower
build-requires-clause-lower g c = λ κs lives. rw (c.in_ok-waits.ensures, c.items.ensures) c.requires.lower

pub returns-in_err-waits-clause-ran : goal.returns-in_err-waits-clause-ran
returns-in_err-waits-clause-ran g c = breaks_early c.args.project c.from_residual.ensures.1

pub returns-in_err-built-clause-ran : goal.returns-in_err-built-clause-ran
returns-in_err-built-clause-ran g c = breaks c.args.project c.from_residual-in_err-built.ensures.1 c.in_err-built.ensures.builds

pub returns-clause-ran : goal.returns-clause-ran
returns-clause-ran g c = runs c.args.project refl c.in_ok-built.ensures.builds
