use Rattle.em_path.specs.Paths.{root_text}
use Rattle.em_path.specs.Reading.{resolved_text}
use Rattle.em_reading.specs.Start.{start_vars}
use Rattle.em_reader.proofs.Wholes.{book_ok, book_err}
use Rattle.em_reader.proofs.makefiles.read_through.Goals as goal

pub returns-in_err-round : goal.returns-in_err-round
returns-in_err-round g c =
    let cwd = resolved_text root_text c.args.order.now.dir in
    book_err c.args.order.now.makefile cwd (start_vars c.args.order.now.goals c.args.order.now.assigned cwd c.args.defaults.now) c.from_residual.ensures.1 c.in_err-round.ensures

pub returns : goal.returns
returns g c =
    let cwd = resolved_text root_text c.args.order.now.dir in
    book_ok c.args.order.now.makefile cwd (start_vars c.args.order.now.goals c.args.order.now.assigned cwd c.args.defaults.now) c.in_ok-round.ensures
