use Rattle.em_view.proofs.Doing.{below_ok, below_err}
use Rattle.em_reader.specs.Acting.{wildcard_glyphs}
use Rattle.em_pathname.specs.Walking.{matching_names}
use Rattle.em_view.specs.Steps.{below}
use Rattle.em_reading.specs.Faults.{of_desk}
use Rattle.em_reader.proofs.States.{on_state, free_of_desk}
use Rattle.em_reader.proofs.act.wildcard_word.Goals as goal

pub returns-in-Ok : goal.returns-in-Ok
unfolding wildcard_glyphs
returns-in-Ok g c = on_state (λ r. below (of_desk c.args.place.now) (matching_names r.cwd c.args.glyphs.now)) (below_ok (of_desk c.args.place.now) c.in-Ok.ensures.performs)

pub returns-in-Err : goal.returns-in-Err
unfolding wildcard_glyphs
returns-in-Err g c = on_state (λ r. below (of_desk c.args.place.now) (matching_names r.cwd c.args.glyphs.now)) (below_err (of_desk c.args.place.now) (free_of_desk c.args.place.now) c.desk_fault.ensures c.in-Err.ensures.performs)
