use Rattle.std.proofs.Common.{◌∙◌, refl, sym}
use Rattle.em_view.proofs.Doing.{finish_s, out_s}
use Rattle.em_reader.specs.Reading.{content_by, content_of, path_of}
use Rattle.em_reader.proofs.States.{on_state}
use Rattle.em_reader.proofs.files.content_of.Goals as goal

pub returns-in_err-path : goal.returns-in_err-path
unfolding content_of
returns-in_err-path g c = out_s _ refl c.from_residual.ensures.1

pub returns-in-Some : goal.returns-in-Some
unfolding content_of
returns-in-Some g c = on_state (λ r. content_by c.args.place.now (path_of r.cwd c.args.name.now)) (rw (sym c.in_ok-path.ensures ∙ c.in-Some.is) c.bytes_at.ensures)

pub returns-in-None : goal.returns-in-None
unfolding content_of
returns-in-None g c = on_state (λ r. content_by c.args.place.now (path_of r.cwd c.args.name.now)) (rw (sym c.in_ok-path.ensures ∙ c.in-None.is) finish_s)
