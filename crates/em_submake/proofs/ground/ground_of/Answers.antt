use Rattle.std.proofs.Common.{◌∙◌, refl}
use Rattle.em_path.specs.Paths.{root_text}
use Rattle.em_path.proofs.Lemmas.{resolves_itself}
use Rattle.em_view.proofs.Doing.{then_s, owned_s}
use Rattle.em_submake.specs.Submakes.{ground_of}
use Rattle.em_submake.proofs.Paths.{reads_itself}
use Rattle.em_submake.proofs.Trying.{tried_ok, tried_err}
use Rattle.em_submake.proofs.ground.ground_of.Goals as goal

pub read_through-requires : goal.read_through-requires
read_through-requires g c = reads_itself c.args.line.now.order.dir c.requires.path

pub returns-in-Ok-clause-does : goal.returns-in-Ok-clause-does
unfolding ground_of
returns-in-Ok-clause-does g c =
    let here = resolves_itself root_text c.args.line.now.order.dir c.requires.path ∙ c.requires.dir in
    then_s _ (tried_ok (rw here at c.in-Ok.ensures)) c.plan_of.ensures.does

pub returns-in-Err-At-clause-does : goal.returns-in-Err-At-clause-does
unfolding ground_of
returns-in-Err-At-clause-does g c =
    let here = resolves_itself root_text c.args.line.now.order.dir c.requires.path ∙ c.requires.dir in
    then_s _ (tried_err refl (rw (c.in-Err-At.field-0-is, here) at c.in-Err-At.ensures)) (owned_s _ c.unread.ensures.works)
