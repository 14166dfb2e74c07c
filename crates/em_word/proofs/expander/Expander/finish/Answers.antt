use Rattle.em_view.proofs.Performing.{then, exit, finish}
use Rattle.em_word.specs.Held.{mode_of}
use Rattle.em_word.specs.Turns.{expanded}
use Rattle.em_word.proofs.Seeing.{seen_lost, seen_left}
use Rattle.em_word.proofs.expander.Expander.finish.Goals as goal

pub returns-in_err-fields-in-Fields-clause-turn : goal.returns-in_err-fields-in-Fields-clause-turn
returns-in_err-fields-in-Fields-clause-turn g c = seen_lost c.args.self.now c.from_residual.result c.from_residual.ensures.1

pub returns-in_err-names_of_each-in-Fields-clause-turn : goal.returns-in_err-names_of_each-in-Fields-clause-turn
unfolding mode_of expanded
returns-in_err-names_of_each-in-Fields-clause-turn g c = seen_left c.args.self.now c.from_residual-in_err-names_of_each-in-Fields.result c.from_residual-in_err-names_of_each-in-Fields.ensures.1 (rw c.in-Fields.is (exit _ (rw (c.items.ensures, c.in_ok-fields-in-Fields.ensures, c.items-parts.ensures) at c.in_err-names_of_each-in-Fields.ensures)))

pub returns-in_err-bytes-in-Whole-clause-turn : goal.returns-in_err-bytes-in-Whole-clause-turn
returns-in_err-bytes-in-Whole-clause-turn g c = seen_lost c.args.self.now c.from_residual-in_err-bytes-in-Whole.result c.from_residual-in_err-bytes-in-Whole.ensures.1

pub returns-in_err-push-in-Whole-clause-turn : goal.returns-in_err-push-in-Whole-clause-turn
returns-in_err-push-in-Whole-clause-turn g c = seen_lost c.args.self.now c.from_residual-in_err-push-in-Whole.result c.from_residual-in_err-push-in-Whole.ensures.1

pub returns-in_err-glyphs-in-Pattern-clause-turn : goal.returns-in_err-glyphs-in-Pattern-clause-turn
returns-in_err-glyphs-in-Pattern-clause-turn g c = seen_lost c.args.self.now c.from_residual-in_err-glyphs-in-Pattern.result c.from_residual-in_err-glyphs-in-Pattern.ensures.1

pub returns-in_ok-names_of_each-in-Fields-clause-turn : goal.returns-in_ok-names_of_each-in-Fields-clause-turn
unfolding mode_of expanded
returns-in_ok-names_of_each-in-Fields-clause-turn g c = rw c.in-Fields.is (then _ (rw (c.items.ensures, c.in_ok-fields-in-Fields.ensures, c.items-parts.ensures) at c.in_ok-names_of_each-in-Fields.ensures) finish)

pub returns-in_ok-push-in-Whole-clause-turn : goal.returns-in_ok-push-in-Whole-clause-turn
unfolding mode_of
returns-in_ok-push-in-Whole-clause-turn g c = rw (c.in-Whole.is, c.in_ok-push-in-Whole.ensures.ok, c.new-texts.ensures, c.in_ok-bytes-in-Whole.ensures, c.items-parts.ensures) finish

pub returns-in_ok-glyphs-in-Pattern-clause-turn : goal.returns-in_ok-glyphs-in-Pattern-clause-turn
unfolding mode_of
returns-in_ok-glyphs-in-Pattern-clause-turn g c = rw (c.in-Pattern.is, c.in_ok-glyphs-in-Pattern.ensures, c.items-parts.ensures) finish
