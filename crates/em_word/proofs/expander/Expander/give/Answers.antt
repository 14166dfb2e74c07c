use Rattle.std.proofs.Common.{◌≡◌, ◌∙◌, false, List, ℕ, refl, ap}
use Rattle.em_word.specs.Held.{plan_of, plan_given, word_of, mode_of, IsCounted, given, waits}
use Rattle.em_word.specs.declared.expander.ExpanderStage.{ExpanderStage}
use Rattle.em_word.specs.declared.expander.ExpanderStage.TheVariants.{Ready, Waiting, Given}
use Rattle.em_word.proofs.expander.Expander.give.Goals as goal

runs_on : (s : ExpanderStage) (output : List ℕ) → waits (given s output) ≡ false
runs_on Ready output = refl
runs_on (Waiting q s) output = refl
runs_on (Given q _) output = refl

pub returns-clause-plan : goal.returns-clause-plan
unfolding plan_given plan_of
returns-clause-plan c = rw c.with_output.ensures refl

pub returns-clause-ready : goal.returns-clause-ready
unfolding IsCounted
returns-clause-ready c = record { runs = ap waits c.with_output.ensures ∙ runs_on c.args.self.now.stage c.args.output; counted = c.requires.counted }

pub returns-clause-same : goal.returns-clause-same
unfolding word_of mode_of
returns-clause-same c = (refl, refl)
