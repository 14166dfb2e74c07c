use Rattle.std.proofs.Common.{◌≡◌, ◌⊎◌, inl, inr, ℕ, List, Bool, None, sym, ap}
use Rattle.em_word.specs.Held.{asked_of, asked_in}
use Rattle.em_word.specs.declared.expander.ExpanderStage.{ExpanderStage}
use Rattle.em_word.specs.declared.expander.ExpanderStage.TheVariants.{Ready, Given}
use Rattle.em_word.proofs.expander.Expander.script.Goals as goal

pub returns-in-Waiting : goal.returns-in-Waiting
unfolding asked_of
returns-in-Waiting c = sym (ap asked_in c.in-Waiting.is)

none_asked : (s : ExpanderStage) → (s ≡ Ready) ⊎ ((q : Bool) × (t : List ℕ) × (s ≡ Given q t)) → asked_in s ≡ None
none_asked s (inl r) = ap asked_in r
none_asked s (inr g) = ap asked_in g.2

pub returns-in-Ready : goal.returns-in-Ready
unfolding asked_of
returns-in-Ready c = sym (none_asked c.args.self.now.stage c.in-Ready.is)
