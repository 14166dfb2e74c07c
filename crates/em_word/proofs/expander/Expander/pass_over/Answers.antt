use Rattle.std.proofs.Common.{◌∙◌, drop, ap}
use Rattle.em_syntax.specs.Scripts.{scripts}
use Rattle.em_word.specs.Held.{IsCounted}
use Rattle.em_word.proofs.Counting.{past}
use Rattle.em_word.proofs.expander.Expander.pass_over.Goals as goal

pub returns-clause-steady : goal.returns-clause-steady
unfolding IsCounted
returns-clause-steady c = λ s. record {
  runs = s.runs;
  counted = ap (λ k. drop k (scripts c.args.self.now.word.now)) c.in_ok-self.ensures ∙ past c.args.self.now.before _ (scripts c.args.self.now.word.now) _ _ s.counted c.in_ok-rest.ensures.count;
}
