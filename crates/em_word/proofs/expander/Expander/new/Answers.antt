use Rattle.std.proofs.Common.{refl, sym, ap}
use Rattle.em_syntax.specs.Scripts.{scripts_in}
use Rattle.em_word.specs.Held.{plan_of, word_of, mode_of, IsCounted}
use Rattle.em_word.specs.Words.{word_plan}
use Rattle.em_word.proofs.expander.Expander.new.Goals as goal

pub returns-clause-plan : goal.returns-clause-plan
unfolding plan_of word_plan
returns-clause-plan c = rw (c.new.ensures, c.new-2.ensures, c.deref.ensures.value) refl

pub returns-clause-what : goal.returns-clause-what
unfolding word_of mode_of
returns-clause-what c = (refl, refl)

pub returns-clause-ready : goal.returns-clause-ready
unfolding IsCounted
returns-clause-ready c = record { runs = refl; counted = sym (ap scripts_in c.deref.ensures.value) }
