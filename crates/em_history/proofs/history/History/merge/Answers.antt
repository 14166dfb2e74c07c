use Rattle.std.proofs.Common.{◌∙◌, sym, subst}
use Rattle.em_history.specs.Histories.{IsHistory}
use Rattle.em_history.proofs.Placing.{history_or}
use Rattle.em_history.proofs.history.History.merge.Goals as goal

pub invariant_of-self : goal.invariant_of-self
invariant_of-self c = history_or c.join.result c.join.new.held.items c.self.inside.held.items c.in_ok-more.more.items c.join.ensures.ok c.join.ensures.err
    (subst IsHistory (sym (c.in_ok-more.ensures ∙ c.pairs.ensures.pairs)) c.pairs.ensures.history) c.self.invariant
