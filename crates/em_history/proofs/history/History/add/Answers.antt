use Rattle.std.proofs.Common.{rules, ◌≡◌, true}
use Rattle.em_history.specs.Histories.{fits}
use Rattle.em_history.proofs.Placing.{history_placed}
use Rattle.em_history.proofs.history.History.add.Goals as goal

pub invariant_of-self-2 : goal.invariant_of-self-2
invariant_of-self-2 c = let fit : fits (c.args.target, c.args.needed) ≡ true = search rules in
    rw c.in_ok-place.ensures.ok (history_placed (c.args.target, c.args.needed) c.self.inside.held.items fit c.self.invariant)
