use Rattle.std.proofs.Common.{rules}
use Rattle.std.proofs.lemmas.Fn.{always_returns_same}
use Rattle.em_history.specs.Histories.{by_names}
use Rattle.em_history.proofs.Lines.{placed_by}
use Rattle.em_history.proofs.pair.place_of.Goals as goal

pub returns : goal.returns
returns c =
    let pair = c.args.pair.now in
    let held = c.args.held.now in
    let by_pair = c.binary_search_by.ensures.position (λ q. by_names q pair) (always_returns_same _ _ _ (λ a r g called. search rules)) in
    let all = placed_by pair held c.binary_search_by.result c.requires.fits c.requires.history c.binary_search_by.ensures.bound by_pair in
    record { found = all.found; new = all.new; within = all.within; there = all.there }
