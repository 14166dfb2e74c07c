use Rattle.std.proofs.Common.{rules, ◌≡◌, ◌∙◌, true, List, [], sym, ap, subst}
use Rattle.std.specs.List.{filter}
use Rattle.std.proofs.lemmas.List.Elements.{All-same, filter_passes, filter_from_retain}
use Rattle.em_history.specs.Histories.{Pair, IsHistory, fits, united}
use Rattle.em_history.proofs.Placing.{history_collected}
use Rattle.em_history.proofs.history.History.of.Goals as goal

pub gather-requires : goal.gather-requires
gather-requires c =
    let kept : c.retain.new.self.items ≡ filter fits c.args.pairs.items = filter_from_retain _ fits (λ p x b q h. search rules) _ c.args.pairs.items c.retain.new.self.items c.retain.ensures.filtered in
    All-same (λ p. fits p ≡ true) c.retain.new.self.items (filter fits c.args.pairs.items) kept (filter_passes fits c.args.pairs.items)

pub returns : goal.returns
returns c =
    let kept : c.retain.new.self.items ≡ filter fits c.args.pairs.items = filter_from_retain _ fits (λ p x b q h. search rules) _ c.args.pairs.items c.retain.new.self.items c.retain.ensures.filtered in
    c.in_ok-gather.ensures.ok ∙ ap (λ (ps : List Pair). united ps []) kept

pub invariant_of-result : goal.invariant_of-result
invariant_of-result c = subst IsHistory (sym (returns c)) (history_collected c.args.pairs.items)
