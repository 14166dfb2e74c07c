use Rattle.std.proofs.Common.{◌≡◌, ◌∙◌, ap, rules, tests, Bor, List, ℕ, map}
use Rattle.std.specs.List.{filter}
use Rattle.std.proofs.lemmas.Fn.{filter_same}
use Rattle.em_base.proofs.Lemmas.{map_filter}
use Rattle.em_lineutil.specs.Searching.{is_selected, selected}
use Rattle.em_lineutil.proofs.search.selected.Goals as goal

pub returns : goal.returns
unfolding selected
returns c =
    let passes = is_selected c.args.search.now c.args.text.now in
    let lines = c.in_ok-lines.lines.items in
    let kept : c.retain.new.self.items ≡ filter (λ l. passes l.now) lines = filter_same _ (λ l. passes l.now) _ (λ x b q k. search (rules, tests)) lines c.retain.new.self.items c.retain.ensures.filtered in
    ap (map (λ (l : Bor (List ℕ)). l.now)) kept ∙ map_filter passes (λ l. l.now) lines ∙ ap (filter passes) c.in_ok-lines.ensures
