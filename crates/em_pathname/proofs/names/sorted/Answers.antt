use Rattle.std.proofs.Common.{◌∙◌, sym, ap, nat_eq, List, ℕ}
use Rattle.std.specs.Cmp.Lexicographic.{pointwise, nat_list_cmp_total, texts_ties}
use Rattle.std.proofs.lemmas.List.Filters.{dedup_is}
use Rattle.std.proofs.lemmas.List.{map-id}
use Rattle.em_base.proofs.Lemmas.{exact, order, sorted_is}
use Rattle.em_pathname.specs.Walking.{sorted}
use Rattle.em_pathname.proofs.names.sorted.Goals as goal

pub returns : goal.returns
returns c =
    let names = c.in_ok-names.names.items in
    let this = λ (t : List ℕ). t in
    let left = dedup_is (pointwise nat_eq) _ _ c.dedup.ensures.filtered in
    let once = sorted_is order nat_list_cmp_total exact this (pointwise nat_eq) texts_ties names c.sort_unstable.new.self.items c.dedup.new.self.items c.sort_unstable.ensures.permutation c.sort_unstable.ensures.sorted left in
    c.from_vec.ensures ∙ sym (map-id c.dedup.new.self.items) ∙ once ∙ ap sorted (map-id names ∙ c.in_ok-names.ensures)
