use Rattle.std.proofs.Common.{◌∙◌, ap, sym, nat_eq, ℕ}
use Rattle.std.specs.Ordering.{nat_cmp}
use Rattle.std.specs.Cmp.{unsigned_ties}
use Rattle.std.specs.FinMap.{nat_cmp-IsAntisymmetric}
use Rattle.std.proofs.lemmas.Cmp.{nat_cmp_total}
use Rattle.std.proofs.lemmas.List.{map-id}
use Rattle.std.proofs.lemmas.List.Filters.{dedup_is}
use Rattle.em_base.proofs.Lemmas.{sorted_is}
use Rattle.em_plan.specs.Jobs.{rising}
use Rattle.em_learning.proofs.waits.rising.Goals as goal

pub returns : goal.returns
returns c =
    let given = c.into_vec-numbers.result.items in
    let left = dedup_is nat_eq _ _ c.dedup.ensures.filtered in
    let once = sorted_is nat_cmp nat_cmp_total nat_cmp-IsAntisymmetric (λ (k : ℕ). k) nat_eq unsigned_ties given c.sort_unstable.new.self.items c.dedup.new.self.items c.sort_unstable.ensures.permutation c.sort_unstable.ensures.sorted left in
    c.from_vec.ensures ∙ sym (map-id c.dedup.new.self.items) ∙ once ∙ ap rising (map-id given ∙ c.into_vec-numbers.ensures)
