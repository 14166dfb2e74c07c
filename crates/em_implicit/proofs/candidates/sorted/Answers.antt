use Rattle.std.proofs.Common.{rules, ◌∙◌, ap, map, length}
use Rattle.std.proofs.lemmas.List.Sorted.{answers_always, IsNonDecreasingBy-from_sort}
use Rattle.em_implicit.specs.declared.candidates.Candidate.{Candidate}
use Rattle.em_implicit.specs.Seeking.{seen, stem_size}
use Rattle.em_implicit.proofs.Stems.{sort_is, sorted_map}
use Rattle.em_implicit.proofs.candidates.sorted.Goals as goal

pub returns : goal.returns
returns c =
    let size = λ (h : Candidate). length h.found.stem in
    let before = c.args.all.items in
    let after = c.sort_by_key.new.self.items in
    let up = IsNonDecreasingBy-from_sort size after (c.in_ok-sort_by_key.ensures.sorted size (answers_always _ _ _ (λ f a r g called. search rules))) in
    let stable = c.sort_by_key.ensures.stable size (answers_always _ _ _ (λ f a r g called. search rules)) in
    ap (map seen) (sort_is size before after up stable) ∙ sorted_map seen stem_size before
