use Rattle.std.proofs.Common.{◌≡◌, ◌∙◌, ap, subst, nat_eq, Bor, List, ℕ, map}
use Rattle.std.specs.Result.{IfOk}
use Rattle.std.specs.Cmp.Lexicographic.{pointwise, nat_list_cmp_total, texts_ties}
use Rattle.std.proofs.lemmas.List.Filters.{dedup_is}
use Rattle.em_base.proofs.Lemmas.{exact, order, sorted_is}
use Rattle.em_wordlist.specs.Words.{joined}
use Rattle.em_textfn.specs.Texts.{sorted}
use Rattle.em_textfn.proofs.list.sort.Goals as goal

pub returns : goal.returns
returns c =
    let words = c.in_ok-words.words.items in
    let now = λ (w : Bor (List ℕ)). w.now in
    let left = dedup_is (λ (x y : Bor (List ℕ)). pointwise nat_eq x.now y.now) _ _ c.dedup.ensures.filtered in
    let once = sorted_is order nat_list_cmp_total exact now (pointwise nat_eq) texts_ties words c.sort_unstable.new.self.items c.dedup.new.self.items c.sort_unstable.ensures.permutation c.sort_unstable.ensures.sorted left in
    let is = ap (map now) c.deref.ensures.value ∙ once ∙ ap sorted c.in_ok-words.ensures in
    subst (λ (ws : List (List ℕ)). IfOk c.join.result (λ t. t ≡ joined ws)) is c.join.ensures
