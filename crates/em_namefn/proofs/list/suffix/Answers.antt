use Rattle.std.proofs.Common.{◌≡◌, ◌∙◌, ap, subst, rules, tests, Bor, List, ℕ, map, length}
use Rattle.std.specs.Prelude.{nat_lt}
use Rattle.std.specs.Result.{IfOk}
use Rattle.std.specs.List.{filter}
use Rattle.std.proofs.lemmas.Fn.{filter_same}
use Rattle.em_wordlist.specs.Words.{joined}
use Rattle.em_base.proofs.Lemmas.{map_filter}
use Rattle.em_namefn.proofs.list.suffix.Goals as goal

pub returns : goal.returns
returns c =
    let filled = λ (w : Bor (List ℕ)). nat_lt 0 (length w.now) in
    let parts = c.in_ok-suffixes.suffixes.items in
    let kept : c.retain.new.self.items ≡ filter filled parts = filter_same _ filled _ (λ x b q k. search (rules, tests)) parts c.retain.new.self.items c.retain.ensures.filtered in
    let is = ap (map (λ (w : Bor (List ℕ)). w.now)) (c.deref.ensures.value ∙ kept) ∙ map_filter (λ w. nat_lt 0 (length w)) (λ w. w.now) parts ∙ ap (filter (λ w. nat_lt 0 (length w))) c.in_ok-suffixes.ensures in
    subst (λ (ws : List (List ℕ)). IfOk c.join.result (λ t. t ≡ joined ws)) is c.join.ensures
