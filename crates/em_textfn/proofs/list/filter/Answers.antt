use Rattle.std.proofs.Common.{◌≡◌, ◌∙◌, ap, subst, rules, tests, Bor, List, ℕ, map}
use Rattle.std.specs.Result.{IfOk}
use Rattle.std.specs.List.{filter}
use Rattle.std.proofs.lemmas.Fn.{filter_same}
use Rattle.em_wordlist.specs.Words.{joined, words_of}
use Rattle.em_textfn.specs.Texts.{matches}
use Rattle.em_base.proofs.Lemmas.{map_filter}
use Rattle.em_textfn.proofs.list.filter.Goals as goal

pub returns : goal.returns
returns c =
    let ps = map (λ (p : Bor (List ℕ)). p.now) c.in_ok-patterns.patterns.items in
    let words = c.in_ok-words.words.items in
    let kept : c.retain.new.self.items ≡ filter (λ w. matches ps w.now) words = filter_same _ (λ w. matches ps w.now) _ (λ x b q k. search (rules, tests)) words c.retain.new.self.items c.retain.ensures.filtered in
    let is = ap (map (λ (w : Bor (List ℕ)). w.now)) (c.deref.ensures.value ∙ kept) ∙ map_filter (matches ps) (λ w. w.now) words ∙ ap (filter (matches ps)) c.in_ok-words.ensures ∙ ap (λ (qs : List (List ℕ)). filter (matches qs) (words_of c.args.x.now)) c.in_ok-patterns.ensures in
    subst (λ (ws : List (List ℕ)). IfOk c.join.result (λ t. t ≡ joined ws)) is c.join.ensures
