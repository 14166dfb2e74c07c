use Rattle.std.proofs.Common.{◌≡◌, ◌∙◌, ap, subst, rules, tests, min, length, ◌-◌, Bor, List, ℕ, map}
use Rattle.std.specs.Result.{IfOk}
use Rattle.em_wordlist.specs.Words.{joined}
use Rattle.em_textfn.specs.Texts.{word_range}
use Rattle.em_textfn.proofs.Listing.{range_of_words}
use Rattle.em_textfn.proofs.list.word_list.Goals as goal

pub returns : goal.returns
returns c =
    let words = c.deref.result.now in
    let is = range_of_words words c.args.s c.args.e c.min-start.result c.min-end.result c.requires (let e : c.min-end.result ≡ min c.args.e (length words) = search (rules, tests) in e) (let e : c.min-start.result ≡ min (c.args.s - 1) c.min-end.result = search (rules, tests) in e) ∙ ap (word_range c.args.s c.args.e) (ap (map (λ (w : Bor (List ℕ)). w.now)) c.deref.ensures.value ∙ c.in_ok-words.ensures) in
    subst (λ (ws : List (List ℕ)). IfOk c.join.result (λ t. t ≡ joined ws)) is c.join.ensures
