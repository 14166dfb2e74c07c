use Rattle.std.proofs.Common.{◌≡◌, ◌∙◌, sym, rules, is_some}
use Rattle.std.proofs.Common.{tests}
use Rattle.std.specs.List.{list_any}
use Rattle.std.proofs.lemmas.Iterator.{YieldsList-from_slice}
use Rattle.std.proofs.lemmas.Iterator.Search.{any_from_yields_List}
use Rattle.em_wordlist.specs.Stems.{stem_of}
use Rattle.em_base.proofs.Lemmas.{any_map}
use Rattle.em_textfn.proofs.list.matches.Goals as goal

pub returns : goal.returns
returns c =
    let word = c.args.word.now in
    let e : c.any.result ≡ list_any (λ p. is_some (stem_of p.now word)) c.args.patterns.now = any_from_yields_List (λ p. is_some (stem_of p.now word)) _ _ c.any.result c.any.ensures.ran (YieldsList-from_slice _ c.iter.ensures.rest) (λ x b q k. search (rules, tests)) in
    e ∙ sym (any_map (λ p. is_some (stem_of p word)) (λ p. p.now) c.args.patterns.now)
