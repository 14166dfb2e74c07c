use Rattle.std.proofs.Common.{◌≡◌, ◌∙◌, ◌++◌, ◌∷◌, [], map, option_map, Some, ap, ap₂, sym, inr}
use Rattle.std.proofs.lemmas.List.{map-append, take_more, take_all}
use Rattle.em_syntax.specs.Texts.{bytes_of}
use Rattle.em_syntax.proofs.texts.texts_of.Goals as goal

pub loop-word-init : goal.loop-word-init
loop-word-init c = ap (λ l. map (λ t. Some t) l) (sym c.new-texts.ensures.items)

pub loop-word-preserved : goal.loop-word-preserved
loop-word-preserved c =
    rw (c.in_ok-push-in-Some.ensures.items, take_more c.args.words.now c.loop-word.word-index c.word-item.result c.loop-word-test.true, ← c.word-item.is, map-append, map-append)
    (ap₂ (λ ts t. ts ++ t ∷ []) c.loop-word.invariant (sym c.bytes.ensures ∙ ap (λ o. option_map (λ t. t.now) o) c.in-Some.is ∙ ap (λ t. Some t) (sym c.in_ok-copy-in-Some.ensures)))

pub returns : goal.returns
returns c = inr (ap (λ l. map bytes_of l) (sym (take_all c.loop-word.word-index c.args.words.now c.loop-word-test.false)) ∙ c.loop-word.invariant)
