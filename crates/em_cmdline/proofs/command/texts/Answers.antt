use Rattle.std.proofs.Common.{◌≡◌, ◌∙◌, ◌++◌, ◌∷◌, [], ap₂, refl, inr, true}
use Rattle.std.proofs.lemmas.List.{map-append}
use Rattle.std.proofs.lemmas.List.{take_more}
use Rattle.std.proofs.lemmas.List.Folds.{list_all_at, list_all_more}
use Rattle.std.proofs.lemmas.Str.{IsUtf8-from_is_utf8, is_utf8-from_IsUtf8}
use Rattle.std.proofs.lemmas.Bool.{and_from, false_from_ne_true}
use Rattle.std.specs.Str.{is_utf8}
use Rattle.em_cmdline.proofs.command.texts.Goals as goal

pub returns-in-Err-clause-err : goal.returns-in-Err-clause-err
returns-in-Err-clause-err c = inr (
  refl,
  list_all_at is_utf8 c.args.words.now c.loop-word.word-index c.word-item.result c.loop-word-test.true (
      rw (← c.word-item.is, ← c.bytes.ensures) (false_from_ne_true _ (λ is. c.in-Err.ensures.cases.0 (IsUtf8-from_is_utf8 _ is)))),
)

pub loop-word-preserved : goal.loop-word-preserved
loop-word-preserved c =
    let words = c.args.words.now in
    let i = c.loop-word.word-index in
    let word = c.word-item.result in
    let text : is_utf8 word ≡ true = rw (← c.bytes.ensures) (is_utf8-from_IsUtf8 _ c.in-Ok.ensures.cases.1) in (
      list_all_more is_utf8 words i word c.loop-word-test.true ∙ and_from _ _ c.loop-word.invariant.0 (rw (← c.word-item.is) text),
      rw (c.in_ok-push-in-Ok.ensures.items, take_more words i word c.loop-word-test.true, ← c.word-item.is, map-append) (
          ap₂ (λ ts t. ts ++ t ∷ []) c.loop-word.invariant.1 (c.in-Ok.ensures.cases.0 ∙ c.bytes.ensures)),
    )
