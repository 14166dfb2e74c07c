use Rattle.em_wordlist.proofs.Spelling.{WordsTo, words_more, words_end, texts_are}
use Rattle.std.proofs.Common.{List, subst, sym}
use Rattle.em_base.specs.declared.place.Span.{Span}
use Rattle.em_wordlist.proofs.word.words.Goals as goal

pub loop-word-preserved : goal.loop-word-preserved
loop-word-preserved c =
    let e = c.in-Some.ensures in
    let more = words_more c.args.text.now c.loop-word.at c.loop-word.words.items c.in-Some.word c.loop-word.invariant e.0 e.1 e.2 in
    subst (λ (ss : List Span). WordsTo c.args.text.now c.in-Some.word.end ss) (sym c.in_ok-push.ensures.items) more

pub returns-clause-texts : goal.returns-clause-texts
returns-clause-texts c = texts_are c.args.text.now c.loop-word.words.items (words_end c.args.text.now c.loop-word.at c.loop-word.words.items c.loop-word.invariant c.in_default.ensures)
