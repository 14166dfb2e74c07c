use Rattle.em_base.proofs.Lemmas.{left_at, none_at}
use Rattle.em_textutil.proofs.plain.strange_words.Goals as goal

pub loop-word-preserved : goal.loop-word-preserved
loop-word-preserved c =
    let left = left_at c.args.words.now c.loop-word.word-index c.word-item.result c.loop-word-test.true c.word-item.is in
    let inv = rw left at c.loop-word.invariant in
    rw (c.in_ok-fail.ensures.ok, c.bytes.ensures) inv

pub returns : goal.returns
returns c =
    let none = none_at c.args.words.now c.loop-word.word-index c.loop-word-test.false in
    rw none at c.loop-word.invariant
