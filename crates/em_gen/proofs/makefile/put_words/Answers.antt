use Rattle.std.proofs.Common.{◌++◌, codes, decimal, ap, ◌∙◌, append_assoc}
use Rattle.em_gen.specs.Generated.{word_of}
use Rattle.em_gen.proofs.Pieces.{piece_more}
use Rattle.em_gen.proofs.makefile.put_words.Goals as goal

pub loop-i-preserved : goal.loop-i-preserved
loop-i-preserved c =
    let i = c.loop-i.i in
    piece_more word_of c.loop-i.out c.put_number.new.out _ i c.args.n c.loop-i-test.true
    (c.in_ok-put_number.ensures ∙ ap (λ o. o ++ decimal i) c.in_ok-add.ensures.ok ∙ append_assoc c.loop-i.out (codes " t") (decimal i)) c.loop-i.invariant
