use Rattle.std.proofs.Common.{◌==◌, ◌∙◌, ◌++◌, ◌∷◌, List, ℕ, ap, cond, sym, take, arith}
use Rattle.em_wordlist.specs.Words.{joined}
use Rattle.em_wordlist.proofs.Spelling.{joined_next}
use Rattle.em_wordlist.proofs.word.join_texts.Goals as goal

pub loop-i-preserved : goal.loop-i-preserved
loop-i-preserved c =
    let texts = c.args.texts.now in
    let i = c.loop-i.i in
    c.in_ok-add_next.ensures
    ∙ ap (λ (t : List ℕ). t ++ cond (i == 0) c.bytes.result.now (32 ∷ c.bytes.result.now)) c.loop-i.invariant
    ∙ ap (λ (v : List ℕ). joined (take i texts) ++ cond (i == 0) v (32 ∷ v)) (c.bytes.ensures ∙ c.index-texts-i.is)
    ∙ sym (joined_next texts i c.index-texts-i.result (omega arith))
