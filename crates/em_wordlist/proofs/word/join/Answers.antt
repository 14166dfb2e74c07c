use Rattle.std.proofs.Common.{◌≡◌, ◌==◌, ◌∙◌, ◌++◌, ◌∷◌, [], Bor, List, ℕ, ap, cond, get_or, map, sym, take, arith}
use Rattle.std.proofs.Math.ListN.{get_or-map}
use Rattle.std.proofs.lemmas.List.{length-map}
use Rattle.em_wordlist.specs.Words.{joined}
use Rattle.em_wordlist.proofs.Spelling.{joined_next}
use Rattle.em_wordlist.proofs.word.join.Goals as goal

pub loop-i-preserved : goal.loop-i-preserved
loop-i-preserved c =
    let d : Bor (List ℕ) = record { ref_ptr = (0, 0); now = [] } in
    let words = c.args.words.now in
    let ws = map (λ (w : Bor (List ℕ)). w.now) words in
    let i = c.loop-i.i in
    let word = (get_or words i d).now in
    let is : get_or ws i [] ≡ word = get_or-map (λ (w : Bor (List ℕ)). w.now) words i d in
    c.in_ok-add_next.ensures
    ∙ ap (λ (t : List ℕ). t ++ cond (i == 0) word (32 ∷ word)) c.loop-i.invariant
    ∙ sym (joined_next ws i [] (omega (arith, length-map words (λ w. w.now))) ∙ ap (λ (v : List ℕ). joined (take i ws) ++ cond (i == 0) v (32 ∷ v)) is)
