use Rattle.std.proofs.Common.{◌≡◌, ◌∙◌, ◌+◌, ◌<◌, ◌∷◌, ◌++◌, [], List, ℕ, Bor, map, length, drop, sym, ap, append_assoc, add-one, arith}
use Rattle.std.proofs.lemmas.List.{length-map}
use Rattle.std.specs.Prelude.{max}
use Rattle.em_namefn.specs.Names.{pairs}
use Rattle.em_namefn.proofs.Pairing.{at, pairs_at}
use Rattle.em_namefn.proofs.list.pairs.Goals as goal

pub loop-n-preserved : goal.loop-n-preserved
loop-n-preserved c =
    let texts = map (λ (w : Bor (List ℕ)). w.now) in
    let a = texts c.args.a.now in
    let b = texts c.args.b.now in
    let i = c.loop-n.n in
    let text : c.in_ok-both.field-0 ≡ at a i ++ at b i = c.in_ok-both.ensures ∙ ap (λ (w : List ℕ). w ++ c.word_at-in-loop-n.result.now) c.word_at.ensures ∙ ap (λ (w : List ℕ). at a i ++ w) c.word_at-in-loop-n.ensures in
    let low : i < max (length a) (length b) = rw (length-map c.args.a.now, length-map c.args.b.now) (omega (arith, c.loop-n-test.true, c.max-n-end.ensures)) in
    let rest = pairs (drop (i + 1) a) (drop (i + 1) b) in
    let one : pairs (drop i a) (drop i b) ≡ (at a i ++ at b i) ∷ rest = rw add-one (pairs_at a b i low) in
    ap (λ (ts : List (List ℕ)). ts ++ rest) (c.in_ok-push.ensures.items ∙ ap (λ (t : List ℕ). c.loop-n.all.items ++ t ∷ []) text)
    ∙ append_assoc c.loop-n.all.items ((at a i ++ at b i) ∷ []) rest ∙ ap (λ (ts : List (List ℕ)). c.loop-n.all.items ++ ts) (sym one) ∙ c.loop-n.invariant
