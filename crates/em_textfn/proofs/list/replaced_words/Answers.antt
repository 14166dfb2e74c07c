use Rattle.std.proofs.Common.{◌≡◌, ◌<◌, ◌∙◌, [], ◌∷◌, ◌++◌, sym, ap, cond, Bool, Bor, List, ℕ, length, map, take, get_or, append-nil, arith}
use Rattle.std.proofs.lemmas.Bool.{lt-ltb, le-ltb}
use Rattle.std.proofs.lemmas.Bool.Decides.{nat_tests}
use Rattle.std.proofs.lemmas.List.{take_all}
use Rattle.em_wordlist.specs.Stems.{replaced}
use Rattle.em_textfn.specs.Texts.{nonempty}
use Rattle.em_base.proofs.Lemmas.{map_map}
use Rattle.em_textfn.proofs.Listing.{replaced_more}
use Rattle.em_textfn.proofs.list.replaced_words.Goals as goal
use Rattle.em_textfn.proofs.list.replaced_words.Goals.{then-not-is_empty+in_ok-push, else-not-is_empty}

pub loop-word-preserved : goal.loop-word-preserved
loop-word-preserved c =
    let d : Bor (List ℕ) = record { ref_ptr = (0, 0); now = [] } in
    let words = c.deref-word-items.result.now in
    let i = c.loop-word.word-index in
    let f = replaced c.args.p.now c.args.r.now in
    let is : c.in_ok-replaced.replaced ≡ f (get_or words i d).now = c.in_ok-replaced.ensures in
    let long : length c.bytes.result.now ≡ length (f (get_or words i d).now) = ap length (c.bytes.ensures ∙ is) in
    let kept = nonempty (map (λ (w : Bor (List ℕ)). f w.now) (take i words)) in
    let w = f (get_or words i d).now in
    elim c.if-not-is_empty.branch [
      | then-not-is_empty+in_ok-push b ↦
          let some : 0 < length c.bytes.result.now = grind (arith, nat_tests) in
          ap (λ v. v.items) b.kept-is
          ∙ b.in_ok-push.ensures.items
          ∙ (λ j. c.loop-word.invariant j ++ is j ∷ [])
          ∙ sym (replaced_more f words i d (omega arith) ∙ ap (λ (t : Bool). kept ++ cond t (w ∷ []) []) (lt-ltb 0 (length w) (omega arith)))
      | else-not-is_empty b ↦
          let none : length c.bytes.result.now ≡ 0 = grind (arith, nat_tests) in
          ap (λ v. v.items) b.kept-is
          ∙ c.loop-word.invariant
          ∙ sym (replaced_more f words i d (omega arith) ∙ ap (λ (t : Bool). kept ++ cond t (w ∷ []) []) (le-ltb 0 (length w) (omega arith)) ∙ append-nil kept)
    ]

pub returns : goal.returns
returns c =
    let words = c.deref-word-items.result.now in
    let f = replaced c.args.p.now c.args.r.now in
    c.loop-word.invariant
    ∙ ap (λ (rs : List (Bor (List ℕ))). nonempty (map (λ r. f r.now) rs)) (take_all c.loop-word.word-index words (omega arith))
    ∙ ap nonempty (sym (map_map f (λ r. r.now) words) ∙ ap (map f) (ap (map (λ (w : Bor (List ℕ)). w.now)) c.deref-word-items.ensures.value ∙ c.in_ok-texts.ensures))
