-- A literal needs no expander.
use Rattle.std.proofs.Common.{◌≡◌, ◌&&◌, ◌==◌, ℕ, suc, Bool, true, false, List, [], ◌∷◌, ◌++◌, Option, Some, None, Ok, length, map, zip, refl, ap, ◌∙◌, append_assoc, arith}
use Rattle.std.specs.List.{list_all}
use Rattle.std.proofs.lemmas.Bool.{eqb-true, eq-eqb}
use Rattle.std.proofs.lemmas.List.{append-nil}
use Rattle.std.proofs.lemmas.Slice.Eq.{bytes_eq-Decides}
use Rattle.em_view.specs.Performs.{DeskState, Told, Performs}
use Rattle.em_view.specs.Steps.{Does}
use Rattle.em_view.proofs.Performing.{finish}
use Rattle.em_view.proofs.Doing.{then_s, finish_s}
use Rattle.em_syntax.specs.declared.tree.Command.TheOpen.{WordWhat-F}
use Rattle.em_syntax.specs.declared.tree.Word.{Word, out-Word}
use Rattle.em_syntax.specs.declared.tree.WordPiece.{WordPiece, out-WordPiece}
use Rattle.em_syntax.specs.Pieces.{What, what_in}
use Rattle.em_syntax.specs.Texts.{bytes_what, bytes_of_pieces, bytes_of}
use Rattle.em_fields.specs.Parts.{bytes, part_of, marked}
use Rattle.em_word.specs.Ends.{is_want}
use Rattle.em_word.specs.Literal.{literal_of}
use Rattle.em_word.specs.Turns.{Finished, turn}
use Rattle.em_word.specs.Words.{plan, taken_up, word_plan}
use Rattle.em_word.specs.declared.shell.Shell.{Shell}
use Rattle.em_view.specs.Actions.{done}
use Rattle.em_word.specs.declared.turn.Mode.TheVariants as mode
use Rattle.em_word.proofs.Literals.{literal_comes}
use Rattle.em_command.specs.declared.here.Here.{Here}
use Rattle.em_command.specs.declared.here.Scene.{Scene}
use Rattle.em_command.specs.Jumps.{is_free}
use Rattle.em_exec.specs.declared.expand.Expansion.TheVariants.{Fields}
use Rattle.em_exec.specs.Literals.{is_text, is_said, are_said}
use Rattle.em_exec.specs.Words.{Deeper, expanded, added, fields, whole}
use Rattle.em_exec.proofs.Holding.{by_turns}
use Rattle.em_exec.proofs.Looking.{worded_ok}

said_literal : (text : List ℕ) (o : Option (List ℕ)) → is_text text o ≡ true → o ≡ Some text
said_literal text None is = absurd cc
said_literal text (Some bytes) is = ap (λ t. Some t) ((bytes_eq-Decides bytes text).0 is)

both : (x y : Bool) → (x && y) ≡ true → (x ≡ true) × (y ≡ true)
both true y is = (refl, is)
both false y is = absurd cc

-- a piece of bytes that is neither split nor expanded to path names
plain_bytes : (q : Bool) (text : List ℕ) → bytes (map (part_of q) text) ≡ text
plain_bytes q [] = refl
plain_bytes q (b ∷ bs) = ap (λ l. b ∷ l) (plain_bytes q bs)

marked_bytes : (q : Bool) (text : List ℕ) → bytes (marked q text) ≡ text
marked_bytes true text = plain_bytes true text
marked_bytes false text = plain_bytes false text

some_is : (t u : List ℕ) → Some t ≡ Some u → t ≡ u
some_is t u is = cc

whole_piece : (w : What) (q : Bool) (shell : Shell) (text : List ℕ) → bytes_what w ≡ Some text → turn mode.Whole (taken_up w q [] [] (λ m us qs. plan m us qs [])) shell ≡ done (Finished (text ∷ []))
whole_piece (WordWhat-F.Bytes t) q shell text is = ap (λ l. done (Finished (l ∷ []))) (marked_bytes q t ∙ some_is t text is)
whole_piece (WordWhat-F.Value v) q shell text is = absurd cc
whole_piece (WordWhat-F.Argument v) q shell text is = absurd cc
whole_piece WordWhat-F.End q shell text is = absurd cc
whole_piece (WordWhat-F.Output s) q shell text is = absurd cc

whole_comes : (w : Word) (text : List ℕ) (shell : Shell) → bytes_of w ≡ Some text → turn mode.Whole (word_plan w) shell ≡ done (Finished (text ∷ []))
unfolding word_plan
whole_comes w text shell is = at (out-Word w).pieces.items is
  where
    at : (ps : List WordPiece) → bytes_of_pieces ps ≡ Some text → turn mode.Whole (plan 0 [] [] ps) shell ≡ done (Finished (text ∷ []))
    at [] k = absurd cc
    at (p ∷ []) k = whole_piece (what_in p) (out-WordPiece p).quoted shell text k
    at (p ∷ q ∷ ps) k = absurd cc

-- lists side by side, of one length
module _ {A B : Type 0} (f : A × B → Bool) where
  abbrev AllPairs : List A → List B → Bool
  AllPairs as' bs = (length as' == length bs) && list_all f (zip as' bs)

  one_more : (a : A) (as' : List A) (b : B) (bs : List B) → AllPairs (a ∷ as') (b ∷ bs) ≡ true → (f (a, b) ≡ true) × (AllPairs as' bs ≡ true)
  one_more a as' b bs is =
      let h = both (suc (length as') == suc (length bs)) (f (a, b) && list_all f (zip as' bs)) is in
      let k = both (f (a, b)) (list_all f (zip as' bs)) h.1 in
      let n : length as' ≡ length bs = omega (arith, eqb-true (suc (length as')) (suc (length bs)) h.0) in
      (k.0, rw (eq-eqb (length as') (length bs) n) k.1)

  none_left : (b : B) (bs : List B) → AllPairs [] (b ∷ bs) ≡ true → ⊥
  none_left b bs is = omega (arith, eqb-true 0 (suc (length bs)) (both (0 == suc (length bs)) true is).0)

  none_right : (a : A) (as' : List A) → AllPairs (a ∷ as') [] ≡ true → ⊥
  none_right a as' is = omega (arith, eqb-true (suc (length as')) 0 (both (suc (length as') == 0) true is).0)

abbrev says : List ℕ × Word → Bool
says p = is_said p.0 p.1

module _ {V : Type 0} {tells : V → Told} {d : DeskState V} {h : Here} (deeper : Deeper) (scene : Scene) where
  pub literal_s : (w : Word) (text : List ℕ) → literal_of w ≡ Some text → Does is_free tells d d h h (Ok (Fields (text ∷ []))) (expanded deeper scene mode.Fields w)
  unfolding expanded
  literal_s w text is =
      let p : Performs is_want tells d d (Ok (Finished (text ∷ []))) (turn mode.Fields (word_plan w) h.shell) = rw (literal_comes w text h.shell is) finish in
      rw (by_turns deeper scene mode.Fields (word_plan w)) (then_s _ (worded_ok (λ (g : Here). turn mode.Fields (word_plan w) g.shell) p) finish_s)

  pub whole_s : (w : Word) (text : List ℕ) → bytes_of w ≡ Some text → Does is_free tells d d h h (Ok text) (whole deeper scene w)
  unfolding whole expanded
  whole_s w text is =
      let p : Performs is_want tells d d (Ok (Finished (text ∷ []))) (turn mode.Whole (word_plan w) h.shell) = rw (whole_comes w text h.shell is) finish in
      let e : Does is_free tells d d h h (Ok (Fields (text ∷ []))) (expanded deeper scene mode.Whole w) = rw (by_turns deeper scene mode.Whole (word_plan w)) (then_s _ (worded_ok (λ (g : Here). turn mode.Whole (word_plan w) g.shell) p) finish_s) in
      then_s _ e finish_s

  -- texts that are said to be what words come to are it
  said_one : (so_far : List (List ℕ)) (w : Word) (text : List ℕ) → is_said text w ≡ true → Does is_free tells d d h h (Ok (so_far ++ text ∷ [])) (added deeper scene so_far w)
  unfolding added
  said_one so_far w text is = then_s _ (literal_s w text (said_literal text (literal_of w) is)) finish_s

  pub said_s : (so_far texts : List (List ℕ)) (ws : List Word) → are_said texts ws ≡ true → Does is_free tells d d h h (Ok (so_far ++ texts)) (fields deeper scene so_far ws)
  said_s so_far [] [] is = rw (append-nil so_far) finish_s
  said_s so_far [] (w ∷ ws) is = absurd (none_left says w ws is)
  said_s so_far (t ∷ ts) [] is = absurd (none_right says t ts is)
  said_s so_far (t ∷ ts) (w ∷ ws) is =
      let h = one_more says t ts w ws is in
      then_s _ (said_one so_far w t h.0) (rw (← append_assoc so_far (t ∷ []) ts) (said_s (so_far ++ t ∷ []) ts ws h.1))
