-- Words that are one text come to it in any shell, where they are neither split nor expanded to
-- path names.
use Rattle.std.proofs.Common.{◌≡◌, ◌∙◌, ℕ, Bool, true, false, List, [], ◌∷◌, map, Some, Ok, refl, ap}
use Rattle.em_view.specs.Actions as action
use Rattle.em_view.specs.Actions.{Oracle, Workspace}
use Rattle.em_view.specs.Steps.{and_then, done}
use Rattle.em_syntax.specs.declared.tree.Command.TheOpen.{WordWhat-F}
use Rattle.em_syntax.specs.declared.tree.Script.{Script}
use Rattle.em_syntax.specs.declared.tree.Word.{Word, out-Word}
use Rattle.em_syntax.specs.declared.tree.WordPiece.{WordPiece, out-WordPiece}
use Rattle.em_syntax.specs.Pieces.{What, what_in}
use Rattle.em_fields.specs.declared.part.Part.{Part}
use Rattle.em_fields.specs.Parts.{part_of, marked, bytes}
use Rattle.em_word.specs.declared.turn.Mode.TheVariants as mode
use Rattle.em_word.specs.Talk.{Ends as Told}
use Rattle.em_word.specs.Values.{Plan}
use Rattle.em_word.specs.Words.{plan, taken_up, word_plan}
use Rattle.em_word.specs.Literal.{stands_alone, text_in, text_of_pieces, literal_of}
use Rattle.em_command.specs.declared.here.Here.{Here}
use Rattle.em_command.specs.declared.here.Scene.{Scene}
use Rattle.em_exec.specs.Words.{Deeper, worded, first_in, fields_in, hold, expanded, whole}
use Rattle.em_shell_laws.specs.Ends.{Ends}

bytes_of_text : (q : Bool) (text : List ℕ) → bytes (map (part_of q) text) ≡ text
bytes_of_text q [] = refl
bytes_of_text q (b ∷ bs) = ap (λ l. b ∷ l) (bytes_of_text q bs)

bytes_of_marked : (q : Bool) (text : List ℕ) → bytes (marked q text) ≡ text
bytes_of_marked true text = bytes_of_text true text
bytes_of_marked false text = bytes_of_text false text

some_is : (t u : List ℕ) → Some t ≡ Some u → t ≡ u
some_is t u e = cc

abbrev IsPlanned : Plan Script → Bool → List ℕ → Type 0
IsPlanned p q text = p ≡ Told (marked q text)

piece_planned : (w : What) (q : Bool) (text : List ℕ) → text_in w q ≡ Some text → IsPlanned (taken_up w q [] [] (λ m us qs. plan m us qs [])) q text
piece_planned (WordWhat-F.Bytes t) q text e = at (stands_alone q t) refl e
  where
    at : (b : Bool) → stands_alone q t ≡ b → text_in (WordWhat-F.Bytes t) q ≡ Some text → IsPlanned (Told (marked q t)) q text
    at true i k = ap (λ (l : List ℕ). let p : Plan Script = Told (marked q l) in p) (some_is t text (rw i at k))
    at false i k = absurd (let n = rw i at k in cc)
piece_planned (WordWhat-F.Value v) q text e = absurd cc
piece_planned (WordWhat-F.Argument v) q text e = absurd cc
piece_planned WordWhat-F.End q text e = absurd cc
piece_planned (WordWhat-F.Output s) q text e = absurd cc

planned : (w : Word) (text : List ℕ) → literal_of w ≡ Some text → (q : Bool) × IsPlanned (word_plan w) q text
unfolding word_plan
planned w text e = at (out-Word w).pieces.items e
  where
    at : (ps : List WordPiece) → text_of_pieces ps ≡ Some text → (q : Bool) × IsPlanned (plan 0 [] [] ps) q text
    at [] k = absurd cc
    at (p ∷ []) k = ((out-WordPiece p).quoted, piece_planned (what_in p) (out-WordPiece p).quoted text k)
    at (p ∷ r ∷ ps) k = absurd cc

module _ (deeper : Deeper) (scene : Scene) (o : Oracle) (h : Here) (v : Workspace) where
  held : (ps : List Part) → and_then (hold deeper scene mode.Whole (Told ps)) (λ e. done (first_in (fields_in e))) h o v ≡ (Ok (bytes ps, h), v)
  unfolding and_then action.◌>>=◌ worded done action.done
  held ps = refl

  pub literal_whole : (w : Word) (text : List ℕ) → literal_of w ≡ Some text → Ends o (whole deeper scene w) h v text h v
  unfolding whole expanded
  literal_whole w text e =
      let is = planned w text e in
      ap (λ (p : Plan Script). and_then (hold deeper scene mode.Whole p) (λ x. done (first_in (fields_in x))) h o v) is.1
      ∙ held (marked is.0 text) ∙ rw (bytes_of_marked is.0 text) refl
