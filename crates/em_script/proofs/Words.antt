-- Words of one shape have one plan, but for their scripts.
use Rattle.std.proofs.Common.{◌≡◌, ◌∙◌, inl, inr, ℕ, zero, suc, Bool, true, List, [], ◌∷◌, map, Option, Some, None, refl, sym, ap, arith}
use Rattle.em_syntax.specs.declared.tree.Command.TheOpen.{WordWhat-F}
use Rattle.em_syntax.specs.declared.tree.Script.{Script}
use Rattle.em_syntax.specs.declared.tree.Value.{Value}
use Rattle.em_syntax.specs.declared.tree.Word.{Word, out-Word}
use Rattle.em_syntax.specs.declared.tree.WordPiece.{WordPiece, out-WordPiece}
use Rattle.em_syntax.specs.declared.tree.WordWhat.{WordWhat}
use Rattle.em_syntax.specs.Pieces.{What, what_in}
use Rattle.em_syntax.proofs.Variants.{is_bytes, is_value, is_argument, is_end, is_output}
use Rattle.em_gram.specs.Same.{Shape, nothing, pair, bytes, flag, variant, row, value_shaped, script_shape, word_shape, piece_shape, what_shape}
use Rattle.em_gram.proofs.Shapes.{word_shape_is, piece_shape_is, WordWhat_case, what_cases, what_shape_Bytes, what_shape_Value, what_shape_Argument, what_shape_End, what_shape_Output}
use Rattle.em_fields.specs.declared.part.Part.{Part}
use Rattle.em_fields.specs.declared.form.Form.{Form}
use Rattle.em_fields.specs.declared.form.Late.{Late}
use Rattle.em_fields.specs.Forms.{form_of, early_value, late_value}
use Rattle.em_fields.specs.Parts.{marked, joined}
use Rattle.em_word.specs.Talk.{Pays, Looks, and_then}
use Rattle.em_word.specs.Values.{Plan, charged, text_of, close, output_piece, value_piece}
use Rattle.em_word.specs.Words.{Around, Next, and_part, if_early, begun, ended, passed, taken_up, piece, plan, word_plan}
use Rattle.em_script.proofs.Asking.{asking, then_asking, close_asking, value_asking}
use Rattle.em_script.proofs.Shaped.{first_same, second_same, inner_same, place_same, bytes_same, flag_same, in_pairs}

-- a piece's shape and what it is
pub data View (p : WordPiece) : Type 0 where
  text : (t : List ℕ) → piece_shape p ≡ pair (flag (out-WordPiece p).quoted) (variant 0 (bytes t)) → what_in p ≡ WordWhat-F.Bytes t → View p
  value : (v : Value) → piece_shape p ≡ pair (flag (out-WordPiece p).quoted) (variant 1 (value_shaped v)) → what_in p ≡ WordWhat-F.Value v → View p
  argument : (v : Value) → piece_shape p ≡ pair (flag (out-WordPiece p).quoted) (variant 2 (value_shaped v)) → what_in p ≡ WordWhat-F.Argument v → View p
  end : piece_shape p ≡ pair (flag (out-WordPiece p).quoted) (variant 3 nothing) → what_in p ≡ WordWhat-F.End → View p
  output : (s : Script) → piece_shape p ≡ pair (flag (out-WordPiece p).quoted) (variant 4 (script_shape s)) → what_in p ≡ WordWhat-F.Output s → View p

pub view : (p : WordPiece) → View p
view p = at (what_cases (out-WordPiece p).what)
  where
    shape : (x : WordWhat) (a : Shape) → (out-WordPiece p).what ≡ x → what_shape x ≡ a → piece_shape p ≡ pair (flag (out-WordPiece p).quoted) a
    shape x a e i = piece_shape_is p ∙ ap (λ w. pair (flag (out-WordPiece p).quoted) (what_shape w)) e ∙ ap (pair (flag (out-WordPiece p).quoted)) i

    at : WordWhat_case (out-WordPiece p).what → View p
    at (inl (x, e)) = text x (shape _ _ e (what_shape_Bytes x)) (is_bytes p x e)
    at (inr (inl (x, e))) = value x (shape _ _ e (what_shape_Value x)) (is_value p x e)
    at (inr (inr (inl (x, e)))) = argument x (shape _ _ e (what_shape_Argument x)) (is_argument p x e)
    at (inr (inr (inr (inl e)))) = end (shape _ _ e what_shape_End) (is_end p e)
    at (inr (inr (inr (inr (x, e))))) = output x (shape _ _ e (what_shape_Output x)) (is_output p x e)

apart : {a b : Bool} {j k : ℕ} {s t : Shape} {A : Type 0} → pair (flag a) (variant j s) ≡ pair (flag b) (variant k t) → (j ≡ k → ⊥) → A
apart e n = absurd (n (place_same (second_same e)))

module _ {R : Type 0} (f : Script → R) (F : (s t : Script) → script_shape s ≡ script_shape t → f s ≡ f t) where
  -- what follows is the same in both
  abbrev Alike : Next → Next → Type 0
  Alike k l = (n : ℕ) (os : List Around) (ps : List Part) → asking f (k n os ps) ≡ asking f (l n os ps)

  module _ (k l : Next) (h : Alike k l) where
    part_alike : (s t : Plan Script) (os : List Around) (ps : List Part) → asking f s ≡ asking f t → asking f (and_part s os ps k) ≡ asking f (and_part t os ps l)
    part_alike s t os ps e =
        then_asking f s (λ more. k 0 os (joined ps more))
        ∙ (λ i. and_then (e i) (λ more. h 0 os (joined ps more) i))
        ∙ sym (then_asking f t (λ more. l 0 os (joined ps more)))

    early_alike : (x : Option (List ℕ)) (late : Late) (q : Bool) (name : List ℕ) (os : List Around) (ps : List Part) → asking f (if_early x late q name os ps k) ≡ asking f (if_early x late q name os ps l)
    early_alike None late q name os ps = h 0 (record { quoted = q; late = late; name = name; parts = ps } ∷ os) []
    early_alike (Some given) late q name os ps =
        then_asking f (charged (marked q given)) (λ more. k 1 os (joined ps more))
        ∙ (λ i. and_then (asking f (charged (marked q given))) (λ more. h 1 os (joined ps more) i))
        ∙ sym (then_asking f (charged (marked q given)) (λ more. l 1 os (joined ps more)))

    begun_alike : (g : Option Form) (q : Bool) (name : List ℕ) (os : List Around) (ps : List Part) → asking f (begun g q name os ps k) ≡ asking f (begun g q name os ps l)
    begun_alike None q name os ps = refl
    begun_alike (Some g) q name os ps = λ i. Looks (λ shell. early_alike (early_value g (text_of shell name) shell.status) (late_value g) q name os ps i)

    ended_alike : (os : List Around) (ps : List Part) → asking f (ended os ps k) ≡ asking f (ended os ps l)
    ended_alike [] ps = h 0 [] ps
    ended_alike (o ∷ os) ps = part_alike (close o.late o.quoted o.name ps) (close o.late o.quoted o.name ps) os o.parts refl

    value_same : {v w : Value} → value_shaped v ≡ value_shaped w → (v.name ≡ w.name) × (v.form ≡ w.form)
    value_same e = (bytes_same (first_same e), bytes_same (second_same e))

    taken_alike : (p q : WordPiece) (os : List Around) (ps : List Part) → piece_shape p ≡ piece_shape q → asking f (taken_up (what_in p) (out-WordPiece p).quoted os ps k) ≡ asking f (taken_up (what_in q) (out-WordPiece q).quoted os ps l)
    taken_alike p q os ps e = at (view p) (view q)
      where
        by : (w x : What) → what_in p ≡ w → what_in q ≡ x → asking f (taken_up w (out-WordPiece p).quoted os ps k) ≡ asking f (taken_up x (out-WordPiece q).quoted os ps l) → asking f (taken_up (what_in p) (out-WordPiece p).quoted os ps k) ≡ asking f (taken_up (what_in q) (out-WordPiece q).quoted os ps l)
        by w x m n i = ap (λ z. asking f (taken_up z (out-WordPiece p).quoted os ps k)) m ∙ i ∙ sym (ap (λ z. asking f (taken_up z (out-WordPiece q).quoted os ps l)) n)

        at : View p → View q → asking f (taken_up (what_in p) (out-WordPiece p).quoted os ps k) ≡ asking f (taken_up (what_in q) (out-WordPiece q).quoted os ps l)
        at (text t s m) (text u r n) =
            let d = sym s ∙ e ∙ r in
            by _ _ m n (h 0 os (joined ps (marked (out-WordPiece p).quoted t)) ∙ (λ i. asking f (l 0 os (joined ps (marked (flag_same (first_same d) i) (bytes_same (inner_same (second_same d)) i))))))
        at (value v s m) (value w r n) =
            let d = sym s ∙ e ∙ r in
            let c = value_same (inner_same (second_same d)) in
            by _ _ m n (part_alike (value_piece (out-WordPiece p).quoted v.name v.form None) (value_piece (out-WordPiece q).quoted w.name w.form None) os ps (λ i. asking f (value_piece (flag_same (first_same d) i) (c.0 i) (c.1 i) None)))
        at (argument v s m) (argument w r n) =
            let d = sym s ∙ e ∙ r in
            let c = value_same (inner_same (second_same d)) in
            by _ _ m n (ap (Pays 1) (begun_alike (form_of v.name v.form true) (out-WordPiece p).quoted v.name os ps ∙ (λ i. asking f (begun (form_of (c.0 i) (c.1 i) true) (flag_same (first_same d) i) (c.0 i) os ps l))))
        at (end s m) (end r n) = by _ _ m n (ended_alike os ps)
        at (output x s m) (output y r n) =
            let d = sym s ∙ e ∙ r in
            by _ _ m n (part_alike (output_piece (out-WordPiece p).quoted x) (output_piece (out-WordPiece q).quoted y) os ps
            (λ i. output_piece (flag_same (first_same d) i) (F x y (inner_same (second_same d)) i)))
        at (text t s m) (value w r n) = apart (sym s ∙ e ∙ r) (λ i. omega (arith, i))
        at (text t s m) (argument w r n) = apart (sym s ∙ e ∙ r) (λ i. omega (arith, i))
        at (text t s m) (end r n) = apart (sym s ∙ e ∙ r) (λ i. omega (arith, i))
        at (text t s m) (output w r n) = apart (sym s ∙ e ∙ r) (λ i. omega (arith, i))
        at (value t s m) (text w r n) = apart (sym s ∙ e ∙ r) (λ i. omega (arith, i))
        at (value t s m) (argument w r n) = apart (sym s ∙ e ∙ r) (λ i. omega (arith, i))
        at (value t s m) (end r n) = apart (sym s ∙ e ∙ r) (λ i. omega (arith, i))
        at (value t s m) (output w r n) = apart (sym s ∙ e ∙ r) (λ i. omega (arith, i))
        at (argument t s m) (text w r n) = apart (sym s ∙ e ∙ r) (λ i. omega (arith, i))
        at (argument t s m) (value w r n) = apart (sym s ∙ e ∙ r) (λ i. omega (arith, i))
        at (argument t s m) (end r n) = apart (sym s ∙ e ∙ r) (λ i. omega (arith, i))
        at (argument t s m) (output w r n) = apart (sym s ∙ e ∙ r) (λ i. omega (arith, i))
        at (end s m) (text w r n) = apart (sym s ∙ e ∙ r) (λ i. omega (arith, i))
        at (end s m) (value w r n) = apart (sym s ∙ e ∙ r) (λ i. omega (arith, i))
        at (end s m) (argument w r n) = apart (sym s ∙ e ∙ r) (λ i. omega (arith, i))
        at (end s m) (output w r n) = apart (sym s ∙ e ∙ r) (λ i. omega (arith, i))
        at (output t s m) (text w r n) = apart (sym s ∙ e ∙ r) (λ i. omega (arith, i))
        at (output t s m) (value w r n) = apart (sym s ∙ e ∙ r) (λ i. omega (arith, i))
        at (output t s m) (argument w r n) = apart (sym s ∙ e ∙ r) (λ i. omega (arith, i))
        at (output t s m) (end r n) = apart (sym s ∙ e ∙ r) (λ i. omega (arith, i))

    -- how pieces of one shape nest
    passed_alike : (n : ℕ) (p q : WordPiece) (os : List Around) (ps : List Part) → piece_shape p ≡ piece_shape q → asking f (passed n (what_in p) os ps k) ≡ asking f (passed n (what_in q) os ps l)
    passed_alike n p q os ps e = at (view p) (view q)
      where
        by : (w x : What) → what_in p ≡ w → what_in q ≡ x → asking f (passed n w os ps k) ≡ asking f (passed n x os ps l) → asking f (passed n (what_in p) os ps k) ≡ asking f (passed n (what_in q) os ps l)
        by w x m i j = ap (λ z. asking f (passed n z os ps k)) m ∙ j ∙ sym (ap (λ z. asking f (passed n z os ps l)) i)

        at : View p → View q → asking f (passed n (what_in p) os ps k) ≡ asking f (passed n (what_in q) os ps l)
        at (argument v s m) (argument w r i) = by _ _ m i (h (suc (suc n)) os ps)
        at (end s m) (end r i) = by _ _ m i (h n os ps)
        at (text v s m) (text w r i) = by _ _ m i (h (suc n) os ps)
        at (text v s m) (value w r i) = by _ _ m i (h (suc n) os ps)
        at (text v s m) (output w r i) = by _ _ m i (h (suc n) os ps)
        at (value v s m) (text w r i) = by _ _ m i (h (suc n) os ps)
        at (value v s m) (value w r i) = by _ _ m i (h (suc n) os ps)
        at (value v s m) (output w r i) = by _ _ m i (h (suc n) os ps)
        at (output v s m) (text w r i) = by _ _ m i (h (suc n) os ps)
        at (output v s m) (value w r i) = by _ _ m i (h (suc n) os ps)
        at (output v s m) (output w r i) = by _ _ m i (h (suc n) os ps)
        at (argument v s m) (text w r i) = apart (sym s ∙ e ∙ r) (λ j. omega (arith, j))
        at (argument v s m) (value w r i) = apart (sym s ∙ e ∙ r) (λ j. omega (arith, j))
        at (argument v s m) (end r i) = apart (sym s ∙ e ∙ r) (λ j. omega (arith, j))
        at (argument v s m) (output w r i) = apart (sym s ∙ e ∙ r) (λ j. omega (arith, j))
        at (end s m) (text w r i) = apart (sym s ∙ e ∙ r) (λ j. omega (arith, j))
        at (end s m) (value w r i) = apart (sym s ∙ e ∙ r) (λ j. omega (arith, j))
        at (end s m) (argument w r i) = apart (sym s ∙ e ∙ r) (λ j. omega (arith, j))
        at (end s m) (output w r i) = apart (sym s ∙ e ∙ r) (λ j. omega (arith, j))
        at (text v s m) (argument w r i) = apart (sym s ∙ e ∙ r) (λ j. omega (arith, j))
        at (value v s m) (argument w r i) = apart (sym s ∙ e ∙ r) (λ j. omega (arith, j))
        at (output v s m) (argument w r i) = apart (sym s ∙ e ∙ r) (λ j. omega (arith, j))
        at (text v s m) (end r i) = apart (sym s ∙ e ∙ r) (λ j. omega (arith, j))
        at (value v s m) (end r i) = apart (sym s ∙ e ∙ r) (λ j. omega (arith, j))
        at (output v s m) (end r i) = apart (sym s ∙ e ∙ r) (λ j. omega (arith, j))

    piece_alike : (n : ℕ) (p q : WordPiece) (os : List Around) (ps : List Part) → piece_shape p ≡ piece_shape q → asking f (piece n (what_in p) (out-WordPiece p).quoted os ps k) ≡ asking f (piece n (what_in q) (out-WordPiece q).quoted os ps l)
    piece_alike zero p q os ps e = taken_alike p q os ps e
    piece_alike (suc n) p q os ps e = passed_alike n p q os ps e

  pieces_alike : (ps qs : List WordPiece) → row (map piece_shape ps) ≡ row (map piece_shape qs) → Alike (λ n os parts. plan n os parts ps) (λ n os parts. plan n os parts qs)
  pieces_alike = in_pairs piece_shape (λ ps qs. Alike (λ n os parts. plan n os parts ps) (λ n os parts. plan n os parts qs)) (λ n os parts. refl)
      (λ p q ps qs e h n os parts. piece_alike (λ n os parts. plan n os parts ps) (λ n os parts. plan n os parts qs) h n p q os parts e)

  pub words_alike : (v w : Word) → word_shape v ≡ word_shape w → asking f (word_plan v) ≡ asking f (word_plan w)
  unfolding word_plan
  words_alike v w e = pieces_alike (out-Word v).pieces.items (out-Word w).pieces.items (sym (word_shape_is v) ∙ e ∙ word_shape_is w) 0 [] []
