-- A word that is spelled nests.
use Rattle.std.proofs.Common.{◌≡◌, ◌∙◌, ℕ, zero, suc, inl, inr, List, [], ◌∷◌, map, Option, Some, None, refl, sym, ap}
use Rattle.em_grammar.specs.Gives.{Spells, all}
use Rattle.em_lexeme.specs.declared.lexeme.What.{What}
use Rattle.em_token.specs.Shell.{shell, Expr}
use Rattle.em_syntax.specs.Nesting.{Nesting, nesting_in, nesting_of, open_after, IsClosed}
use Rattle.em_syntax.proofs.Counting.{counted_nests}
use Rattle.em_syntax.proofs.Variants.{is_bytes, is_value, is_argument, is_end, is_output}
use Rattle.em_syntax.specs.declared.tree.Word.{Word, out-Word}
use Rattle.em_syntax.specs.declared.tree.WordPiece.{WordPiece, out-WordPiece}
use Rattle.em_gram.specs.Patterns.{if_closed, what_spelled_as, word_spelling}
use Rattle.em_gram.specs.Nesting.{piece_pattern, piece_nesting}
use Rattle.em_gram.proofs.Spellings.{piece_is, word_is, what_Bytes, what_Value, what_Argument, what_End, what_Output}
use Rattle.em_gram.proofs.Shapes.{WordWhat_case, what_cases}
use Rattle.em_gram.proofs.Nested.{pieces_pattern}

piece_nests : (p : WordPiece) → piece_nesting p ≡ nesting_of p
piece_nests p = at (what_cases (out-WordPiece p).what)
  where
    at : WordWhat_case (out-WordPiece p).what → piece_nesting p ≡ nesting_of p
    at (inl (t, e)) = ap (λ s. s.nesting) (piece_is p ∙ ap (λ z. what_spelled_as z (out-WordPiece p).quoted) e ∙ ap (λ h. h (out-WordPiece p).quoted) (what_Bytes t)) ∙ sym (ap nesting_in (is_bytes p t e))
    at (inr (inl (v, e))) = ap (λ s. s.nesting) (piece_is p ∙ ap (λ z. what_spelled_as z (out-WordPiece p).quoted) e ∙ ap (λ h. h (out-WordPiece p).quoted) (what_Value v)) ∙ sym (ap nesting_in (is_value p v e))
    at (inr (inr (inl (v, e)))) = ap (λ s. s.nesting) (piece_is p ∙ ap (λ z. what_spelled_as z (out-WordPiece p).quoted) e ∙ ap (λ h. h (out-WordPiece p).quoted) (what_Argument v)) ∙ sym (ap nesting_in (is_argument p v e))
    at (inr (inr (inr (inl e)))) = ap (λ s. s.nesting) (piece_is p ∙ ap (λ z. what_spelled_as z (out-WordPiece p).quoted) e ∙ ap (λ h. h (out-WordPiece p).quoted) what_End) ∙ sym (ap nesting_in (is_end p e))
    at (inr (inr (inr (inr (s, e))))) = ap (λ s. s.nesting) (piece_is p ∙ ap (λ z. what_spelled_as z (out-WordPiece p).quoted) e ∙ ap (λ h. h (out-WordPiece p).quoted) (what_Output s)) ∙ sym (ap nesting_in (is_output p s e))

pieces_nest : (ps : List WordPiece) → map piece_nesting ps ≡ map nesting_of ps
pieces_nest [] = refl
pieces_nest (p ∷ ps) = λ i. piece_nests p i ∷ pieces_nest ps i

spelled_closed : (o : Option ℕ) (e : Expr) (ts rest : List What) → Spells shell (if_closed o e) ts rest → o ≡ Some 0
spelled_closed None e ts rest h = absurd (let k = h.1 in cc)
spelled_closed (Some zero) e ts rest h = refl
spelled_closed (Some (suc n)) e ts rest h = absurd (let k = h.1 in cc)

pub words_nest : (w : Word) (ts rest : List What) → Spells shell (word_spelling w).pattern ts rest → IsClosed (out-Word w).pieces.items
words_nest w ts rest h =
    let ps = (out-Word w).pieces.items in
    counted_nests ps (ap (open_after 0) (sym (pieces_nest ps)) ∙ spelled_closed (open_after 0 (map piece_nesting ps)) (all (map piece_pattern ps)) ts rest (rw (ap (λ s. s.pattern) (word_is w) ∙ pieces_pattern ps) at h))
