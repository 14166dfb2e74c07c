-- Words that are being read, and how their pieces are spelled.
use Rattle.std.proofs.Common.{◌≡◌, ℕ, suc, ◌+◌, List, [], ◌∷◌, ◌++◌, map, Some, refl, ap, ◌∙◌, arith}
use Rattle.std.proofs.lemmas.List.{map-append}
use Rattle.std.specs.declared.vec.Vec.{Vec}
use Rattle.em_grammar.specs.Gives.{all}
use Rattle.em_gram.specs.Patterns.{piece_spelling, word_spelling, of_pieces, if_closed}
use Rattle.em_gram.specs.Nesting.{piece_pattern, piece_nesting}
use Rattle.em_syntax.specs.Nesting.{Nesting, Stays, Opens, Closes, open_after}
use Rattle.em_syntax.proofs.Counting.{open_more}
use Rattle.em_syntax.specs.declared.tree.Word.{roll-Word}
use Rattle.em_syntax.specs.declared.tree.WordPiece.{WordPiece}
use Rattle.em_gram.proofs.Spellings.{word_made}

pub parts_add : (ps qs : List WordPiece) (p : WordPiece) → qs ≡ ps ++ p ∷ [] → map piece_pattern qs ≡ map piece_pattern ps ++ piece_pattern p ∷ []
parts_add ps qs p e = rw e (map-append piece_pattern ps (p ∷ []))

counted_add : (n m : ℕ) (ps qs : List WordPiece) (p : WordPiece) → qs ≡ ps ++ p ∷ [] → open_after 0 (map piece_nesting ps) ≡ Some n → open_after n (piece_nesting p ∷ []) ≡ Some m → open_after 0 (map piece_nesting qs) ≡ Some m
counted_add n m ps qs p e c k = rw (e, map-append piece_nesting ps (p ∷ [])) (open_more 0 n (map piece_nesting ps) (piece_nesting p ∷ []) c ∙ k)

pub stays_add : (n : ℕ) (ps qs : List WordPiece) (p : WordPiece) → qs ≡ ps ++ p ∷ [] → open_after 0 (map piece_nesting ps) ≡ Some n → piece_nesting p ≡ Stays → open_after 0 (map piece_nesting qs) ≡ Some n
stays_add n ps qs p e c s = counted_add n n ps qs p e c (ap (λ x. open_after n (x ∷ [])) s)

pub opens_add : (n m : ℕ) (ps qs : List WordPiece) (p : WordPiece) → qs ≡ ps ++ p ∷ [] → open_after 0 (map piece_nesting ps) ≡ Some n → piece_nesting p ≡ Opens → m ≡ n + 1 → open_after 0 (map piece_nesting qs) ≡ Some m
opens_add n m ps qs p e c s i = counted_add n m ps qs p e c (ap (λ x. open_after n (x ∷ [])) s ∙ ap Some (let j : suc n ≡ m = omega (arith, i) in j))

pub closes_add : (n m : ℕ) (ps qs : List WordPiece) (p : WordPiece) → qs ≡ ps ++ p ∷ [] → open_after 0 (map piece_nesting ps) ≡ Some n → piece_nesting p ≡ Closes → n ≡ m + 1 → open_after 0 (map piece_nesting qs) ≡ Some m
closes_add n m ps qs p e c s i = counted_add n m ps qs p e c (ap (λ x. open_after n (x ∷ [])) s ∙ ap (λ k. open_after k (Closes ∷ [])) (let j : n ≡ suc m = omega (arith, i) in j))

patterns_are : (ps : List WordPiece) → map (λ p. p.pattern) (map piece_spelling ps) ≡ map piece_pattern ps
patterns_are [] = refl
patterns_are (p ∷ ps) = ap (λ l. piece_pattern p ∷ l) (patterns_are ps)

nestings_are : (ps : List WordPiece) → map (λ p. p.nesting) (map piece_spelling ps) ≡ map piece_nesting ps
nestings_are [] = refl
nestings_are (p ∷ ps) = ap (λ l. piece_nesting p ∷ l) (nestings_are ps)

-- a word's pieces
pub pieces_pattern : (ps : List WordPiece) → (of_pieces (map piece_spelling ps)).pattern ≡ if_closed (open_after 0 (map piece_nesting ps)) (all (map piece_pattern ps))
pieces_pattern ps = λ i. if_closed (open_after 0 (nestings_are ps i)) (all (patterns_are ps i))

pub word_pattern : (ps : Vec WordPiece _) → open_after 0 (map piece_nesting ps.items) ≡ Some 0 → (word_spelling (roll-Word (record { pieces = ps }))).pattern ≡ all (map piece_pattern ps.items)
word_pattern ps c = ap (λ s. s.pattern) (word_made ps) ∙ pieces_pattern ps.items ∙ ap (λ o. if_closed o (all (map piece_pattern ps.items))) c
