-- Pieces nest exactly where counting them shows it.
use Rattle.std.proofs.Common.{◌≡◌, ◌∙◌, ℕ, zero, suc, List, [], ◌∷◌, ◌++◌, map, Option, Some, None, refl, sym, ap, subst, append_assoc}
use Rattle.std.proofs.lemmas.List.{append-nil}
use Rattle.em_syntax.specs.declared.tree.WordPiece.{WordPiece}
use Rattle.em_syntax.specs.Nesting.{Nesting, Stays, Opens, Closes, nesting_of, open_after, IsClosed, nothing, plain, argument}

abbrev nestings : List WordPiece → List Nesting
nestings ps = map nesting_of ps

-- what is closed leaves the number of those that are open
pub closed_stays : (n : ℕ) (ps more : List WordPiece) → IsClosed ps → open_after n (nestings (ps ++ more)) ≡ open_after n (nestings more)
closed_stays n _ more nothing = refl
closed_stays n _ more (plain p ps s c) = rw s (closed_stays n ps more c)
closed_stays n _ more (argument p inside e ps o i f c) =
    rw o (ap (λ l. open_after (suc n) (nestings l)) (append_assoc inside (e ∷ ps) more) ∙ closed_stays (suc n) inside (e ∷ (ps ++ more)) i ∙ rw f (closed_stays n ps more c))

-- closed lists with the ends of so many arguments between them
abbrev Tower : ℕ → List WordPiece → Type 0
Tower zero ps = IsClosed ps
Tower (suc n) ps = (inside : List WordPiece) × ((e : WordPiece) × ((rest : List WordPiece) × ((ps ≡ inside ++ e ∷ rest) × (IsClosed inside × ((nesting_of e ≡ Closes) × Tower n rest)))))

stay : (n : ℕ) (p : WordPiece) (ps : List WordPiece) → nesting_of p ≡ Stays → Tower n ps → Tower n (p ∷ ps)
stay zero p ps s t = plain p ps s t
stay (suc n) p ps s (inside, (e, (rest, (i, (c, (f, t)))))) = (p ∷ inside, (e, (rest, (ap (λ l. p ∷ l) i, (plain p inside s c, (f, t))))))

enter : (n : ℕ) (p : WordPiece) (ps : List WordPiece) → nesting_of p ≡ Opens → Tower (suc n) ps → Tower n (p ∷ ps)
enter zero p ps o (inside, (e, (rest, (i, (c, (f, t)))))) = subst (λ l. IsClosed (p ∷ l)) (sym i) (argument p inside e rest o c f t)
enter (suc n) p ps o (inside, (e, (rest, (i, (c, (f, (more, (g, (last, (j, (d, (h, t)))))))))))) =
    (p ∷ inside ++ e ∷ more, (g, (last, (ap (λ l. p ∷ l) (i ∙ ap (λ l. inside ++ e ∷ l) j ∙ sym (append_assoc inside (e ∷ more) (g ∷ last))), (argument p inside e more o c f d, (h, t))))))

tower : (n : ℕ) (ps : List WordPiece) → open_after n (nestings ps) ≡ Some 0 → Tower n ps
tower zero [] k = nothing
tower (suc n) [] k = absurd cc
tower n (p ∷ ps) k = at n (nesting_of p) refl k (λ m l. tower m ps l)
  where
    at : (m : ℕ) (x : Nesting) → nesting_of p ≡ x → open_after m (x ∷ nestings ps) ≡ Some 0 → ((o : ℕ) → open_after o (nestings ps) ≡ Some 0 → Tower o ps) → Tower m (p ∷ ps)
    at m Stays e l t = stay m p ps e (t m l)
    at m Opens e l t = enter m p ps e (t (suc m) l)
    at zero Closes e l t = absurd cc
    at (suc m) Closes e l t = ([], (p, (ps, (refl, (nothing, (e, t m l))))))

pub closed_counts : (ps : List WordPiece) → IsClosed ps → open_after 0 (nestings ps) ≡ Some 0
closed_counts ps c = ap (λ l. open_after 0 (nestings l)) (sym (append-nil ps)) ∙ closed_stays 0 ps [] c

pub counted_nests : (ps : List WordPiece) → open_after 0 (nestings ps) ≡ Some 0 → IsClosed ps
counted_nests ps k = tower 0 ps k

-- more pieces
pub open_more : (k n : ℕ) (ns more : List Nesting) → open_after k ns ≡ Some n → open_after k (ns ++ more) ≡ open_after n more
open_more k n [] more e = ap (λ o. after o) e
  where
    after : Option ℕ → Option ℕ
    after None = None
    after (Some m) = open_after m more
open_more k n (Stays ∷ ns) more e = open_more k n ns more e
open_more k n (Opens ∷ ns) more e = open_more (suc k) n ns more e
open_more zero n (Closes ∷ ns) more e = absurd cc
open_more (suc k) n (Closes ∷ ns) more e = open_more k n ns more e
