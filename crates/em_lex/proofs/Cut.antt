-- The lexemes that stand up to a place.
use Rattle.std.proofs.Common.{◌≡◌, ℕ, suc, ◌+◌, ◌==◌, ◌&&◌, ◌||◌, leb, Bool, true, false, List, [], ◌∷◌, take, refl, subst, sym, arith, inl, inr}
use Rattle.std.specs.Prelude.{Option, None, Some, All, IfSome}
use Rattle.std.specs.List.{AllByRecursion}
use Rattle.std.proofs.lemmas.Bool.{leb-true, eqb-true}
use Rattle.std.proofs.lemmas.List.Elements.{All-from_recursion}
use Rattle.em_lexeme.specs.declared.lexeme.Lexeme.{Lexeme}
use Rattle.em_lexeme.specs.declared.lexeme.Lexed.{Lexed}
use Rattle.em_lexeme.specs.declared.no.LexNo.{LexNo}
use Rattle.em_lexeme.specs.Faults.{redirects, is_until, count_until, up_to, place_of}
use Rattle.em_lex.specs.Lexing.{lexed}
use Rattle.em_lex.specs.Standing.{StandsUpTo}
use Rattle.em_lex.proofs.Quoted.{top_level}

begins : (at : ℕ) (l : Lexeme) (b : Bool) → l.span.start == at ≡ b → (b && redirects l.what) ≡ true → StandsUpTo at l
begins at l true e is = inr (eqb-true _ _ e, is)
begins at l false e is = absurd cc

stands : (at : ℕ) (l : Lexeme) → is_until at l ≡ true → StandsUpTo at l
stands at l is = elim (leb l.span.end at) as (λ b. leb l.span.end at ≡ b → StandsUpTo at l) [
  | true ↦ λ e. inl (leb-true _ _ e)
  | false ↦ λ e. begins at l (l.span.start == at) refl (subst (λ b. (b || ((l.span.start == at) && redirects l.what)) ≡ true) e is)
] refl

cut : (at : ℕ) (ls : List Lexeme) → AllByRecursion (StandsUpTo at) (take (count_until at ls) ls)
cut at [] = tt
cut at (l ∷ ls) = elim (is_until at l) as (λ b. is_until at l ≡ b → AllByRecursion (StandsUpTo at) (take (count_until at (l ∷ ls)) (l ∷ ls))) [
  | true ↦ λ e. let one : 1 + count_until at ls ≡ suc (count_until at ls) = omega arith in rw (e, one) (stands at l e, cut at ls)
  | false ↦ λ e. rw e tt
] refl

abbrev IsCut : Lexed → Type 0
IsCut l = IfSome l.stop (λ fault. All (StandsUpTo (place_of fault)) l.items)

all_cut : (stop : Option LexNo) (items : List Lexeme) → IsCut (up_to stop items)
all_cut None items = tt
all_cut (Some fault) items = All-from_recursion (StandsUpTo (place_of fault)) _ (cut (place_of fault) items)

pub cut_law : (line : List ℕ) → IsCut (lexed line)
cut_law line = subst IsCut (sym (top_level line)) (all_cut _ _)
