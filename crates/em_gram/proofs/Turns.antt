-- Simple commands, from one part to the next: a word, an assignment, a redirection, or the end.
use Rattle.std.proofs.Common.{◌≡◌, inl, inr, List, [], ◌∷◌, ◌++◌, map, refl}
use Rattle.em_grammar.specs.Production.{◌⨾◌}
use Rattle.em_grammar.specs.Gives.{Spells}
use Rattle.em_lexeme.specs.declared.lexeme.What.{What}
use Rattle.em_token.specs.Kinds.{command_words}
use Rattle.em_token.specs.Shell.{shell, Expr}
use Rattle.em_gram.specs.Patterns.{mixed, word_spelled, any_word, words_spelled, word_spelling, redirect_pattern, assigned_pattern}
use Rattle.em_syntax.specs.declared.tree.Word.{Word}
use Rattle.em_syntax.specs.declared.tree.Assigned.{Assigned}
use Rattle.em_syntax.specs.declared.tree.Redirect.{Redirect}

-- behind the first word, and before it
abbrev pub after : List Word → List Redirect → Expr
after ws rs = mixed (map any_word (map word_spelling ws)) (map redirect_pattern rs)

abbrev pub before : List Assigned → List Word → List Redirect → Expr
before as' ws rs = mixed (map assigned_pattern as' ++ words_spelled (map word_spelling ws)) (map redirect_pattern rs)

pub data Next (ws : List Word) (rs : List Redirect) (ts r : List What) : Type 0 where
  ends : ws ≡ [] → rs ≡ [] → ts ≡ r → Next ws rs ts r
  word : (w : Word) (us : List Word) → ws ≡ w ∷ us → Spells shell (any_word (word_spelling w) ⨾ after us rs) ts r → Next ws rs ts r
  redirect : (q : Redirect) (qs : List Redirect) → rs ≡ q ∷ qs → Spells shell (redirect_pattern q ⨾ after ws qs) ts r → Next ws rs ts r

pub next : (ws : List Word) (rs : List Redirect) (ts r : List What) → Spells shell (after ws rs) ts r → Next ws rs ts r
next [] [] ts r h = ends refl refl h
next [] (q ∷ qs) ts r h = redirect q qs refl h
next (w ∷ ws) [] ts r h = word w ws refl h
next (w ∷ ws) (q ∷ qs) ts r (inl h) = word w ws refl h
next (w ∷ ws) (q ∷ qs) ts r (inr h) = redirect q qs refl h

pub data First (as' : List Assigned) (ws : List Word) (rs : List Redirect) (ts r : List What) : Type 0 where
  ends_first : as' ≡ [] → ws ≡ [] → rs ≡ [] → ts ≡ r → First as' ws rs ts r
  assigned : (a : Assigned) (bs : List Assigned) → as' ≡ a ∷ bs → Spells shell (assigned_pattern a ⨾ before bs ws rs) ts r → First as' ws rs ts r
  first_word : (w : Word) (us : List Word) → as' ≡ [] → ws ≡ w ∷ us → Spells shell (word_spelled command_words (word_spelling w) ⨾ after us rs) ts r → First as' ws rs ts r
  redirect_first : (q : Redirect) (qs : List Redirect) → rs ≡ q ∷ qs → Spells shell (redirect_pattern q ⨾ before as' ws qs) ts r → First as' ws rs ts r

pub first : (as' : List Assigned) (ws : List Word) (rs : List Redirect) (ts r : List What) → Spells shell (before as' ws rs) ts r → First as' ws rs ts r
first [] [] [] ts r h = ends_first refl refl refl h
first [] [] (q ∷ qs) ts r h = redirect_first q qs refl h
first [] (w ∷ ws) [] ts r h = first_word w ws refl refl h
first [] (w ∷ ws) (q ∷ qs) ts r (inl h) = first_word w ws refl refl h
first [] (w ∷ ws) (q ∷ qs) ts r (inr h) = redirect_first q qs refl h
first (a ∷ as') ws [] ts r h = assigned a as' refl h
first (a ∷ as') ws (q ∷ qs) ts r (inl h) = assigned a as' refl h
first (a ∷ as') ws (q ∷ qs) ts r (inr h) = redirect_first q qs refl h
