-- What a part of a tree begins with.
use Rattle.std.proofs.Common.{◌≡◌, ℕ, Bool, true, false, ◌==◌, cond, List, [], ◌∷◌, inl, inr, refl}
use Rattle.em_grammar.specs.Production.{one, this, empty, ◌⨾◌, Lang, nothing, Front}
use Rattle.em_grammar.specs.Checks.{apart, within}
use Rattle.em_grammar.specs.Gives.{begins_with, Spells}
use Rattle.em_grammar.proofs.Reading.{apart_at, within_at}
use Rattle.em_lexeme.specs.declared.lexeme.What.{What}
use Rattle.em_token.specs.Kinds.{kinds, class_of}
use Rattle.em_token.specs.Shell.{shell, Expr}
use Rattle.em_gram.specs.Patterns.{Spelling, never, redirect_pattern, redirect_spelled, operator_spelled, target_spelled, is_duplicate, digit_spelled, any_word, usual, word_spelling}
use Rattle.em_token.specs.declared.kind.Kind.TheVariants.{Number, Less, Great, DoubleGreat, GreatAnd}
use Rattle.em_syntax.specs.declared.tree.RedirectKind.{RedirectKind}
use Rattle.em_syntax.specs.declared.tree.Redirect.{Redirect, out-Redirect}
use Rattle.em_gram.proofs.Spellings.{redirect_is}

-- a pattern in front of a language
abbrev pub Pat : Expr → Lang What → Lang What
Pat = Front class_of nothing 0 (λ K us. ⊥)

pub begins_key : (s : List ℕ) (K : Lang What) (ts : List What) → Pat (one s) K ts → begins_with shell ts s ≡ true
begins_key s K [] h = absurd h
begins_key s K (t ∷ ts) h = h.0

pub begins_this : (s : List ℕ) (w : What) (K : Lang What) (ts : List What) → Pat (this s w) K ts → begins_with shell ts s ≡ true
begins_this s w K [] h = absurd h
begins_this s w K (t ∷ ts) h = h.0.0

pub begins_wider : (s u : List ℕ) → within s u ≡ true → (ts : List What) → begins_with shell ts s ≡ true → begins_with shell ts u ≡ true
begins_wider s u w [] b = absurd cc
begins_wider s u w (t ∷ ts) b = within_at (class_of t) s u w b

pub not_begins : (s u : List ℕ) → apart s u ≡ true → (ts : List What) → begins_with shell ts u ≡ true → begins_with shell ts s ≡ false
not_begins s u a [] b = refl
not_begins s u a (t ∷ ts) b = apart_at (class_of t) s u a b

abbrev pub redirect_begins : List ℕ
redirect_begins = kinds (Number ∷ Less ∷ Great ∷ DoubleGreat ∷ GreatAnd ∷ [])

begins_operator : (kind : RedirectKind) (K : Lang What) (ts : List What) → Pat (operator_spelled kind) K ts → begins_with shell ts redirect_begins ≡ true
begins_operator RedirectKind.Write K ts h = begins_wider (kinds (Great ∷ [])) redirect_begins refl ts (begins_key _ K ts h)
begins_operator RedirectKind.Append K ts h = begins_wider (kinds (DoubleGreat ∷ [])) redirect_begins refl ts (begins_key _ K ts h)
begins_operator RedirectKind.Read K ts h = begins_wider (kinds (Less ∷ [])) redirect_begins refl ts (begins_key _ K ts h)
begins_operator RedirectKind.Duplicate K ts h = begins_wider (kinds (GreatAnd ∷ [])) redirect_begins refl ts (begins_key _ K ts h)

begins_usual : (b : Bool) (kind : RedirectKind) (p : Expr) (K : Lang What) (ts : List What) → Pat (cond b empty never) (Pat (operator_spelled kind ⨾ p) K) ts → begins_with shell ts redirect_begins ≡ true
begins_usual true kind p K ts h = begins_operator kind (Pat p K) ts h
begins_usual false kind p K ts h = absurd (let k = h.1 in cc)

begins_redirection : (kind : RedirectKind) (fd : ℕ) (target : Spelling) (K : Lang What) (ts : List What) → Pat (redirect_spelled kind fd target) K ts → begins_with shell ts redirect_begins ≡ true
begins_redirection kind fd target K ts (inl h) = begins_wider (kinds (Number ∷ [])) redirect_begins refl ts (begins_this (kinds (Number ∷ [])) (What.Number fd) (Pat (target_spelled kind target) K) ts h)
begins_redirection kind fd target K ts (inr h) = begins_usual (fd == usual kind) kind (cond (is_duplicate kind) (digit_spelled target.digit) (any_word target)) K ts h

pub begins_redirect : (r : Redirect) (K : Lang What) (ts : List What) → Pat (redirect_pattern r) K ts → begins_with shell ts redirect_begins ≡ true
begins_redirect r K ts h = begins_redirection (out-Redirect r).kind (out-Redirect r).fd (word_spelling (out-Redirect r).target) K ts (rw (redirect_is r) at h)

pub spelled_redirect : (r : Redirect) (ts us : List What) → Spells shell (redirect_pattern r) ts us → begins_with shell ts redirect_begins ≡ true
spelled_redirect r ts us h = begins_redirect r (λ vs. vs ≡ us) ts h
