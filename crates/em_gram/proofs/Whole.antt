-- A whole line: from what the machine says to what is promised.
use Rattle.std.proofs.Common.{◌≡◌, ℕ, suc, ◌==◌, ◌+◌, ◌-◌, Bool, true, false, ◌&&◌, List, [], ◌∷◌, ◌++◌, length, Option, None, refl, sym, ap, subst, ◌∙◌, length-append, arith}
use Rattle.std.proofs.lemmas.List.{length-map, append-nil}
use Rattle.std.proofs.lemmas.Bool.{eqb-true}
use Rattle.em_grammar.specs.Production.{◌⨾◌}
use Rattle.em_grammar.specs.Machine.{run, fault}
use Rattle.em_grammar.specs.Faults.{IsFirstFault}
use Rattle.em_grammar.specs.Gives.{Reads}
use Rattle.em_grammar.proofs.Reading.{both}
use Rattle.em_lexeme.specs.declared.lexeme.Lexeme.{Lexeme}
use Rattle.em_lexeme.specs.declared.lexeme.What.{What}
use Rattle.em_lexeme.specs.declared.no.LexNo.{LexNo}
use Rattle.em_token.specs.Kinds.{whats}
use Rattle.em_token.specs.Shell.{shell, Expr, line, newlines}
use Rattle.em_gram.specs.Patterns.{body_pattern}
use Rattle.em_syntax.specs.declared.tree.Script.{Script}
use Rattle.em_gram.specs.declared.no.GramNo.{GramNo}
use Rattle.em_lexeme.specs.declared.lexeme.Lexed.{Lexed}
use Rattle.em_gram.specs.Line.{IsLine, IsScript, IsFault, is_function, GoesOn, lexed_of, FirstFault, UnexpectedAt, RefusedHere, ends_with, steps_back, place_at}
use Rattle.em_token.proofs.Checked.{line_right, line_named, line_names}

pub fault_first : (ts : List What) (c : ℕ) (rest : List What) → run shell ((64, line) ∷ []) ts ≡ fault c rest → IsFirstFault IsLine ts rest
fault_first ts c rest e = rw e at (line_right ts)

pub line_is : (ts : List What) (p : Expr) → Reads shell 64 line ts p [] → IsLine ts
unfolding run
line_is ts p h = rw (h.goes []) at (line_right ts)

pub rest_fault : (ts : List What) (t : What) (rest : List What) (p : Expr) → Reads shell 64 line ts p (t ∷ rest) → run shell ((64, line) ∷ []) ts ≡ fault 0 (t ∷ rest)
unfolding run
rest_fault ts t rest p h = h.goes []

-- the lexemes before the fault
before_length : (items rest : List Lexeme) (before : List What) → whats items ≡ before ++ whats rest → length before ≡ length items - length rest
before_length items rest before e =
    let a : length (whats items) ≡ length items = length-map items (λ l. l.what) in
    let z : length (whats rest) ≡ length rest = length-map rest (λ l. l.what) in
    let b : length (whats items) ≡ length (before ++ whats rest) = ap length e in
    let d : length (before ++ whats rest) ≡ length before + length (whats rest) = length-append before (whats rest) in
    omega (arith, a, z, b, d)

first_at : (items rest : List Lexeme) (stop : Option LexNo) (len back c n m here : ℕ) → n ≡ length items - length rest → m ≡ n - back → here ≡ place_at items m len → (whats rest ≡ [] → stop ≡ None) → run shell ((64, line) ∷ []) (whats items) ≡ fault c (whats rest) → FirstFault (lexed_of items stop) len back here
first_at items rest stop len back c n m here i j h k r =
    let f = fault_first (whats items) c (whats rest) r in
    let l : m ≡ length f.before - back = j ∙ ap (λ x. x - back) (i ∙ sym (before_length items rest f.before f.whole)) in
    record { rest = whats rest; first = f; counts = k; place = h ∙ ap (λ x. place_at items x len) l }

pub real : (k : ℕ) (us : List What) → ends_with (suc k) 0 us ≡ false
real k us = none (0 == suc k) refl
  where
    none : (b : Bool) → (0 == suc k) ≡ b → (b && Rattle.em_gram.specs.Line.may_be 0 us) ≡ false
    none true e = absurd (let q = eqb-true 0 (suc k) e in omega (arith, q))
    none false e = refl

minus_zero : (n : ℕ) → n ≡ n - 0
minus_zero n = omega arith

pub unexpected_at : (items rest : List Lexeme) (stop : Option LexNo) (len c n here : ℕ) → n ≡ length items - length rest → here ≡ place_at items n len → (whats rest ≡ [] → stop ≡ None) → run shell ((64, line) ∷ []) (whats items) ≡ fault c (whats rest) → ((k : ℕ) → ends_with (suc k) c (whats rest) ≡ true → ⊥) → UnexpectedAt (lexed_of items stop) len here
unexpected_at items rest stop len c n here i h k r q = record { first = first_at items rest stop len 0 c n n here i (minus_zero n) h k r; none = λ j l. q j (line_names (ends_with (suc j)) (real j) (whats items) c (whats rest) r l) }

pub refused_at : (items rest : List Lexeme) (stop : Option LexNo) (len j n m here : ℕ) → n ≡ length items - length rest → m ≡ n - steps_back (suc j) → here ≡ place_at items m len → (whats rest ≡ [] → stop ≡ None) → run shell ((64, line) ∷ []) (whats items) ≡ fault (suc j) (whats rest) → ends_with (suc j) (suc j) (whats rest) ≡ true → RefusedHere (lexed_of items stop) len (suc j) here
refused_at items rest stop len j n m here i e h k r q = record { first = first_at items rest stop len (steps_back (suc j)) (suc j) n m here i e h k r; up_to = line_named (ends_with (suc j)) (real j) (whats items) (suc j) (whats rest) r q }

-- nothing is unexpected as a construct, and `name (` without its `)` isn't a function
pub none_expected : (rest : List What) (k : ℕ) → ends_with (suc k) 0 rest ≡ true → ⊥
none_expected rest k h = let r = real k rest in cc

pub no_function : (rest : List What) → is_function rest ≡ false → (k : ℕ) → ends_with (suc k) 3 rest ≡ true → ⊥
no_function rest n k h = let p = both (3 == suc k) (is_function rest) h in let q = p.1 in cc

pub not_empty : (rest : List Lexeme) → (length rest == 0) ≡ false → whats rest ≡ [] → ⊥
not_empty [] e h = absurd cc
not_empty (t ∷ rest) e h = absurd cc

pub fault_at_rest : (items rest : List Lexeme) (p : Expr) → (length rest == 0) ≡ false → Reads shell 64 line (whats items) p (whats rest) → run shell ((64, line) ∷ []) (whats items) ≡ fault 0 (whats rest)
fault_at_rest items [] p e h = absurd cc
fault_at_rest items (t ∷ rest) p e h = rest_fault (whats items) t.what (whats rest) p h

nothing_left : (rest : List Lexeme) → (length rest == 0) ≡ true → rest ≡ []
nothing_left [] e = refl
nothing_left (t ∷ rest) e = absurd (let k : length (t ∷ rest) ≡ 0 = eqb-true _ _ e in omega arith)

pub script_is : (items rest : List Lexeme) (stop : Option LexNo) (script : Script) → stop ≡ None → (length rest == 0) ≡ true → Reads shell 64 line (whats items) (newlines ⨾ body_pattern script) (whats rest) → IsScript (lexed_of items stop) script
script_is items rest stop script n e h = at rest (nothing_left rest e) h
  where
    at : (us : List Lexeme) → us ≡ [] → Reads shell 64 line (whats items) (newlines ⨾ body_pattern script) (whats us) → IsScript (lexed_of items stop) script
    at [] i k = record { read = n; line_is = line_is (whats items) (newlines ⨾ body_pattern script) k; spells = k.spells }
    at (u ∷ us) i k = absurd cc

pub lexed_same : (lexed : Lexed) (items : List Lexeme) (len : ℕ) (found : GramNo) → items ≡ lexed.items → IsFault (lexed_of items lexed.stop) len found → IsFault lexed len found
lexed_same lexed items len found e h = subst (λ (l : List Lexeme). IsFault (lexed_of l lexed.stop) len found) e h

-- up to the end a line goes on
pub goes_on_whole : (items rest : List Lexeme) (p : Expr) → (length rest == 0) ≡ true → Reads shell 64 line (whats items) p (whats rest) → GoesOn items
goes_on_whole items [] p e h = ([], rw (append-nil (whats items)) (line_is (whats items) p h))
goes_on_whole items (t ∷ rest) p e h = absurd (let k : length (t ∷ rest) ≡ 0 = eqb-true _ _ e in omega arith)

goes_on_from : (L : List What → Type 0) (ts before : List What) → ts ≡ before ++ [] → (more : List What) × L (before ++ more) → (more : List What) × L (ts ++ more)
goes_on_from L ts before e h = (h.0, rw (e, append-nil before) h.1)

pub goes_on_fault : (items rest : List Lexeme) (c : ℕ) → (length rest == 0) ≡ true → run shell ((64, line) ∷ []) (whats items) ≡ fault c (whats rest) → GoesOn items
goes_on_fault items [] c e r = let f = fault_first (whats items) c [] r in goes_on_from IsLine (whats items) f.before f.whole f.goes_on
goes_on_fault items (t ∷ rest) c e r = absurd (let k : length (t ∷ rest) ≡ 0 = eqb-true _ _ e in omega arith)
