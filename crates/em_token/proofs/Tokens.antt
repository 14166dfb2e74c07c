-- The first lexeme, and what it holds.
use Rattle.std.proofs.Common.{◌≡◌, inl, inr, ℕ, zero, suc, nat_le, ◌+◌, ◌-◌, Bool, true, false, cond, List, [], ◌∷◌, ◌++◌, length, take, drop, ◌≤◌, ◌<◌, length-take, length-drop, refl, sym, ap, subst, ◌∙◌, arith}
use Rattle.std.specs.Prelude.{Result, slice_index_or, slice_get}
use Rattle.std.specs.Result.{IsErr, IsErrAnd}
use Rattle.std.proofs.lemmas.List.{take_all}
use Rattle.std.proofs.lemmas.Bool.{eqb-true}
use Rattle.em_grammar.specs.Production.{one, this, nested, is_among, depth}
use Rattle.em_grammar.specs.Gives.{begins_with, Reads, Faults, Turns, Gives, lead_of, lead_off}
use Rattle.em_grammar.proofs.Giving.{reads_one, reads_key, more_many, spell_many_more, opens_level, too_deep, stopped}
use Rattle.em_lexeme.specs.declared.lexeme.Lexeme.{Lexeme}
use Rattle.em_lexeme.specs.declared.lexeme.What.{What}
use Rattle.em_token.specs.Kinds.{whats, class_of, kinds, ends_with_equals, is_equals, code_of}
use Rattle.em_token.specs.Shell.{shell, key, newlines, Expr}
use Rattle.em_token.specs.Words.{bytes_spelled}
use Rattle.em_token.specs.Seen.{fault_of}
use Rattle.em_token.specs.declared.stop.Stop.{Stop}
use Rattle.em_token.specs.declared.kind.Kind.TheVariants.{Newline, Assigning, Number, BadValue, Bytes}
use Rattle.em_token.proofs.Checked.{shell_firm}

abbrev behind : List Lexeme → List Lexeme
behind ts = take (length ts - 1) (drop 1 ts)

rest_is : (t : Lexeme) (us : List Lexeme) → take (length (t ∷ us) - 1) (drop 1 (t ∷ us)) ≡ us
rest_is t us =
    let e : length (t ∷ us) - 1 ≡ length us = omega arith in
    rw e (take_all (length us) us (omega arith))

pub keyed : (left : ℕ) (ts : List Lexeme) (s : List ℕ) → begins_with shell (whats ts) s ≡ true → Reads shell left (one s) (whats ts) (one s) (whats (take (length ts - 1) (drop 1 ts)))
keyed left [] s b = absurd cc
keyed left (t ∷ us) s b = rw (rest_is t us) (reads_key shell left s t.what (whats us) b)

-- the first is this one
pub taken : (left : ℕ) (ts : List Lexeme) (s : List ℕ) (t : Lexeme) → t ≡ slice_index_or ts 0 t → begins_with shell (whats ts) s ≡ true → Reads shell left (one s) (whats ts) (this s t.what) (whats (take (length ts - 1) (drop 1 ts)))
taken left [] s t i b = absurd cc
taken left (x ∷ us) s t i b = rw (rest_is x us) (subst (λ (y : Lexeme). Reads shell left (one s) (whats (x ∷ us)) (this s y.what) (whats us)) (sym i) (reads_one shell left s x.what (whats us) b))

pub among_first : (ts : List Lexeme) (s : List ℕ) (t : Lexeme) → t ≡ slice_index_or ts 0 t → begins_with shell (whats ts) s ≡ true → is_among (class_of t.what) s ≡ true
among_first [] s t i b = absurd cc
among_first (x ∷ us) s t i b = subst (λ (y : Lexeme). is_among (class_of y.what) s ≡ true) (sym i) b

pub split_first : (ts : List Lexeme) (s : List ℕ) (t : Lexeme) → t ≡ slice_index_or ts 0 t → begins_with shell (whats ts) s ≡ true → ts ≡ t ∷ take (length ts - 1) (drop 1 ts)
split_first [] s t i b = absurd cc
split_first (x ∷ us) s t i b = ap (λ y. y ∷ us) (sym i) ∙ ap (λ l. t ∷ l) (sym (rest_is x us))

pub one_more : (left : ℕ) → 0 < left → suc (left - 1) ≡ left
one_more left h = omega arith

pub descends : (left : ℕ) → 0 < left → (ts : List Lexeme) (s : List ℕ) (e : Expr) → begins_with shell (whats ts) s ≡ true → Turns shell left (nested s e) (whats ts) (one s) e (whats (take (length ts - 1) (drop 1 ts)))
descends left h [] s e b = absurd cc
descends left h (t ∷ us) s e b = rw (rest_is t us) (subst (λ (n : ℕ). Turns shell n (nested s e) (t.what ∷ whats us) (one s) e (whats us)) (one_more left h) (opens_level shell (left - 1) s e t.what (whats us) b))

-- and which lexeme it was
pub descends_this : (left : ℕ) (rest us : List Lexeme) (t : Lexeme) (s : List ℕ) (e : Expr) (w : What) → t.what ≡ w → Turns shell left (nested s e) (whats (t ∷ rest)) (one s) e (whats us) → Turns shell left (nested s e) (whats (t ∷ rest)) (this s w) e (whats us)
descends_this left rest us t s e w j h = record { spells = ((h.spells.0, j), h.spells.1); goes = h.goes }

pub deep_at : (left : ℕ) → left ≡ 0 → (ts : List Lexeme) (s : List ℕ) (e : Expr) → begins_with shell (whats ts) s ≡ true → Faults shell left (nested s e) (whats ts) depth (whats ts)
deep_at left z ts s e b = rw z (too_deep shell s e (whats ts) b)

pub newline_more : (left : ℕ) (ts us : List Lexeme) → Turns shell left newlines (whats ts) newlines newlines (whats us) → begins_with shell (whats us) (kinds (Newline ∷ [])) ≡ true → Turns shell left newlines (whats ts) newlines newlines (whats (take (length us - 1) (drop 1 us)))
newline_more left ts us t b =
    let k = keyed left us (kinds (Newline ∷ [])) b in
    more_many shell shell_firm t refl b k newlines (spell_many_more shell (one (kinds (Newline ∷ []))) (whats ts) (whats us) (whats (take (length us - 1) (drop 1 us))) t.spells k.spells)

pub shorter_rest : (us ts : List Lexeme) → length us ≤ length ts → length (take (length us - 1) (drop 1 us)) ≤ length ts
shorter_rest us ts h = omega (arith, length-take (length us - 1) (drop 1 us), length-drop 1 us)

-- an assignment's name
equals_at : (text : List ℕ) (n : ℕ) → length text ≡ n + 1 → is_equals (slice_get text n) ≡ true → text ≡ take n text ++ 61 ∷ []
equals_at [] n l e = absurd cc
equals_at (b ∷ text) zero l e =
    let z : length text ≡ 0 = omega arith in
    last text z (eqb-true b 61 e)
  where
    last : (us : List ℕ) → length us ≡ 0 → b ≡ 61 → b ∷ us ≡ 61 ∷ []
    last [] z i = rw i refl
    last (u ∷ us) z i = absurd (let k : length (u ∷ us) ≡ 0 = z in omega arith)
equals_at (b ∷ text) (suc n) l e = ap (λ l. b ∷ l) (equals_at text n (omega arith) e)

ends_is : (text : List ℕ) → ends_with_equals text ≡ true → text ≡ take (length text - 1) text ++ 61 ∷ []
ends_is [] e = absurd cc
ends_is (b ∷ text) e = equals_at (b ∷ text) (length (b ∷ text) - 1) (omega arith) e

pub assigning_is : (q : Bool) (text : List ℕ) → is_among (class_of (What.Bytes q text)) (kinds (Assigning ∷ [])) ≡ true → What.Bytes q text ≡ What.Bytes false (take (length text - 1) text ++ 61 ∷ [])
assigning_is true text m = absurd cc
assigning_is false text m = ap (λ t. What.Bytes false t) (ends_is text (at (ends_with_equals text) m))
  where
    at : (b : Bool) → is_among (code_of (cond b Assigning Bytes)) (kinds (Assigning ∷ [])) ≡ true → b ≡ true
    at true k = refl
    at false k = absurd cc

pub small_number : (n : ℕ) → is_among (class_of (What.Number n)) (kinds (Number ∷ [])) ≡ true → n ≤ 9
small_number n m = at (nat_le n 9) refl m
  where
    at : (b : Bool) → nat_le n 9 ≡ b → is_among (code_of (cond b Number BadValue)) (kinds (Number ∷ [])) ≡ true → n ≤ 9
    at true e k = grind arith
    at false e k = absurd cc

-- a part that is left early gives what made it stop
pub off : {X : Type 0} (left : ℕ) (e : Expr) (ts : List What) (x : Stop) (view : X → Expr × List What) (r : Result X Stop) → IsErr r × IsErrAnd r (λ d. d ≡ x) → Gives shell left e ts (lead_off (fault_of x)) → Gives shell left e ts (lead_of view fault_of r)
off left e ts x view r is h = stopped shell left e ts x view fault_of r is h

-- the bytes that were copied
pub name_bytes : (left : ℕ) (ts rest : List What) (w : What) (text : List ℕ) (q : Bool) (name : List ℕ) → w ≡ What.Bytes q text → name ≡ text → Reads shell left (key Bytes) ts (this (kinds (Bytes ∷ [])) w) rest → Reads shell left (key Bytes) ts (bytes_spelled name) rest
name_bytes left ts rest w text true name i e h = record { spells = rw e (inr (rw i at h.spells)); goes = h.goes }
name_bytes left ts rest w text false name i e h = record { spells = rw e (inl (rw i at h.spells)); goes = h.goes }
