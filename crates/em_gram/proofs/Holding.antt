-- What a lexeme holds, read into the tree.
use Rattle.std.proofs.Common.{◌≡◌, ℕ, ◌+◌, ◌-◌, ◌≤◌, nat_le, Bool, true, false, List, [], ◌∷◌, ◌++◌, length, take, map, Option, Some, None, refl, ap, ◌∙◌, inl, inr, arith}
use Rattle.std.specs.declared.vec.Vec.{Vec}
use Rattle.std.proofs.lemmas.Bool.{eq-eqb}
use Rattle.em_grammar.specs.Production.{one, this, nested, empty, is_among, ◌⨾◌}
use Rattle.em_grammar.specs.Gives.{Spells, Reads, Turns, Gives, lead_off}
use Rattle.std.specs.Prelude.{Result, IfErr, slice_get, unwrap_or}
use Rattle.std.specs.Result.{IsErr, IsErrAnd}
use Rattle.std.proofs.lemmas.Result.{err_from_is_err_and}
use Rattle.em_token.specs.declared.stop.Stop.{Stop}
use Rattle.em_token.specs.Seen.{fault_of}
use Rattle.em_lexeme.specs.declared.lexeme.Lexeme.{Lexeme}
use Rattle.em_lexeme.specs.declared.lexeme.What.{What}
use Rattle.em_token.specs.Kinds.{kinds, whats, class_of}
use Rattle.em_token.specs.Shell.{shell, Expr, key, newlines}
use Rattle.em_gram.specs.Patterns.{digit_of, only_digit, piece_spelling, script_listing, script_pattern, body_pattern, some_list, body_of, number_of, number_spelled, usual, target_spelled, redirect_pattern, word_spelling, list_of, and_or_pattern}
use Rattle.em_gram.specs.Nesting.{piece_pattern, piece_nesting}
use Rattle.em_syntax.specs.Nesting.{Stays, Opens, Closes}
use Rattle.em_token.specs.declared.kind.Kind.TheVariants.{Bytes, Assigning, Value, ArgumentStart, ArgumentEnd, SubstitutionStart, SubstitutionEnd, Number}
use Rattle.em_syntax.specs.declared.tree.RedirectKind.{RedirectKind}
use Rattle.em_syntax.specs.declared.tree.Script.{Script, roll-Script}
use Rattle.em_syntax.specs.declared.tree.AndOr.{AndOr}
use Rattle.em_syntax.specs.declared.tree.Word.{Word, roll-Word}
use Rattle.em_syntax.specs.declared.tree.Redirect.{roll-Redirect}
use Rattle.em_syntax.specs.declared.tree.WordPiece.{WordPiece, roll-WordPiece}
use Rattle.em_syntax.specs.declared.tree.WordWhat.TheVariants as WordWhat
use Rattle.em_syntax.specs.declared.tree.Value.{Value as ValueTree}
use Rattle.em_gram.proofs.Spellings.{piece_made, what_Bytes, what_Value, what_Argument, what_End, what_Output, script_made, word_made, redirect_made}
use Rattle.em_grammar.proofs.Giving.{spell_front}
use Rattle.em_token.proofs.Tokens.{assigning_is, small_number, descends_this}

pub bytes_made : (q : Bool) (text : List ℕ) → piece_pattern (roll-WordPiece (record { quoted = q; what = WordWhat.Bytes text })) ≡ this (kinds (Bytes ∷ Assigning ∷ [])) (What.Bytes q text)
bytes_made q text = ap (λ s. s.pattern) (piece_made q (WordWhat.Bytes text) ∙ ap (λ g. g q) (what_Bytes text))

pub value_piece_made : (q : Bool) (n f : List ℕ) → piece_pattern (roll-WordPiece (record { quoted = q; what = WordWhat.Value (record { name = n; form = f }) })) ≡ this (kinds (Value ∷ [])) (What.Value q n f)
value_piece_made q n f = ap (λ s. s.pattern) (piece_made q (WordWhat.Value (record { name = n; form = f })) ∙ ap (λ g. g q) (what_Value (record { name = n; form = f })))

pub argument_made : (q : Bool) (n f : List ℕ) → piece_pattern (roll-WordPiece (record { quoted = q; what = WordWhat.Argument (record { name = n; form = f }) })) ≡ this (kinds (ArgumentStart ∷ [])) (What.ArgumentStart q n f)
argument_made q n f = ap (λ s. s.pattern) (piece_made q (WordWhat.Argument (record { name = n; form = f })) ∙ ap (λ g. g q) (what_Argument (record { name = n; form = f })))

pub end_made : piece_pattern (roll-WordPiece (record { quoted = false; what = WordWhat.End })) ≡ key ArgumentEnd
end_made = ap (λ s. s.pattern) (piece_made false WordWhat.End ∙ ap (λ g. g false) what_End)

-- how each nests
pub bytes_nesting : (q : Bool) (text : List ℕ) → piece_nesting (roll-WordPiece (record { quoted = q; what = WordWhat.Bytes text })) ≡ Stays
bytes_nesting q text = ap (λ s. s.nesting) (piece_made q (WordWhat.Bytes text) ∙ ap (λ g. g q) (what_Bytes text))

pub value_nesting : (q : Bool) (v : ValueTree) → piece_nesting (roll-WordPiece (record { quoted = q; what = WordWhat.Value v })) ≡ Stays
value_nesting q v = ap (λ s. s.nesting) (piece_made q (WordWhat.Value v) ∙ ap (λ g. g q) (what_Value v))

pub argument_nesting : (q : Bool) (v : ValueTree) → piece_nesting (roll-WordPiece (record { quoted = q; what = WordWhat.Argument v })) ≡ Opens
argument_nesting q v = ap (λ s. s.nesting) (piece_made q (WordWhat.Argument v) ∙ ap (λ g. g q) (what_Argument v))

pub end_nesting : piece_nesting (roll-WordPiece (record { quoted = false; what = WordWhat.End })) ≡ Closes
end_nesting = ap (λ s. s.nesting) (piece_made false WordWhat.End ∙ ap (λ g. g false) what_End)

pub output_nesting : (q : Bool) (s : Script) → piece_nesting (roll-WordPiece (record { quoted = q; what = WordWhat.Output s })) ≡ Stays
output_nesting q s = ap (λ p. p.nesting) (piece_made q (WordWhat.Output s) ∙ ap (λ g. g q) (what_Output s))

pub bytes_read : (left : ℕ) (ts rest : List What) (w : What) (q : Bool) (held text : List ℕ) (piece : WordPiece) → w ≡ What.Bytes q held → text ≡ held → piece_pattern piece ≡ this (kinds (Bytes ∷ Assigning ∷ [])) (What.Bytes q text) →
    Reads shell left (one (kinds (Bytes ∷ Assigning ∷ []))) ts (this (kinds (Bytes ∷ Assigning ∷ [])) w) rest → Reads shell left (one (kinds (Bytes ∷ Assigning ∷ []))) ts (piece_pattern piece) rest
bytes_read left ts rest w q held text piece i e p h = rw (p, e, ← i) h

pub value_read : (left : ℕ) (ts rest : List What) (w : What) (q : Bool) (held_name held_form name form : List ℕ) (piece : WordPiece) → w ≡ What.Value q held_name held_form → name ≡ held_name → form ≡ held_form → piece_pattern piece ≡ this (kinds (Value ∷ [])) (What.Value q name form) →
    Reads shell left (key Value) ts (this (kinds (Value ∷ [])) w) rest → Reads shell left (key Value) ts (piece_pattern piece) rest
value_read left ts rest w q held_name held_form name form piece i e f p h = rw (p, e, f, ← i) h

pub argument_read : (left : ℕ) (ts rest : List What) (w : What) (q : Bool) (held_name held_form name form : List ℕ) (piece : WordPiece) → w ≡ What.ArgumentStart q held_name held_form → name ≡ held_name → form ≡ held_form → piece_pattern piece ≡ this (kinds (ArgumentStart ∷ [])) (What.ArgumentStart q name form) →
    Reads shell left (key ArgumentStart) ts (this (kinds (ArgumentStart ∷ [])) w) rest → Reads shell left (key ArgumentStart) ts (piece_pattern piece) rest
argument_read left ts rest w q held_name held_form name form piece i e f p h = rw (p, e, f, ← i) h

pub named_read : (left : ℕ) (ts rest : List What) (w : What) (q : Bool) (held bytes cut name : List ℕ) → w ≡ What.Bytes q held → is_among (class_of w) (kinds (Assigning ∷ [])) ≡ true → bytes ≡ held → cut ≡ take (length bytes - 1) bytes → name ≡ cut →
    Reads shell left (key Assigning) ts (this (kinds (Assigning ∷ [])) w) rest → Reads shell left (key Assigning) ts (this (kinds (Assigning ∷ [])) (What.Bytes false (name ++ 61 ∷ []))) rest
named_read left ts rest w q held bytes cut name i m a b e h = rw (e, b, a, ← (assigning_is q held (rw i at m)), ← i) h

pub number_read : (left : ℕ) (ts rest : List What) (w : What) (n : ℕ) → w ≡ What.Number n → Reads shell left (key Number) ts (this (kinds (Number ∷ [])) w) rest → Reads shell left (key Number) ts (this (kinds (Number ∷ [])) (What.Number n)) rest
number_read left ts rest w n i h = rw (← i) h

pub small_at : (w : What) (n : ℕ) → w ≡ What.Number n → is_among (class_of w) (kinds (Number ∷ [])) ≡ true → n ≤ 9
small_at w n i m = small_number n (rw i at m)

pub any_argument : (ts rest : List What) (w : What) → Spells shell (this (kinds (ArgumentStart ∷ [])) w) ts rest → Spells shell (key ArgumentStart) ts rest
any_argument [] rest w h = absurd h
any_argument (t ∷ ts) rest w h = (h.0.0, h.1)

pub output_made : (q : Bool) (s : Script) → piece_pattern (roll-WordPiece (record { quoted = q; what = WordWhat.Output s })) ≡ (this (kinds (SubstitutionStart ∷ [])) (What.SubstitutionStart q) ⨾ newlines ⨾ body_pattern s ⨾ key SubstitutionEnd)
output_made q s = ap (λ p. p.pattern) (piece_made q (WordWhat.Output s) ∙ ap (λ g. g q) (what_Output s))

-- where there are commands, they may be there
pub script_body : (s : Script) (vs rest : List What) → Spells shell (script_pattern s) vs rest → Spells shell (body_pattern s) vs rest
script_body s vs rest h = at (script_listing s) h
  where
    at : (o : Option Expr) → Spells shell (some_list o) vs rest → Spells shell (body_of o) vs rest
    at None h = absurd (let k = h.1 in cc)
    at (Some a) h = h

pub output_some : (q : Bool) (s : Script) (us rest : List What) → Spells shell (this (kinds (SubstitutionStart ∷ [])) (What.SubstitutionStart q) ⨾ newlines ⨾ script_pattern s ⨾ key SubstitutionEnd) us rest →
    Spells shell (piece_pattern (roll-WordPiece (record { quoted = q; what = WordWhat.Output s }))) us rest
output_some q s us rest h =
    let B = this (kinds (SubstitutionStart ∷ [])) (What.SubstitutionStart q) in
    let E = key SubstitutionEnd in
    rw (output_made q s)
    (spell_front shell B (newlines ⨾ script_pattern s ⨾ E) (newlines ⨾ body_pattern s ⨾ E) us rest rest
    (λ vs i. spell_front shell newlines (script_pattern s ⨾ E) (body_pattern s ⨾ E) vs rest rest (λ ws j. at (script_listing s) ws j) i) h)
  where
    at : (o : Option Expr) (ws : List What) → Spells shell (some_list o ⨾ key SubstitutionEnd) ws rest → Spells shell (body_of o ⨾ key SubstitutionEnd) ws rest
    at None ws j = absurd (let k = j.1 in cc)
    at (Some a) ws j = j

pub output_none : (q : Bool) (s : Script) (us rest : List What) → body_pattern s ≡ empty → Spells shell (this (kinds (SubstitutionStart ∷ [])) (What.SubstitutionStart q) ⨾ newlines ⨾ empty ⨾ key SubstitutionEnd) us rest →
    Spells shell (piece_pattern (roll-WordPiece (record { quoted = q; what = WordWhat.Output s }))) us rest
output_none q s us rest e h = rw (output_made q s, e) h

pub no_commands_is : (xs : Vec AndOr _) → xs.items ≡ [] → body_pattern (roll-Script (record { list = xs })) ≡ empty
no_commands_is xs e = ap body_of (script_made xs ∙ ap (λ l. list_of (map and_or_pattern l)) e)

digit_is : (n : ℕ) → digit_of false ((48 + n) ∷ []) ≡ Some n
digit_is n =
    let a : nat_le 48 (48 + n) ≡ true = grind arith in
    let b : (48 + n) - 48 ≡ n = omega arith in
    rw (a, b) refl

pub digit_made : (n : ℕ) (ps : Vec WordPiece _) (xs : List WordPiece) (p : WordPiece) (text : List ℕ) → ps.items ≡ xs ++ p ∷ [] → xs ≡ [] → text ≡ (48 + n) ∷ [] → (piece_spelling p).digit ≡ digit_of false text → (word_spelling (roll-Word (record { pieces = ps }))).digit ≡ Some n
digit_made n ps xs p text e z t d =
    let i : ps.items ≡ p ∷ [] = e ∙ ap (λ l. l ++ p ∷ []) z in
    ap (λ s. s.digit) (word_made ps) ∙ ap (λ l. only_digit (map piece_spelling l)) i ∙ d ∙ ap (λ l. digit_of false l) t ∙ digit_is n

pub bytes_digit : (q : Bool) (text : List ℕ) → (piece_spelling (roll-WordPiece (record { quoted = q; what = WordWhat.Bytes text }))).digit ≡ digit_of q text
bytes_digit q text = ap (λ s. s.digit) (piece_made q (WordWhat.Bytes text) ∙ ap (λ g. g q) (what_Bytes text))

-- a redirection with its number, or without it
numbered : (kind : RedirectKind) (number : Option ℕ) (fd : ℕ) (p : Expr) (us rest : List What) → fd ≡ unwrap_or number (usual kind) → Spells shell (number_of number ⨾ p) us rest → Spells shell (number_spelled (usual kind) fd ⨾ p) us rest
numbered kind None fd p us rest e h = inr (rw (e, eq-eqb (usual kind) (usual kind) refl) h)
numbered kind (Some d) fd p us rest e h = inl (rw e h)

pub redirected : (kind : RedirectKind) (number : Option ℕ) (fd : ℕ) (target : Word) (us rest : List What) → fd ≡ unwrap_or number (usual kind) → Spells shell (number_of number ⨾ target_spelled kind (word_spelling target)) us rest → Spells shell (redirect_pattern (roll-Redirect (record { fd = fd; kind = kind; target = target }))) us rest
redirected kind number fd target us rest e h = rw (redirect_made fd kind target) (numbered kind number fd (target_spelled kind (word_spelling target)) us rest e h)

some_same : (v w : What) → Some v ≡ Some w → v ≡ w
some_same v w e = ap (option_or v) e
  where
    option_or : What → Option What → What
    option_or d None = d
    option_or d (Some x) = x

pub deeper_this : (left : ℕ) (ts us : List Lexeme) (e : Expr) (q : Bool) → slice_get (whats ts) 0 ≡ Some (What.SubstitutionStart q) → Turns shell left (nested (kinds (SubstitutionStart ∷ [])) e) (whats ts) (one (kinds (SubstitutionStart ∷ []))) e (whats us) →
    Turns shell left (nested (kinds (SubstitutionStart ∷ [])) e) (whats ts) (this (kinds (SubstitutionStart ∷ [])) (What.SubstitutionStart q)) e (whats us)
deeper_this left [] us e q i h = absurd h.spells
deeper_this left (t ∷ rest) us e q i h = descends_this left rest us t (kinds (SubstitutionStart ∷ [])) e (What.SubstitutionStart q) (some_same t.what (What.SubstitutionStart q) i) h

pub exit_level : {X : Type 0} (left : ℕ) (s : List ℕ) (ts : List What) (x : Stop) (r : Result X Stop) → IsErr r × IsErrAnd r (λ d. d ≡ x) → ((e : Expr) → Gives shell left (nested s e) ts (lead_off (fault_of x))) → IfErr r (λ y. (e : Expr) → Gives shell left (nested s e) ts (lead_off (fault_of y)))
exit_level left s ts x r is h = let p = err_from_is_err_and r is.1 in rw (p.1, p.2) h

pub not_both : {b : Bool} → b ≡ false → b ≡ true → ⊥
not_both f t = cc

pub exit_wrong : {X : Type 0} (b : Bool) (x : Stop) (r : Result X Stop) → IsErr r × IsErrAnd r (λ d. d ≡ x) → (b ≡ true → fault_of x ≡ None) → IfErr r (λ y. b ≡ true → fault_of y ≡ None)
exit_wrong b x r is h = let p = err_from_is_err_and r is.1 in rw (p.1, p.2) h
