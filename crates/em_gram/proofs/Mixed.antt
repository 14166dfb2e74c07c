-- Simple commands: words and redirections in any interleaving; and words, piece by piece.
use Rattle.std.proofs.Common.{◌≡◌, ℕ, zero, suc, ◌==◌, ◌+◌, ◌<◌, Bool, true, false, not, ◌||◌, ◌&&◌, List, [], ◌∷◌, ◌++◌, length, map, Option, Some, None, refl, sym, ap, subst, ◌∙◌, inl, inr, arith}
use Rattle.std.specs.Prelude.{Result, IfErr}
use Rattle.std.specs.Result.{IsErr, IsErrAnd}
use Rattle.std.proofs.lemmas.List.{map-append, append_assoc, append-nil}
use Rattle.std.proofs.lemmas.Bool.{eqb-true}
use Rattle.std.proofs.lemmas.Result.{err_from_is_err_and}
use Rattle.em_grammar.specs.Production.{this, ◌⨾◌, empty, is_among}
use Rattle.em_grammar.specs.Machine.{first_set}
use Rattle.em_grammar.specs.Checks.{within}
use Rattle.em_grammar.specs.Gives.{begins_with, Spells, all, Turns, Reads, Faults, Passes, Moves, Gives, lead_off}
use Rattle.em_grammar.proofs.Reading.{within_at, apart_at, among-append}
use Rattle.em_grammar.proofs.Giving.{spell_then, spell_front, spell_all_more, open_bracket, end_balanced, opens_bracket, closes_bracket, more_balanced, exit_balanced, begun, turn, moves_past, reads_last}
use Rattle.em_lexeme.specs.declared.lexeme.What.{What}
use Rattle.em_token.specs.declared.stop.Stop.{Stop}
use Rattle.em_token.specs.declared.kind.Kind.TheVariants.{Assignment, ArgumentStart, ArgumentEnd, Bytes, Assigning, Value, SubstitutionStart}
use Rattle.em_syntax.specs.declared.tree.Redirect.{Redirect}
use Rattle.em_syntax.specs.declared.tree.Word.{Word}
use Rattle.em_syntax.specs.declared.tree.Assigned.{Assigned}
use Rattle.em_token.specs.Kinds.{kinds, words, command_words, class_of}
use Rattle.em_token.specs.Seen.{fault_of}
use Rattle.em_token.specs.Shell.{shell, Expr, pieces, piece, argument, arguments, prefix, key}
use Rattle.em_token.specs.Words.{word_goes_on}
use Rattle.em_gram.specs.Patterns.{weave, mixed, redirect_pattern, word_spelling, any_word, word_spelled, words_spelled, assigned_pattern}
use Rattle.em_gram.specs.Simple.{so_far}
use Rattle.em_token.proofs.Checked.{shell_firm}

pub exit_gives : {X : Type 0} (left : ℕ) (e : Expr) (ts : List What) (x : Stop) (r : Result X Stop) → IsErr r × IsErrAnd r (λ d. d ≡ x) → Gives shell left e ts (lead_off (fault_of x)) → IfErr r (λ y. Gives shell left e ts (lead_off (fault_of y)))
exit_gives left e ts x r is h = let p = err_from_is_err_and r is.1 in rw (p.1, p.2) h

pub exit_step : {X : Type 0} (left d : ℕ) (ts : List What) (x : Stop) (r : Result X Stop) → IsErr r × IsErrAnd r (λ d. d ≡ x) → ((g : Expr) → Gives shell left (pieces d ⨾ g) ts (lead_off (fault_of x))) → IfErr r (λ y. (g : Expr) → Gives shell left (pieces d ⨾ g) ts (lead_off (fault_of y)))
exit_step left d ts x r is h = let p = err_from_is_err_and r is.1 in rw (p.1, p.2) h

pub passes_of : {left : ℕ} {e p : Expr} {ts us : List What} → Reads shell left e ts p us → Passes shell left e ts us
passes_of h = record { goes = h.goes }

pub moved : {left : ℕ} {e f g p : Expr} {ts us vs : List What} → Turns shell left e ts p f us → Moves shell left f us g vs → (q : Expr) → Spells shell q ts vs → Turns shell left e ts q g vs
moved t m q s = record { spells = s; goes = λ S. t.goes S ∙ m.goes S }

-- one more at the end of each
weave_on : (w : Expr) (f g : List Expr → Expr) (us rest : List What) → ((rs : List Expr) (ts : List What) → Spells shell (f rs) ts us → Spells shell (g rs) ts rest) → (rs : List Expr) (ts : List What) → Spells shell (weave w f rs) ts us → Spells shell (weave w g rs) ts rest
weave_on w f g us rest k [] ts h = spell_front shell w (f []) (g []) ts us rest (k []) h
weave_on w f g us rest k (r ∷ rs) ts (inl h) = inl (spell_front shell w (f (r ∷ rs)) (g (r ∷ rs)) ts us rest (k (r ∷ rs)) h)
weave_on w f g us rest k (r ∷ rs) ts (inr h) = inr (spell_front shell r (weave w f rs) (weave w g rs) ts us rest (weave_on w f g us rest k rs) h)

weave_last : (w : Expr) (us rest : List What) → Spells shell w us rest → (rs : List Expr) (ts : List What) → Spells shell (all rs) ts us → Spells shell (weave w all rs) ts rest
weave_last w us rest s [] ts h = spell_then shell w empty ts rest rest (rw h s) refl
weave_last w us rest s (r ∷ rs) ts h = inr (spell_front shell r (all rs) (weave w all rs) ts us rest (weave_last w us rest s rs) h)

spell_word : (ws : List Expr) (w : Expr) (us rest : List What) → Spells shell w us rest → (rs : List Expr) (ts : List What) → Spells shell (mixed ws rs) ts us → Spells shell (mixed (ws ++ w ∷ []) rs) ts rest
spell_word [] w us rest s rs ts h = weave_last w us rest s rs ts h
spell_word (x ∷ ws) w us rest s rs ts h = weave_on x (mixed ws) (mixed (ws ++ w ∷ [])) us rest (spell_word ws w us rest s) rs ts h

weave_other : (w : Expr) (f : List Expr → Expr) (r : Expr) (us rest : List What) → ((rs : List Expr) (ts : List What) → Spells shell (f rs) ts us → Spells shell (f (rs ++ r ∷ [])) ts rest) → (rs : List Expr) (ts : List What) → Spells shell (weave w f rs) ts us → Spells shell (weave w f (rs ++ r ∷ [])) ts rest
weave_other w f r us rest k [] ts h = inl (spell_front shell w (f []) (f (r ∷ [])) ts us rest (k []) h)
weave_other w f r us rest k (q ∷ rs) ts (inl h) = inl (spell_front shell w (f (q ∷ rs)) (f ((q ∷ rs) ++ r ∷ [])) ts us rest (k (q ∷ rs)) h)
weave_other w f r us rest k (q ∷ rs) ts (inr h) = inr (spell_front shell q (weave w f rs) (weave w f (rs ++ r ∷ [])) ts us rest (weave_other w f r us rest k rs) h)

spell_redirect : (ws : List Expr) (r : Expr) (us rest : List What) → Spells shell r us rest → (rs : List Expr) (ts : List What) → Spells shell (mixed ws rs) ts us → Spells shell (mixed ws (rs ++ r ∷ [])) ts rest
spell_redirect [] r us rest s rs ts h = spell_all_more shell rs r ts us rest h s
spell_redirect (x ∷ ws) r us rest s rs ts h = weave_other x (mixed ws) r us rest (spell_redirect ws r us rest s) rs ts h

words_more : (ws vs : List Word) (w : Word) → 0 < length ws → vs ≡ ws ++ w ∷ [] → words_spelled (map word_spelling vs) ≡ words_spelled (map word_spelling ws) ++ any_word (word_spelling w) ∷ []
words_more [] vs w n e = absurd (omega arith)
words_more (x ∷ ws) vs w n e = rw (e, map-append word_spelling ws (w ∷ []), map-append any_word (map word_spelling ws) (word_spelling w ∷ [])) refl

pub one_word : (start : List What) (assigned : List Expr) (ws vs : List Word) (w : Word) (rs : List Redirect) (us rest : List What) → 0 < length ws → vs ≡ ws ++ w ∷ [] → Spells shell (any_word (word_spelling w)) us rest → Spells shell (so_far assigned ws rs) start us → Spells shell (so_far assigned vs rs) start rest
one_word start assigned ws vs w rs us rest n e s h =
    rw (words_more ws vs w n e, ← (append_assoc assigned (words_spelled (map word_spelling ws)) (any_word (word_spelling w) ∷ [])))
    (spell_word (assigned ++ words_spelled (map word_spelling ws)) (any_word (word_spelling w)) us rest s (map redirect_pattern rs) start h)

pub one_redirect : (start : List What) (assigned : List Expr) (ws : List Word) (rs qs : List Redirect) (r : Redirect) (us rest : List What) → qs ≡ rs ++ r ∷ [] → Spells shell (redirect_pattern r) us rest → Spells shell (so_far assigned ws rs) start us → Spells shell (so_far assigned ws qs) start rest
one_redirect start assigned ws rs qs r us rest e s h = rw (e, map-append redirect_pattern rs (r ∷ [])) (spell_redirect (assigned ++ words_spelled (map word_spelling ws)) (redirect_pattern r) us rest s (map redirect_pattern rs) start h)

pub one_assigned : (start : List What) (bs ds : List Assigned) (a : Assigned) (rs : List Redirect) (us rest : List What) → ds ≡ bs ++ a ∷ [] → Spells shell (assigned_pattern a) us rest → Spells shell (so_far (map assigned_pattern bs) [] rs) start us → Spells shell (so_far (map assigned_pattern ds) [] rs) start rest
one_assigned start bs ds a rs us rest e s h =
    rw (e, map-append assigned_pattern bs (a ∷ []), append-nil (map assigned_pattern bs ++ assigned_pattern a ∷ []))
    (spell_word (map assigned_pattern bs) (assigned_pattern a) us rest s (map redirect_pattern rs) start (rw (append-nil (map assigned_pattern bs)) at h))

-- words: no piece follows
no_or : (a b : Bool) → (a || b) ≡ false → (a ≡ false) × (b ≡ false)
no_or true b e = absurd cc
no_or false b e = (refl, e)

pub still_open : (left d : ℕ) (g : Expr) (us : List What) → not (d == 0) ≡ true → word_goes_on true us ≡ false → Faults shell left (pieces d ⨾ g) us 0 us
still_open left zero g us o n = absurd cc
still_open left (suc d) g us o n =
    let p = no_or (begins_with shell us (kinds (ArgumentStart ∷ Bytes ∷ Assigning ∷ Value ∷ SubstitutionStart ∷ []))) (begins_with shell us (kinds (ArgumentEnd ∷ []))) n in
    open_bracket shell left d (kinds (ArgumentStart ∷ [])) piece (kinds (ArgumentEnd ∷ [])) g us (none us p.0 p.1)
  where
    none : (us : List What) → begins_with shell us (kinds (ArgumentStart ∷ Bytes ∷ Assigning ∷ Value ∷ SubstitutionStart ∷ [])) ≡ false → begins_with shell us (kinds (ArgumentEnd ∷ [])) ≡ false → begins_with shell us (kinds (ArgumentStart ∷ Bytes ∷ Assigning ∷ Value ∷ SubstitutionStart ∷ ArgumentEnd ∷ [])) ≡ false
    none [] a b = refl
    none (t ∷ ts) a b =
        let A = kinds (ArgumentStart ∷ Bytes ∷ Assigning ∷ Value ∷ SubstitutionStart ∷ []) in
        let C = kinds (ArgumentEnd ∷ []) in
        let r : (is_among (class_of t) A || is_among (class_of t) C) ≡ false = rw (a, b) refl in
        among-append (class_of t) A C ∙ r

not_false : (b : Bool) → not b ≡ false → b ≡ true
not_false true e = refl
not_false false e = absurd cc

pub no_more : {left : ℕ} {e g p : Expr} {ts us : List What} (d : ℕ) → not (d == 0) ≡ false → word_goes_on false us ≡ false → Turns shell left e ts p (pieces d ⨾ g) us → Turns shell left e ts p g us
no_more {us = us} zero o n t = end_balanced shell t (no_or (begins_with shell us (kinds (ArgumentStart ∷ Bytes ∷ Assigning ∷ Value ∷ SubstitutionStart ∷ []))) false n).0
no_more (suc d) o n t = absurd (let k = eqb-true (suc d) 0 (not_false (suc d == 0) o) in omega (arith, k))

pub none_open : (d : ℕ) → not (d == 0) ≡ false → d ≡ 0
none_open d o = eqb-true d 0 (not_false (d == 0) o)

-- a step of a word
pub open_moves : (left d n : ℕ) (g : Expr) (ts us : List What) → n ≡ d + 1 → Spells shell (key ArgumentStart) ts us → Moves shell left (pieces d ⨾ g) ts (pieces n ⨾ g) us
open_moves left d n g [] us e h = absurd h
open_moves left d n g (t ∷ vs) us e h =
    let k : n ≡ suc d = omega (arith, e) in
    rw (k, ← h.1) (record { goes = (opens_bracket shell (begun shell left (pieces d ⨾ g) (t ∷ vs)) h.0 (key ArgumentStart) (h.0, refl)).goes })

pub close_moves : (left d n : ℕ) (g : Expr) (ts us : List What) → n + 1 ≡ d → Spells shell (key ArgumentEnd) ts us → Moves shell left (pieces d ⨾ g) ts (pieces n ⨾ g) us
close_moves left d n g [] us e h = absurd h
close_moves left d n g (t ∷ vs) us e h =
    let k : d ≡ suc n = omega (arith, e) in
    rw (k, ← h.1) (record { goes = (closes_bracket shell (begun shell left (pieces (suc n) ⨾ g) (t ∷ vs)) refl refl h.0 (key ArgumentEnd) (h.0, refl)).goes })

pub piece_moves : (left d n : ℕ) (g p : Expr) (ts us : List What) → n ≡ d → begins_with shell ts (kinds (Bytes ∷ Assigning ∷ Value ∷ SubstitutionStart ∷ [])) ≡ true → Reads shell left piece ts p us → Moves shell left (pieces d ⨾ g) ts (pieces n ⨾ g) us
piece_moves left d n g p ts us e b h = rw e (record { goes = (more_balanced shell shell_firm (begun shell left (pieces d ⨾ g) ts) refl refl b h p h.spells).goes })

pub piece_exit : (left d : ℕ) (g : Expr) (ts : List What) → begins_with shell ts (kinds (Bytes ∷ Assigning ∷ Value ∷ SubstitutionStart ∷ [])) ≡ true → (o : Option (ℕ × List What)) → Gives shell left piece ts (lead_off o) → Gives shell left (pieces d ⨾ g) ts (lead_off o)
piece_exit left d g ts b o h = exit_balanced shell shell_firm (begun shell left (pieces d ⨾ g) ts) refl refl b o h

pub part_spelled : (old new : List Expr) (p : Expr) (start us rest : List What) → new ≡ old ++ p ∷ [] → Spells shell p us rest → Spells shell (all old) start us → Spells shell (all new) start rest
part_spelled old new p start us rest e s h = rw e (spell_all_more shell old p start us rest h s)

pub piece_next : (d : ℕ) (ts : List What) → word_goes_on (not (d == 0)) ts ≡ true → begins_with shell ts (kinds (ArgumentStart ∷ [])) ≡ false → begins_with shell ts (kinds (ArgumentEnd ∷ [])) ≡ false → begins_with shell ts (kinds (Bytes ∷ Assigning ∷ Value ∷ SubstitutionStart ∷ [])) ≡ true
piece_next d [] m a b = absurd (at (not (d == 0)) m)
  where
    at : (x : Bool) → (false || (x && false)) ≡ true → ⊥
    at true k = absurd cc
    at false k = absurd cc
piece_next d (t ∷ ts) m a b = at (is_among (class_of t) (kinds (ArgumentStart ∷ []))) (is_among (class_of t) (kinds (Bytes ∷ Assigning ∷ Value ∷ SubstitutionStart ∷ []))) (is_among (class_of t) (kinds (ArgumentEnd ∷ []))) (not (d == 0)) a b
    (ap (λ z. z || (not (d == 0) && is_among (class_of t) (kinds (ArgumentEnd ∷ [])))) (sym (among-append (class_of t) (kinds (ArgumentStart ∷ [])) (kinds (Bytes ∷ Assigning ∷ Value ∷ SubstitutionStart ∷ [])))) ∙ m)
  where
    at : (x y z o : Bool) → x ≡ false → z ≡ false → ((x || y) || (o && z)) ≡ true → y ≡ true
    at true y z o i j k = absurd cc
    at false true z o i j k = refl
    at false false true o i j k = absurd cc
    at false false false true i j k = absurd cc
    at false false false false i j k = absurd cc

pub end_is_open : (d : ℕ) (ts : List What) → word_goes_on (not (d == 0)) ts ≡ true → begins_with shell ts (kinds (ArgumentEnd ∷ [])) ≡ true → 0 < d
end_is_open zero [] m b = absurd cc
end_is_open zero (t ∷ ts) m b =
    let k = apart_at (class_of t) (kinds (ArgumentStart ∷ Bytes ∷ Assigning ∷ Value ∷ SubstitutionStart ∷ [])) (kinds (ArgumentEnd ∷ [])) refl b in
    absurd (at (is_among (class_of t) (kinds (ArgumentStart ∷ Bytes ∷ Assigning ∷ Value ∷ SubstitutionStart ∷ []))) k m)
  where
    at : (x : Bool) → x ≡ false → (x || false) ≡ true → ⊥
    at true i j = absurd cc
    at false i j = absurd cc
end_is_open (suc d) ts m b = omega arith

-- a command's first word, which is a name, plain, or behind assignments any word but one
first_spelled : (s : List ℕ) → within s command_words ≡ true → (w : Word) (ts us : List What) → Spells shell (word_spelled s (word_spelling w)) ts us → Spells shell (word_spelled command_words (word_spelling w)) ts us
first_spelled s i w [] us h = absurd h
first_spelled s i w (t ∷ ts) us h = (within_at (class_of t) s command_words i h.0, h.1)

pub first_alone : (s : List ℕ) → within s command_words ≡ true → (w : Word) (ts us : List What) → Spells shell (word_spelled s (word_spelling w)) ts us → Spells shell (so_far [] (w ∷ []) []) ts us
first_alone s i w ts us h = spell_then shell (word_spelled command_words (word_spelling w)) empty ts us us (first_spelled s i w ts us h) refl

pub first_behind : (start : List What) (assigned : List Expr) (w : Word) (rs : List Redirect) (us rest : List What) → Spells shell (word_spelled command_words (word_spelling w)) us rest → Spells shell (so_far assigned [] rs) start us → Spells shell (so_far assigned (w ∷ []) rs) start rest
first_behind start assigned w rs us rest s h = spell_word assigned (word_spelled command_words (word_spelling w)) us rest s (map redirect_pattern rs) start (rw (append-nil assigned) at h)

pub no_word : (ts : List What) → begins_with shell ts command_words ≡ false → begins_with shell ts (kinds (Assignment ∷ [])) ≡ false → begins_with shell ts words ≡ false
no_word [] a b = refl
no_word (t ∷ ts) a b = at (is_among (class_of t) words) refl
  where
    at : (x : Bool) → is_among (class_of t) words ≡ x → x ≡ false
    at true e = absurd (let k = within_at (class_of t) words (command_words ++ kinds (Assignment ∷ [])) refl e in let q = among-append (class_of t) command_words (kinds (Assignment ∷ [])) in let r : is_among (class_of t) (command_words ++ kinds (Assignment ∷ [])) ≡ false = q ∙ rw (a, b) refl in cc)
    at false e = refl

pub then_passed : {left : ℕ} {e f p q : Expr} {ts us vs : List What} → Reads shell left e ts p us → Passes shell left f us vs → Spells shell q ts vs → Reads shell left (e ⨾ f) ts q vs
then_passed r m s = let t = turn shell r in record { spells = s; goes = λ S. t.goes S ∙ m.goes S }

-- moves, one after another
pub moves_on : {left : ℕ} {e f g : Expr} {ts us vs : List What} → Moves shell left e ts f us → Moves shell left f us g vs → Moves shell left e ts g vs
moves_on a b = record { goes = λ S. a.goes S ∙ b.goes S }

pub moves_end : {left : ℕ} {e f : Expr} {ts us vs : List What} → Moves shell left e ts f us → Passes shell left f us vs → Passes shell left e ts vs
moves_end a b = record { goes = λ S. a.goes S ∙ b.goes S }

pub moves_exit : {left : ℕ} {e f : Expr} {ts us : List What} → Moves shell left e ts f us → (o : Option (ℕ × List What)) → Gives shell left f us (lead_off o) → Gives shell left e ts (lead_off o)
moves_exit {left = left} {e = e} {f = f} {ts = ts} {us = us} m o h = at m o h
  where
    at : Moves shell left e ts f us → (o : Option (ℕ × List What)) → Gives shell left f us (lead_off o) → Gives shell left e ts (lead_off o)
    at m None h = tt
    at m (Some x) h = record { stops = λ S. m.goes S ∙ h.stops S }

pub last_of : (ts : List What) → begins_with shell ts (first_set shell.list_first argument) ≡ false → begins_with shell ts words ≡ false
last_of [] b = refl
last_of (t ∷ ts) b = at (is_among (class_of t) words) refl
  where
    at : (x : Bool) → is_among (class_of t) words ≡ x → x ≡ false
    at true e = absurd (let k = within_at (class_of t) words (first_set shell.list_first argument) refl e in cc)
    at false e = refl

pub no_argument : {left : ℕ} {us : List What} → begins_with shell us (first_set shell.list_first argument) ≡ false → Passes shell left arguments us us
no_argument {left = left} {us = us} b = moves_end (moves_past shell b) (passes_of (reads_last shell left words us (last_of us b)))

pub not_wrong : {b : Bool} → b ≡ false → b ≡ true → ⊥
not_wrong f t = cc

pub go_at : (us : List What) (r b x : Bool) → b ≡ x → word_goes_on b us ≡ r → word_goes_on x us ≡ r
go_at us r b x e h = subst (λ (z : Bool). word_goes_on z us ≡ r) e h

pub some_first : (xs ys : List Word) (w : Word) → xs ≡ [] → ys ≡ xs ++ w ∷ [] → 0 < length ys
some_first xs ys w n e = rw (e, n) (omega arith)

pub one_there : (xs ys : List Word) (w : Word) → ys ≡ xs ++ w ∷ [] → 0 < length ys
one_there [] ys w e = rw e (omega arith)
one_there (x ∷ xs) ys w e = rw e (omega arith)

pub no_assignment : (ts : List What) → begins_with shell ts (first_set shell.list_first prefix) ≡ false → begins_with shell ts (kinds (Assignment ∷ [])) ≡ false
no_assignment [] b = refl
no_assignment (t ∷ ts) b = at (is_among (class_of t) (kinds (Assignment ∷ []))) refl
  where
    at : (x : Bool) → is_among (class_of t) (kinds (Assignment ∷ [])) ≡ x → x ≡ false
    at true e = absurd (let k = within_at (class_of t) (kinds (Assignment ∷ [])) (first_set shell.list_first prefix) refl e in cc)
    at false e = refl
