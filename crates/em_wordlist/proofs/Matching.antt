-- Which words a pattern matches.
--     stem_matches      where `stem_of` gives a place, the word matches with what stands there
--     match_has_stem    where the word matches, `stem_of` gives the stem's place
--     replaced_is       what a word that matches becomes, and what becomes of another
use Rattle.std.proofs.Common.{◌≡◌, ℕ, ◌+◌, ◌-◌, ◌<◌, ◌≤◌, Bool, true, false, not, ◌&&◌, cond, nat_eq, ltb, List, ◌++◌, length, take, drop, Option, Some, None, arith, refl, subst, sym, ap, ◌∙◌, append_assoc, length-append, length-drop, take-append-drop}
use Rattle.std.specs.List.{position, starts_with, ends_with}
use Rattle.std.specs.Str.{bytes_eq}
use Rattle.std.proofs.lemmas.Bool.{and_parts, and_from, not-true, not_from_false, ltb-false, le-ltb, cond-true}
use Rattle.std.proofs.lemmas.Bool.Decides.{Decides-eqb}
use Rattle.std.proofs.lemmas.List.{take-take, take_at, drop-take, length-take-le, append_cancel_left, append_cancel_right}
use Rattle.std.proofs.lemmas.List.Quantifiers.{position-Some}
use Rattle.std.proofs.lemmas.Slice.Eq.{bytes_eq-Decides, starts_is, ends_is}
use Rattle.em_base.specs.declared.place.Span.{Span}
use Rattle.em_base.specs.Spans.{cut}
use Rattle.em_wordlist.specs.Stems.{is_percent, IsMatchAt, IsMatch, stem_at, stem_of, filled_at, filled, given, replaced_by, replaced}

cond_some : {X : Type 0} (b : Bool) (x y : X) → cond b (Some x) None ≡ Some y → (b ≡ true) × (x ≡ y)
cond_some true x y e = (refl, cc)
cond_some false x y e = cc

-- the tests of a pattern with its `%` at i
abbrev fits : ℕ → List ℕ → List ℕ → Bool
fits i pattern word = not (ltb (length word + 1) (length pattern)) && starts_with nat_eq word (take i pattern) && ends_with nat_eq word (drop (i + 1) pattern)

abbrev place : ℕ → List ℕ → List ℕ → Span
place i pattern word = record { start = i; end = length word + i + 1 - length pattern }

-- a word that begins with one text, ends with another and has room for both
between : (a b word : List ℕ) (i end : ℕ) → length a ≡ i → end + length b ≡ length word → i ≤ end → word ≡ a ++ drop (length a) word → word ≡ take (length word - length b) word ++ b → word ≡ a ++ take (end - i) (drop i word) ++ b
between a b word i end la lb room front back =
    let m : length word - length b ≡ end = omega arith in
    let j : end ≡ i + (end - i) = omega arith in
    let first : take i (take end word) ≡ a = take-take i end word room ∙ ap (take i) front ∙ take_at a (drop (length a) word) i la in
    let rest : drop i (take end word) ≡ take (end - i) (drop i word) = ap (λ k. drop i (take k word)) j ∙ drop-take i (end - i) word in
    back ∙ ap (λ (xs : List ℕ). xs ++ b) (ap (λ k. take k word) m ∙ sym (take-append-drop i (take end word)) ∙ ap (λ (xs : List ℕ). xs ++ drop i (take end word)) first ∙ ap (λ (xs : List ℕ). a ++ xs) rest)

fits_match : (i : ℕ) (pattern word : List ℕ) → i < length pattern → fits i pattern word ≡ true → word ≡ take i pattern ++ cut word (place i pattern word) ++ drop (i + 1) pattern
fits_match i pattern word low h =
    let outer = and_parts _ _ h in
    let inner = and_parts _ _ outer.0 in
    let room = ltb-false (length word + 1) (length pattern) (not-true _ inner.0) in
    let la = length-take-le i pattern (omega arith) in
    let lb = length-drop (i + 1) pattern in
    between (take i pattern) (drop (i + 1) pattern) word i (length word + i + 1 - length pattern) la (omega arith) (omega arith)
    ((starts_is Decides-eqb word (take i pattern) _ refl).0 inner.1) ((ends_is Decides-eqb word (drop (i + 1) pattern) _ refl).0 outer.1)

match_fits : (i : ℕ) (pattern word stem : List ℕ) → i < length pattern → word ≡ take i pattern ++ stem ++ drop (i + 1) pattern → fits i pattern word ≡ true
match_fits i pattern word stem low is =
    let a = take i pattern in
    let b = drop (i + 1) pattern in
    let la = length-take-le i pattern (omega arith) in
    let lb = length-drop (i + 1) pattern in
    let l = ap length is ∙ length-append (a ++ stem) b in
    let l2 = length-append a stem in
    and_from _ _ (and_from _ _ (not_from_false _ (le-ltb (length word + 1) (length pattern) (omega arith))) ((starts_is Decides-eqb word a _ refl).1 (stem ++ b) (is ∙ append_assoc a stem b)))
    ((ends_is Decides-eqb word b _ refl).1 (a ++ stem) is)

bound : (pattern : List ℕ) (i : ℕ) → position is_percent pattern ≡ Some i → i < length pattern
bound pattern i p = (position-Some is_percent pattern i 0 p).0

matches_at : (o : Option ℕ) (pattern word : List ℕ) (s : Span) → position is_percent pattern ≡ o → stem_at o pattern word ≡ Some s → IsMatchAt o pattern word (cut word s)
matches_at None pattern word s p e =
    let t = cond_some (bytes_eq word pattern) (let z : Span = record { start = 0; end = 0 } in z) s e in
    ((bytes_eq-Decides word pattern).0 t.0, ap (cut word) (sym t.1))
matches_at (Some i) pattern word s p e =
    let t = cond_some (fits i pattern word) (place i pattern word) s e in
    subst (λ (r : Span). word ≡ take i pattern ++ cut word r ++ drop (i + 1) pattern) t.1 (fits_match i pattern word (bound pattern i p) t.0)

pub stem_matches : (pattern word : List ℕ) (s : Span) → stem_of pattern word ≡ Some s → IsMatch pattern word (cut word s)
stem_matches pattern word s e = matches_at (position is_percent pattern) pattern word s refl e

has_stem_at : (o : Option ℕ) (pattern word stem : List ℕ) → position is_percent pattern ≡ o → IsMatchAt o pattern word stem → (s : Span) × (stem_at o pattern word ≡ Some s) × (cut word s ≡ stem)
has_stem_at None pattern word stem p (is, none) = (record { start = 0; end = 0 }, cond-true (bytes_eq word pattern) _ _ ((bytes_eq-Decides word pattern).1 is), sym none)
has_stem_at (Some i) pattern word stem p is =
    let low = bound pattern i p in
    let t = match_fits i pattern word stem low is in
    let cut_is = fits_match i pattern word low t in
    (place i pattern word, cond-true (fits i pattern word) _ _ t, append_cancel_left (take i pattern) _ _ (append_cancel_right _ _ (drop (i + 1) pattern) (sym cut_is ∙ is)))

pub match_has_stem : (pattern word stem : List ℕ) → IsMatch pattern word stem → (s : Span) × (stem_of pattern word ≡ Some s) × (cut word s ≡ stem)
match_has_stem pattern word stem h = has_stem_at (position is_percent pattern) pattern word stem refl h

pub no_stem : (pattern word : List ℕ) → stem_of pattern word ≡ None → (stem : List ℕ) → IsMatch pattern word stem → ⊥
no_stem pattern word none stem h = let (s, some, is) = match_has_stem pattern word stem h in cc

-- ---- laws

replaced_of_match : (pattern to word stem : List ℕ) → IsMatch pattern word stem → replaced pattern to word ≡ given (position is_percent pattern) to stem
replaced_of_match pattern to word stem h =
    let (s, some, is) = match_has_stem pattern word stem h in
    ap (λ (o : Option Span). replaced_by o pattern to word) some ∙ ap (given (position is_percent pattern) to) is

pub stem_is_put_back : (pattern to word stem : List ℕ) (i : ℕ) → position is_percent pattern ≡ Some i → IsMatch pattern word stem → replaced pattern to word ≡ filled to stem
stem_is_put_back pattern to word stem i p h = replaced_of_match pattern to word stem h ∙ ap (λ (o : Option ℕ). given o to stem) p

itself_at : (o : Option ℕ) (pattern word stem : List ℕ) → position is_percent pattern ≡ o → IsMatchAt o pattern word stem → given o pattern stem ≡ word
itself_at None pattern word stem p h = sym h.0
itself_at (Some i) pattern word stem p h = ap (λ (o : Option ℕ). filled_at o pattern stem) p ∙ sym h

pub filled_matches : (pattern stem : List ℕ) (i : ℕ) → position is_percent pattern ≡ Some i → IsMatch pattern (filled pattern stem) stem
filled_matches pattern stem i p = rw p refl

filled_is : (o : Option ℕ) (pattern word stem : List ℕ) → IsMatchAt o pattern word stem → filled_at o pattern stem ≡ word
filled_is None pattern word stem h = sym h.0
filled_is (Some i) pattern word stem h = sym h

pub match_is_filled : (pattern word stem : List ℕ) → IsMatch pattern word stem → filled pattern stem ≡ word
match_is_filled pattern word stem h = filled_is (position is_percent pattern) pattern word stem h

pub replaced_by_itself : (pattern word stem : List ℕ) → IsMatch pattern word stem → replaced pattern pattern word ≡ word
replaced_by_itself pattern word stem h = replaced_of_match pattern pattern word stem h ∙ itself_at (position is_percent pattern) pattern word stem refl h

stays_at : (o : Option Span) (pattern to word : List ℕ) → ((s : Span) → o ≡ Some s → ⊥) → replaced_by o pattern to word ≡ word
stays_at None pattern to word h = refl
stays_at (Some s) pattern to word h = absurd (h s refl)

pub other_words_stay : (pattern to word : List ℕ) → ((stem : List ℕ) → IsMatch pattern word stem → ⊥) → replaced pattern to word ≡ word
other_words_stay pattern to word h = stays_at (stem_of pattern word) pattern to word (λ s e. h (cut word s) (stem_matches pattern word s e))
