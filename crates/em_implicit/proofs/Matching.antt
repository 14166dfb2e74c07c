-- What a match makes of the pattern that it matches.
--     filled_again      a pattern that is matched has a `%`, and filled with its stem it is the word
--     own_member        the law
use Rattle.std.proofs.Common.{◌≡◌, ◌∙◌, refl, sym, ap, subst, ℕ, zero, suc, ◌+◌, ◌-◌, ◌<◌, ◌≤◌, ◌==◌, Bool, true, false, not, ◌&&◌, cond, nat_eq, ltb, List, [], ◌∷◌, ◌++◌, length, map, take, drop, Option, Some, None, arith, length-drop, take-append-drop}
use Rattle.std.specs.Prelude.{slice_get}
use Rattle.std.specs.List.{list_any, position, starts_with, ends_with}
use Rattle.std.specs.Str.{bytes_eq}
use Rattle.std.proofs.lemmas.Bool.{and_parts, not-true, ltb-false}
use Rattle.std.proofs.lemmas.List.{take-take, take_at, drop-take, length-take-le}
use Rattle.std.proofs.lemmas.List.Folds.{list_any_at}
use Rattle.std.proofs.lemmas.List.Quantifiers.{position-Some}
use Rattle.std.proofs.lemmas.Slice.Eq.{starts_is, ends_is}
use Rattle.std.proofs.lemmas.Bool.Decides.{Decides-eqb}
use Rattle.em_base.specs.declared.place.Span.{Span}
use Rattle.em_base.specs.Spans.{cut}
use Rattle.em_wordlist.specs.Stems.{is_percent, stem_at, stem_of, filled_at, filled}
use Rattle.em_rules.specs.declared.rule.Rule.{Rule}
use Rattle.em_rules.specs.Dots.{undotted}
use Rattle.em_implicit.specs.Matches.{behind_dir, filled_by, filled_stem, match_start, match_of, match_at, match_by, made, members_of}

some_of : {X : Type 0} (b : Bool) (x y : X) → cond b (Some x) None ≡ Some y → (b ≡ true) × (x ≡ y)
some_of true x y e = (refl, cc)
some_of false x y e = cc

-- the tests of a pattern with its `%` at i
abbrev fits : ℕ → List ℕ → List ℕ → Bool
fits i pattern word = not (ltb (length word + 1) (length pattern)) && starts_with nat_eq word (take i pattern) && ends_with nat_eq word (drop (i + 1) pattern)

abbrev place : ℕ → List ℕ → List ℕ → Span
place i pattern word = record { start = i; end = length word + i + 1 - length pattern }

-- a word that begins with one text, ends with another and has room for both
between : (a b word : List ℕ) (i end : ℕ) → length a ≡ i → end + length b ≡ length word → i ≤ end → word ≡ a ++ drop (length a) word → word ≡ take (length word - length b) word ++ b → word ≡ a ++ take (end - i) (drop i word) ++ b
between a b word i end la lb room front back =
    let m : length word - length b ≡ end = omega arith in
    let j : end ≡ i + (end - i) = omega arith in
    let first : take i (take end word) ≡ a = take-take i end word room ∙ ap (take i) front ∙ take_at a (drop (length a) word) i la in
    let rest : drop i (take end word) ≡ take (end - i) (drop i word) = ap (λ k. drop i (take k word)) j ∙ drop-take i (end - i) word in
    back ∙ ap (λ (xs : List ℕ). xs ++ b) (ap (λ k. take k word) m ∙ sym (take-append-drop i (take end word)) ∙ ap (λ (xs : List ℕ). xs ++ drop i (take end word)) first ∙ ap (λ (xs : List ℕ). a ++ xs) rest)

fits_match : (i : ℕ) (pattern word : List ℕ) → i < length pattern → fits i pattern word ≡ true → word ≡ take i pattern ++ cut word (place i pattern word) ++ drop (i + 1) pattern
fits_match i pattern word low h =
    let outer = and_parts _ _ h in
    let inner = and_parts _ _ outer.0 in
    let room = ltb-false (length word + 1) (length pattern) (not-true _ inner.0) in
    let la = length-take-le i pattern (omega arith) in
    let lb = length-drop (i + 1) pattern in
    between (take i pattern) (drop (i + 1) pattern) word i (length word + i + 1 - length pattern) la (omega arith) (omega arith)
    ((starts_is Decides-eqb word (take i pattern) _ refl).0 inner.1) ((ends_is Decides-eqb word (drop (i + 1) pattern) _ refl).0 outer.1)

bound : (pattern : List ℕ) (i : ℕ) → position is_percent pattern ≡ Some i → i < length pattern
bound pattern i p = (position-Some is_percent pattern i 0 p).0

cut_is : (b : Bool) (stem cut : List ℕ) → cond b None (Some cut) ≡ Some stem → cut ≡ stem
cut_is true stem cut e = absurd cc
cut_is false stem cut e = cc

-- without a `%` only the empty stem is left
by_span : (o : Option ℕ) (pattern word stem : List ℕ) (r : Option Span) → position is_percent pattern ≡ o → stem_at o pattern word ≡ r → filled_by r word ≡ Some stem → (list_any is_percent pattern ≡ true) × (filled_at o pattern stem ≡ word)
by_span o pattern word stem None p is e = absurd cc
by_span None pattern word stem (Some s) p is e =
    let t = some_of (bytes_eq word pattern) (let z : Span = record { start = 0; end = 0 } in z) s is in
    absurd (none_left word stem (ap (λ (x : Span). filled_by (Some x) word) t.1 ∙ e))
  where
    none_left : (word stem : List ℕ) → filled_by (Some (let z : Span = record { start = 0; end = 0 } in z)) word ≡ Some stem → ⊥
    none_left word stem e = cc
by_span (Some i) pattern word stem (Some s) p is e =
    let t = some_of (fits i pattern word) (place i pattern word) s is in
    let low = bound pattern i p in
    let at = position-Some is_percent pattern i 0 p in
    let own : cut word (place i pattern word) ≡ stem = cut_is (length (cut word (place i pattern word)) == 0) stem _ (ap (λ (x : Span). filled_by (Some x) word) t.1 ∙ e) in
    (list_any_at is_percent pattern i 0 at.0 at.1, subst (λ x. filled_at (Some i) pattern x ≡ word) own (sym (fits_match i pattern word low t.0)))

pub filled_again : (pattern word stem : List ℕ) → filled_stem pattern word ≡ Some stem → (list_any is_percent pattern ≡ true) × (filled pattern stem ≡ word)
filled_again pattern word stem e = by_span (position is_percent pattern) pattern word stem (stem_of pattern word) refl refl e

made_with : (pattern target dir word : List ℕ) (o : Option (List ℕ)) (m : List ℕ × List ℕ) → target ≡ dir ++ word → filled_stem pattern word ≡ o → behind_dir dir o ≡ Some m → made m.0 m.1 pattern ≡ undotted target
made_with pattern target dir word None m parts is e = absurd cc
made_with pattern target dir word (Some stem) m parts is e =
    let p : (dir, stem) ≡ m = cc in
    let again = filled_again pattern word stem is in
    subst (λ (x : List ℕ × List ℕ). made x.0 x.1 pattern ≡ undotted target) p
    (ap (λ b. undotted (cond b (dir ++ filled pattern stem) pattern)) again.0 ∙ ap (λ w. undotted (dir ++ w)) again.1 ∙ ap undotted (sym parts))

own_made : (pattern target : List ℕ) (m : List ℕ × List ℕ) → match_of pattern target ≡ Some m → made m.0 m.1 pattern ≡ undotted target
own_made pattern target m e = made_with pattern target (take (match_start pattern target) target) (drop (match_start pattern target) target)
    (filled_stem pattern (drop (match_start pattern target) target)) m (sym (take-append-drop (match_start pattern target) target)) refl e

own_among : (patterns : List (List ℕ)) (i : ℕ) (target : List ℕ) (m : List ℕ × List ℕ) → match_by (slice_get patterns i) target ≡ Some m
    → slice_get (map (made m.0 m.1) patterns) i ≡ Some (undotted target)
own_among [] i target m e = absurd cc
own_among (pattern ∷ patterns) zero target m e = ap (λ (n : List ℕ). Some n) (own_made pattern target m e)
own_among (pattern ∷ patterns) (suc i) target m e = own_among patterns i target m e

pub own_member : (r : Rule) (i : ℕ) (target : List ℕ) (m : List ℕ × List ℕ) → match_at r i target ≡ Some m → slice_get (members_of r (Some m)) i ≡ Some (undotted target)
own_member r i target m e = own_among r.targets i target m e
