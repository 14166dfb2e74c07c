-- Fields of parts put together, newlines at the end, and parts of a text that match.
use Rattle.std.proofs.Common.{◌≡◌, ◌≢◌, ℕ, zero, suc, ◌+◌, ◌-◌, ◌<◌, ◌≤◌, ◌&&◌, ◌||◌, inl, inr, Bool, true, false, not, cond, ltb, eqb, List, [], ◌∷◌, ◌++◌, map, length, take, drop, Option, Some, None, arith, refl, sym, ap, subst, ◌∙◌, append_assoc, append-nil}
use Rattle.std.specs.Prelude.{All, nat_lt, option_map, replicate, reverse}
use Rattle.std.specs.List.{AllByRecursion, filter, filter_map, onto_first, slice_split, prefix_len, suffix_len}
use Rattle.std.proofs.lemmas.Bool.{eqb-true, eq-eqb, lt-ltb, ltb-true, ltb-false}
use Rattle.std.proofs.lemmas.List.{take_at, drop_at, map-append, length-append, length-replicate, length-take-le, length-drop, take-append-drop, reverse-append, reverse-reverse}
use Rattle.std.proofs.lemmas.List.Elements.{recursion_from_All, All-from_recursion, filter-append}
use Rattle.std.proofs.lemmas.List.Splits.{slice_split_none, length-slice_split}
use Rattle.em_base.proofs.Lemmas.{by_cases}
use Rattle.em_glob.specs.declared.glyph.Glyph.{Glyph}
use Rattle.em_glob.specs.Patterns.{Piece, Matches, fits, pieces}
use Rattle.em_fields.specs.declared.part.Part.{Part}
use Rattle.em_fields.specs.declared.part.Part.TheVariants.{Byte, Quotes}
use Rattle.em_fields.specs.declared.cut.Cut.TheVariants.{ShortSuffix, LongSuffix, ShortPrefix, LongPrefix}
use Rattle.em_fields.specs.Parts.{is_break, is_space, is_newline, glyph, glyph_of, glyphs, part_of, marked, filled, fields, without_newlines}
use Rattle.em_fields.specs.Cuts.{first_from, first_place, last_place, is_suffix_at, is_prefix_to, before, behind, cut_off}
use Rattle.em_laws.specs.Expansions.{open_byte, IsSpace, IsKept, EndsOtherwise, IsWithoutFront, IsWithoutEnd, shorter, longer}

-- ---- fields

abbrev is_filled : List Part → Bool
is_filled f = nat_lt 0 (length f)

onto_front : {X : Type 0} (x : X) (fs gs : List (List X)) → 0 < length fs → onto_first x (fs ++ gs) ≡ onto_first x fs ++ gs
onto_front x [] gs lt = absurd (omega arith)
onto_front x (f ∷ fs) gs lt = refl

pub split_both : {X : Type 0} (p : X → Bool) (xs : List X) (y : X) (ys : List X) → p y ≡ true → slice_split p (xs ++ y ∷ ys) ≡ slice_split p xs ++ slice_split p ys
split_both p [] y ys is = rw is refl
split_both p (x ∷ xs) y ys is = by_cases (p x) (λ t. cond t ([] ∷ slice_split p (xs ++ y ∷ ys)) (onto_first x (slice_split p (xs ++ y ∷ ys))) ≡ cond t ([] ∷ slice_split p xs) (onto_first x (slice_split p xs)) ++ slice_split p ys)
    (λ _. ap (λ ps. [] ∷ ps) (split_both p xs y ys is))
    (λ _. ap (onto_first x) (split_both p xs y ys is) ∙ onto_front x (slice_split p xs) (slice_split p ys) (omega (arith, length-slice_split p xs)))

spaced : (b : ℕ) → IsSpace b → is_break (open_byte b) ≡ true
spaced b (inl h) = rw h refl
spaced b (inr (inl h)) = rw h refl
spaced b (inr (inr h)) = rw h refl

pub fields_parted : (ps qs : List Part) (b : ℕ) → IsSpace b → fields (ps ++ open_byte b ∷ qs) ≡ fields ps ++ fields qs
fields_parted ps qs b h =
    ap (λ fs. map glyphs (filter is_filled fs)) (split_both is_break ps (open_byte b) qs (spaced b h))
    ∙ ap (map glyphs) (filter-append is_filled (slice_split is_break ps) (slice_split is_break qs))
    ∙ map-append glyphs (filled ps) (filled qs)

bare_is : (b c : ℕ) (quoted : Bool) → quoted ≡ false → b ≡ c → Byte (glyph quoted b) ≡ open_byte c
bare_is b c quoted q e = rw (q, e) refl

unspaced : (g : Glyph) → Byte g ≢ open_byte 32 → Byte g ≢ open_byte 9 → Byte g ≢ open_byte 10 → is_break (Byte g) ≡ false
unspaced g space tab line = by_cases g.quoted (λ q. (not q && is_space g.byte) ≡ false)
    (λ _. refl)
    (λ q. by_cases (eqb g.byte 32) (λ t. (t || (eqb g.byte 9 || eqb g.byte 10)) ≡ false)
    (λ is. absurd (space (bare_is g.byte 32 g.quoted q (eqb-true g.byte 32 is))))
    (λ _. by_cases (eqb g.byte 9) (λ t. (t || eqb g.byte 10) ≡ false)
    (λ is. absurd (tab (bare_is g.byte 9 g.quoted q (eqb-true g.byte 9 is))))
    (λ _. by_cases (eqb g.byte 10) (λ t. t ≡ false)
    (λ is. absurd (line (bare_is g.byte 10 g.quoted q (eqb-true g.byte 10 is))))
    (λ _. refl))))

kept : (ps : List Part) → AllByRecursion IsKept ps → AllByRecursion (λ p. is_break p ≡ false) ps
kept [] h = tt
kept (Byte g ∷ ps) h = (unspaced g h.0.0 h.0.1 h.0.2, kept ps h.1)
kept (Quotes ∷ ps) h = (refl, kept ps h.1)

pub fields_one : (ps : List Part) → 0 < length ps → All IsKept ps → fields ps ≡ glyphs ps ∷ []
fields_one ps lt h =
    let one = slice_split_none is_break ps (All-from_recursion _ ps (kept ps (recursion_from_All _ ps h))) in
    rw (one, lt-ltb 0 (length ps) lt) refl

pub glyphs_marked : (quoted : Bool) (text : List ℕ) → glyphs (marked quoted text) ≡ map (glyph quoted) text
glyphs_marked true text = each true text
  where
    each : (quoted : Bool) (text : List ℕ) → filter_map glyph_of (map (part_of quoted) text) ≡ map (glyph quoted) text
    each quoted [] = refl
    each quoted (b ∷ bs) = ap (λ gs. glyph quoted b ∷ gs) (each quoted bs)
glyphs_marked false text = each false text
  where
    each : (quoted : Bool) (text : List ℕ) → filter_map glyph_of (map (part_of quoted) text) ≡ map (glyph quoted) text
    each quoted [] = refl
    each quoted (b ∷ bs) = ap (λ gs. glyph quoted b ∷ gs) (each quoted bs)

-- ---- newlines at the end

suffix_more : (text : List ℕ) → suffix_len is_newline (text ++ 10 ∷ []) ≡ 1 + suffix_len is_newline text
suffix_more text = ap (prefix_len is_newline) (reverse-append text (10 ∷ []))

suffix_other : (text : List ℕ) → EndsOtherwise 10 text → suffix_len is_newline text ≡ 0
suffix_other text h = none (reverse text) (λ rest e. h (reverse rest) (sym (reverse-reverse text) ∙ ap reverse e ∙ reverse-append (10 ∷ []) rest))
  where
    none : (xs : List ℕ) → ((rest : List ℕ) → xs ≡ 10 ∷ rest → ⊥) → prefix_len is_newline xs ≡ 0
    none [] h = refl
    none (x ∷ xs) h = by_cases (eqb x 10) (λ t. cond t (1 + prefix_len is_newline xs) 0 ≡ 0)
        (λ is. absurd (h xs (ap (λ y. y ∷ xs) (eqb-true x 10 is))))
        (λ _. refl)

suffix_all : (text : List ℕ) (n : ℕ) → suffix_len is_newline (text ++ replicate n 10) ≡ n + suffix_len is_newline text
suffix_all text zero = rw append-nil (omega arith)
suffix_all text (suc n) =
    let first : text ++ 10 ∷ replicate n 10 ≡ (text ++ 10 ∷ []) ++ replicate n 10 = sym (append_assoc text (10 ∷ []) (replicate n 10)) in
    ap (suffix_len is_newline) first ∙ suffix_all (text ++ 10 ∷ []) n ∙ omega (arith, suffix_more text)

pub newlines_off : (text : List ℕ) (n : ℕ) → EndsOtherwise 10 text → without_newlines (text ++ replicate n 10) ≡ text
newlines_off text n h =
    let whole = text ++ replicate n 10 in
    let k : length whole - suffix_len is_newline whole ≡ length text = omega (arith, length-append text (replicate n 10), length-replicate {A = ℕ} n 10, suffix_all text n, suffix_other text h) in
    ap (λ m. take m whole) k ∙ take_at text (replicate n 10) (length text) refl

-- ---- the first place that passes a test

abbrev Found : (ℕ → Bool) → ℕ → ℕ → Option ℕ → Type 0
Found test i n None = (k : ℕ) → i ≤ k → k < i + n → test k ≡ false
Found test i n (Some k) = (i ≤ k) × (k < i + n) × (test k ≡ true) × ((j : ℕ) → i ≤ j → j < k → test j ≡ false)

same_test : (test : ℕ → Bool) (i k : ℕ) (b : Bool) → test i ≡ b → k ≡ i → test k ≡ b
same_test test i k b h e = rw e h

onward : (test : ℕ → Bool) (i n : ℕ) → test i ≡ false → (o : Option ℕ) → Found test (i + 1) n o → Found test i (suc n) o
onward test i n isnt None h = λ k low high. by_cases (eqb k i) (λ _. test k ≡ false) (λ is. same_test test i k false isnt (eqb-true k i is)) (λ other. h k (let ne : k ≢ i = λ e. (let t : eqb k i ≡ true = eq-eqb k i e in cc) in omega arith) (omega arith))
onward test i n isnt (Some k) h = (omega (arith, h.0), omega (arith, h.1), h.2, λ j low high. by_cases (eqb j i) (λ _. test j ≡ false) (λ is. same_test test i j false isnt (eqb-true j i is)) (λ other. h.3 j (let ne : j ≢ i = λ e. (let t : eqb j i ≡ true = eq-eqb j i e in cc) in omega arith) high))

found : (test : ℕ → Bool) (i n : ℕ) → Found test i n (first_from test i n)
found test i zero = λ k low high. absurd (omega arith)
found test i (suc n) = by_cases (test i) (λ t. Found test i (suc n) (cond t (Some i) (first_from test (i + 1) n)))
    (λ is. (omega arith, omega arith, is, λ j low high. absurd (omega arith)))
    (λ isnt. onward test i n isnt (first_from test (i + 1) n) (found test (i + 1) n))

-- ---- parts that match

abbrev Told : Type 0
Told = (ps : List Piece) (name : List ℕ) → (fits ps name ≡ true → Matches ps name) × (Matches ps name → fits ps name ≡ true)

front_taken : (text front more : List ℕ) → text ≡ front ++ more → take (length front) text ≡ front
front_taken text front more e = ap (take (length front)) e ∙ take_at front more (length front) refl

front_dropped : (text front more : List ℕ) → text ≡ front ++ more → drop (length front) text ≡ more
front_dropped text front more e = ap (drop (length front)) e ∙ drop_at front more (length front) refl

sizes : (text front more : List ℕ) → text ≡ front ++ more → length text ≡ length front + length more
sizes text front more e = ap length e ∙ length-append front more

-- no place passes, the first one, and the last one
record Best (better : ℕ → ℕ → Type 0) (test : ℕ → Bool) (n : ℕ) (o : Option ℕ) : Type 0 where
  none : o ≡ None → (k : ℕ) → k ≤ n → test k ≡ false
  some : (k : ℕ) → o ≡ Some k → (k ≤ n) × (test k ≡ true) × ((j : ℕ) → j ≤ n → test j ≡ true → better k j)

not_both : {X : Type 0} (b : Bool) → b ≡ true → b ≡ false → X
not_both b t f = absurd cc

from_found : (test : ℕ → Bool) (n : ℕ) (o : Option ℕ) → Found test 0 (n + 1) o → Best shorter test n o
from_found test n None h = record { none = λ _ k le. h k (omega arith) (omega arith); some = λ k e. absurd cc }
from_found test n (Some i) h = record {
  none = λ e. absurd cc;
  some = λ k e. let same : i ≡ k = cc in subst (λ m. (m ≤ n) × (test m ≡ true) × ((j : ℕ) → j ≤ n → test j ≡ true → m ≤ j)) same (omega (arith, h.1), h.2, λ j le is. by_cases (ltb j i) (λ t. i ≤ j) (λ lt. not_both (test j) is (h.3 j (omega arith) (omega (arith, ltb-true j i lt)))) (λ ge. ltb-false j i ge));
}

first_best : (test : ℕ → Bool) (n : ℕ) → Best shorter test n (first_place test n)
first_best test n = from_found test n (first_from test 0 (n + 1)) (found test 0 (n + 1))

from_first : (test : ℕ → Bool) (n : ℕ) (o : Option ℕ) → Best shorter (λ i. test (n - i)) n o → Best longer test n (option_map (λ i. n - i) o)
from_first test n None h = record { none = λ _ k le. (let e : n - (n - k) ≡ k = omega arith in subst (λ m. test m ≡ false) e (h.none refl (n - k) (omega arith))); some = λ k e. absurd cc }
from_first test n (Some i) h =
    let s = h.some i refl in
    record {
      none = λ e. absurd cc;
      some = λ k e. let same : n - i ≡ k = cc in subst (λ m. (m ≤ n) × (test m ≡ true) × ((j : ℕ) → j ≤ n → test j ≡ true → j ≤ m)) same (omega arith, s.1, λ j le is. (let back : n - (n - j) ≡ j = omega arith in let low : i ≤ n - j = s.2 (n - j) (omega arith) (subst (λ m. test m ≡ true) (sym back) is) in let high : i ≤ n = s.0 in omega arith));
    }

last_best : (test : ℕ → Bool) (n : ℕ) → Best longer test n (last_place test n)
last_best test n = from_first test n (first_place (λ i. test (n - i)) n) (first_best (λ i. test (n - i)) n)

front_left : (told : Told) (better : ℕ → ℕ → Type 0) (pattern : List Glyph) (text : List ℕ) (o : Option ℕ) → Best better (is_prefix_to pattern text) (length text) o → IsWithoutFront better pattern text (behind text o)
front_left told better pattern text None h = record {
  cut = λ front m more e. not_both (is_prefix_to pattern text (length front)) (ap (fits (pieces pattern)) (front_taken text front more e) ∙ (told (pieces pattern) front).1 m) (h.none refl (length front) (let n = sizes text front more e in omega arith));
  whole = λ none. refl;
}
front_left told better pattern text (Some k) h =
    let s = h.some k refl in
    let high : k ≤ length text = s.0 in
    let match = (told (pieces pattern) (take k text)).0 s.1 in
    record {
      cut = λ front m more e. (
        take k text,
        sym (take-append-drop k text),
        match,
        subst (λ n. better n (length front)) (sym (length-take-le k text high)) (s.2 (length front) (let n = sizes text front more e in omega arith) (ap (fits (pieces pattern)) (front_taken text front more e) ∙ (told (pieces pattern) front).1 m)),
      );
      whole = λ none. absurd (none (take k text) (drop k text) (sym (take-append-drop k text)) match);
    }

abbrev turned : (ℕ → ℕ → Type 0) → ℕ → ℕ → ℕ → Type 0
turned better n i j = better (n - i) (n - j)

end_left : (told : Told) (better places : ℕ → ℕ → Type 0) (pattern : List Glyph) (text : List ℕ) (o : Option ℕ) → ((i j : ℕ) → i ≤ length text → j ≤ length text → places i j → better (length text - i) (length text - j)) → Best places (is_suffix_at pattern text) (length text) o → IsWithoutEnd better pattern text (before text o)
end_left told better places pattern text None turn h = record {
  cut = λ end m more e. not_both (is_suffix_at pattern text (length more)) (ap (fits (pieces pattern)) (front_dropped text more end e) ∙ (told (pieces pattern) end).1 m) (h.none refl (length more) (let n = sizes text more end e in omega arith));
  whole = λ none. refl;
}
end_left told better places pattern text (Some k) turn h =
    let s = h.some k refl in
    let high : k ≤ length text = s.0 in
    let match = (told (pieces pattern) (drop k text)).0 s.1 in
    record {
      cut = λ end m more e.
          let n = sizes text more end e in
          let few : length more ≤ length text = omega arith in
          let size : length text - length more ≡ length end = omega arith in (
            drop k text,
            sym (take-append-drop k text),
            match,
            subst (λ n. better n (length end)) (sym (length-drop k text)) (subst (λ n. better (length text - k) n) size (turn k (length more) high few (s.2 (length more) few (ap (fits (pieces pattern)) (front_dropped text more end e) ∙ (told (pieces pattern) end).1 m)))),
          );
      whole = λ none. absurd (none (drop k text) (take k text) (sym (take-append-drop k text)) match);
    }

pub short_end : Told → (pattern : List Glyph) (text : List ℕ) → IsWithoutEnd shorter pattern text (cut_off ShortSuffix pattern text)
short_end told pattern text = end_left told shorter longer pattern text (last_place (is_suffix_at pattern text) (length text)) (λ i j a b le. omega arith) (last_best (is_suffix_at pattern text) (length text))

pub long_end : Told → (pattern : List Glyph) (text : List ℕ) → IsWithoutEnd longer pattern text (cut_off LongSuffix pattern text)
long_end told pattern text = end_left told longer shorter pattern text (first_place (is_suffix_at pattern text) (length text)) (λ i j a b le. omega arith) (first_best (is_suffix_at pattern text) (length text))

pub short_front : Told → (pattern : List Glyph) (text : List ℕ) → IsWithoutFront shorter pattern text (cut_off ShortPrefix pattern text)
short_front told pattern text = front_left told shorter pattern text (first_place (is_prefix_to pattern text) (length text)) (first_best (is_prefix_to pattern text) (length text))

pub long_front : Told → (pattern : List Glyph) (text : List ℕ) → IsWithoutFront longer pattern text (cut_off LongPrefix pattern text)
long_front told pattern text = front_left told longer pattern text (last_place (is_prefix_to pattern text) (length text)) (last_best (is_prefix_to pattern text) (length text))
