-- What spans of words say of a text.
--     WordsTo text at ss      the words up to `at`, as a loop has found them
--     texts_are               their texts are the words of the text
--     words_are_one           there is one list of them
use Rattle.std.proofs.Common.{◌≡◌, ◌≢◌, ℕ, ◌+◌, ◌-◌, ◌<◌, ◌≤◌, inl, inr, Bool, true, false, List, [], ◌∷◌, ◌++◌, length, map, take, drop, get_or, All, ◌==◌, arith, refl, subst, sym, ap, ◌∙◌, get_or-drop, length-drop, take-append-drop, append_assoc, length-append, zero, suc, cond, ltb}
use Rattle.std.specs.List.{slice_split, onto_first, filter}
use Rattle.std.proofs.lemmas.Bool.{both_ways, cases_lt, cases_order, cases_Bool, lt-ltb, ltb-true, ne_eqb}
use Rattle.std.proofs.lemmas.List.{get_or_append_left, drop-drop, drop_all, append-nil, length-take-le, take_more}
use Rattle.std.proofs.lemmas.List.Elements.{All-nil, All-push, All-weaker, All-head, All-tail, All-cons, All-same, All-filter, filter_passes}
use Rattle.std.proofs.lemmas.List.Splits.{slice_split-cons_yes, slice_split-cons_no, slice_split_none, slice_split_at}
use Rattle.std.proofs.lemmas.List.Quantifiers.{Any-push}
use Rattle.em_base.specs.declared.place.Span.{Span}
use Rattle.em_base.specs.Spans.{cut}
use Rattle.em_base.specs.Blanks.{is_blank}
use Rattle.em_base.proofs.Lemmas.{cut_all, cut_length}
use Rattle.em_wordlist.specs.Words.{IsWord, IsApart, Rising, IsHeld, AreWords, words_of, joined}

pub record WordsTo (text : List ℕ) (at : ℕ) (ss : List Span) : Type 0 where
  pub within : at ≤ length text
  pub apart : IsApart text at
  pub words : All (IsWord text) ss
  pub rising : Rising 0 ss
  pub below : All (λ s. s.end ≤ at) ss
  pub whole : (i : ℕ) → i < at → is_blank (get_or text i 0) ≡ false → IsHeld i ss

pub no_words : (text : List ℕ) → WordsTo text 0 []
no_words text = record { within = omega arith; apart = inl refl; words = All-nil _; rising = tt; below = All-nil _; whole = λ i l. absurd (omega arith) }

held_push : (i : ℕ) (ss : List Span) (s : Span) → IsHeld i ss → IsHeld i (ss ++ s ∷ [])
held_push i ss s (k, x, low, is, h) = (k, x, omega (arith, length-append ss (s ∷ [])), get_or_append_left ss (s ∷ []) x k low ∙ is, h)

rising_push : (from at : ℕ) (ss : List Span) (s : Span) → Rising from ss → from ≤ at → All (λ t. t.end ≤ at) ss → at ≤ s.start → Rising from (ss ++ s ∷ [])
rising_push from at [] s up low ends high = (omega arith, tt)
rising_push from at (t ∷ ts) s up low ends high = (up.0, rising_push t.end at ts s up.1 (All-head (λ t. t.end ≤ at) t ts ends) (All-tail (λ t. t.end ≤ at) t ts ends) high)

apart_behind : (text : List ℕ) (s : Span) → IsWord text s → IsApart text s.end
apart_behind text s word = inr (λ low. elim word.behind [ inl e ↦ absurd (omega arith) | inr b ↦ b ])

-- one word more
pub words_more : (text : List ℕ) (at : ℕ) (ss : List Span) (s : Span) → WordsTo text at ss → IsWord text s → at ≤ s.start → ((i : ℕ) → at ≤ i → i < s.start → is_blank (get_or text i 0) ≡ true) → WordsTo text s.end (ss ++ s ∷ [])
words_more text at ss s so_far word low blanks =
    let filled = word.filled in
    record {
      within = word.within;
      apart = apart_behind text s word;
      words = All-push (IsWord text) ss s so_far.words word;
      rising = rising_push 0 at ss s so_far.rising (omega arith) so_far.below low;
      below = All-push (λ t. t.end ≤ s.end) ss s (All-weaker (λ t. t.end ≤ at) (λ t. t.end ≤ s.end) (λ t e. omega arith) ss so_far.below) (omega arith);
      whole = λ i high plain. elim (cases_lt i at) [
        | inl l ↦ held_push i ss s (so_far.whole i l plain)
        | inr g ↦ elim (cases_lt i s.start) [
          | inl l ↦ absurd (both_ways _ plain (blanks i g l))
          | inr g ↦ Any-push (λ t. (t.start ≤ i) × (i < t.end)) ss s (g, high)
        ]
      ];
    }

-- no word more
pub words_end : (text : List ℕ) (at : ℕ) (ss : List Span) → WordsTo text at ss → ((i : ℕ) → at ≤ i → i < length text → is_blank (get_or text i 0) ≡ true) → AreWords text ss
words_end text at ss so_far blanks = record {
  words = so_far.words;
  rising = so_far.rising;
  whole = λ i high plain. elim (cases_lt i at) [ inl l ↦ so_far.whole i l plain | inr g ↦ absurd (both_ways _ plain (blanks i g high)) ];
}

-- ---- from a place on

-- the words from `from` on
pub record WordsFrom (text : List ℕ) (from : ℕ) (ss : List Span) : Type 0 where
  pub words : All (IsWord text) ss
  pub rising : Rising from ss
  pub whole : (i : ℕ) → from ≤ i → i < length text → is_blank (get_or text i 0) ≡ false → IsHeld i ss

-- what is held stands behind
held_behind : (text : List ℕ) (from i : ℕ) (ss : List Span) → All (IsWord text) ss → Rising from ss → IsHeld i ss → from ≤ i
held_behind text from i [] words up (k, x, low, is, h) = absurd (omega arith)
held_behind text from i (s ∷ ss) words up (zero, x, low, is, h) = let e = ap (λ (t : Span). t.start) is in omega (arith, e, up.0, h.0)
held_behind text from i (s ∷ ss) words up (suc k, x, low, is, h) =
    let word = All-head (IsWord text) s ss words in
    let t : s.end ≤ i = held_behind text s.end i ss (All-tail (IsWord text) s ss words) up.1 (k, x, (omega arith), is, h) in
    omega (arith, word.filled, up.0)

held_tail : (i : ℕ) (s : Span) (ss : List Span) → s.end ≤ i → IsHeld i (s ∷ ss) → IsHeld i ss
held_tail i s ss past (zero, x, low, is, h) = let e = ap (λ (t : Span). t.end) is in absurd (omega (arith, e, h.1))
held_tail i s ss past (suc k, x, low, is, h) = (k, x, omega arith, is, h)

words_behind : (text : List ℕ) (from : ℕ) (s : Span) (ss : List Span) → WordsFrom text from (s ∷ ss) → WordsFrom text s.end ss
words_behind text from s ss h =
    let word = All-head (IsWord text) s ss h.words in
    record {
      words = All-tail (IsWord text) s ss h.words;
      rising = h.rising.1;
      whole = λ i low high plain. held_tail i s ss low (h.whole i (omega (arith, h.rising.0, word.filled)) high plain);
    }

blanks_before : (text : List ℕ) (from : ℕ) (s : Span) (ss : List Span) → WordsFrom text from (s ∷ ss) → (i : ℕ) → from ≤ i → i < s.start → is_blank (get_or text i 0) ≡ true
blanks_before text from s ss h i low high =
    let word = All-head (IsWord text) s ss h.words in
    elim (cases_Bool (is_blank (get_or text i 0))) [
      | inl is ↦ is
      | inr plain ↦ let k : s.start ≤ i = held_behind text s.start i (s ∷ ss) h.words (omega arith, h.rising.1) (h.whole i low (omega (arith, word.filled, word.within)) plain) in absurd (omega arith)
    ]

blanks_left : (text : List ℕ) (from : ℕ) → WordsFrom text from [] → (i : ℕ) → from ≤ i → i < length text → is_blank (get_or text i 0) ≡ true
blanks_left text from h i low high =
    elim (cases_Bool (is_blank (get_or text i 0))) [
      | inl is ↦ is
      | inr plain ↦ let (k, x, l, is, held) = h.whole i low high plain in absurd (omega arith)
    ]

-- ---- there is one list of them

first_starts : (text : List ℕ) (from : ℕ) (s t : Span) (ss ts : List Span) → WordsFrom text from (s ∷ ss) → WordsFrom text from (t ∷ ts) → s.start < t.start → ⊥
first_starts text from s t ss ts a b less =
    let word = All-head (IsWord text) s ss a.words in
    both_ways _ (word.plain s.start (omega arith) word.filled) (blanks_before text from t ts b s.start a.rising.0 less)

first_ends : (text : List ℕ) (s t : Span) → IsWord text s → IsWord text t → s.start ≡ t.start → s.end < t.end → ⊥
first_ends text s t a b same less = elim a.behind [ inl e ↦ omega (arith, b.within) | inr blank ↦ both_ways _ (b.plain s.end (omega (arith, a.filled)) less) blank ]

same_span : (s t : Span) → s.start ≡ t.start → s.end ≡ t.end → s ≡ t
same_span s t e f = ap (λ k. let r : Span = record { start = k; end = s.end } in r) e ∙ ap (λ k. let r : Span = record { start = t.start; end = k } in r) f

words_from_one : (text : List ℕ) (from : ℕ) (a b : List Span) → WordsFrom text from a → WordsFrom text from b → a ≡ b
words_from_one text from [] [] ha hb = refl
words_from_one text from [] (t ∷ ts) ha hb =
    let word = All-head (IsWord text) t ts hb.words in
    absurd (both_ways _ (word.plain t.start (omega arith) word.filled) (blanks_left text from ha t.start hb.rising.0 (omega (arith, word.filled, word.within))))
words_from_one text from (s ∷ ss) [] ha hb =
    let word = All-head (IsWord text) s ss ha.words in
    absurd (both_ways _ (word.plain s.start (omega arith) word.filled) (blanks_left text from hb s.start ha.rising.0 (omega (arith, word.filled, word.within))))
words_from_one text from (s ∷ ss) (t ∷ ts) ha hb =
    let ws = All-head (IsWord text) s ss ha.words in
    let wt = All-head (IsWord text) t ts hb.words in
    let start : s.start ≡ t.start = elim (cases_order s.start t.start) [ inl e ↦ e | inr (inl l) ↦ absurd (first_starts text from s t ss ts ha hb l) | inr (inr g) ↦ absurd (first_starts text from t s ts ss hb ha g) ] in
    let end : s.end ≡ t.end = elim (cases_order s.end t.end) [ inl e ↦ e | inr (inl l) ↦ absurd (first_ends text s t ws wt start l) | inr (inr g) ↦ absurd (first_ends text t s wt ws (sym start) g) ] in
    let rest = words_from_one text t.end ss ts (subst (λ k. WordsFrom text k ss) end (words_behind text from s ss ha)) (words_behind text from t ts hb) in
    ap (λ u. u ∷ ss) (same_span s t start end) ∙ ap (λ us. t ∷ us) rest

words_from : (text : List ℕ) (ss : List Span) → AreWords text ss → WordsFrom text 0 ss
words_from text ss h = record { words = h.words; rising = h.rising; whole = λ i _ high plain. h.whole i high plain }

pub words_are_one : (text : List ℕ) (a b : List Span) → AreWords text a → AreWords text b → a ≡ b
words_are_one text a b ha hb = words_from_one text 0 a b (words_from text a ha) (words_from text b hb)

-- ---- their texts

words_of_blank : (b : ℕ) (bs : List ℕ) → is_blank b ≡ true → words_of (b ∷ bs) ≡ words_of bs
words_of_blank b bs h = ap (filter (λ w. ltb 0 (length w))) (slice_split-cons_yes is_blank b bs h)

words_of_blanks : (n : ℕ) (xs : List ℕ) → n ≤ length xs → ((k : ℕ) → k < n → is_blank (get_or xs k 0) ≡ true) → words_of xs ≡ words_of (drop n xs)
words_of_blanks zero xs l h = refl
words_of_blanks (suc n) [] l h = refl
words_of_blanks (suc n) (x ∷ xs) l h = words_of_blank x xs (h 0 (omega arith)) ∙ words_of_blanks n xs (omega arith) (λ k low. h (suc k) (omega arith))

keeps_filled : (w : List ℕ) (ws : List (List ℕ)) → 0 < length w → filter (λ w. ltb 0 (length w)) (w ∷ ws) ≡ w ∷ filter (λ w. ltb 0 (length w)) ws
keeps_filled w ws h = ap (λ (b : Bool). cond b (w ∷ filter (λ w. ltb 0 (length w)) ws) (filter (λ w. ltb 0 (length w)) ws)) (lt-ltb 0 (length w) h)

-- a word, and behind it nothing or a blank
words_of_word : (w ys : List ℕ) → 0 < length w → All (λ b. is_blank b ≡ false) w → (0 < length ys → is_blank (get_or ys 0 0) ≡ true) → words_of (w ++ ys) ≡ w ∷ words_of ys
words_of_word w [] filled plain behind = ap words_of (append-nil w) ∙ ap (filter (λ w. ltb 0 (length w))) (slice_split_none is_blank w plain) ∙ keeps_filled w [] filled
words_of_word w (y ∷ ys) filled plain behind =
    let blank = behind (omega arith) in
    ap (filter (λ w. ltb 0 (length w))) (slice_split_at is_blank w y ys plain blank) ∙ keeps_filled w (slice_split is_blank ys) filled ∙ ap (λ ws. w ∷ ws) (sym (words_of_blank y ys blank))

cut_plain : (text : List ℕ) (s : Span) → IsWord text s → All (λ b. is_blank b ≡ false) (cut text s)
cut_plain text s word = cut_all (λ b. is_blank b ≡ false) text s word.within word.plain

words_of_first : (text : List ℕ) (s : Span) → IsWord text s → words_of (drop s.start text) ≡ cut text s ∷ words_of (drop s.end text)
words_of_first text s word =
    let n = s.end - s.start in
    let rest : drop n (drop s.start text) ≡ drop s.end text = drop-drop n s.start text ∙ ap (λ k. drop k text) (let e : s.start + n ≡ s.end = omega (arith, word.filled) in e) in
    let behind : 0 < length (drop s.end text) → is_blank (get_or (drop s.end text) 0 0) ≡ true = λ low.
    ap is_blank (get_or-drop s.end text 0 0) ∙ elim word.behind [ inl e ↦ absurd (omega (arith, length-drop s.end text)) | inr b ↦ subst (λ k. is_blank (get_or text k 0) ≡ true) (let e : s.end ≡ s.end + 0 = omega arith in e) b ] in
    ap words_of (sym (take-append-drop n (drop s.start text)) ∙ ap (λ ys. cut text s ++ ys) rest)
    ∙ words_of_word (cut text s) (drop s.end text) (omega (arith, cut_length text s word.within, word.filled)) (cut_plain text s word) behind

texts_from : (text : List ℕ) (from : ℕ) (ss : List Span) → from ≤ length text → WordsFrom text from ss → map (λ s. cut text s) ss ≡ words_of (drop from text)
texts_from text from [] within h =
    let l = length-drop from text in
    sym (words_of_blanks (length (drop from text)) (drop from text) (omega arith) (λ k low. ap is_blank (get_or-drop from text k 0) ∙ blanks_left text from h (from + k) (omega arith) (omega arith))
    ∙ ap words_of (drop_all (length (drop from text)) (drop from text) (omega arith)))
texts_from text from (s ∷ ss) within h =
    let word = All-head (IsWord text) s ss h.words in
    let n = s.start - from in
    let here : from + n ≡ s.start = omega (arith, h.rising.0) in
    let skip = words_of_blanks n (drop from text) (omega (arith, length-drop from text, word.filled, word.within)) (λ k low. ap is_blank (get_or-drop from text k 0) ∙ blanks_before text from s ss h (from + k) (omega arith) (omega arith)) in
    ap (λ ws. cut text s ∷ ws) (texts_from text s.end ss word.within (words_behind text from s ss h))
    ∙ sym (skip ∙ ap words_of (drop-drop n from text ∙ ap (λ k. drop k text) here) ∙ words_of_first text s word)

pub texts_are : (text : List ℕ) (ss : List Span) → AreWords text ss → map (λ s. cut text s) ss ≡ words_of text
texts_are text ss h = texts_from text 0 ss (omega arith) (words_from text ss h)

-- ---- the words by themselves

-- a word isn't empty, and holds no blank
abbrev pub Plain : List ℕ → Type 0
Plain w = (w ≢ []) × All (λ b. is_blank b ≡ false) w

longer_onto : (x : ℕ) (ps : List (List ℕ)) → is_blank x ≡ false → All (All (λ b. is_blank b ≡ false)) ps → All (All (λ b. is_blank b ≡ false)) (onto_first x ps)
longer_onto x [] h ps = All-cons (All (λ b. is_blank b ≡ false)) (x ∷ []) [] (All-cons (λ b. is_blank b ≡ false) x [] h (All-nil (λ b. is_blank b ≡ false))) ps
longer_onto x (p ∷ ps) h all = All-cons (All (λ b. is_blank b ≡ false)) (x ∷ p) ps (All-cons (λ b. is_blank b ≡ false) x p h (All-head (All (λ b. is_blank b ≡ false)) p ps all)) (All-tail (All (λ b. is_blank b ≡ false)) p ps all)

parts_plain : (xs : List ℕ) → All (All (λ b. is_blank b ≡ false)) (slice_split is_blank xs)
parts_plain [] = All-cons (All (λ b. is_blank b ≡ false)) [] [] (All-nil (λ b. is_blank b ≡ false)) (All-nil (All (λ b. is_blank b ≡ false)))
parts_plain (x ∷ xs) = elim (cases_Bool (is_blank x)) [
  | inl t ↦ All-same (All (λ b. is_blank b ≡ false)) _ _ (slice_split-cons_yes is_blank x xs t) (All-cons (All (λ b. is_blank b ≡ false)) [] _ (All-nil (λ b. is_blank b ≡ false)) (parts_plain xs))
  | inr f ↦ All-same (All (λ b. is_blank b ≡ false)) _ _ (slice_split-cons_no is_blank x xs f) (longer_onto x _ f (parts_plain xs))
]

pub words_filled : (text : List ℕ) → All Plain (words_of text)
words_filled text = λ k d low. (
  λ empty. let l = filter_passes (λ w. ltb 0 (length w)) (slice_split is_blank text) k d low in omega (arith, ltb-true 0 _ l, ap length empty),
  All-filter (λ w. ltb 0 (length w)) (All (λ b. is_blank b ≡ false)) (slice_split is_blank text) (parts_plain text) k d low,
)

words_of_one : (w : List ℕ) → Plain w → words_of w ≡ w ∷ []
words_of_one [] h = absurd (h.0 refl)
words_of_one (x ∷ xs) h = ap (filter (λ w. ltb 0 (length w))) (slice_split_none is_blank (x ∷ xs) h.1) ∙ keeps_filled (x ∷ xs) [] (omega arith)

filled_length : (w : List ℕ) → w ≢ [] → 0 < length w
filled_length [] n = absurd (n refl)
filled_length (x ∷ xs) n = omega arith

words_of_joined : (ws : List (List ℕ)) → All Plain ws → words_of (joined ws) ≡ ws
words_of_joined [] h = refl
words_of_joined (w ∷ []) h = words_of_one w (All-head Plain w [] h)
words_of_joined (w ∷ v ∷ ws) h =
    let plain = All-head Plain w (v ∷ ws) h in
    words_of_word w (32 ∷ joined (v ∷ ws)) (filled_length w plain.0) plain.1 (λ _. refl)
    ∙ ap (λ us. w ∷ us) (words_of_blank 32 (joined (v ∷ ws)) refl ∙ words_of_joined (v ∷ ws) (All-tail Plain w (v ∷ ws) h))

pub joined_and_cut : (text : List ℕ) → words_of (joined (words_of text)) ≡ words_of text
joined_and_cut text = words_of_joined (words_of text) (words_filled text)

-- ---- one text more, as a loop joins them

joined_more : (ws : List (List ℕ)) (w : List ℕ) → 0 < length ws → joined (ws ++ w ∷ []) ≡ joined ws ++ (32 ∷ w)
joined_more [] w h = absurd (omega arith)
joined_more (u ∷ []) w h = refl
joined_more (u ∷ v ∷ ws) w h = ap (λ r. u ++ (32 ∷ r)) (joined_more (v ∷ ws) w (omega arith)) ∙ sym (append_assoc u (32 ∷ joined (v ∷ ws)) (32 ∷ w))

pub joined_next : (ws : List (List ℕ)) (i : ℕ) (d : List ℕ) → i < length ws → joined (take (i + 1) ws) ≡ joined (take i ws) ++ cond (i == 0) (get_or ws i d) (32 ∷ get_or ws i d)
joined_next ws zero d low = ap joined (take_more ws 0 d low)
joined_next ws (suc i) d low =
    ap joined (take_more ws (suc i) d low)
    ∙ joined_more (take (suc i) ws) (get_or ws (suc i) d) (omega (arith, length-take-le (suc i) ws (omega arith)))
    ∙ sym (ap (λ (b : Bool). joined (take (suc i) ws) ++ cond b (get_or ws (suc i) d) (32 ∷ get_or ws (suc i) d)) (ne_eqb (suc i) 0 (λ e. omega arith)))
