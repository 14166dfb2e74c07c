-- The lines of texts that are put together from rows, and what utilities make of them.
use Rattle.std.proofs.Common.{◌≡◌, ◌≢◌, ℕ, zero, suc, ◌+◌, ◌-◌, ◌<◌, ◌≤◌, inl, inr, Bool, true, false, not, cond, eqb, List, [], ◌∷◌, ◌++◌, map, length, take, drop, Some, None, arith, refl, sym, ap, ◌∙◌, append_assoc, append-nil}
use Rattle.std.specs.Prelude.{◌==◌, All, Contains, nat_lt, nat_eq, is_some, replicate, reverse, decimal}
use Rattle.std.specs.List.{AllByRecursion, concat, filter, flat_map, slice_split, position, zip, count_by, dedup}
use Rattle.std.specs.List.Sorted.{IsPermutation, IsSorted, IsStrictlySortedBy}
use Rattle.std.specs.Ordering.{nat_cmp}
use Rattle.std.specs.Cmp.Lexicographic.{pointwise, slice_cmp, nat_list_cmp_total}
use Rattle.std.proofs.lemmas.Bool.{eqb-true, eq-eqb, ne_eqb, lt-ltb, le-ltb, le-leb, and_parts}
use Rattle.std.proofs.lemmas.Cmp.{nat_list_eq_equiv}
use Rattle.std.proofs.lemmas.List.{take_at, drop_at, take_all, drop_all, map-append, length-append, length-map, length_push, take-append-drop}
use Rattle.std.proofs.lemmas.List.Concat.{flat_map-append}
use Rattle.std.proofs.lemmas.List.Elements.{recursion_from_All, All-from_recursion, filter-append}
use Rattle.std.proofs.lemmas.List.Kept.{Contains-dedup, Contains-from_dedup, IsStrictlySortedBy-dedup}
use Rattle.std.proofs.lemmas.List.Sorted.{IsPermutation-sym, Contains-permutation}
use Rattle.std.proofs.lemmas.List.Splits.{slice_split_none}
use Rattle.std.proofs.lemmas.List.Sums.{sum_by-cons, sum_by-append}
use Rattle.std.proofs.lemmas.Map.Text.{is_eq-slice_cmp}
use Rattle.std.proofs.lemmas.Slice.Eq.{bytes_eq-Decides}
use Rattle.bstr.specs.Find.{occurs_at, match_len, matches_from, matches, first_of}
use Rattle.bstr.specs.Text.{line_len, lines_of}
use Rattle.bstr.proofs.lemmas.LineLemmas.{lines-nil, lines-step}
use Rattle.bstr.proofs.lemmas.RestLemmas.{concat-lines_of}
use Rattle.em_base.proofs.Lemmas.{by_cases}
use Rattle.em_lineutil.specs.declared.search.Search.{Search}
use Rattle.em_lineutil.specs.declared.sort.Order.{Order}
use Rattle.em_lineutil.specs.declared.difference.Comparison.TheVariants.{Same, Differ, FirstShort, SecondShort}
use Rattle.em_lineutil.specs.Lines.{bare, head, tail, is_newline, is_space, line_count, word_count, count_line}
use Rattle.em_lineutil.specs.Sorting.{sorted, once, turned, bare_lines, sort_text}
use Rattle.em_lineutil.specs.Runs.{runs_from, runs, shown_run, in_seven, uniq_text}
use Rattle.em_lineutil.specs.Searching.{holds, fits, is_selected, selected, first_difference, comparison_by, comparison}
use Rattle.em_laws.specs.References.{HasNo, how_many}
use Rattle.em_laws.specs.Expansions.{IsSpace}
use Rattle.em_laws.specs.Rows.{ended, text_of, AreRows, repeated, AreRuns, Fits, Turned, IsWanted}
use Rattle.em_laws.proofs.Matching.{outside, first_at}
use Rattle.em_laws.proofs.Splitting.{split_both}

-- ---- rows

abbrev Row : List ℕ → Type 0
Row row = AllByRecursion (λ b. b ≢ 10) row

abbrev Rows : List (List ℕ) → Type 0
Rows rows = AllByRecursion Row rows

row : (bytes : List ℕ) → HasNo 10 bytes → Row bytes
row bytes h = recursion_from_All _ bytes h

rows_are : (rows : List (List ℕ)) → AreRows rows → Rows rows
rows_are rows h = each rows (recursion_from_All _ rows h)
  where
    each : (rows : List (List ℕ)) → AllByRecursion (HasNo 10) rows → Rows rows
    each [] h = tt
    each (r ∷ rs) h = (row r h.0, each rs h.1)

abbrev last_lines : List ℕ → List (List ℕ)
last_lines [] = []
last_lines (b ∷ bs) = (b ∷ bs) ∷ []

-- ---- lines

len_row : (r rest : List ℕ) → Row r → line_len (r ++ 10 ∷ rest) ≡ length r + 1
unfolding line_len
len_row [] rest h = refl
len_row (b ∷ bs) rest h = rw (ne_eqb b 10 h.0, len_row bs rest h.1) (omega arith)

len_last : (r : List ℕ) → Row r → line_len r ≡ length r
unfolding line_len
len_last [] h = refl
len_last (b ∷ bs) h = rw (ne_eqb b 10 h.0, len_last bs h.1) refl

long : (r rest : List ℕ) → 0 < length (r ++ 10 ∷ rest)
long [] rest = omega arith
long (b ∷ bs) rest = omega arith

line_first : (r rest : List ℕ) → Row r → lines_of (r ++ 10 ∷ rest) ≡ ended r ∷ lines_of rest
line_first r rest h =
    let whole = r ++ 10 ∷ rest in
    let parted : whole ≡ ended r ++ rest = sym (append_assoc r (10 ∷ []) rest) in
    let n : length (ended r) ≡ length r + 1 = length_push r 10 in
    lines-step whole (long r rest) ∙ ap (λ k. take k whole ∷ lines_of (drop k whole)) (len_row r rest h)
    ∙ ap (λ (w : List ℕ). take (length r + 1) w ∷ lines_of (drop (length r + 1) w)) parted
    ∙ ap (λ (l : List ℕ). l ∷ lines_of (drop (length r + 1) (ended r ++ rest))) (take_at (ended r) rest (length r + 1) n)
    ∙ ap (λ (w : List ℕ). ended r ∷ lines_of w) (drop_at (ended r) rest (length r + 1) n)

lines_last : (r : List ℕ) → Row r → lines_of r ≡ last_lines r
lines_last [] h = lines-nil
lines_last (b ∷ bs) h =
    let whole = b ∷ bs in
    lines-step whole (omega arith) ∙ ap (λ k. take k whole ∷ lines_of (drop k whole)) (len_last whole h)
    ∙ ap (λ (l : List ℕ). l ∷ lines_of (drop (length whole) whole)) (take_all (length whole) whole (omega arith))
    ∙ ap (λ (w : List ℕ). whole ∷ lines_of w) (drop_all (length whole) whole (omega arith)) ∙ ap (λ ls. whole ∷ ls) lines-nil

text_first : (r rest : List ℕ) (rs : List (List ℕ)) → text_of (r ∷ rs) ++ rest ≡ r ++ 10 ∷ (text_of rs ++ rest)
text_first r rest rs = append_assoc (ended r) (text_of rs) rest ∙ append_assoc r (10 ∷ []) (text_of rs ++ rest)

lines_text : (rows : List (List ℕ)) (rest : List ℕ) → Rows rows → lines_of (text_of rows ++ rest) ≡ map ended rows ++ lines_of rest
lines_text [] rest h = refl
lines_text (r ∷ rs) rest h = ap lines_of (text_first r rest rs) ∙ line_first r (text_of rs ++ rest) h.0 ∙ ap (λ ls. ended r ∷ ls) (lines_text rs rest h.1)

lines_whole : (rows : List (List ℕ)) → Rows rows → lines_of (text_of rows) ≡ map ended rows
lines_whole rows h = ap lines_of (sym (append-nil (text_of rows))) ∙ lines_text rows [] h ∙ ap (λ ls. map ended rows ++ ls) lines-nil ∙ append-nil (map ended rows)

concat_ended : (rows : List (List ℕ)) → concat (map ended rows) ≡ text_of rows
concat_ended [] = refl
concat_ended (r ∷ rs) = ap (λ w. ended r ++ w) (concat_ended rs)

few_lines : (rows : List (List ℕ)) (last : List ℕ) → Rows rows → Row last → length (lines_of (text_of rows ++ last)) ≤ length rows + 1
few_lines rows last h l =
    let e = ap length (lines_text rows last h ∙ ap (λ ls. map ended rows ++ ls) (lines_last last l)) in
    omega (arith, e, length-append (map ended rows) (last_lines last), length-map rows ended, few last)
  where
    few : (last : List ℕ) → length (last_lines last) ≤ 1
    few [] = omega arith
    few (b ∷ bs) = omega arith

-- ---- head and tail

pub head_first : (rows : List (List ℕ)) (rest : List ℕ) → AreRows rows → head (length rows) (text_of rows ++ rest) ≡ text_of rows
unfolding head
head_first rows rest h =
    ap (λ ls. concat (take (length rows) ls)) (lines_text rows rest (rows_are rows h))
    ∙ ap concat (take_at (map ended rows) (lines_of rest) (length rows) (length-map rows ended)) ∙ concat_ended rows

pub head_all : (rows : List (List ℕ)) (last : List ℕ) (n : ℕ) → AreRows rows → HasNo 10 last → length rows < n → head n (text_of rows ++ last) ≡ text_of rows ++ last
unfolding head
head_all rows last n h l lt =
    let few = few_lines rows last (rows_are rows h) (row last l) in
    ap concat (take_all n (lines_of (text_of rows ++ last)) (omega arith)) ∙ concat-lines_of (text_of rows ++ last)

tail_at : (text : List ℕ) (n : ℕ) (before behind : List (List ℕ)) → lines_of text ≡ before ++ behind → length behind ≡ n → tail n text ≡ concat behind
unfolding tail
tail_at text n before behind e size =
    let k : length (lines_of text) - n ≡ length before = omega (arith, ap length e, length-append before behind) in
    ap (λ m. concat (drop m (lines_of text))) k ∙ ap (λ ls. concat (drop (length before) ls)) e ∙ ap concat (drop_at before behind (length before) refl)

pub tail_none : (text : List ℕ) → tail 0 text ≡ []
tail_none text = tail_at text 0 (lines_of text) [] (sym (append-nil (lines_of text))) refl

pub tail_last : (before rows : List (List ℕ)) → AreRows before → AreRows rows → tail (length rows) (text_of before ++ text_of rows) ≡ text_of rows
tail_last before rows b r =
    tail_at (text_of before ++ text_of rows) (length rows) (map ended before) (map ended rows)
    (lines_text before (text_of rows) (rows_are before b) ∙ ap (λ ls. map ended before ++ ls) (lines_whole rows (rows_are rows r))) (length-map rows ended)
    ∙ concat_ended rows

concat_push : (xs : List (List ℕ)) (last : List ℕ) → concat (xs ++ last ∷ []) ≡ concat xs ++ last
concat_push [] last = append-nil last
concat_push (x ∷ xs) last = ap (λ w. x ++ w) (concat_push xs last) ∙ sym (append_assoc x (concat xs) last)

pub tail_open : (before rows : List (List ℕ)) (b : ℕ) (bs : List ℕ) → AreRows before → AreRows rows → HasNo 10 (b ∷ bs) → tail (length rows + 1) (text_of before ++ (text_of rows ++ b ∷ bs)) ≡ text_of rows ++ b ∷ bs
tail_open before rows b bs f r l =
    let behind = map ended rows ++ (b ∷ bs) ∷ [] in
    let size : length behind ≡ length rows + 1 = length_push (map ended rows) (b ∷ bs) ∙ omega (arith, length-map rows ended) in
    tail_at (text_of before ++ (text_of rows ++ b ∷ bs)) (length rows + 1) (map ended before) behind
    (lines_text before (text_of rows ++ b ∷ bs) (rows_are before f) ∙ ap (λ ls. map ended before ++ ls) (lines_text rows (b ∷ bs) (rows_are rows r) ∙ ap (λ ls. map ended rows ++ ls) (lines_last (b ∷ bs) (row (b ∷ bs) l)))) size
    ∙ concat_push (map ended rows) (b ∷ bs) ∙ ap (λ w. w ++ b ∷ bs) (concat_ended rows)

pub tail_all : (rows : List (List ℕ)) (last : List ℕ) (n : ℕ) → AreRows rows → HasNo 10 last → length rows < n → tail n (text_of rows ++ last) ≡ text_of rows ++ last
unfolding tail
tail_all rows last n h l lt =
    let few = few_lines rows last (rows_are rows h) (row last l) in
    let k : length (lines_of (text_of rows ++ last)) - n ≡ 0 = omega arith in
    ap (λ m. concat (drop m (lines_of (text_of rows ++ last)))) k ∙ concat-lines_of (text_of rows ++ last)

-- ---- counts

counted : (x : ℕ) (xs : List ℕ) → count_by is_newline (x ∷ xs) ≡ cond (eqb x 10) 1 0 + count_by is_newline xs
counted x xs = sum_by-cons (λ y. cond (eqb y 10) 1 0) x xs

no_newline : (r : List ℕ) → Row r → count_by is_newline r ≡ 0
no_newline [] h = refl
no_newline (b ∷ bs) h = counted b bs ∙ rw (ne_eqb b 10 h.0, no_newline bs h.1) refl

more_newlines : (xs ys : List ℕ) → count_by is_newline (xs ++ ys) ≡ count_by is_newline xs + count_by is_newline ys
more_newlines xs ys = sum_by-append (λ y. cond (eqb y 10) 1 0) xs ys

pub counted_lines : (rows : List (List ℕ)) (last : List ℕ) → AreRows rows → HasNo 10 last → line_count (text_of rows ++ last) ≡ length rows
counted_lines rows last h l = each rows (rows_are rows h)
  where
    each : (rows : List (List ℕ)) → Rows rows → line_count (text_of rows ++ last) ≡ length rows
    each [] h = no_newline last (row last l)
    each (r ∷ rs) h =
        ap line_count (text_first r last rs) ∙ more_newlines r (10 ∷ (text_of rs ++ last)) ∙ ap (λ n. n + line_count (10 ∷ (text_of rs ++ last))) (no_newline r h.0)
        ∙ ap (λ n. 0 + n) (counted 10 (text_of rs ++ last)) ∙ (let ih = each rs h.1 in omega arith)

abbrev is_filled : List ℕ → Bool
is_filled w = nat_lt 0 (length w)

spaced : (b : ℕ) → IsSpace b → is_space b ≡ true
spaced b (inl h) = rw h refl
spaced b (inr (inl h)) = rw h refl
spaced b (inr (inr h)) = rw h refl

unspaced : (b : ℕ) → (IsSpace b → ⊥) → is_space b ≡ false
unspaced b h = rw (ne_eqb b 32 (λ e. h (inl e)), ne_eqb b 9 (λ e. h (inr (inl e))), ne_eqb b 10 (λ e. h (inr (inr e)))) refl

pub counted_words : (front rest : List ℕ) (b : ℕ) → IsSpace b → word_count (front ++ b ∷ rest) ≡ word_count front + word_count rest
counted_words front rest b h =
    ap (λ ws. length (filter is_filled ws)) (split_both is_space front b rest (spaced b h))
    ∙ ap length (filter-append is_filled (slice_split is_space front) (slice_split is_space rest))
    ∙ length-append (filter is_filled (slice_split is_space front)) (filter is_filled (slice_split is_space rest))

pub counted_word : (b : ℕ) (bs : List ℕ) → All (λ c. IsSpace c → ⊥) (b ∷ bs) → word_count (b ∷ bs) ≡ 1
counted_word b bs h =
    let one = slice_split_none is_space (b ∷ bs) (All-from_recursion _ (b ∷ bs) (each (b ∷ bs) (recursion_from_All _ (b ∷ bs) h))) in
    ap (λ ws. length (filter is_filled ws)) one ∙ rw (lt-ltb 0 (suc (length bs)) (omega arith)) refl
  where
    each : (bs : List ℕ) → AllByRecursion (λ c. IsSpace c → ⊥) bs → AllByRecursion (λ c. is_space c ≡ false) bs
    each [] h = tt
    each (c ∷ cs) h = (unspaced c h.0, each cs h.1)

pub written_counts : (text name : List ℕ) → count_line (record { lines = true; words = true; bytes = true }) text (name ∷ []) ≡ decimal (line_count text) ++ (32 ∷ decimal (word_count text) ++ (32 ∷ decimal (length text) ++ (32 ∷ name ++ 10 ∷ [])))
unfolding count_line
written_counts text name = joined (decimal (line_count text)) (decimal (word_count text)) (decimal (length text)) name
  where
    joined : (a b c d : List ℕ) → (a ++ (32 ∷ (b ++ (32 ∷ (c ++ (32 ∷ d)))))) ++ 10 ∷ [] ≡ a ++ (32 ∷ b ++ (32 ∷ c ++ (32 ∷ d ++ 10 ∷ [])))
    joined a b c d =
        append_assoc a (32 ∷ (b ++ (32 ∷ (c ++ (32 ∷ d))))) (10 ∷ []) ∙ ap (λ w. a ++ (32 ∷ w)) (append_assoc b (32 ∷ (c ++ (32 ∷ d))) (10 ∷ [])
        ∙ ap (λ w. b ++ (32 ∷ w)) (append_assoc c (32 ∷ d) (10 ∷ [])))

pub written_alone : (text : List ℕ) → count_line (record { lines = false; words = true; bytes = false }) text [] ≡ decimal (word_count text) ++ 10 ∷ []
unfolding count_line
written_alone text = refl

-- ---- lines without their newlines

pub bare_row : (r : List ℕ) → bare (ended r) ≡ r
bare_row r =
    let n : length (ended r) - 1 ≡ length r = omega (arith, length_push r 10) in
    rw (n, drop_at r (10 ∷ []) (length r) refl) (take_at r (10 ∷ []) (length r) refl)

bare_last : (r : List ℕ) → Row r → bare r ≡ r
bare_last r h = rw (other (length r - 1) r h) refl
  where
    other : (k : ℕ) (r : List ℕ) → Row r → pointwise nat_eq (10 ∷ []) (drop k r) ≡ false
    other zero [] h = refl
    other (suc k) [] h = refl
    other zero (b ∷ bs) h = rw (ne_eqb 10 b (λ e. h.0 (sym e))) refl
    other (suc k) (b ∷ bs) h = other k bs h.1

bare_rows : (rows : List (List ℕ)) → map bare (map ended rows) ≡ rows
bare_rows [] = refl
bare_rows (r ∷ rs) = rw (bare_row r, bare_rows rs) refl

-- ---- sort

bare_text : (rows : List (List ℕ)) → AreRows rows → bare_lines (text_of rows) ≡ rows
bare_text rows h = ap (map bare) (lines_whole rows (rows_are rows h)) ∙ bare_rows rows

abbrev all_of : List (List (List ℕ)) → List (List ℕ)
all_of texts = flat_map (λ (rows : List (List ℕ)). rows) texts

bare_texts : (texts : List (List (List ℕ))) → AllByRecursion AreRows texts → flat_map bare_lines (map text_of texts) ≡ all_of texts
bare_texts [] h = refl
bare_texts (t ∷ ts) h = rw (bare_text t h.0, bare_texts ts h.1) refl

abbrev order : Bool → Bool → Order
order backwards unique = record { backwards = backwards; unique = unique }

sorted_texts : (o : Order) (texts : List (List (List ℕ))) → All AreRows texts → sort_text o (map text_of texts) ≡ text_of (turned o.backwards (once o.unique (sorted (all_of texts))))
unfolding sort_text
sorted_texts o texts h = ap (λ ls. text_of (turned o.backwards (once o.unique (sorted ls)))) (bare_texts texts (recursion_from_All _ texts h))

record Law (ls : List (List ℕ)) : Type 0 where
  rises : IsSorted (slice_cmp nat_cmp) (sorted ls)
  same : IsPermutation ls (sorted ls)

pub sorted_law : ((ls : List (List ℕ)) → IsSorted (slice_cmp nat_cmp) (sorted ls)) → ((ls : List (List ℕ)) → IsPermutation ls (sorted ls)) →
    (texts : List (List (List ℕ))) → All AreRows texts → (out : List (List ℕ)) × IsPermutation (all_of texts) out × IsSorted (slice_cmp nat_cmp) out × (sort_text (order false false) (map text_of texts) ≡ text_of out) × (sort_text (order true false) (map text_of texts) ≡ text_of (reverse out))
sorted_law rises same texts h = (sorted (all_of texts), same (all_of texts), rises (all_of texts), sorted_texts (order false false) texts h, sorted_texts (order true false) texts h)

abbrev alone : List (List ℕ) → List (List ℕ)
alone ls = dedup (pointwise nat_eq) ls

pub once_law : ((ls : List (List ℕ)) → IsSorted (slice_cmp nat_cmp) (sorted ls)) → ((ls : List (List ℕ)) → IsPermutation ls (sorted ls)) →
    (texts : List (List (List ℕ))) → All AreRows texts → (out : List (List ℕ)) × ((r : List ℕ) → (Contains out r → Contains (all_of texts) r) × (Contains (all_of texts) r → Contains out r)) × IsStrictlySortedBy (slice_cmp nat_cmp) out × (sort_text (order false true) (map text_of texts) ≡ text_of out) × (sort_text (order true true) (map text_of texts) ≡ text_of (reverse out))
once_law rises same texts h =
    let ls = all_of texts in (
      alone (sorted ls),
      λ r. (
        λ in_out. Contains-permutation (sorted ls) ls r (IsPermutation-sym ls (sorted ls) (same ls)) (Contains-from_dedup (pointwise nat_eq) (sorted ls) r in_out),
        λ in_all. Contains-dedup nat_list_eq_equiv (λ x y. (bytes_eq-Decides x y).0) (sorted ls) r (Contains-permutation ls (sorted ls) r (same ls) in_all),
      ),
      IsStrictlySortedBy-dedup nat_list_cmp_total (λ x y. sym (is_eq-slice_cmp x y)) (sorted ls) (rises ls),
      sorted_texts (order false true) texts h,
      sorted_texts (order true true) texts h,
    )

bare_open : (rows : List (List ℕ)) (b : ℕ) (bs : List ℕ) → AreRows rows → HasNo 10 (b ∷ bs) → bare_lines (text_of rows ++ b ∷ bs) ≡ rows ++ (b ∷ bs) ∷ []
bare_open rows b bs h l =
    ap (map bare) (lines_text rows (b ∷ bs) (rows_are rows h) ∙ ap (λ ls. map ended rows ++ ls) (lines_last (b ∷ bs) (row (b ∷ bs) l)))
    ∙ map-append bare (map ended rows) ((b ∷ bs) ∷ []) ∙ rw (bare_rows rows, bare_last (b ∷ bs) (row (b ∷ bs) l)) refl

push_rows : (rows : List (List ℕ)) (last : List ℕ) → Rows rows → Row last → Rows (rows ++ last ∷ [])
push_rows [] last h l = (l, tt)
push_rows (r ∷ rs) last h l = (h.0, push_rows rs last h.1 l)

bare_closed : (rows : List (List ℕ)) (last : List ℕ) → AreRows rows → HasNo 10 last → bare_lines (text_of (rows ++ last ∷ [])) ≡ rows ++ last ∷ []
bare_closed rows last h l = ap (map bare) (lines_whole (rows ++ last ∷ []) (push_rows rows last (rows_are rows h) (row last l))) ∙ bare_rows (rows ++ last ∷ [])

pub sorted_last : (o : Order) (before after : List (List ℕ)) (rows : List (List ℕ)) (b : ℕ) (bs : List ℕ) → AreRows rows → HasNo 10 (b ∷ bs) → sort_text o (before ++ (text_of rows ++ b ∷ bs) ∷ after) ≡ sort_text o (before ++ (text_of (rows ++ (b ∷ bs) ∷ [])) ∷ after)
unfolding sort_text
sorted_last o before after rows b bs h l =
    let open_text = text_of rows ++ b ∷ bs in
    let closed_text = text_of (rows ++ (b ∷ bs) ∷ []) in
    ap (λ ls. text_of (turned o.backwards (once o.unique (sorted ls)))) (flat_map-append bare_lines before (open_text ∷ after)
    ∙ ap (λ ls. flat_map bare_lines before ++ (ls ++ flat_map bare_lines after)) (bare_open rows b bs h l ∙ sym (bare_closed rows (b ∷ bs) h l))
    ∙ sym (flat_map-append bare_lines before (closed_text ∷ after)))

-- ---- uniq

itself : (r : List ℕ) → pointwise nat_eq (bare (ended r)) (bare (ended r)) ≡ true
itself r = (bytes_eq-Decides (bare (ended r)) (bare (ended r))).1 refl

apart : (r s : List ℕ) → r ≢ s → pointwise nat_eq (bare (ended s)) (bare (ended r)) ≡ false
apart r s h = by_cases (pointwise nat_eq (bare (ended s)) (bare (ended r))) (λ t. t ≡ false)
    (λ is. absurd (h (sym (bare_row r) ∙ sym ((bytes_eq-Decides (bare (ended s)) (bare (ended r))).0 is) ∙ bare_row s)))
    (λ _. refl)

run_on : (r : List ℕ) (n k : ℕ) (ls : List (List ℕ)) → runs_from (ended r) n (map ended (replicate k r) ++ ls) ≡ runs_from (ended r) (n + k) ls
run_on r n zero ls = let e : n + 0 ≡ n = omega arith in rw e refl
run_on r n (suc k) ls = let e : n + suc k ≡ n + 1 + k = omega arith in rw (itself r, e) (run_on r (n + 1) k ls)

abbrev lines_of_run : List ℕ × ℕ → List ℕ × ℕ
lines_of_run run = (ended run.0, run.1)

abbrev After : List ℕ → List (List ℕ × ℕ) → Type 0
After r [] = Unit {0}
After r (s ∷ rs) = r ≢ s.0

first_after : (r : List ℕ × ℕ) (rs : List (List ℕ × ℕ)) → AreRuns (r ∷ rs) → (0 < r.1) × After r.0 rs × AreRuns rs
first_after r [] h = (h, tt, tt)
first_after r (s ∷ rs) h = h

runs_after : (r : List ℕ) (n : ℕ) (rs : List (List ℕ × ℕ)) → After r rs → AreRuns rs → runs_from (ended r) n (map ended (flat_map repeated rs)) ≡ (ended r, n) ∷ map lines_of_run rs
runs_after r n [] after are = refl
runs_after r n ((s, zero) ∷ rs) after are = absurd (let l = (first_after (s, zero) rs are).0 in omega arith)
runs_after r n ((s, suc k) ∷ rs) after are =
    let f = first_after (s, suc k) rs are in
    let e : 1 + k ≡ suc k = omega arith in
    rw (apart r s after) (ap (λ ls. (ended r, n) ∷ runs_from (ended s) 1 ls) (map-append ended (replicate k s) (flat_map repeated rs))
    ∙ ap (λ ls. (ended r, n) ∷ ls) (run_on s 1 k (map ended (flat_map repeated rs)) ∙ ap (λ m. runs_from (ended s) m (map ended (flat_map repeated rs))) e ∙ runs_after s (suc k) rs f.1 f.2))

runs_all : (rs : List (List ℕ × ℕ)) → AreRuns rs → runs (map ended (flat_map repeated rs)) ≡ map lines_of_run rs
runs_all [] are = refl
runs_all ((s, zero) ∷ rs) are = absurd (let l = (first_after (s, zero) rs are).0 in omega arith)
runs_all ((s, suc k) ∷ rs) are =
    let f = first_after (s, suc k) rs are in
    let e : 1 + k ≡ suc k = omega arith in
    ap (λ ls. runs_from (ended s) 1 ls) (map-append ended (replicate k s) (flat_map repeated rs))
    ∙ run_on s 1 k (map ended (flat_map repeated rs)) ∙ ap (λ m. runs_from (ended s) m (map ended (flat_map repeated rs))) e ∙ runs_after s (suc k) rs f.1 f.2

rows_repeated : (rs : List (List ℕ × ℕ)) → Rows (map (λ r. r.0) rs) → Rows (flat_map repeated rs)
rows_repeated [] h = tt
rows_repeated (r ∷ rs) h = more r.1 r.0 (flat_map repeated rs) h.0 (rows_repeated rs h.1)
  where
    more : (n : ℕ) (r : List ℕ) (rows : List (List ℕ)) → Row r → Rows rows → Rows (replicate n r ++ rows)
    more zero r rows h hs = hs
    more (suc n) r rows h hs = (h, more n r rows h hs)

uniq_runs : (counts : Bool) (rs : List (List ℕ × ℕ)) → AreRuns rs → AreRows (map (λ r. r.0) rs) → uniq_text counts (text_of (flat_map repeated rs)) ≡ flat_map (shown_run counts) (map lines_of_run rs)
unfolding uniq_text
uniq_runs counts rs are rows =
    ap (λ ls. flat_map (shown_run counts) (runs ls)) (lines_whole (flat_map repeated rs) (rows_repeated rs (rows_are (map (λ r. r.0) rs) rows)))
    ∙ ap (flat_map (shown_run counts)) (runs_all rs are)

pub uniq_first : (rs : List (List ℕ × ℕ)) → AreRuns rs → AreRows (map (λ r. r.0) rs) → uniq_text false (text_of (flat_map repeated rs)) ≡ text_of (map (λ r. r.0) rs)
uniq_first rs are rows = uniq_runs false rs are rows ∙ each rs
  where
    each : (rs : List (List ℕ × ℕ)) → flat_map (shown_run false) (map lines_of_run rs) ≡ text_of (map (λ r. r.0) rs)
    each [] = refl
    each (r ∷ rs) = ap (λ w. ended r.0 ++ w) (each rs)

pub uniq_counted : (rs : List (List ℕ × ℕ)) → AreRuns rs → AreRows (map (λ r. r.0) rs) → uniq_text true (text_of (flat_map repeated rs)) ≡ flat_map (λ r. in_seven (decimal r.1) ++ (32 ∷ ended r.0)) rs
uniq_counted rs are rows = uniq_runs true rs are rows ∙ each rs
  where
    each : (rs : List (List ℕ × ℕ)) → flat_map (shown_run true) (map lines_of_run rs) ≡ flat_map (λ r. in_seven (decimal r.1) ++ (32 ∷ ended r.0)) rs
    each [] = refl
    each (r ∷ rs) = ap (λ w. (in_seven (decimal r.1) ++ (32 ∷ ended r.0)) ++ w) (each rs)

-- ---- grep

some_place : (hay needle : List ℕ) (i n k : ℕ) (ks : List ℕ) → matches_from hay needle 0 i n ≡ k ∷ ks → occurs_at hay needle k ≡ true
unfolding matches_from
some_place hay needle i zero k ks e = absurd cc
some_place hay needle i (suc n) k ks e = by_cases (occurs_at hay needle i)
    (λ t. occurs_at hay needle i ≡ t → cond t (i ∷ matches_from hay needle (match_len needle - 1) (i + 1) n) (matches_from hay needle 0 (i + 1) n) ≡ k ∷ ks → occurs_at hay needle k ≡ true)
    (λ _ is e. let same : i ≡ k = cc in ap (occurs_at hay needle) (sym same) ∙ is)
    (λ _ _ e. some_place hay needle (i + 1) n k ks e) refl e

no_place : (hay needle : List ℕ) (i n : ℕ) → matches_from hay needle 0 i n ≡ [] → (k : ℕ) → i ≤ k → k < i + n → occurs_at hay needle k ≡ false
unfolding matches_from
no_place hay needle i zero e k low high = absurd (omega arith)
no_place hay needle i (suc n) e k low high = by_cases (occurs_at hay needle i)
    (λ t. occurs_at hay needle i ≡ t → cond t (i ∷ matches_from hay needle (match_len needle - 1) (i + 1) n) (matches_from hay needle 0 (i + 1) n) ≡ [] → occurs_at hay needle k ≡ false)
    (λ _ is e. absurd cc)
    (λ _ isnt e. by_cases (eqb k i) (λ _. occurs_at hay needle k ≡ false) (λ same. ap (occurs_at hay needle) (eqb-true k i same) ∙ isnt)
    (λ other. let ne : k ≢ i = λ same. (let t : eqb k i ≡ true = eq-eqb k i same in cc) in no_place hay needle (i + 1) n e k (omega arith) (omega arith))) refl e

occurs_true : (hay needle : List ℕ) (k : ℕ) → occurs_at hay needle k ≡ true → (front : List ℕ) × (rest : List ℕ) × (hay ≡ front ++ (needle ++ rest))
occurs_true hay needle k h =
    let two = and_parts _ _ h in
    let same = (bytes_eq-Decides (take (length needle) (drop k hay)) needle).0 two.1 in
    (take k hay, drop (length needle) (drop k hay), sym (take-append-drop k hay) ∙ ap (λ w. take k hay ++ w) (sym (take-append-drop (length needle) (drop k hay)) ∙ ap (λ w. w ++ drop (length needle) (drop k hay)) same))

true_occurs : (hay needle front rest : List ℕ) → hay ≡ front ++ (needle ++ rest) → occurs_at hay needle (length front) ≡ true
true_occurs hay needle front rest e =
    let at : drop (length front) hay ≡ needle ++ rest = ap (drop (length front)) e ∙ drop_at front (needle ++ rest) (length front) refl in
    let part : take (length needle) (drop (length front) hay) ≡ needle = ap (take (length needle)) at ∙ take_at needle rest (length needle) refl in
    let le : length front + length needle ≤ length hay = omega (arith, ap length e, length-append front (needle ++ rest), length-append needle rest) in
    rw (le-leb _ _ le) ((bytes_eq-Decides (take (length needle) (drop (length front) hay)) needle).1 part)

holds_true : (p r : List ℕ) → holds p r ≡ true → (front : List ℕ) × (rest : List ℕ) × (r ≡ front ++ (p ++ rest))
unfolding first_of
holds_true p r h = from (matches r p 0) refl h
  where
    from : (ks : List ℕ) → matches r p 0 ≡ ks → is_some (first_of ks) ≡ true → (front : List ℕ) × (rest : List ℕ) × (r ≡ front ++ (p ++ rest))
    from [] e h = absurd cc
    from (k ∷ ks) e h = occurs_true r p k (some_place r p 0 (length r + 1 - 0) k ks e)

true_holds : (p r front rest : List ℕ) → r ≡ front ++ (p ++ rest) → holds p r ≡ true
unfolding first_of
true_holds p r front rest e = from (matches r p 0) refl
  where
    from : (ks : List ℕ) → matches r p 0 ≡ ks → is_some (first_of ks) ≡ true
    from [] none =
        let isnt = no_place r p 0 (length r + 1 - 0) none (length front) (omega arith) (omega (arith, ap length e, length-append front (p ++ rest))) in
        let is = true_occurs r p front rest e in
        absurd cc
    from (k ∷ ks) some = refl

fits_true : (whole : Bool) (p r : List ℕ) → fits whole p r ≡ true → Fits whole p r
fits_true true p r h = (bytes_eq-Decides r p).0 h
fits_true false p r h = holds_true p r h

true_fits : (whole : Bool) (p r : List ℕ) → Fits whole p r → fits whole p r ≡ true
true_fits true p r h = (bytes_eq-Decides r p).1 h
true_fits false p r h = true_holds p r h.0 h.1 h.2

unfit : (whole : Bool) (p r : List ℕ) → (Fits whole p r → ⊥) → fits whole p r ≡ false
unfit whole p r h = by_cases (fits whole p r) (λ t. fits whole p r ≡ t → t ≡ false) (λ _ is. absurd (h (fits_true whole p r is))) (λ _ _. refl) refl

abbrev turned_test : Bool → Bool → Bool
turned_test inverted t = cond inverted (not t) t

wanted : (inverted whole : Bool) (p r : List ℕ) → Turned inverted (Fits whole p r) → turned_test inverted (fits whole p r) ≡ true
wanted true whole p r h = rw (unfit whole p r h) refl
wanted false whole p r h = true_fits whole p r h

unwanted : (inverted whole : Bool) (p r : List ℕ) → (Turned inverted (Fits whole p r) → ⊥) → turned_test inverted (fits whole p r) ≡ false
unwanted true whole p r h = by_cases (fits whole p r) (λ t. fits whole p r ≡ t → not t ≡ false) (λ _ _. refl) (λ _ isnt. absurd (h (λ f. let is = true_fits whole p r f in cc))) refl
unwanted false whole p r h = unfit whole p r h

selected_if : (s : Search) (p l r : List ℕ) → bare l ≡ r → IsWanted s p r → is_selected s p l ≡ true
selected_if s p l r e h = rw e (wanted s.inverted s.whole p r h)

selected_not : (s : Search) (p l r : List ℕ) → bare l ≡ r → (IsWanted s p r → ⊥) → is_selected s p l ≡ false
selected_not s p l r e h = rw e (unwanted s.inverted s.whole p r h)

kept : (test : List ℕ → Bool) (l : List ℕ) (ls : List (List ℕ)) → test l ≡ true → filter test (l ∷ ls) ≡ l ∷ filter test ls
kept test l ls h = rw h refl

left_out : (test : List ℕ → Bool) (l : List ℕ) (ls : List (List ℕ)) → test l ≡ false → filter test (l ∷ ls) ≡ filter test ls
left_out test l ls h = rw h refl

pub grep_none : (s : Search) (p : List ℕ) → selected s p [] ≡ []
unfolding selected
grep_none s p = ap (filter (is_selected s p)) lines-nil

pub grep_taken : (s : Search) (p r rest : List ℕ) → HasNo 10 r → IsWanted s p r → selected s p (r ++ 10 ∷ rest) ≡ ended r ∷ selected s p rest
unfolding selected
grep_taken s p r rest h w = ap (filter (is_selected s p)) (line_first r rest (row r h)) ∙ kept (is_selected s p) (ended r) (lines_of rest) (selected_if s p (ended r) r (bare_row r) w)

pub grep_passed : (s : Search) (p r rest : List ℕ) → HasNo 10 r → (IsWanted s p r → ⊥) → selected s p (r ++ 10 ∷ rest) ≡ selected s p rest
unfolding selected
grep_passed s p r rest h w = ap (filter (is_selected s p)) (line_first r rest (row r h)) ∙ left_out (is_selected s p) (ended r) (lines_of rest) (selected_not s p (ended r) r (bare_row r) w)

pub grep_last_taken : (s : Search) (p : List ℕ) (b : ℕ) (bs : List ℕ) → HasNo 10 (b ∷ bs) → IsWanted s p (b ∷ bs) → selected s p (b ∷ bs) ≡ (b ∷ bs) ∷ []
unfolding selected
grep_last_taken s p b bs h w = ap (filter (is_selected s p)) (lines_last (b ∷ bs) (row (b ∷ bs) h)) ∙ kept (is_selected s p) (b ∷ bs) [] (selected_if s p (b ∷ bs) (b ∷ bs) (bare_last (b ∷ bs) (row (b ∷ bs) h)) w)

pub grep_last_passed : (s : Search) (p : List ℕ) (b : ℕ) (bs : List ℕ) → HasNo 10 (b ∷ bs) → (IsWanted s p (b ∷ bs) → ⊥) → selected s p (b ∷ bs) ≡ []
unfolding selected
grep_last_passed s p b bs h w = ap (filter (is_selected s p)) (lines_last (b ∷ bs) (row (b ∷ bs) h)) ∙ left_out (is_selected s p) (b ∷ bs) [] (selected_not s p (b ∷ bs) (b ∷ bs) (bare_last (b ∷ bs) (row (b ∷ bs) h)) w)

-- ---- cmp

abbrev unlike : ℕ × ℕ → Bool
unlike p = not (p.0 == p.1)

equal_front : (front : List ℕ) → AllByRecursion (λ p. unlike p ≡ false) (zip front front)
equal_front [] = tt
equal_front (b ∷ bs) = (ap not (eq-eqb b b refl), equal_front bs)

zip_size : (front : List ℕ) → length (zip front front) ≡ length front
zip_size [] = refl
zip_size (b ∷ bs) = ap suc (zip_size bs)

zip_front : (front a b : List ℕ) → zip (front ++ a) (front ++ b) ≡ zip front front ++ zip a b
zip_front [] a b = refl
zip_front (x ∷ xs) a b = ap (λ ps. (x, x) ∷ ps) (zip_front xs a b)

zip_short : (front b : List ℕ) → zip front (front ++ b) ≡ zip front front
zip_short [] b = refl
zip_short (x ∷ xs) b = ap (λ ps. (x, x) ∷ ps) (zip_short xs b)

zip_long : (front a : List ℕ) → zip (front ++ a) front ≡ zip front front
zip_long [] [] = refl
zip_long [] (x ∷ xs) = refl
zip_long (x ∷ xs) a = ap (λ ps. (x, x) ∷ ps) (zip_long xs a)

all_equal : (a b front : List ℕ) → zip a b ≡ zip front front → first_difference a b ≡ None
all_equal a b front e = ap (position unlike) e ∙ outside unlike (zip front front) (equal_front front)

pub cmp_same : (a : List ℕ) → comparison a a ≡ Same
unfolding comparison
cmp_same a = ap (λ o. comparison_by o a a) (all_equal a a a refl) ∙ rw (le-ltb (length a) (length a) (omega arith)) refl

pub cmp_differ : (front a b : List ℕ) (x y : ℕ) → x ≢ y → comparison (front ++ x ∷ a) (front ++ y ∷ b) ≡ Differ (length front + 1) (how_many 10 front + 1)
unfolding comparison
cmp_differ front a b x y h =
    let place : first_difference (front ++ x ∷ a) (front ++ y ∷ b) ≡ Some (length front) =
    ap (position unlike) (zip_front front (x ∷ a) (y ∷ b)) ∙ first_at unlike (zip front front) (x, y) (zip a b) (equal_front front) (ap not (ne_eqb x y h)) ∙ ap Some (zip_size front) in
    ap (λ o. comparison_by o (front ++ x ∷ a) (front ++ y ∷ b)) place ∙ ap (λ (w : List ℕ). Differ (length front + 1) (count_by is_newline w + 1)) (take_at front (x ∷ a) (length front) refl)

pub cmp_first : (front b : List ℕ) (y : ℕ) → comparison front (front ++ y ∷ b) ≡ FirstShort
unfolding comparison
cmp_first front b y =
    let lt : length front < length (front ++ y ∷ b) = omega (arith, length-append front (y ∷ b)) in
    ap (λ o. comparison_by o front (front ++ y ∷ b)) (all_equal front (front ++ y ∷ b) front (zip_short front (y ∷ b))) ∙ rw (lt-ltb _ _ lt) refl

pub cmp_second : (front a : List ℕ) (x : ℕ) → comparison (front ++ x ∷ a) front ≡ SecondShort
unfolding comparison
cmp_second front a x =
    let lt : length front < length (front ++ x ∷ a) = omega (arith, length-append front (x ∷ a)) in
    ap (λ o. comparison_by o (front ++ x ∷ a) front) (all_equal (front ++ x ∷ a) front front (zip_long front (x ∷ a))) ∙ rw (le-ltb (length (front ++ x ∷ a)) (length front) (omega arith), lt-ltb _ _ lt) refl
