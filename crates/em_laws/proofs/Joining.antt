-- Logical lines, one row of the file after another.
use Rattle.std.proofs.Common.{◌≡◌, ◌≢◌, ℕ, suc, ◌+◌, ◌-◌, ◌<◌, ◌&&◌, ◌⊎◌, inl, inr, Bool, true, false, cond, eqb, List, [], ◌∷◌, ◌++◌, map, length, take, drop, reverse, Option, Some, arith, refl, sym, ap, ◌∙◌, append_assoc, append-nil}
use Rattle.std.specs.Prelude.{◌==◌, All, nat_lt, min, option_map}
use Rattle.std.specs.List.{AllByRecursion, flat_map, list_all, onto_first, prefix_len, suffix_len}
use Rattle.std.proofs.Math.Dec.{eqb-suc-suc, eqb-zero-suc}
use Rattle.std.proofs.lemmas.Bool.{eqb-true, ne_eqb, lt-ltb, le-ltb}
use Rattle.std.proofs.lemmas.List.{take_at, reverse-append, length-reverse, length_push}
use Rattle.std.proofs.lemmas.List.Elements.{recursion_from_All, All-from_recursion}
use Rattle.std.proofs.lemmas.List.Folds.{prefix_len-append, list_all-append}
use Rattle.std.proofs.lemmas.List.Splits.{slice_split_at, slice_split_none}
use Rattle.std.proofs.lemmas.List.Sums.{suffix_len-le-length}
use Rattle.em_base.specs.declared.place.Place.{Place}
use Rattle.em_base.specs.Blanks.{is_blank, trimmed_start, trimmed_end}
use Rattle.em_base.proofs.Lemmas.{by_cases}
use Rattle.em_lines.specs.declared.line.Line.{Line}
use Rattle.em_lines.specs.declared.line.Lines.{Lines}
use Rattle.em_lines.specs.Joining.{rows, goes_on, onto, grouped, is_recipe, untabbed, recipe_text, without_last, spliced, joined_text}
use Rattle.em_lines.specs.Lines.{place, is_too_long, stops, with_line, lines_from, joined}
use Rattle.em_laws.specs.References.{HasNo}
use Rattle.em_laws.specs.Expansions.{EndsOtherwise}
use Rattle.em_laws.specs.Joined.{BeginsOtherwise, first_place, first_line, next_place, next_line, nothing, in_front, instead, IsShort}

-- ---- blanks at the ends of a text

abbrev blank : List ℕ → Bool
blank xs = list_all is_blank xs

run_whole : (xs : List ℕ) → eqb (prefix_len is_blank xs) (length xs) ≡ blank xs
run_whole [] = refl
run_whole (x ∷ xs) = by_cases (is_blank x) (λ b. eqb (cond b (1 + prefix_len is_blank xs) 0) (suc (length xs)) ≡ (b && blank xs))
    (λ _. rw (let e : 1 + prefix_len is_blank xs ≡ suc (prefix_len is_blank xs) = omega arith in e, eqb-suc-suc (prefix_len is_blank xs) (length xs)) (run_whole xs))
    (λ _. eqb-zero-suc (length xs))

blank-reverse : (xs : List ℕ) → blank (reverse xs) ≡ blank xs
blank-reverse [] = refl
blank-reverse (x ∷ xs) =
    ap blank (reverse-append (x ∷ []) xs) ∙ list_all-append is_blank (reverse xs) (x ∷ []) ∙ ap (λ b. b && (is_blank x && true)) (blank-reverse xs) ∙ swap (blank xs) (is_blank x)
  where
    swap : (a b : Bool) → (a && (b && true)) ≡ (b && a)
    swap true true = refl
    swap true false = refl
    swap false true = refl
    swap false false = refl

suffix-cons : (x : ℕ) (xs : List ℕ) → suffix_len is_blank (x ∷ xs) ≡ cond (blank xs) (length xs + cond (is_blank x) 1 0) (suffix_len is_blank xs)
suffix-cons x xs =
    ap (prefix_len is_blank) (reverse-append (x ∷ []) xs) ∙ prefix_len-append is_blank (reverse xs) (x ∷ [])
    ∙ ap (λ b. cond b (length (reverse xs) + cond (is_blank x) 1 0) (suffix_len is_blank xs)) (run_whole (reverse xs) ∙ blank-reverse xs)
    ∙ ap (λ n. cond (blank xs) (n + cond (is_blank x) 1 0) (suffix_len is_blank xs)) (length-reverse xs)

suffix_whole : (xs : List ℕ) → blank xs ≡ true → suffix_len is_blank xs ≡ length xs
suffix_whole [] all = refl
suffix_whole (x ∷ xs) all = by_cases (is_blank x) (λ b. is_blank x ≡ b → (b && blank xs) ≡ true → suffix_len is_blank (x ∷ xs) ≡ suc (length xs))
    (λ is same more. suffix-cons x xs ∙ rw (more, is) (omega arith))
    (λ isnt same more. absurd cc) refl all

end_blank : (xs : List ℕ) → blank xs ≡ true → trimmed_end xs ≡ []
end_blank xs all = rw (suffix_whole xs all, (let e : length xs - length xs ≡ 0 = omega arith in e)) refl

start_skip : (x : ℕ) (xs : List ℕ) → is_blank x ≡ true → trimmed_start (x ∷ xs) ≡ trimmed_start xs
start_skip x xs is = rw is (let e : 1 + prefix_len is_blank xs ≡ suc (prefix_len is_blank xs) = omega arith in ap (λ n. drop n (x ∷ xs)) e)

-- a tab in front of a text that isn't blank stays at its end's trimming
end_tab : (xs : List ℕ) → blank xs ≡ false → trimmed_end (9 ∷ xs) ≡ 9 ∷ trimmed_end xs
end_tab xs some =
    let s : suffix_len is_blank (9 ∷ xs) ≡ suffix_len is_blank xs = suffix-cons 9 xs ∙ rw some refl in
    let few = suffix_len-le-length is_blank xs in
    let k : suc (length xs) - suffix_len is_blank xs ≡ suc (length xs - suffix_len is_blank xs) = omega arith in
    ap (λ n. take (suc (length xs) - n) (9 ∷ xs)) s ∙ ap (λ n. take n (9 ∷ xs)) k

-- at a line's begin a tab is a blank like others
tab_gone : (xs rest : List ℕ) → trimmed_start (trimmed_end (9 ∷ xs) ++ 32 ∷ rest) ≡ trimmed_start (trimmed_end xs ++ 32 ∷ rest)
tab_gone xs rest = by_cases (blank xs) (λ _. trimmed_start (trimmed_end (9 ∷ xs) ++ 32 ∷ rest) ≡ trimmed_start (trimmed_end xs ++ 32 ∷ rest))
    (λ all. rw (end_blank (9 ∷ xs) all, end_blank xs all) refl)
    (λ some. ap (λ (w : List ℕ). trimmed_start (w ++ 32 ∷ rest)) (end_tab xs some) ∙ start_skip 9 (trimmed_end xs ++ 32 ∷ rest) refl)

-- ---- rows

no_newline : (r : List ℕ) → HasNo 10 r → All (λ b. eqb b 10 ≡ false) r
no_newline r h = All-from_recursion _ r (each r (recursion_from_All _ r h))
  where
    each : (r : List ℕ) → AllByRecursion (λ b. b ≢ 10) r → AllByRecursion (λ b. eqb b 10 ≡ false) r
    each [] h = tt
    each (b ∷ bs) h = (ne_eqb b 10 h.0, each bs h.1)

rows_on : (r rest : List ℕ) → HasNo 10 r → rows (r ++ 10 ∷ rest) ≡ r ∷ rows rest
rows_on r rest h = slice_split_at (λ b. b == 10) r 10 rest (no_newline r h) refl

rows_one : (r : List ℕ) → HasNo 10 r → rows r ≡ r ∷ []
rows_one r h = slice_split_none (λ b. b == 10) r (no_newline r h)

-- a row is there, and it stands in the first group
record Grouped (bytes : List ℕ) : Type 0 where
  r : List ℕ
  rs : List (List ℕ)
  g : List (List ℕ)
  gs : List (List (List ℕ))
  is : rows bytes ≡ r ∷ rs
  are : grouped (r ∷ rs) ≡ (r ∷ g) ∷ gs
  begins : BeginsOtherwise 9 bytes → BeginsOtherwise 9 r

onto_some : (r : List ℕ) (gs : List (List (List ℕ))) → (g : List (List ℕ)) × (more : List (List (List ℕ))) × (onto r gs ≡ (r ∷ g) ∷ more)
onto_some r [] = ([], [], refl)
onto_some r (g ∷ gs) = (g, gs, refl)

some_group : (r : List ℕ) (rs : List (List ℕ)) → (g : List (List ℕ)) × (gs : List (List (List ℕ))) × (grouped (r ∷ rs) ≡ (r ∷ g) ∷ gs)
some_group r rs = by_cases (goes_on r) (λ t. (g : List (List ℕ)) × (gs : List (List (List ℕ))) × (cond t (onto r (grouped rs)) ((r ∷ []) ∷ grouped rs) ≡ (r ∷ g) ∷ gs))
    (λ _. onto_some r (grouped rs))
    (λ _. ([], grouped rs, refl))

some_row : (bytes : List ℕ) → (r : List ℕ) × (rs : List (List ℕ)) × (rows bytes ≡ r ∷ rs) × (BeginsOtherwise 9 bytes → BeginsOtherwise 9 r)
some_row [] = ([], [], refl, λ h. h)
some_row (b ∷ bs) = by_cases (eqb b 10) (λ t. (r : List ℕ) × (rs : List (List ℕ)) × (cond t ([] ∷ rows bs) (onto_first b (rows bs)) ≡ r ∷ rs) × (b ≢ 9 → BeginsOtherwise 9 r))
    (λ _. ([], rows bs, refl, λ h. tt))
    (λ _. let s = some_row bs in (b ∷ s.0, s.1, ap (onto_first b) s.2, λ h. h))

group : (bytes : List ℕ) → Grouped bytes
group bytes = let s = some_row bytes in let f = some_group s.0 s.1 in record { r = s.0; rs = s.1; g = f.0; gs = f.1; is = s.2; are = f.2; begins = s.3 }

-- ---- lines

abbrev lines_at : List ℕ → ℕ → List (List (List ℕ)) → Lines
lines_at file n gs = lines_from joined_text file n gs

-- what a group makes that isn't the empty rest
abbrev Made : List ℕ → ℕ → List (List ℕ) → List (List (List ℕ)) → Lines
Made file n g gs =
    cond (is_too_long g) (stops (place file n)) (with_line (record { place = place file n; tab = is_recipe g; text = joined_text g }) (lines_at file (n + length g) gs))

last_or : (file : List ℕ) (g : List (List ℕ)) (gs : List (List (List ℕ))) → (g ∷ gs ≡ ([] ∷ []) ∷ []) ⊎ ((n : ℕ) → lines_at file n (g ∷ gs) ≡ Made file n g gs)
last_or file [] gs = inr (λ n. refl)
last_or file ([] ∷ []) [] = inl refl
last_or file ([] ∷ []) (h ∷ gs) = inr (λ n. refl)
last_or file ([] ∷ r ∷ rs) gs = inr (λ n. refl)
last_or file ((b ∷ bs) ∷ rs) gs = inr (λ n. refl)

of_two : (file : List ℕ) (n : ℕ) (a r : List ℕ) (g : List (List ℕ)) (gs : List (List (List ℕ))) → lines_at file n ((a ∷ r ∷ g) ∷ gs) ≡ Made file n (a ∷ r ∷ g) gs
of_two file n [] r g gs = refl
of_two file n (b ∷ bs) r g gs = refl

of_more : (file : List ℕ) (n : ℕ) (a : List ℕ) (h : List (List ℕ)) (gs : List (List (List ℕ))) → lines_at file n ((a ∷ []) ∷ h ∷ gs) ≡ Made file n (a ∷ []) (h ∷ gs)
of_more file n [] h gs = refl
of_more file n (b ∷ bs) h gs = refl

abbrev moved : Lines → Lines
moved ls = record { lines = map next_line ls.lines; too_long = option_map next_place ls.too_long }

number_on : (n : ℕ) → min (n + 1) 4294967295 ≡ min (min n 4294967295 + 1) 4294967295
number_on n = omega arith

place_on : (file : List ℕ) (n : ℕ) → place file (n + 1) ≡ next_place (place file n)
place_on file n = ap (λ m. (let p : Place = record { file = file; line = m } in p)) (number_on n)

one_down : (file : List ℕ) (n : ℕ) (gs : List (List (List ℕ))) → lines_at file (n + 1) gs ≡ moved (lines_at file n gs)
one_down file n [] = refl
one_down file n (g ∷ gs) = elim (last_or file g gs) as (λ _. lines_at file (n + 1) (g ∷ gs) ≡ moved (lines_at file n (g ∷ gs))) [
  | inl e ↦ ap (lines_at file (n + 1)) e ∙ ap (λ x. moved (lines_at file n x)) (sym e)
  | inr made ↦
      let k : n + 1 + length g ≡ n + length g + 1 = omega arith in
      made (n + 1) ∙ by_cases (is_too_long g) (λ t. cond t (stops (place file (n + 1))) (with_line (record { place = place file (n + 1); tab = is_recipe g; text = joined_text g }) (lines_at file (n + 1 + length g) gs)) ≡ moved (cond t (stops (place file n)) (with_line (record { place = place file n; tab = is_recipe g; text = joined_text g }) (lines_at file (n + length g) gs))))
      (λ _. ap stops (place_on file n))
      (λ _. ap (λ (p : Place). with_line (record { place = p; tab = is_recipe g; text = joined_text g }) (lines_at file (n + 1 + length g) gs)) (place_on file n)
      ∙ ap (with_line (record { place = next_place (place file n); tab = is_recipe g; text = joined_text g })) (ap (λ m. lines_at file m gs) k ∙ one_down file (n + length g) gs))
      ∙ ap moved (sym (made n))
]

whole : (file bytes : List ℕ) → joined file bytes ≡ lines_at file 1 (grouped (rows bytes))
unfolding joined
whole file bytes = refl

-- ---- lines that go on

last_is : (r : List ℕ) → goes_on r ≡ true → (front : List ℕ) × (r ≡ front ++ 92 ∷ [])
last_is [] h = absurd cc
last_is (b ∷ []) h = ([], ap (λ c. c ∷ []) (eqb-true b 92 h))
last_is (b ∷ c ∷ bs) h = let more = last_is (c ∷ bs) h in (b ∷ more.0, ap (λ w. b ∷ w) more.1)

stops_here : (r : List ℕ) → EndsOtherwise 92 r → goes_on r ≡ false
stops_here r h = by_cases (goes_on r) (λ t. t ≡ false) (λ is. let l = last_is r is in absurd (h l.0 l.1)) (λ _. refl)

goes : (r : List ℕ) → goes_on (r ++ 92 ∷ []) ≡ true
goes [] = refl
goes (b ∷ []) = refl
goes (b ∷ c ∷ bs) = goes (c ∷ bs)

begins_plain : (r : List ℕ) (g : List (List ℕ)) → BeginsOtherwise 9 r → is_recipe (r ∷ g) ≡ false
begins_plain [] g h = refl
begins_plain (b ∷ bs) g h = ne_eqb b 9 h

begins_before : (r : List ℕ) → BeginsOtherwise 9 r → BeginsOtherwise 9 (r ++ 92 ∷ [])
begins_before [] h = λ e. omega arith
begins_before (b ∷ bs) h = h

short_enough : (g : List (List ℕ)) (t : List ℕ) → joined_text g ≡ t → IsShort t → is_too_long g ≡ false
short_enough g t e h = le-ltb 1048576 (length (joined_text g)) (omega (arith, ap length e))

made_short : (file : List ℕ) (n : ℕ) (g : List (List ℕ)) (gs : List (List (List ℕ))) (tab : Bool) (t : List ℕ) → is_recipe g ≡ tab → joined_text g ≡ t → IsShort t → Made file n g gs ≡ with_line (record { place = place file n; tab = tab; text = t }) (lines_at file (n + length g) gs)
made_short file n g gs tab t is e h =
    ap (λ (x : Bool). cond x (stops (place file n)) (with_line (record { place = place file n; tab = is_recipe g; text = joined_text g }) (lines_at file (n + length g) gs))) (short_enough g t e h)
    ∙ ap (λ (x : Bool). with_line (record { place = place file n; tab = x; text = joined_text g }) (lines_at file (n + length g) gs)) is
    ∙ ap (λ (x : List ℕ). with_line (record { place = place file n; tab = tab; text = x }) (lines_at file (n + length g) gs)) e

-- ---- one row

alone_text : (r : List ℕ) (g : List (List ℕ)) → is_recipe (r ∷ g) ≡ false → joined_text (r ∷ g) ≡ spliced (r ∷ g)
alone_text r g h = ap (λ (t : Bool). cond t (recipe_text (r ∷ g)) (spliced (r ∷ g))) h

first_row : (file r rest : List ℕ) (tab : Bool) (t : List ℕ) → HasNo 10 r → goes_on r ≡ false → is_recipe (r ∷ []) ≡ tab → joined_text (r ∷ []) ≡ t → IsShort t →
    joined file (r ++ 10 ∷ rest) ≡ in_front (first_line file tab t) (joined file rest)
first_row file r rest tab t h on is e short =
    let s = group rest in
    let split : grouped (rows (r ++ 10 ∷ rest)) ≡ (r ∷ []) ∷ grouped (rows rest) = ap grouped (rows_on r rest h) ∙ ap (λ (x : Bool). cond x (onto r (grouped (rows rest))) ((r ∷ []) ∷ grouped (rows rest))) on in
    let behind : grouped (rows rest) ≡ (s.r ∷ s.g) ∷ s.gs = ap grouped s.is ∙ s.are in
    whole file (r ++ 10 ∷ rest) ∙ ap (lines_at file 1) (split ∙ ap (λ gs. (r ∷ []) ∷ gs) behind)
    ∙ of_more file 1 r (s.r ∷ s.g) s.gs ∙ made_short file 1 (r ∷ []) ((s.r ∷ s.g) ∷ s.gs) tab t is e short
    ∙ ap (with_line (first_line file tab t)) (ap (lines_at file 2) (sym behind) ∙ one_down file 1 (grouped (rows rest)) ∙ ap moved (sym (whole file rest)))

pub line_law : (file r rest : List ℕ) → HasNo 10 r → EndsOtherwise 92 r → BeginsOtherwise 9 r → IsShort r → joined file (r ++ 10 ∷ rest) ≡ in_front (first_line file false r) (joined file rest)
line_law file r rest h e b short = let is = begins_plain r [] b in first_row file r rest false r h (stops_here r e) is (alone_text r [] is) short

tab_row : (r : List ℕ) → HasNo 10 r → HasNo 10 (9 ∷ r)
tab_row r h = All-from_recursion (λ b. b ≢ 10) (9 ∷ r) (λ e. omega arith, recursion_from_All _ r h)

tab_on : (r : List ℕ) → goes_on (9 ∷ r) ≡ goes_on r
tab_on [] = refl
tab_on (b ∷ bs) = refl

pub recipe_law : (file r rest : List ℕ) → HasNo 10 r → EndsOtherwise 92 r → IsShort r → joined file (9 ∷ r ++ 10 ∷ rest) ≡ in_front (first_line file true r) (joined file rest)
recipe_law file r rest h e short = first_row file (9 ∷ r) rest true r (tab_row r h) (tab_on r ∙ stops_here r e) refl (append-nil r) short

only_row : (file : List ℕ) (b : ℕ) (bs : List ℕ) (tab : Bool) (t : List ℕ) → HasNo 10 (b ∷ bs) → is_recipe ((b ∷ bs) ∷ []) ≡ tab → joined_text ((b ∷ bs) ∷ []) ≡ t → IsShort t →
    joined file (b ∷ bs) ≡ in_front (first_line file tab t) nothing
only_row file b bs tab t h is e short =
    let r = b ∷ bs in
    let one : grouped (rows r) ≡ (r ∷ []) ∷ [] = ap grouped (rows_one r h) ∙ by_cases (goes_on r) (λ x. cond x (onto r []) ((r ∷ []) ∷ []) ≡ (r ∷ []) ∷ []) (λ _. refl) (λ _. refl) in
    whole file r ∙ ap (lines_at file 1) one ∙ made_short file 1 (r ∷ []) [] tab t is e short

pub last_law : (file bs : List ℕ) (b : ℕ) → HasNo 10 (b ∷ bs) → BeginsOtherwise 9 (b ∷ bs) → IsShort (b ∷ bs) → joined file (b ∷ bs) ≡ in_front (first_line file false (b ∷ bs)) nothing
last_law file bs b h begins short = let is = begins_plain (b ∷ bs) [] begins in only_row file b bs false (b ∷ bs) h is (alone_text (b ∷ bs) [] is) short

pub last_recipe_law : (file r : List ℕ) → HasNo 10 r → IsShort r → joined file (9 ∷ r) ≡ in_front (first_line file true r) nothing
last_recipe_law file r h short = only_row file 9 r true r (tab_row r h) refl (append-nil r) short

pub none_law : (file : List ℕ) → joined file [] ≡ nothing
unfolding joined
none_law file = refl

pub long_law : (file r rest : List ℕ) → HasNo 10 r → EndsOtherwise 92 r → BeginsOtherwise 9 r → 1048576 < length r → joined file (r ++ 10 ∷ rest) ≡ record { lines = []; too_long = Some (first_place file) }
long_law file r rest h e b long =
    let s = group rest in
    let on = stops_here r e in
    let text = alone_text r [] (begins_plain r [] b) in
    let split : grouped (rows (r ++ 10 ∷ rest)) ≡ (r ∷ []) ∷ grouped (rows rest) = ap grouped (rows_on r rest h) ∙ ap (λ (x : Bool). cond x (onto r (grouped (rows rest))) ((r ∷ []) ∷ grouped (rows rest))) on in
    let behind : grouped (rows rest) ≡ (s.r ∷ s.g) ∷ s.gs = ap grouped s.is ∙ s.are in
    let over : is_too_long (r ∷ []) ≡ true = lt-ltb 1048576 (length (joined_text (r ∷ []))) (omega (arith, ap length text)) in
    whole file (r ++ 10 ∷ rest) ∙ ap (lines_at file 1) (split ∙ ap (λ gs. (r ∷ []) ∷ gs) behind) ∙ of_more file 1 r (s.r ∷ s.g) s.gs
    ∙ ap (λ (x : Bool). cond x (stops (place file 1)) (with_line (record { place = place file 1; tab = is_recipe (r ∷ []); text = joined_text (r ∷ []) }) (lines_at file 2 ((s.r ∷ s.g) ∷ s.gs)))) over

-- ---- rows that are joined

joined_groups : (r rest : List ℕ) (s : Grouped rest) → HasNo 10 r → grouped (rows (r ++ 92 ∷ 10 ∷ rest)) ≡ ((r ++ 92 ∷ []) ∷ s.r ∷ s.g) ∷ s.gs
joined_groups r rest s h =
    let end = r ++ 92 ∷ [] in
    let none : HasNo 10 end = All-push_ten r h in
    ap (λ w. grouped (rows w)) (sym (append_assoc r (92 ∷ []) (10 ∷ rest))) ∙ ap grouped (rows_on end rest none)
    ∙ ap (λ (x : Bool). cond x (onto end (grouped (rows rest))) ((end ∷ []) ∷ grouped (rows rest))) (goes r) ∙ ap (onto end) (ap grouped s.is ∙ s.are)
  where
    push : (r : List ℕ) → AllByRecursion (λ b. b ≢ 10) r → AllByRecursion (λ b. b ≢ 10) (r ++ 92 ∷ [])
    push [] h = (λ e. omega arith, tt)
    push (b ∷ bs) h = (h.0, push bs h.1)

    All-push_ten : (r : List ℕ) → HasNo 10 r → HasNo 10 (r ++ 92 ∷ [])
    All-push_ten r h = All-from_recursion _ (r ++ 92 ∷ []) (push r (recursion_from_All _ r h))

-- what the lines of the rest tell of its first group
record First (file : List ℕ) (g : List (List ℕ)) (gs : List (List (List ℕ))) (l : Line) (ls : List Line) : Type 0 where
  text : joined_text g ≡ l.text
  tab : is_recipe g ≡ l.tab
  more : (lines_at file (1 + length g) gs).lines ≡ ls
  long : (lines_at file 1 (g ∷ gs)).too_long ≡ (lines_at file (1 + length g) gs).too_long

made_first : (file : List ℕ) (g : List (List ℕ)) (gs : List (List (List ℕ))) (l : Line) (ls : List Line) → lines_at file 1 (g ∷ gs) ≡ Made file 1 g gs → (lines_at file 1 (g ∷ gs)).lines ≡ l ∷ ls → First file g gs l ls
made_first file g gs l ls made h =
    let here : (Made file 1 g gs).lines ≡ l ∷ ls = ap (λ (x : Lines). x.lines) (sym made) ∙ h in
    by_cases (is_too_long g) (λ t. is_too_long g ≡ t → First file g gs l ls)
    (λ is same. absurd (let none : (Made file 1 g gs).lines ≡ [] = ap (λ (x : Bool). (cond x (stops (place file 1)) (with_line (record { place = place file 1; tab = is_recipe g; text = joined_text g }) (lines_at file (1 + length g) gs))).lines) is in cc))
    (λ isnt same.
    let is : Made file 1 g gs ≡ with_line (record { place = place file 1; tab = is_recipe g; text = joined_text g }) (lines_at file (1 + length g) gs) = ap (λ (x : Bool). cond x (stops (place file 1)) (with_line (record { place = place file 1; tab = is_recipe g; text = joined_text g }) (lines_at file (1 + length g) gs))) isnt in
    let both = ap (λ (x : Lines). x.lines) (sym is) ∙ here in
    record {
      text = ap (λ (xs : List Line). text_in xs) both;
      tab = ap (λ (xs : List Line). tab_in xs) both;
      more = ap (λ (xs : List Line). drop 1 xs) both;
      long = ap (λ (x : Lines). x.too_long) (made ∙ is);
    }) refl
  where
    text_in : List Line → List ℕ
    text_in [] = []
    text_in (l ∷ ls) = l.text

    tab_in : List Line → Bool
    tab_in [] = false
    tab_in (l ∷ ls) = l.tab

first : (file : List ℕ) (g : List (List ℕ)) (gs : List (List (List ℕ))) (l : Line) (ls : List Line) → (lines_at file 1 (g ∷ gs)).lines ≡ l ∷ ls → First file g gs l ls
first file g gs l ls h = elim (last_or file g gs) as (λ _. First file g gs l ls) [
  | inl e ↦ absurd (let none : (lines_at file 1 (g ∷ gs)).lines ≡ [] = ap (λ x. (lines_at file 1 x).lines) e in cc)
  | inr made ↦ made_first file g gs l ls (made 1) h
]

abbrev lines_of : Lines → List Line
lines_of x = x.lines

-- a group that is one row longer in front
longer : (file : List ℕ) (a : List ℕ) (g : List (List ℕ)) (gs : List (List (List ℕ))) → lines_at file (1 + length (a ∷ g)) gs ≡ moved (lines_at file (1 + length g) gs)
longer file a g gs = let k : 1 + suc (length g) ≡ 1 + length g + 1 = omega arith in ap (λ m. lines_at file m gs) k ∙ one_down file (1 + length g) gs

put_first : (file : List ℕ) (g : List (List ℕ)) (gs : List (List (List ℕ))) (l x : Line) (ls : List Line) → First file g gs l ls → with_line x (moved (lines_at file (1 + length g) gs)) ≡ instead x ls (lines_at file 1 (g ∷ gs))
put_first file g gs l x ls f =
    ap (λ (m : List Line). (let r : Lines = record { lines = x ∷ map next_line m; too_long = option_map next_place (lines_at file (1 + length g) gs).too_long } in r)) f.more
    ∙ ap (λ (o : Option Place). (let r : Lines = record { lines = x ∷ map next_line ls; too_long = option_map next_place o } in r)) (sym f.long)

dropped_last : (r : List ℕ) → without_last (r ++ 92 ∷ []) ≡ r
dropped_last r = let k : length (r ++ 92 ∷ []) - 1 ≡ length r = omega (arith, length_push r 92) in ap (λ n. take n (r ++ 92 ∷ [])) k ∙ take_at r (92 ∷ []) (length r) refl

spliced_two : (r next : List ℕ) (g : List (List ℕ)) → spliced ((r ++ 92 ∷ []) ∷ next ∷ g) ≡ trimmed_end r ++ 32 ∷ trimmed_start (spliced (next ∷ g))
spliced_two r next g = ap (λ (w : List ℕ). trimmed_end w ++ 32 ∷ trimmed_start (spliced (next ∷ g))) (dropped_last r)

pub continued : (file r rest : List ℕ) (l : Line) (ls : List Line) → HasNo 10 r → BeginsOtherwise 9 r → (joined file rest).lines ≡ l ∷ ls → l.tab ≡ false → IsShort (trimmed_end r ++ 32 ∷ trimmed_start l.text) →
    joined file (r ++ 92 ∷ 10 ∷ rest) ≡ instead (first_line file false (trimmed_end r ++ 32 ∷ trimmed_start l.text)) ls (joined file rest)
continued file r rest l ls h b told tab short =
    let s = group rest in
    let g = s.r ∷ s.g in
    let end = r ++ 92 ∷ [] in
    let behind : joined file rest ≡ lines_at file 1 (g ∷ s.gs) = whole file rest ∙ ap (lines_at file 1) (ap grouped s.is ∙ s.are) in
    let f = first file g s.gs l ls (ap lines_of (sym behind) ∙ told) in
    let is = begins_plain end g (begins_before r b) in
    let inner : spliced g ≡ l.text = sym (alone_text s.r s.g (f.tab ∙ tab)) ∙ f.text in
    let text : joined_text (end ∷ g) ≡ trimmed_end r ++ 32 ∷ trimmed_start l.text = alone_text end g is ∙ spliced_two r s.r s.g ∙ ap (λ (w : List ℕ). trimmed_end r ++ 32 ∷ trimmed_start w) inner in
    whole file (r ++ 92 ∷ 10 ∷ rest) ∙ ap (lines_at file 1) (joined_groups r rest s h) ∙ of_two file 1 end s.r s.g s.gs ∙ made_short file 1 (end ∷ g) s.gs false (trimmed_end r ++ 32 ∷ trimmed_start l.text) is text short
    ∙ ap (with_line (first_line file false (trimmed_end r ++ 32 ∷ trimmed_start l.text))) (longer file end g s.gs)
    ∙ put_first file g s.gs l (first_line file false (trimmed_end r ++ 32 ∷ trimmed_start l.text)) ls f
    ∙ ap (instead (first_line file false (trimmed_end r ++ 32 ∷ trimmed_start l.text)) ls) (sym behind)

pub continued_end : (file r : List ℕ) → HasNo 10 r → BeginsOtherwise 9 r → IsShort (trimmed_end r ++ 32 ∷ []) → joined file (r ++ 92 ∷ 10 ∷ []) ≡ in_front (first_line file false (trimmed_end r ++ 32 ∷ [])) nothing
continued_end file r h b short =
    let end = r ++ 92 ∷ [] in
    let s : Grouped [] = record { r = []; rs = []; g = []; gs = []; is = refl; are = refl; begins = λ h. h } in
    let is = begins_plain end ([] ∷ []) (begins_before r b) in
    whole file (r ++ 92 ∷ 10 ∷ []) ∙ ap (lines_at file 1) (joined_groups r [] s h) ∙ of_two file 1 end [] [] [] ∙ made_short file 1 (end ∷ [] ∷ []) [] false (trimmed_end r ++ 32 ∷ []) is (alone_text end ([] ∷ []) is ∙ spliced_two r [] []) short

-- ---- a tab in front of a row that is joined

tab_rows : (rest r : List ℕ) (rs : List (List ℕ)) → rows rest ≡ r ∷ rs → rows (9 ∷ rest) ≡ (9 ∷ r) ∷ rs
tab_rows rest r rs e = ap (onto_first 9) e

onto_tab : (r : List ℕ) (x : List (List (List ℕ))) (g : List (List ℕ)) (gs : List (List (List ℕ))) → onto r x ≡ (r ∷ g) ∷ gs → onto (9 ∷ r) x ≡ ((9 ∷ r) ∷ g) ∷ gs
onto_tab r [] g gs e = let a : [] ≡ g = cc in let b : [] ≡ gs = cc in ap (λ x. ((9 ∷ r) ∷ x) ∷ []) a ∙ ap (λ x. ((9 ∷ r) ∷ g) ∷ x) b
onto_tab r (h ∷ hs) g gs e = let a : h ≡ g = cc in let b : hs ≡ gs = cc in ap (λ x. ((9 ∷ r) ∷ x) ∷ hs) a ∙ ap (λ x. ((9 ∷ r) ∷ g) ∷ x) b

tab_groups : (r : List ℕ) (rs : List (List ℕ)) (g : List (List ℕ)) (gs : List (List (List ℕ))) → grouped (r ∷ rs) ≡ (r ∷ g) ∷ gs → grouped ((9 ∷ r) ∷ rs) ≡ ((9 ∷ r) ∷ g) ∷ gs
tab_groups r rs g gs e = rw (tab_on r) (by_cases (goes_on r) (λ t. cond t (onto r (grouped rs)) ((r ∷ []) ∷ grouped rs) ≡ (r ∷ g) ∷ gs → cond t (onto (9 ∷ r) (grouped rs)) (((9 ∷ r) ∷ []) ∷ grouped rs) ≡ ((9 ∷ r) ∷ g) ∷ gs)
    (λ _ h. onto_tab r (grouped rs) g gs h)
    (λ _ h. let a : [] ≡ g = cc in let b : grouped rs ≡ gs = cc in ap (λ x. ((9 ∷ r) ∷ x) ∷ grouped rs) a ∙ ap (λ x. ((9 ∷ r) ∷ g) ∷ x) b) e)

abbrev with_tab : (rest : List ℕ) → Grouped rest → Grouped (9 ∷ rest)
with_tab rest s = record { r = 9 ∷ s.r; rs = s.rs; g = s.g; gs = s.gs; is = tab_rows rest s.r s.rs s.is; are = tab_groups s.r s.rs s.g s.gs s.are; begins = λ h. h }

tab_spliced : (r : List ℕ) (g : List (List ℕ)) → trimmed_start (spliced ((9 ∷ r) ∷ g)) ≡ trimmed_start (spliced (r ∷ g))
tab_spliced r [] = start_skip 9 r refl
tab_spliced [] (n ∷ ns) = refl
tab_spliced (b ∷ bs) (n ∷ ns) =
    let few : suc (suc (length bs)) - 1 ≡ suc (length bs) = omega arith in
    let less : suc (length bs) - 1 ≡ length bs = omega arith in
    let one : without_last (9 ∷ b ∷ bs) ≡ 9 ∷ without_last (b ∷ bs) = ap (λ n. take n (9 ∷ b ∷ bs)) few ∙ ap (λ n. 9 ∷ take n (b ∷ bs)) (sym less) in
    ap (λ (w : List ℕ). trimmed_start (trimmed_end w ++ 32 ∷ trimmed_start (spliced (n ∷ ns)))) one ∙ tab_gone (without_last (b ∷ bs)) (trimmed_start (spliced (n ∷ ns)))

pub continued_tab : (file r rest : List ℕ) → HasNo 10 r → BeginsOtherwise 9 r → joined file (r ++ 92 ∷ 10 ∷ 9 ∷ rest) ≡ joined file (r ++ 92 ∷ 10 ∷ rest)
continued_tab file r rest h b =
    let s = group rest in
    let end = r ++ 92 ∷ [] in
    let begins = begins_before r b in
    let text : (g : List (List ℕ)) → joined_text (end ∷ g) ≡ spliced (end ∷ g) = λ g. alone_text end g (begins_plain end g begins) in
    let same : joined_text (end ∷ (9 ∷ s.r) ∷ s.g) ≡ joined_text (end ∷ s.r ∷ s.g) =
    text ((9 ∷ s.r) ∷ s.g) ∙ spliced_two r (9 ∷ s.r) s.g ∙ ap (λ (w : List ℕ). trimmed_end r ++ 32 ∷ w) (tab_spliced s.r s.g) ∙ sym (spliced_two r s.r s.g) ∙ sym (text (s.r ∷ s.g)) in
    let tab : is_recipe (end ∷ (9 ∷ s.r) ∷ s.g) ≡ is_recipe (end ∷ s.r ∷ s.g) = begins_plain end ((9 ∷ s.r) ∷ s.g) begins ∙ sym (begins_plain end (s.r ∷ s.g) begins) in
    whole file (r ++ 92 ∷ 10 ∷ 9 ∷ rest) ∙ ap (lines_at file 1) (joined_groups r (9 ∷ rest) (with_tab rest s) h) ∙ of_two file 1 end (9 ∷ s.r) s.g s.gs
    ∙ ap (λ (w : List ℕ). cond (nat_lt 1048576 (length w)) (stops (place file 1)) (with_line (record { place = place file 1; tab = is_recipe (end ∷ (9 ∷ s.r) ∷ s.g); text = w }) (lines_at file (1 + suc (suc (length s.g))) s.gs))) same
    ∙ ap (λ (x : Bool). cond (is_too_long (end ∷ s.r ∷ s.g)) (stops (place file 1)) (with_line (record { place = place file 1; tab = x; text = joined_text (end ∷ s.r ∷ s.g) }) (lines_at file (1 + suc (suc (length s.g))) s.gs))) tab
    ∙ sym (of_two file 1 end s.r s.g s.gs) ∙ ap (lines_at file 1) (sym (joined_groups r rest s h)) ∙ sym (whole file (r ++ 92 ∷ 10 ∷ rest))

-- ---- recipes

-- the first row behind has its tab, or none
recipe_by : (file r rest next : List ℕ) (s : Grouped next) (q : List ℕ) (l : Line) (ls : List Line) → HasNo 10 r → untabbed s.r ≡ q → joined file (9 ∷ rest) ≡ lines_at file 1 (((9 ∷ q) ∷ s.g) ∷ s.gs) → (joined file (9 ∷ rest)).lines ≡ l ∷ ls → IsShort (r ++ 92 ∷ 10 ∷ l.text) →
    joined file (9 ∷ r ++ 92 ∷ 10 ∷ next) ≡ instead (first_line file true (r ++ 92 ∷ 10 ∷ l.text)) ls (joined file (9 ∷ rest))
recipe_by file r rest next s q l ls h without behind told short =
    let g = (9 ∷ q) ∷ s.g in
    let end = (9 ∷ r) ++ 92 ∷ [] in
    let f = first file g s.gs l ls (ap lines_of (sym behind) ∙ told) in
    let more = flat_map (λ w. 10 ∷ untabbed w) s.g in
    let text : joined_text (end ∷ s.r ∷ s.g) ≡ r ++ 92 ∷ 10 ∷ l.text =
    append_assoc r (92 ∷ []) ((10 ∷ untabbed s.r) ++ more) ∙ ap (λ (w : List ℕ). r ++ 92 ∷ 10 ∷ (w ++ more)) without ∙ ap (λ (w : List ℕ). r ++ 92 ∷ 10 ∷ w) f.text in
    let size : lines_at file (1 + length (end ∷ s.r ∷ s.g)) s.gs ≡ moved (lines_at file (1 + length g) s.gs) = longer file end g s.gs in
    whole file (9 ∷ r ++ 92 ∷ 10 ∷ next) ∙ ap (lines_at file 1) (joined_groups (9 ∷ r) next s (tab_row r h)) ∙ of_two file 1 end s.r s.g s.gs ∙ made_short file 1 (end ∷ s.r ∷ s.g) s.gs true (r ++ 92 ∷ 10 ∷ l.text) refl text short
    ∙ ap (with_line (first_line file true (r ++ 92 ∷ 10 ∷ l.text))) size
    ∙ put_first file g s.gs l (first_line file true (r ++ 92 ∷ 10 ∷ l.text)) ls f
    ∙ ap (instead (first_line file true (r ++ 92 ∷ 10 ∷ l.text)) ls) (sym behind)

no_tab : (r : List ℕ) → BeginsOtherwise 9 r → untabbed r ≡ r
no_tab [] h = refl
no_tab (b ∷ bs) h = rw (ne_eqb b 9 h) refl

grouped_tab : (file rest : List ℕ) (s : Grouped rest) → joined file (9 ∷ rest) ≡ lines_at file 1 (((9 ∷ s.r) ∷ s.g) ∷ s.gs)
grouped_tab file rest s = let t = with_tab rest s in whole file (9 ∷ rest) ∙ ap (lines_at file 1) (ap grouped t.is ∙ t.are)

pub recipe_plain : (file r rest : List ℕ) (l : Line) (ls : List Line) → HasNo 10 r → BeginsOtherwise 9 rest → (joined file (9 ∷ rest)).lines ≡ l ∷ ls → IsShort (r ++ 92 ∷ 10 ∷ l.text) →
    joined file (9 ∷ r ++ 92 ∷ 10 ∷ rest) ≡ instead (first_line file true (r ++ 92 ∷ 10 ∷ l.text)) ls (joined file (9 ∷ rest))
recipe_plain file r rest l ls h b told short = let s = group rest in recipe_by file r rest rest s s.r l ls h (no_tab s.r (s.begins b)) (grouped_tab file rest s) told short

pub recipe_tab : (file r rest : List ℕ) (l : Line) (ls : List Line) → HasNo 10 r → (joined file (9 ∷ rest)).lines ≡ l ∷ ls → IsShort (r ++ 92 ∷ 10 ∷ l.text) →
    joined file (9 ∷ r ++ 92 ∷ 10 ∷ 9 ∷ rest) ≡ instead (first_line file true (r ++ 92 ∷ 10 ∷ l.text)) ls (joined file (9 ∷ rest))
recipe_tab file r rest l ls h told short = let s = group rest in recipe_by file r rest (9 ∷ rest) (with_tab rest s) s.r l ls h refl (grouped_tab file rest s) told short
