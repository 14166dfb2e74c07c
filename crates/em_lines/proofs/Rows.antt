-- The rows of a file and the logical lines that they make.
use Rattle.std.proofs.Common.{◌≡◌, ℕ, suc, ◌+◌, ◌-◌, ◌<◌, ◌≤◌, ◌⊎◌, inl, inr, not, Bool, true, false, cond, eqb, List, [], ◌∷◌, ◌++◌, length, take, drop, Option, Some, None, refl, sym, ap, ◌∙◌, append_assoc, append-nil, length-append, arith}
use Rattle.std.specs.Prelude.{slice_get, option_copied, MatchOption}
use Rattle.std.specs.Borrow.{Bor}
use Rattle.std.specs.List.{flat_map, onto_first, position_or_len, slice_range}
use Rattle.std.proofs.Math.Seq.{take-append_seam}
use Rattle.std.proofs.lemmas.Bool.{eqb-true}
use Rattle.std.proofs.lemmas.List.{take_all, take_rest}
use Rattle.em_base.specs.Blanks.{is_blank, trimmed_start, trimmed_end}
use Rattle.em_base.proofs.Lemmas.{by_cases}
use Rattle.em_lines.specs.Joining.{rows, goes_on, onto, grouped, untabbed, without_last, spliced, joined_text, is_recipe}
use Rattle.em_lines.specs.First.{rows_in, joined_to, left_by, first_group, behind_first}
use Rattle.em_lines.proofs.Trimmed.{start_skip, start_stop, start_mark, one_space}

-- ---- a byte of a text, and the first row

abbrev pub is_byte : ℕ → Option ℕ → Bool
is_byte b None = false
is_byte b (Some x) = eqb x b

last_at : (b : ℕ) (bs : List ℕ) → goes_on (b ∷ bs) ≡ is_byte 92 (slice_get (b ∷ bs) (length bs))
last_at b [] = refl
last_at b (c ∷ bs) = last_at c bs

pub last_byte : (text : List ℕ) → goes_on text ≡ is_byte 92 (slice_get text (length text - 1))
last_byte [] = refl
last_byte (b ∷ bs) = rw (let e : suc (length bs) - 1 ≡ length bs = omega arith in e) (last_at b bs)

abbrev first_end : List ℕ → ℕ
first_end bytes = position_or_len (λ b. eqb b 10) bytes

last_row : (bytes : List ℕ) → length bytes ≤ first_end bytes → rows bytes ≡ bytes ∷ []
last_row [] le = refl
last_row (b ∷ bs) le = by_cases (eqb b 10) (λ t. suc (length bs) ≤ cond (not t) (1 + first_end bs) 0 → cond t ([] ∷ rows bs) (onto_first b (rows bs)) ≡ (b ∷ bs) ∷ [])
    (λ _ h. absurd (omega arith))
    (λ _ h. rw (last_row bs (omega arith)) refl) le

first_of_rows : (bytes : List ℕ) → first_end bytes < length bytes → rows bytes ≡ take (first_end bytes) bytes ∷ rows (drop (suc (first_end bytes)) bytes)
first_of_rows [] lt = absurd (omega arith)
first_of_rows (b ∷ bs) lt = by_cases (eqb b 10) (λ t. cond (not t) (1 + first_end bs) 0 < suc (length bs) → cond t ([] ∷ rows bs) (onto_first b (rows bs)) ≡ take (cond (not t) (1 + first_end bs) 0) (b ∷ bs) ∷ rows (drop (suc (cond (not t) (1 + first_end bs) 0)) (b ∷ bs)))
    (λ _ h. refl)
    (λ _ h. let one : 1 + first_end bs ≡ suc (first_end bs) = omega arith in rw (one, first_of_rows bs (omega arith)) refl) lt

-- the rest behind the first newline, as `get` tells of it
pub first_row_is : (bytes : List ℕ) (end : ℕ) (rest : Option (Bor (List ℕ))) → end ≤ length bytes → end ≡ first_end bytes
    → MatchOption rest ((length bytes < end + 1) ⊎ (length bytes < length bytes)) (λ x. (end + 1 ≤ length bytes) × (length bytes ≤ length bytes) × (x.now ≡ slice_range bytes (end + 1) (length bytes)) × (length x.now + (end + 1) ≡ length bytes))
    → rows bytes ≡ take end bytes ∷ rows_in (option_copied rest)
first_row_is bytes end None within is h =
    let over : length bytes ≤ end = elim h [ inl w ↦ omega arith | inr w ↦ omega arith ] in
    rw (take_all end bytes over) (last_row bytes (omega arith))
first_row_is bytes end (Some x) within is (low, _, now, _) =
    let low' : end + 1 ≤ length bytes = low in
    let rest : x.now ≡ drop (suc (first_end bytes)) bytes = now ∙ take_rest bytes (end + 1) ∙ ap (λ n. drop n bytes) (let e : end + 1 ≡ suc (first_end bytes) = omega arith in e) in
    rw (rest, is) (first_of_rows bytes (omega arith))

-- ---- logical lines

-- a text, and the lines that are joined with it
abbrev pub continued : Bool → List ℕ → List (List ℕ) → List ℕ
continued tab text rows = cond tab (text ++ flat_map (λ r. 10 ∷ untabbed r) rows) (spliced (text ∷ rows))

pub grouped-cons : (row : List ℕ) (rows : List (List ℕ)) → grouped (row ∷ rows) ≡ first_group (row ∷ rows) ∷ grouped (behind_first (row ∷ rows))
grouped-cons row [] = by_cases (goes_on row) (λ b. cond b (onto row []) ((row ∷ []) ∷ []) ≡ (row ∷ []) ∷ []) (λ _. refl) (λ _. refl)
grouped-cons row (next ∷ rows) = by_cases (goes_on row) (λ b. cond b (onto row (grouped (next ∷ rows))) ((row ∷ []) ∷ grouped (next ∷ rows)) ≡ (row ∷ cond b (next ∷ joined_to next rows) []) ∷ grouped (cond b (left_by next rows) (next ∷ rows)))
    (λ _. ap (onto row) (grouped-cons next rows))
    (λ _. refl)

same_joined : (a b : List ℕ) (rows : List (List ℕ)) → goes_on a ≡ goes_on b → joined_to a rows ≡ joined_to b rows
same_joined a b [] e = refl
same_joined a b (next ∷ rows) e = ap (λ g. cond g (next ∷ joined_to next rows) []) e

same_left : (a b : List ℕ) (rows : List (List ℕ)) → goes_on a ≡ goes_on b → left_by a rows ≡ left_by b rows
same_left a b [] e = refl
same_left a b (next ∷ rows) e = ap (λ g. cond g (left_by next rows) (next ∷ rows)) e

-- a text with the next line
abbrev pub put : Bool → List ℕ → List ℕ → List ℕ
put tab text next = cond tab (text ++ 10 ∷ untabbed next) (trimmed_end (without_last text) ++ 32 ∷ trimmed_start next)

on-append : (x : List ℕ) (c : ℕ) (y : List ℕ) → goes_on (x ++ c ∷ y) ≡ goes_on (c ∷ y)
on-append [] c y = refl
on-append (b ∷ []) c y = refl
on-append (b ∷ d ∷ x) c y = on-append (d ∷ x) c y

on_trimmed : (row : List ℕ) → goes_on (32 ∷ trimmed_start row) ≡ goes_on row
on_trimmed [] = refl
on_trimmed (b ∷ bs) = by_cases (is_blank b) (λ t. goes_on (32 ∷ trimmed_start (b ∷ bs)) ≡ goes_on (b ∷ bs))
    (λ is. ap (λ l. goes_on (32 ∷ l)) (start_skip b bs is) ∙ on_trimmed bs ∙ behind bs is)
    (λ isnt. ap (λ l. goes_on (32 ∷ l)) (start_stop b bs isnt))
  where
    behind : (bs : List ℕ) → is_blank b ≡ true → goes_on bs ≡ goes_on (b ∷ bs)
    behind [] is = by_cases (eqb b 92) (λ t. false ≡ t) (λ e. absurd (let k : is_blank 92 ≡ true = ap is_blank (sym (eqb-true b 92 e)) ∙ is in cc)) (λ _. refl)
    behind (c ∷ bs) is = refl

on_untabbed : (b : ℕ) (row : List ℕ) → eqb b 92 ≡ false → goes_on (b ∷ untabbed row) ≡ goes_on row
on_untabbed b [] other = other
on_untabbed b (x ∷ row) other = by_cases (eqb x 9) (λ t. goes_on (b ∷ cond t row (x ∷ row)) ≡ goes_on (x ∷ row))
    (λ is. tab row (eqb-true x 9 is))
    (λ _. refl)
  where
    tab : (row : List ℕ) → x ≡ 9 → goes_on (b ∷ row) ≡ goes_on (x ∷ row)
    tab [] is = other ∙ sym (ap (λ n. eqb n 92) is)
    tab (c ∷ row) is = refl

pub on_first : (row : List ℕ) → goes_on (untabbed row) ≡ goes_on row
on_first [] = refl
on_first (x ∷ row) = by_cases (eqb x 9) (λ t. goes_on (cond t row (x ∷ row)) ≡ goes_on (x ∷ row))
    (λ is. tab row (eqb-true x 9 is))
    (λ _. refl)
  where
    tab : (row : List ℕ) → x ≡ 9 → goes_on row ≡ goes_on (x ∷ row)
    tab [] is = sym (ap (λ n. eqb n 92) is)
    tab (c ∷ row) is = refl

pub on_put : (tab : Bool) (text next : List ℕ) → goes_on (put tab text next) ≡ goes_on next
on_put true text next = on-append text 10 (untabbed next) ∙ on_untabbed 10 next refl
on_put false text next = on-append (trimmed_end (without_last text)) 32 (trimmed_start next) ∙ on_trimmed next

-- the backslash at the end
pub last_is : (x : List ℕ) → goes_on x ≡ true → x ≡ without_last x ++ 92 ∷ []
last_is [] on = absurd cc
last_is (b ∷ []) on = ap (λ n. n ∷ []) (eqb-true b 92 on)
last_is (b ∷ c ∷ bs) on = ap (λ l. b ∷ l) (last_is (c ∷ bs) on) ∙ ap (λ n. take n (b ∷ c ∷ bs) ++ 92 ∷ []) (let e : suc (suc (length bs) - 1) ≡ suc (suc (length bs)) - 1 = omega arith in e)

pub without_mark : (x : List ℕ) (c : ℕ) → without_last (x ++ c ∷ []) ≡ x
without_mark x c =
    let n : length (x ++ c ∷ []) - 1 ≡ length x = omega (arith, length-append x (c ∷ [])) in
    ap (λ n. take n (x ++ c ∷ [])) n ∙ take-append_seam x (c ∷ [])

-- joining two lines first is joining them all
joined_two : (a next : List ℕ) (rows : List (List ℕ)) → spliced (a ∷ next ∷ joined_to next rows) ≡ spliced (put false a next ∷ joined_to next rows)
joined_two a next [] = refl
joined_two a next (r ∷ rows) = by_cases (goes_on next) (λ b. spliced (a ∷ next ∷ cond b (r ∷ joined_to r rows) []) ≡ spliced (put false a next ∷ cond b (r ∷ joined_to r rows) []))
    (λ on.
    let f = without_last next in
    let whole : put false a next ≡ (trimmed_end (without_last a) ++ 32 ∷ trimmed_start f) ++ 92 ∷ [] =
    ap (λ l. trimmed_end (without_last a) ++ 32 ∷ l) (ap trimmed_start (last_is next on) ∙ start_mark f 92 refl) ∙ sym (append_assoc (trimmed_end (without_last a)) (32 ∷ trimmed_start f) (92 ∷ [])) in
    let front : without_last (put false a next) ≡ trimmed_end (without_last a) ++ 32 ∷ trimmed_start f = ap without_last whole ∙ without_mark (trimmed_end (without_last a) ++ 32 ∷ trimmed_start f) 92 in
    one_space (without_last a) f (spliced (r ∷ joined_to r rows)) ∙ ap (λ l. trimmed_end l ++ 32 ∷ trimmed_start (spliced (r ∷ joined_to r rows))) (sym front))
    (λ _. refl)

pub record Step (tab : Bool) (text next : List ℕ) (rows : List (List ℕ)) : Type 0 where
  pub same_text : continued tab text (joined_to text (next ∷ rows)) ≡ continued tab (put tab text next) (joined_to (put tab text next) rows)
  pub same_rest : left_by text (next ∷ rows) ≡ left_by (put tab text next) rows
  pub one_more : length (joined_to text (next ∷ rows)) ≡ 1 + length (joined_to (put tab text next) rows)

pub step : (tab : Bool) (text next : List ℕ) (rows : List (List ℕ)) → goes_on text ≡ true → Step tab text next rows
step tab text next rows on =
    let one : joined_to text (next ∷ rows) ≡ next ∷ joined_to next rows = ap (λ g. cond g (next ∷ joined_to next rows) []) on in
    let more : joined_to (put tab text next) rows ≡ joined_to next rows = same_joined (put tab text next) next rows (on_put tab text next) in
    record {
      same_text = ap (continued tab text) one ∙ texts tab ∙ ap (continued tab (put tab text next)) (sym more);
      same_rest = ap (λ g. cond g (left_by next rows) (next ∷ rows)) on ∙ sym (same_left (put tab text next) next rows (on_put tab text next));
      one_more = ap length one ∙ ap suc (ap length (sym more)) ∙ (let e : suc (length (joined_to (put tab text next) rows)) ≡ 1 + length (joined_to (put tab text next) rows) = omega arith in e);
    }
  where
    texts : (tab : Bool) → continued tab text (next ∷ joined_to next rows) ≡ continued tab (put tab text next) (joined_to next rows)
    texts true = sym (append_assoc text (10 ∷ untabbed next) (flat_map (λ r. 10 ∷ untabbed r) (joined_to next rows)))
    texts false = joined_two text next rows

pub record Done (tab : Bool) (text : List ℕ) (rows : List (List ℕ)) : Type 0 where
  pub whole : continued tab text (joined_to text rows) ≡ text
  pub left : left_by text rows ≡ rows
  pub none : length (joined_to text rows) ≡ 0

pub ended : (tab : Bool) (text : List ℕ) → Done tab text []
ended true text = record { whole = append-nil text; left = refl; none = refl }
ended false text = record { whole = refl; left = refl; none = refl }

pub done : (tab : Bool) (text : List ℕ) (rows : List (List ℕ)) → goes_on text ≡ false → Done tab text rows
done tab text [] off = ended tab text
done tab text (next ∷ rows) off =
    let one : joined_to text (next ∷ rows) ≡ [] = ap (λ g. cond g (next ∷ joined_to next rows) []) off in
    record {
      whole = ap (continued tab text) one ∙ (ended tab text).whole;
      left = ap (λ g. cond g (left_by next rows) (next ∷ rows)) off;
      none = ap length one;
    }

pub first_text : (row : List ℕ) (rows : List (List ℕ)) → joined_text (row ∷ rows) ≡ continued (is_recipe (row ∷ rows)) (untabbed row) rows
first_text [] rows = refl
first_text (b ∷ bs) rows = by_cases (eqb b 9) (λ t. cond t (untabbed (b ∷ bs) ++ flat_map (λ r. 10 ∷ untabbed r) rows) (spliced ((b ∷ bs) ∷ rows)) ≡ cond t (cond t bs (b ∷ bs) ++ flat_map (λ r. 10 ∷ untabbed r) rows) (spliced (cond t bs (b ∷ bs) ∷ rows)))
    (λ is. rw is refl)
    (λ _. refl)

pub record First (bytes text : List ℕ) (tab : Bool) (more : List (List ℕ)) : Type 0 where
  pub whole : joined_text (first_group (rows bytes)) ≡ continued tab text (joined_to text more)
  pub rest : behind_first (rows bytes) ≡ left_by text more
  pub count : length (first_group (rows bytes)) ≡ 1 + length (joined_to text more)

pub first : (bytes row text : List ℕ) (tab : Bool) (more : List (List ℕ)) → rows bytes ≡ row ∷ more → text ≡ untabbed row → tab ≡ is_recipe (row ∷ joined_to row more) → First bytes text tab more
first bytes row text tab more split held told =
    let same : goes_on row ≡ goes_on text = sym (ap goes_on held ∙ on_first row) in
    record {
      whole = ap (λ rs. joined_text (first_group rs)) split ∙ first_text row (joined_to row more) ∙ ap (λ t. continued t (untabbed row) (joined_to row more)) (sym told) ∙ ap (λ x. continued tab x (joined_to row more)) (sym held) ∙ ap (continued tab text) (same_joined row text more same);
      rest = ap behind_first split ∙ same_left row text more same;
      count = ap (λ rs. length (first_group rs)) split ∙ ap (λ g. suc (length g)) (same_joined row text more same) ∙ (let e : suc (length (joined_to text more)) ≡ 1 + length (joined_to text more) = omega arith in e);
    }

-- there is a row
pub some_row : (bytes : List ℕ) → (row : List ℕ) × (more : List (List ℕ)) × (rows bytes ≡ row ∷ more)
some_row [] = ([], [], refl)
some_row (b ∷ bs) = by_cases (eqb b 10) (λ t. (row : List ℕ) × (more : List (List ℕ)) × (cond t ([] ∷ rows bs) (onto_first b (rows bs)) ≡ row ∷ more))
    (λ _. ([], rows bs, refl))
    (λ _. let s = some_row bs in (b ∷ s.0, s.1, ap (onto_first b) s.2))
