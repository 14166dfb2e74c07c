-- Joining loses nothing but blanks, newlines and backslashes.
use Rattle.std.proofs.Common.{◌≡◌, inl, inr, ℕ, ◌+◌, ◌&&◌, ◌||◌, not, true, false, cond, eqb, List, [], ◌∷◌, ◌++◌, length, None, refl, sym, ap, ◌∙◌, append-nil, append_assoc}
use Rattle.std.specs.List.{flat_map, filter, onto_first}
use Rattle.std.proofs.lemmas.Bool.{eqb-true}
use Rattle.std.proofs.lemmas.List.Elements.{filter-append}
use Rattle.em_base.specs.Blanks.{is_blank, trimmed_start, trimmed_end}
use Rattle.em_base.proofs.Lemmas.{by_cases}
use Rattle.em_lines.specs.declared.line.Line.{Line}
use Rattle.em_lines.specs.Joining.{rows, goes_on, grouped, is_recipe, untabbed, recipe_text, without_last, spliced, joined_text}
use Rattle.em_lines.specs.First.{joined_to, left_by}
use Rattle.em_lines.specs.Lines.{place, is_too_long, stops, with_line, lines_from, joined}
use Rattle.em_lines.specs.Kept.{is_kept}
use Rattle.em_lines.proofs.Trimmed.{blank, start_skip, start_stop, end_blank, end_on}
use Rattle.em_lines.proofs.Rows.{grouped-cons, some_row, last_is}
use Rattle.em_lines.proofs.Numbered.{ends_or_stands, lines-cons}

abbrev kept : List ℕ → List ℕ
kept bs = filter is_kept bs

-- the bytes of rows
abbrev bytes_of : List (List ℕ) → List ℕ
bytes_of rs = flat_map (λ r. r) rs

dropped : (b : ℕ) (bs : List ℕ) → is_kept b ≡ false → kept (b ∷ bs) ≡ kept bs
dropped b bs isnt = ap (λ t. cond t (b ∷ kept bs) (kept bs)) isnt

in_front : (b : ℕ) (xs ys : List ℕ) → kept xs ≡ kept ys → kept (b ∷ xs) ≡ kept (b ∷ ys)
in_front b xs ys same = ap (λ l. cond (is_kept b) (b ∷ l) l) same

both_kept : (a b c d : List ℕ) → kept a ≡ kept b → kept c ≡ kept d → kept (a ++ c) ≡ kept (b ++ d)
both_kept a b c d first second = filter-append is_kept a c ∙ ap (λ l. l ++ kept c) first ∙ ap (λ l. kept b ++ l) second ∙ sym (filter-append is_kept b d)

blank_drops : (b : ℕ) → is_blank b ≡ true → is_kept b ≡ false
blank_drops b is = ap (λ t. not (t || eqb b 10 || eqb b 92)) is

start_kept : (bs : List ℕ) → kept (trimmed_start bs) ≡ kept bs
start_kept [] = refl
start_kept (b ∷ bs) = by_cases (is_blank b) (λ t. kept (trimmed_start (b ∷ bs)) ≡ kept (b ∷ bs))
    (λ is. ap kept (start_skip b bs is) ∙ start_kept bs ∙ sym (dropped b bs (blank_drops b is)))
    (λ isnt. ap kept (start_stop b bs isnt))

blank_none : (bs : List ℕ) → blank bs ≡ true → kept bs ≡ []
blank_none [] all = refl
blank_none (b ∷ bs) all = by_cases (is_blank b) (λ t. is_blank b ≡ t → (t && blank bs) ≡ true → kept (b ∷ bs) ≡ [])
    (λ _ is more. dropped b bs (blank_drops b is) ∙ blank_none bs more)
    (λ _ _ more. absurd cc) refl all

end_kept : (bs : List ℕ) → kept (trimmed_end bs) ≡ kept bs
end_kept [] = refl
end_kept (b ∷ bs) = by_cases (blank (b ∷ bs)) (λ t. kept (trimmed_end (b ∷ bs)) ≡ kept (b ∷ bs))
    (λ all. ap kept (end_blank (b ∷ bs) all) ∙ sym (blank_none (b ∷ bs) all))
    (λ some. ap kept (end_on b bs some) ∙ in_front b (trimmed_end bs) bs (end_kept bs))

without_kept : (row : List ℕ) → goes_on row ≡ true → kept (without_last row) ≡ kept row
without_kept row on = sym (append-nil (kept (without_last row))) ∙ sym (filter-append is_kept (without_last row) (92 ∷ [])) ∙ ap kept (sym (last_is row on))

untabbed_kept : (row : List ℕ) → kept (untabbed row) ≡ kept row
untabbed_kept [] = refl
untabbed_kept (b ∷ bs) = by_cases (eqb b 9) (λ t. kept (cond t bs (b ∷ bs)) ≡ kept (b ∷ bs))
    (λ is. sym (dropped b bs (ap is_kept (eqb-true b 9 is))))
    (λ _. refl)

recipe_kept : (rs : List (List ℕ)) → kept (flat_map (λ r. 10 ∷ untabbed r) rs) ≡ kept (bytes_of rs)
recipe_kept [] = refl
recipe_kept (r ∷ rs) = both_kept (untabbed r) r (flat_map (λ r. 10 ∷ untabbed r) rs) (bytes_of rs) (untabbed_kept r) (recipe_kept rs)

spliced_kept : (row : List ℕ) (rs : List (List ℕ)) → kept (spliced (row ∷ joined_to row rs)) ≡ kept (bytes_of (row ∷ joined_to row rs))
spliced_kept row [] = ap kept (sym (append-nil row))
spliced_kept row (next ∷ rs) = by_cases (goes_on row) (λ t. goes_on row ≡ t → kept (spliced (row ∷ cond t (next ∷ joined_to next rs) [])) ≡ kept (bytes_of (row ∷ cond t (next ∷ joined_to next rs) [])))
    (λ _ on. both_kept (trimmed_end (without_last row)) row (32 ∷ trimmed_start (spliced (next ∷ joined_to next rs))) (bytes_of (next ∷ joined_to next rs))
    (end_kept (without_last row) ∙ without_kept row on)
    (start_kept (spliced (next ∷ joined_to next rs)) ∙ spliced_kept next rs))
    (λ _ _. ap kept (sym (append-nil row))) refl

group_kept : (row : List ℕ) (rs : List (List ℕ)) → kept (joined_text (row ∷ joined_to row rs)) ≡ kept (bytes_of (row ∷ joined_to row rs))
group_kept row rs = by_cases (is_recipe (row ∷ joined_to row rs)) (λ t. kept (cond t (recipe_text (row ∷ joined_to row rs)) (spliced (row ∷ joined_to row rs))) ≡ kept (bytes_of (row ∷ joined_to row rs)))
    (λ _. both_kept (untabbed row) row (flat_map (λ r. 10 ∷ untabbed r) (joined_to row rs)) (bytes_of (joined_to row rs)) (untabbed_kept row) (recipe_kept (joined_to row rs)))
    (λ _. spliced_kept row rs)

all_rows : (row : List ℕ) (rs : List (List ℕ)) → bytes_of (row ∷ rs) ≡ bytes_of (row ∷ joined_to row rs) ++ bytes_of (left_by row rs)
all_rows row [] = sym (append-nil (row ++ []))
all_rows row (next ∷ rs) = by_cases (goes_on row) (λ t. bytes_of (row ∷ next ∷ rs) ≡ bytes_of (row ∷ cond t (next ∷ joined_to next rs) []) ++ bytes_of (cond t (left_by next rs) (next ∷ rs)))
    (λ _. ap (λ l. row ++ l) (all_rows next rs) ∙ sym (append_assoc row (bytes_of (next ∷ joined_to next rs)) (bytes_of (left_by next rs))))
    (λ _. ap (λ l. l ++ bytes_of (next ∷ rs)) (sym (append-nil row)))

first_kept : (row : List ℕ) (rs : List (List ℕ)) → kept (flat_map joined_text (grouped (left_by row rs))) ≡ kept (bytes_of (left_by row rs)) → kept (flat_map joined_text (grouped (row ∷ rs))) ≡ kept (bytes_of (row ∷ rs))
first_kept row rs more = ap (λ gs. kept (flat_map joined_text gs)) (grouped-cons row rs)
    ∙ both_kept (joined_text (row ∷ joined_to row rs)) (bytes_of (row ∷ joined_to row rs)) (flat_map joined_text (grouped (left_by row rs))) (bytes_of (left_by row rs)) (group_kept row rs) more
    ∙ ap kept (sym (all_rows row rs))

left_kept : (row : List ℕ) (rs : List (List ℕ)) → kept (flat_map joined_text (grouped (left_by row rs))) ≡ kept (bytes_of (left_by row rs))
left_kept row [] = refl
left_kept row (next ∷ rs) = by_cases (goes_on row) (λ t. kept (flat_map joined_text (grouped (cond t (left_by next rs) (next ∷ rs)))) ≡ kept (bytes_of (cond t (left_by next rs) (next ∷ rs))))
    (λ _. left_kept next rs)
    (λ _. first_kept next rs (left_kept next rs))

rows_kept : (bytes : List ℕ) → kept (bytes_of (rows bytes)) ≡ kept bytes
rows_kept [] = refl
rows_kept (b ∷ bs) =
    let s = some_row bs in
    by_cases (eqb b 10) (λ t. kept (bytes_of (cond t ([] ∷ rows bs) (onto_first b (rows bs)))) ≡ kept (b ∷ bs))
    (λ is. rows_kept bs ∙ sym (dropped b bs (ap is_kept (eqb-true b 10 is))))
    (λ _. ap (λ rs. kept (bytes_of (onto_first b rs))) s.2 ∙ in_front b (bytes_of (s.0 ∷ s.1)) bs (ap (λ rs. kept (bytes_of rs)) (sym s.2) ∙ rows_kept bs))

lines_kept : (file : List ℕ) (n : ℕ) (gs : List (List (List ℕ))) → (lines_from joined_text file n gs).too_long ≡ None → kept (flat_map (λ l. l.text) (lines_from joined_text file n gs).lines) ≡ kept (flat_map joined_text gs)
lines_kept file n [] none = refl
lines_kept file n (g ∷ gs) none = elim (ends_or_stands g gs) [
  | inl w ↦ rw (w.0, w.1) refl
  | inr s ↦
      let more = lines_from joined_text file (n + length g) gs in
      let line : Line = record { place = place file n; tab = is_recipe g; text = joined_text g } in
      let all = lines-cons joined_text file n g gs s in
      let ended : (cond (is_too_long g) (stops (place file n)) (with_line line more)).too_long ≡ None = ap (λ ls. ls.too_long) (sym all) ∙ none in
      ap (λ ls. kept (flat_map (λ l. l.text) ls.lines)) all
      ∙ by_cases (is_too_long g) (λ t. (cond t (stops (place file n)) (with_line line more)).too_long ≡ None → kept (flat_map (λ l. l.text) (cond t (stops (place file n)) (with_line line more)).lines) ≡ kept (joined_text g ++ flat_map joined_text gs))
      (λ _ bad. absurd cc)
      (λ _ fine. both_kept (joined_text g) (joined_text g) (flat_map (λ l. l.text) more.lines) (flat_map joined_text gs) refl (lines_kept file (n + length g) gs fine)) ended
]

pub joined_kept : (file bytes : List ℕ) → (joined file bytes).too_long ≡ None → kept (flat_map (λ l. l.text) (joined file bytes).lines) ≡ kept bytes
unfolding joined
joined_kept file bytes none =
    let s = some_row bytes in
    lines_kept file 1 (grouped (rows bytes)) none ∙ ap (λ rs. kept (flat_map joined_text (grouped rs))) s.2 ∙ first_kept s.0 s.1 (left_kept s.0 s.1) ∙ ap (λ rs. kept (bytes_of rs)) (sym s.2) ∙ rows_kept bytes
