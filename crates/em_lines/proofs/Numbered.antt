-- The logical lines of a file, one by one.
use Rattle.std.proofs.Common.{◌≡◌, ℕ, zero, suc, ◌+◌, ◌<◌, ◌≤◌, ◌⊎◌, inl, inr, min, Bool, true, false, cond, eqb, List, [], ◌∷◌, ◌++◌, map, length, Some, None, refl, sym, ap, subst, ◌∙◌, append_assoc, append-nil, arith}
use Rattle.std.proofs.lemmas.Bool.{eqb-true, lt-ltb, le-ltb}
use Rattle.std.specs.List.{onto_first}
use Rattle.em_base.proofs.Lemmas.{by_cases}
use Rattle.em_base.specs.declared.place.Place.{Place}
use Rattle.em_lines.specs.declared.line.Line.{Line}
use Rattle.em_lines.specs.declared.line.Lines.{Lines}
use Rattle.em_lines.specs.Joining.{rows, goes_on, grouped, is_recipe, joined_text, recipe_text, spliced}
use Rattle.em_lines.specs.Lines.{place, is_too_long, no_more, stops, with_line, lines_from, logical_text, joined, logical}
use Rattle.em_lines.specs.Comments.{bare}
use Rattle.em_lines.specs.First.{left_by, first_group, behind_first}
use Rattle.em_lines.specs.Kept.{bared}
use Rattle.em_lines.proofs.Rows.{grouped-cons, some_row}

-- lines in front of others
abbrev pub after : List Line → Lines → Lines
after ls more = record { lines = ls ++ more.lines; too_long = more.too_long }

pub after_line : (ls : List Line) (l : Line) (more : Lines) → after ls (with_line l more) ≡ after (ls ++ l ∷ []) more
after_line ls l more = ap (λ x. record { lines = x; too_long = more.too_long }) (sym (append_assoc ls (l ∷ []) more.lines))

pub after_stop : (ls : List Line) (p : Place) → after ls (stops p) ≡ record { lines = ls; too_long = Some p }
after_stop ls p = ap (λ x. record { lines = x; too_long = Some p }) (append-nil ls)

pub after_all : (ls : List Line) → after ls no_more ≡ record { lines = ls; too_long = None }
after_all ls = ap (λ x. record { lines = x; too_long = None }) (append-nil ls)

-- where there are lines: something stands behind the last newline
abbrev pub Stands : List (List ℕ) → List (List (List ℕ)) → Type 0
Stands ([] ∷ []) [] = ⊥
Stands g gs = Unit {0}

pub lines-cons : (text : List (List ℕ) → List ℕ) (file : List ℕ) (n : ℕ) (g : List (List ℕ)) (gs : List (List (List ℕ))) → Stands g gs
    → lines_from text file n (g ∷ gs) ≡ cond (is_too_long g) (stops (place file n)) (with_line (record { place = place file n; tab = is_recipe g; text = text g }) (lines_from text file (n + length g) gs))
lines-cons text file n [] gs s = refl
lines-cons text file n (([]) ∷ []) [] s = absurd s
lines-cons text file n (([]) ∷ []) (g ∷ gs) s = refl
lines-cons text file n ([] ∷ r ∷ rs) gs s = refl
lines-cons text file n ((b ∷ bs) ∷ rs) gs s = refl

-- a list of lines is one without any, or the first line is there
pub ends_or_stands : (g : List (List ℕ)) (gs : List (List (List ℕ))) → ((g ≡ [] ∷ []) × (gs ≡ [])) ⊎ Stands g gs
ends_or_stands [] gs = inr tt
ends_or_stands (([]) ∷ []) [] = inl (refl, refl)
ends_or_stands (([]) ∷ []) (g ∷ gs) = inr tt
ends_or_stands ([] ∷ r ∷ rs) gs = inr tt
ends_or_stands ((b ∷ bs) ∷ rs) gs = inr tt

-- numbers above the last one are that one
pub same_lines : (text : List (List ℕ) → List ℕ) (file : List ℕ) (n m : ℕ) (gs : List (List (List ℕ))) → min n 4294967295 ≡ min m 4294967295 → lines_from text file n gs ≡ lines_from text file m gs
same_lines text file n m [] e = refl
same_lines text file n m (g ∷ gs) e = elim (ends_or_stands g gs) [
  | inl w ↦ rw (w.0, w.1) refl
  | inr s ↦
      let there : place file n ≡ place file m = ap (λ k. record { file = file; line = k }) e in
      let rest : lines_from text file (n + length g) gs ≡ lines_from text file (m + length g) gs = same_lines text file (n + length g) (m + length g) gs (omega arith) in
      lines-cons text file n g gs s ∙ ap (λ p. cond (is_too_long g) (stops p) (with_line (record { place = p; tab = is_recipe g; text = text g }) (lines_from text file (n + length g) gs))) there
      ∙ ap (λ r. cond (is_too_long g) (stops (place file m)) (with_line (record { place = place file m; tab = is_recipe g; text = text g }) r)) rest ∙ sym (lines-cons text file m g gs s)
]

-- the first line of bytes that aren't none
stands : (bytes : List ℕ) → 0 < length bytes → Stands (first_group (rows bytes)) (grouped (behind_first (rows bytes)))
stands [] some = absurd (omega arith)
stands (b ∷ bs) some =
    let s = some_row bs in
    by_cases (eqb b 10) (λ t. Stands (first_group (cond t ([] ∷ rows bs) (onto_first b (rows bs)))) (grouped (behind_first (cond t ([] ∷ rows bs) (onto_first b (rows bs))))))
    (λ _. subst (λ rs. Stands (first_group ([] ∷ rs)) (grouped (behind_first ([] ∷ rs)))) (sym s.2) (subst (λ gs. Stands ([] ∷ []) gs) (sym (grouped-cons s.0 s.1)) tt))
    (λ _. subst (λ rs. Stands (first_group (onto_first b rs)) (grouped (behind_first (onto_first b rs)))) (sym s.2) tt)

pub next_lines : (text : List (List ℕ) → List ℕ) (file : List ℕ) (n : ℕ) (bytes : List ℕ) → 0 < length bytes
    → lines_from text file n (grouped (rows bytes)) ≡ cond (is_too_long (first_group (rows bytes))) (stops (place file n)) (with_line (record { place = place file n; tab = is_recipe (first_group (rows bytes)); text = text (first_group (rows bytes)) }) (lines_from text file (n + length (first_group (rows bytes))) (grouped (behind_first (rows bytes)))))
next_lines text file n bytes some =
    let s = some_row bytes in
    let split : grouped (rows bytes) ≡ first_group (rows bytes) ∷ grouped (behind_first (rows bytes)) = subst (λ rs. grouped rs ≡ first_group rs ∷ grouped (behind_first rs)) (sym s.2) (grouped-cons s.0 s.1) in
    ap (lines_from text file n) split ∙ lines-cons text file n (first_group (rows bytes)) (grouped (behind_first (rows bytes))) (stands bytes some)

-- a line in front of the rest that is too long, and one that isn't
pub long_line : (file bytes text : List ℕ) (n : ℕ) → 0 < length bytes → text ≡ joined_text (first_group (rows bytes)) → 1048576 < length text → n ≤ 4294967295
    → lines_from joined_text file n (grouped (rows bytes)) ≡ stops (record { file = file; line = n })
long_line file bytes text n some held over few =
    let g = first_group (rows bytes) in
    let long : is_too_long g ≡ true = lt-ltb 1048576 (length (joined_text g)) (subst (λ t. 1048576 < length t) held over) in
    let here : min n 4294967295 ≡ n = omega arith in
    next_lines joined_text file n bytes some ∙ ap (λ b. cond b (stops (place file n)) (with_line (record { place = place file n; tab = is_recipe g; text = joined_text g }) (lines_from joined_text file (n + length g) (grouped (behind_first (rows bytes)))))) long
    ∙ ap (λ k. stops (record { file = file; line = k })) here

pub one_line : (file bytes text : List ℕ) (n more next : ℕ) (tab : Bool) (rest : List (List ℕ)) → 0 < length bytes → tab ≡ is_recipe (first_group (rows bytes)) → text ≡ joined_text (first_group (rows bytes))
    → length text ≤ 1048576 → n ≤ 4294967295 → more ≡ min (length (first_group (rows bytes))) 4294967295 → next ≡ min (n + more) 4294967295 → rest ≡ behind_first (rows bytes)
    → lines_from joined_text file n (grouped (rows bytes)) ≡ with_line (record { place = record { file = file; line = n }; tab = tab; text = text }) (lines_from joined_text file next (grouped rest))
one_line file bytes text n more next tab rest some told held short few counted is left =
    let g = first_group (rows bytes) in
    let short' : is_too_long g ≡ false = le-ltb 1048576 (length (joined_text g)) (subst (λ t. length t ≤ 1048576) held short) in
    let here : min n 4294967295 ≡ n = omega arith in
    let there : lines_from joined_text file (n + length g) (grouped (behind_first (rows bytes))) ≡ lines_from joined_text file next (grouped rest) =
    same_lines joined_text file (n + length g) next (grouped (behind_first (rows bytes))) (omega arith) ∙ ap (λ r. lines_from joined_text file next (grouped r)) (sym left) in
    next_lines joined_text file n bytes some ∙ ap (λ b. cond b (stops (place file n)) (with_line (record { place = place file n; tab = is_recipe g; text = joined_text g }) (lines_from joined_text file (n + length g) (grouped (behind_first (rows bytes)))))) short'
    ∙ ap (λ k. with_line (record { place = record { file = file; line = k }; tab = is_recipe g; text = joined_text g }) (lines_from joined_text file (n + length g) (grouped (behind_first (rows bytes))))) here
    ∙ ap (λ t. with_line (record { place = record { file = file; line = n }; tab = t; text = joined_text g }) (lines_from joined_text file (n + length g) (grouped (behind_first (rows bytes))))) (sym told)
    ∙ ap (λ t. with_line (record { place = record { file = file; line = n }; tab = tab; text = t }) (lines_from joined_text file (n + length g) (grouped (behind_first (rows bytes))))) (sym held)
    ∙ ap (with_line (record { place = record { file = file; line = n }; tab = tab; text = text })) there

pub not_empty : (n : ℕ) → false ≡ eqb n 0 → 0 < n
not_empty zero e = absurd cc
not_empty (suc n) e = omega arith

pub fewer : (bytes : List ℕ) → length (behind_first (rows bytes)) < length (rows bytes)
fewer bytes = let s = some_row bytes in subst (λ rs. length (behind_first rs) < length rs) (sym s.2) (let few = left_few s.0 s.1 in omega arith)
  where
    left_few : (row : List ℕ) (more : List (List ℕ)) → length (left_by row more) ≤ length more
    left_few row [] = omega arith
    left_few row (next ∷ more) = by_cases (goes_on row) (λ b. length (cond b (left_by next more) (next ∷ more)) ≤ suc (length more))
        (λ _. let few = left_few next more in omega arith)
        (λ _. omega arith)

pub none_left : (text : List (List ℕ) → List ℕ) (file bytes : List ℕ) (n : ℕ) → true ≡ eqb (length bytes) 0 → lines_from text file n (grouped (rows bytes)) ≡ no_more
none_left text file [] n e = refl
none_left text file (b ∷ bs) n e = absurd (let none = eqb-true (suc (length bs)) 0 (sym e) in omega arith)

-- ---- without comments

abbrev pub mapped : Lines → Lines
mapped ls = record { lines = map bared ls.lines; too_long = ls.too_long }

same_text : (p : Place) (g : List (List ℕ)) → record { place = p; tab = is_recipe g; text = logical_text g } ≡ bared (record { place = p; tab = is_recipe g; text = joined_text g })
same_text p g = by_cases (is_recipe g) (λ t. record { place = p; tab = t; text = cond t (recipe_text g) (bare (spliced g)) } ≡ bared (record { place = p; tab = t; text = cond t (recipe_text g) (spliced g) })) (λ _. refl) (λ _. refl)

all_bared : (file : List ℕ) (n : ℕ) (gs : List (List (List ℕ))) → lines_from logical_text file n gs ≡ mapped (lines_from joined_text file n gs)
all_bared file n [] = refl
all_bared file n (g ∷ gs) = elim (ends_or_stands g gs) [
  | inl w ↦ rw (w.0, w.1) refl
  | inr s ↦
      let rest : lines_from logical_text file (n + length g) gs ≡ mapped (lines_from joined_text file (n + length g) gs) = all_bared file (n + length g) gs in
      let more = lines_from joined_text file (n + length g) gs in
      let line : Line = record { place = place file n; tab = is_recipe g; text = joined_text g } in
      lines-cons logical_text file n g gs s ∙ ap (λ r. cond (is_too_long g) (stops (place file n)) (with_line (record { place = place file n; tab = is_recipe g; text = logical_text g }) r)) rest
      ∙ ap (λ l. cond (is_too_long g) (stops (place file n)) (with_line l (mapped more))) (same_text (place file n) g)
      ∙ by_cases (is_too_long g) (λ t. cond t (stops (place file n)) (with_line (bared line) (mapped more)) ≡ mapped (cond t (stops (place file n)) (with_line line more))) (λ _. refl) (λ _. refl)
      ∙ ap mapped (sym (lines-cons joined_text file n g gs s))
]

pub logical_bared : (file bytes : List ℕ) → logical file bytes ≡ mapped (joined file bytes)
unfolding joined logical
logical_bared file bytes = all_bared file 1 (grouped (rows bytes))
