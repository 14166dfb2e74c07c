-- Lines of recipes that go on within a reference, row by row.
use Rattle.std.proofs.Common.{◌≡◌, ℕ, Bool, true, false, cond, List, [], ◌∷◌, ◌++◌, sym, ap, ◌∙◌, refl, append_assoc}
use Rattle.em_base.specs.Blanks.{is_blank, trimmed_start, trimmed_end}
use Rattle.em_base.proofs.Lemmas.{by_cases}
use Rattle.em_lines.specs.Joining.{goes_on, without_last}
use Rattle.em_lines.specs.Folding.{folded_rows}
use Rattle.em_lines.proofs.Rows.{put, on_put, last_is, without_mark}
use Rattle.em_lines.proofs.Trimmed.{start_mark, start_skip, start_stop, one_space}

-- blanks end at a byte that is none
start_before : (f : List ℕ) (c : ℕ) (more : List ℕ) → is_blank c ≡ false → trimmed_start (f ++ c ∷ more) ≡ trimmed_start f ++ c ∷ more
start_before [] c more isnt = start_stop c more isnt
start_before (x ∷ xs) c more isnt = by_cases (is_blank x) (λ b. trimmed_start (x ∷ xs ++ c ∷ more) ≡ trimmed_start (x ∷ xs) ++ c ∷ more)
    (λ is. start_skip x (xs ++ c ∷ more) is ∙ start_before xs c more isnt ∙ ap (λ l. l ++ c ∷ more) (sym (start_skip x xs is)))
    (λ other. start_stop x (xs ++ c ∷ more) other ∙ ap (λ l. l ++ c ∷ more) (sym (start_stop x xs other)))

goes : (a next behind : List ℕ) → goes_on next ≡ true →
    trimmed_end (without_last a) ++ 32 ∷ trimmed_start (trimmed_end (without_last next) ++ 32 ∷ trimmed_start behind) ≡ trimmed_end (without_last (put false a next)) ++ 32 ∷ trimmed_start behind
goes a next behind more =
    let f = without_last next in
    let parts : put false a next ≡ (trimmed_end (without_last a) ++ 32 ∷ trimmed_start f) ++ 92 ∷ [] =
    ap (λ l. trimmed_end (without_last a) ++ 32 ∷ l) (ap trimmed_start (last_is next more) ∙ start_mark f 92 refl) ∙ sym (append_assoc (trimmed_end (without_last a)) (32 ∷ trimmed_start f) (92 ∷ [])) in
    let front : without_last (put false a next) ≡ trimmed_end (without_last a) ++ 32 ∷ trimmed_start f = ap without_last parts ∙ without_mark (trimmed_end (without_last a) ++ 32 ∷ trimmed_start f) 92 in
    one_space (without_last a) f behind ∙ ap (λ l. trimmed_end l ++ 32 ∷ trimmed_start behind) (sym front)

stays : (a next behind : List ℕ) → trimmed_end (without_last a) ++ 32 ∷ trimmed_start (next ++ 10 ∷ behind) ≡ put false a next ++ 10 ∷ behind
stays a next behind = ap (λ l. trimmed_end (without_last a) ++ 32 ∷ l) (start_before next 10 behind refl) ∙ sym (append_assoc (trimmed_end (without_last a)) (32 ∷ trimmed_start next) (10 ∷ behind))

-- joining two rows first is joining them all
pub joined_first : (a next : List ℕ) (more : List (List ℕ)) → goes_on a ≡ true → folded_rows (a ∷ next ∷ more) ≡ folded_rows (put false a next ∷ more)
joined_first a next [] on = ap (λ b. cond b (trimmed_end (without_last a) ++ 32 ∷ trimmed_start next) (a ++ 10 ∷ next)) on
joined_first a next (r ∷ rows) on =
    let behind = folded_rows (r ∷ rows) in
    let whole = put false a next in
    ap (λ b. cond b (trimmed_end (without_last a) ++ 32 ∷ trimmed_start (folded_rows (next ∷ r ∷ rows))) (a ++ 10 ∷ folded_rows (next ∷ r ∷ rows))) on
    ∙ by_cases (goes_on next) (λ b. trimmed_end (without_last a) ++ 32 ∷ trimmed_start (cond b (trimmed_end (without_last next) ++ 32 ∷ trimmed_start behind) (next ++ 10 ∷ behind))
    ≡ cond b (trimmed_end (without_last whole) ++ 32 ∷ trimmed_start behind) (whole ++ 10 ∷ behind))
    (λ more. goes a next behind more)
    (λ _. stays a next behind)
    ∙ ap (λ b. cond b (trimmed_end (without_last whole) ++ 32 ∷ trimmed_start behind) (whole ++ 10 ∷ behind)) (sym (on_put false a next))

-- rows that don't go on stand for themselves
pub kept_first : (a next : List ℕ) (more : List (List ℕ)) → goes_on a ≡ false → folded_rows (a ∷ next ∷ more) ≡ (a ++ 10 ∷ []) ++ folded_rows (next ∷ more)
kept_first a next more off = ap (λ b. cond b (trimmed_end (without_last a) ++ 32 ∷ trimmed_start (folded_rows (next ∷ more))) (a ++ 10 ∷ folded_rows (next ∷ more))) off ∙ sym (append_assoc a (10 ∷ []) (folded_rows (next ∷ more)))
