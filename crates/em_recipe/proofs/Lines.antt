-- The lines of a text, as they are found byte by byte.
--     rest            what comes of the text from byte i on, where the line begins at `start`
--     line_ends       a line ends at byte i
--     line_goes_on    it goes on
--     is_plain        none ends there
use Rattle.std.proofs.Common.{◌≡◌, ◌==◌, ◌∙◌, ◌⊎◌, inl, inr, ◌+◌, ◌-◌, ◌<◌, ◌≤◌, ◌&&◌, ◌++◌, ◌∷◌, [], Bool, true, false, List, ℕ, ap, arith, cond, drop, get_or, get_or-drop, length, length-drop, refl, take}
use Rattle.std.specs.Prelude.{nat_lt, not}
use Rattle.std.proofs.lemmas.List.{take_more}
use Rattle.std.proofs.lemmas.Bool.{ne_eqb}
use Rattle.em_base.proofs.Lemmas.{by_cases, cell}
use Rattle.em_recipe.specs.declared.command.RecipeCommand.{RecipeCommand}
use Rattle.em_recipe.specs.declared.mark.Marks.{Marks}
use Rattle.em_recipe.specs.Marks.{bare}
use Rattle.em_recipe.specs.Commands.{lines_from, command, kept}

abbrev pub rest : Marks → List ℕ → ℕ → ℕ → Bool → List RecipeCommand
rest front text start i quoted = kept front (lines_from (take (i - start) (drop start text)) quoted (drop i text))

pub kept_next : (front : Marks) (line : List ℕ) (lines : List (List ℕ)) → kept front (line ∷ lines) ≡ kept front (line ∷ []) ++ kept front lines
kept_next front line lines = by_cases (nat_lt 0 (length (bare line)))
    (λ b. cond b (command front line ∷ kept front lines) (kept front lines) ≡ cond b (command front line ∷ []) [] ++ kept front lines)
    (λ _. refl) (λ _. refl)

pub line_ends : (front : Marks) (text : List ℕ) (start i b : ℕ) (quoted : Bool) → i < length text → get_or text i 0 ≡ b → b ≡ 10 → quoted ≡ false → rest front text start i quoted ≡ kept front (take (i - start) (drop start text) ∷ []) ++ rest front text (i + 1) (i + 1) (b == 92)
line_ends front text start i b quoted low is newline plain =
    let line = take (i - start) (drop start text) in
    let none : i + 1 - (i + 1) ≡ 0 = omega arith in
    rw (cell text i b low is, newline, plain, none) (kept_next front line (lines_from [] false (drop (i + 1) text)))

pub line_goes_on : (front : Marks) (text : List ℕ) (start i b : ℕ) (quoted : Bool) → start ≤ i → i < length text → get_or text i 0 ≡ b → ((b == 10) && not quoted) ≡ false → rest front text start i quoted ≡ rest front text start (i + 1) (b == 92)
line_goes_on front text start i b quoted begun low is goes =
    let ds = drop start text in
    let more : i + 1 - start ≡ i - start + 1 = omega arith in
    let here : start + (i - start) ≡ i = omega arith in
    let byte : get_or ds (i - start) 0 ≡ b = get_or-drop start text (i - start) 0 ∙ ap (λ k. get_or text k 0) here ∙ is in
    let grown : take (i - start + 1) ds ≡ take (i - start) ds ++ b ∷ [] = take_more ds (i - start) 0 (omega (arith, length-drop start text)) ∙ ap (λ x. take (i - start) ds ++ x ∷ []) byte in
    rw (cell text i b low is, goes, more, grown) refl

pub is_plain : (b : ℕ) (quoted : Bool) → ((b ≡ 10) × (quoted ≡ true)) ⊎ (b ≡ 10 → ⊥) → ((b == 10) && not quoted) ≡ false
is_plain b quoted (inl h) = rw (h.0, h.1) refl
is_plain b quoted (inr h) = rw (ne_eqb b 10 h) refl
