-- What the lines of a text, and the lines for the shell that come of them, have.
use Rattle.std.proofs.Common.{◌≡◌, ◌≢◌, ◌==◌, ◌∙◌, ◌+◌, ◌&&◌, ◌||◌, ◌++◌, ◌∷◌, [], Bool, true, false, List, ℕ, All, append_assoc, append-nil, ap, arith, cond, drop, get_or, length, map, refl, suc, sym}
use Rattle.std.specs.Prelude.{nat_lt, not, IsTrue}
use Rattle.std.specs.List.{join_with_byte}
use Rattle.std.specs.List.{prefix_len}
use Rattle.std.proofs.lemmas.Bool.{eqb-true, ltb-true}
use Rattle.std.proofs.lemmas.List.Elements.{All-cons, All-nil, All-filter, All-map, filter_passes}
use Rattle.em_base.proofs.Lemmas.{by_cases}
use Rattle.em_recipe.specs.declared.command.RecipeCommand.{RecipeCommand}
use Rattle.em_recipe.specs.Marks.{is_mark, marks, bare, Includes}
use Rattle.em_recipe.specs.Commands.{lines_from, split, command, commands_of}

-- ---- lines

some : (line : List ℕ) (quoted : Bool) (bs : List ℕ) → (first : List ℕ) × (others : List (List ℕ)) × (lines_from line quoted bs ≡ first ∷ others)
some line quoted [] = (line, [], refl)
some line quoted (b ∷ bs) = by_cases ((b == 10) && not quoted) (λ e. (first : List ℕ) × (others : List (List ℕ)) × (cond e (line ∷ lines_from [] false bs) (lines_from (line ++ b ∷ []) (b == 92) bs) ≡ first ∷ others))
    (λ _. (line, lines_from [] false bs, refl))
    (λ _. some (line ++ b ∷ []) (b == 92) bs)

join_next : (line : List ℕ) (quoted : Bool) (bs : List ℕ) → join_with_byte 10 (line ∷ lines_from [] quoted bs) ≡ line ++ 10 ∷ join_with_byte 10 (lines_from [] quoted bs)
join_next line quoted bs = rw (some [] quoted bs).2 refl

is_newline : (b : ℕ) (quoted : Bool) → ((b == 10) && not quoted) ≡ true → b ≡ 10
is_newline b quoted e = by_cases (b == 10) (λ t. (b == 10) ≡ t → (t && not quoted) ≡ true → b ≡ 10)
    (λ _ is _. eqb-true b 10 is)
    (λ _ _ bad. absurd cc) refl e

joined_from : (line : List ℕ) (quoted : Bool) (bs : List ℕ) → join_with_byte 10 (lines_from line quoted bs) ≡ line ++ bs
joined_from line quoted [] = sym (append-nil line)
joined_from line quoted (b ∷ bs) = by_cases ((b == 10) && not quoted)
    (λ e. ((b == 10) && not quoted) ≡ e → join_with_byte 10 (cond e (line ∷ lines_from [] false bs) (lines_from (line ++ b ∷ []) (b == 92) bs)) ≡ line ++ b ∷ bs)
    (λ _ ends. join_next line false bs ∙ ap (λ t. line ++ 10 ∷ t) (joined_from [] false bs) ∙ ap (λ c. line ++ c ∷ bs) (sym (is_newline b quoted ends)))
    (λ _ _. joined_from (line ++ b ∷ []) (b == 92) bs ∙ append_assoc line (b ∷ []) bs) refl

pub split_joined : (text : List ℕ) → join_with_byte 10 (split text) ≡ text
unfolding split
split_joined text = joined_from [] false text

-- each line is read to its end without another one
whole_from : (line : List ℕ) (quoted : Bool) (bs : List ℕ) → ((ys : List ℕ) → lines_from [] false (line ++ ys) ≡ lines_from line quoted ys) → All (λ l. lines_from [] false l ≡ l ∷ []) (lines_from line quoted bs)
whole_from line quoted [] read =
    let itself : lines_from [] false line ≡ line ∷ [] = ap (lines_from [] false) (sym (append-nil line)) ∙ read [] in
    All-cons (λ l. lines_from [] false l ≡ l ∷ []) line [] itself (All-nil _)
whole_from line quoted (b ∷ bs) read = by_cases ((b == 10) && not quoted)
    (λ e. ((b == 10) && not quoted) ≡ e → All (λ l. lines_from [] false l ≡ l ∷ []) (cond e (line ∷ lines_from [] false bs) (lines_from (line ++ b ∷ []) (b == 92) bs)))
    (λ _ _.
    let itself : lines_from [] false line ≡ line ∷ [] = ap (lines_from [] false) (sym (append-nil line)) ∙ read [] in
    All-cons (λ l. lines_from [] false l ≡ l ∷ []) line (lines_from [] false bs) itself (whole_from [] false bs (λ ys. refl)))
    (λ _ goes. whole_from (line ++ b ∷ []) (b == 92) bs (λ ys. ap (lines_from [] false) (append_assoc line (b ∷ []) ys) ∙ read (b ∷ ys) ∙ ap (λ e. cond e (line ∷ lines_from [] false ys) (lines_from (line ++ b ∷ []) (b == 92) ys)) goes)) refl

pub split_whole : (text : List ℕ) → All (λ l. split l ≡ l ∷ []) (split text)
unfolding split
split_whole text = whole_from [] false text (λ ys. refl)

-- ---- lines for the shell

none_twice : (p : ℕ → Bool) (l : List ℕ) → drop (prefix_len p (drop (prefix_len p l) l)) (drop (prefix_len p l) l) ≡ drop (prefix_len p l) l
none_twice p [] = refl
none_twice p (b ∷ bs) = by_cases (p b)
    (λ e. p b ≡ e → drop (prefix_len p (drop (cond e (1 + prefix_len p bs) 0) (b ∷ bs))) (drop (cond e (1 + prefix_len p bs) 0) (b ∷ bs)) ≡ drop (cond e (1 + prefix_len p bs) 0) (b ∷ bs))
    (λ _ _. let next : 1 + prefix_len p bs ≡ suc (prefix_len p bs) = omega arith in rw next (none_twice p bs))
    (λ _ plain. rw plain refl) refl

filled : RecipeCommand → Bool
filled c = nat_lt 0 (length c.text)

or_left : (a b : Bool) → IsTrue a → IsTrue (a || b)
or_left a b h = rw h refl

pub commands_filled : (written expanded : List ℕ) → All (λ c. c.text ≢ []) (commands_of written expanded)
unfolding commands_of filled
commands_filled written expanded = λ k d low empty.
    let l = filter_passes filled (map (command (marks written)) (split expanded)) k d low in omega (arith, ltb-true 0 _ l, ap length empty)

pub commands_bare : (written expanded : List ℕ) → All (λ c. bare c.text ≡ c.text) (commands_of written expanded)
unfolding commands_of filled
commands_bare written expanded = All-filter filled (λ c. bare c.text ≡ c.text) (map (command (marks written)) (split expanded))
    (All-map (λ c. bare c.text ≡ c.text) (command (marks written)) (split expanded) (λ k d low. none_twice is_mark (get_or (split expanded) k d)))

pub commands_marked : (written expanded : List ℕ) → All (λ c. Includes c.marks (marks written)) (commands_of written expanded)
unfolding commands_of filled
commands_marked written expanded = All-filter filled (λ c. Includes c.marks (marks written)) (map (command (marks written)) (split expanded))
    (All-map (λ c. Includes c.marks (marks written)) (command (marks written)) (split expanded) (λ k d low. (or_left _ _, or_left _ _, or_left _ _)))
