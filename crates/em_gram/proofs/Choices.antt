-- Parts of the grammar that the tree spells in another form.
use Rattle.std.proofs.Common.{◌≡◌, ℕ, true, false, ◌<◌, List, [], ◌∷◌, ◌++◌, length, map, inl, inr, refl, ap, arith}
use Rattle.std.proofs.lemmas.List.{length-map}
use Rattle.em_grammar.specs.Production.{last, ◌⨾◌}
use Rattle.em_grammar.specs.Machine.{first_set}
use Rattle.em_grammar.specs.Gives.{begins_with, Spells, Reads}
use Rattle.em_grammar.proofs.Giving.{left_on, right_on, spell_then}
use Rattle.em_lexeme.specs.declared.lexeme.Lexeme.{Lexeme}
use Rattle.em_lexeme.specs.declared.lexeme.What.{What}
use Rattle.em_token.specs.Shell.{shell, Expr, key, word, word_of, first_pattern, item_end}
use Rattle.em_token.specs.Kinds.{words, words_but_esac, reserved_words, whats}
use Rattle.em_gram.specs.Patterns.{Spelling, any_word, word_spelled, word_spelling, assigned_pattern, redirect_pattern, simple_pattern, mixed, words_spelled, some_parts, operator_spelled, is_duplicate, target_spelled, first_pattern_of, row, items_of}
use Rattle.em_token.specs.declared.kind.Kind.TheVariants.{LeftParen}
use Rattle.em_syntax.specs.declared.tree.RedirectKind.{RedirectKind}
use Rattle.em_syntax.specs.declared.tree.Word.{Word}
use Rattle.em_syntax.specs.declared.tree.Assigned.{Assigned}
use Rattle.em_syntax.specs.declared.tree.Redirect.{Redirect}
use Rattle.em_syntax.specs.declared.tree.Simple.{roll-Simple}
use Rattle.std.specs.declared.vec.Vec.{Vec}
use Rattle.em_gram.specs.Simple.{so_far}
use Rattle.em_gram.proofs.Spellings.{simple_made}
use Rattle.em_gram.proofs.Parts.{no_row}

pub words_map : (ws : List Word) → map any_word (map word_spelling ws) ≡ map (λ w. any_word (word_spelling w)) ws
words_map [] = refl
words_map (w ∷ ws) = ap (λ l. any_word (word_spelling w) ∷ l) (words_map ws)

pub file_target : (kind : RedirectKind) (w : Word) → is_duplicate kind ≡ false → {left : ℕ} {e : Expr} {ts us : List What} → Reads shell left e ts (operator_spelled kind ⨾ any_word (word_spelling w)) us → Reads shell left e ts (target_spelled kind (word_spelling w)) us
file_target kind w d h = rw d h

pub respelled : {left : ℕ} {e p q : Expr} {ts us : List What} → Reads shell left e ts p us → ((vs rest : List What) → Spells shell p vs rest → Spells shell q vs rest) → Reads shell left e ts q us
respelled {ts = ts} {us = us} h k = record { spells = k ts us h.spells; goes = h.goes }

pub rows_of_items : {left : ℕ} {e : Expr} {ts us : List What} (ps : List Expr) → Reads shell left e ts (row item_end ps) us → Reads shell left e ts (items_of ps) us
rows_of_items {ts = ts} {us = us} [] h = absurd (no_row item_end ts us h.spells)
rows_of_items (p ∷ ps) h = h

pub first_left : {left : ℕ} {ts us : List What} (p : Spelling) → begins_with shell ts (first_set shell.list_first (key LeftParen ⨾ word)) ≡ true → Reads shell left (key LeftParen ⨾ word) ts (key LeftParen ⨾ any_word p) us → Reads shell left first_pattern ts (first_pattern_of p) us
first_left p b h = record { spells = inl h.spells; goes = (left_on shell b h).goes }

pub first_right : {left : ℕ} {ts us : List What} (p : Spelling) → begins_with shell ts (first_set shell.list_first (key LeftParen ⨾ word)) ≡ false → Reads shell left (word_of words_but_esac) ts (word_spelled words_but_esac p) us → Reads shell left first_pattern ts (first_pattern_of p) us
first_right p b h = record { spells = inr h.spells; goes = (right_on shell refl b h).goes }

-- simple commands
simple_by : (a : Vec Assigned _) (ws : Vec Word _) (xs : Vec (List ℕ) _) (rs : Vec Redirect _) (ts us : List What) → begins_with shell ts reserved_words ≡ false → begins_with shell us words ≡ false →
    Spells shell (some_parts (map assigned_pattern a.items ++ words_spelled (map word_spelling ws.items)) (map redirect_pattern rs.items)) ts us → Spells shell (simple_pattern (roll-Simple (record { assigned = a; words = ws; texts = xs; redirects = rs }))) ts us
simple_by a ws xs rs ts us b l h =
    let p = some_parts (map assigned_pattern a.items ++ words_spelled (map word_spelling ws.items)) (map redirect_pattern rs.items) in
    rw (simple_made a ws xs rs) (b, spell_then shell p (last words) ts us us h (l, refl))

with_words : (as' : List Expr) (ws : List Word) (rs : List Expr) (ts us : List What) → 0 < length ws → Spells shell (mixed (as' ++ words_spelled (map word_spelling ws)) rs) ts us → Spells shell (some_parts (as' ++ words_spelled (map word_spelling ws)) rs) ts us
with_words [] [] rs ts us n h = absurd (omega arith)
with_words [] (w ∷ ws) rs ts us n h = h
with_words (a ∷ as') ws rs ts us n h = h

pub simple_words : (a : Vec Assigned _) (ws : Vec Word _) (xs : Vec (List ℕ) _) (rs : Vec Redirect _) (ts us : List What) → begins_with shell ts reserved_words ≡ false → begins_with shell us words ≡ false → 0 < length ws.items →
    Spells shell (so_far (map assigned_pattern a.items) ws.items rs.items) ts us → Spells shell (simple_pattern (roll-Simple (record { assigned = a; words = ws; texts = xs; redirects = rs }))) ts us
simple_words a ws xs rs ts us b l n h = simple_by a ws xs rs ts us b l (with_words (map assigned_pattern a.items) ws.items (map redirect_pattern rs.items) ts us n h)

-- what took a token has a part
with_parts : (ps rs : List Expr) (ts us : List What) → length us < length ts → Spells shell (mixed ps rs) ts us → Spells shell (some_parts ps rs) ts us
with_parts [] [] ts us l h = absurd (let k : length ts ≡ length us = ap length h in omega (arith, k, l))
with_parts [] (r ∷ rs) ts us l h = h
with_parts (p ∷ ps) rs ts us l h = h

pub simple_behind : (a : Vec Assigned _) (ws : Vec Word _) (xs : Vec (List ℕ) _) (rs : Vec Redirect _) (ts us : List What) → begins_with shell ts reserved_words ≡ false → begins_with shell us words ≡ false → length us < length ts →
    Spells shell (so_far (map assigned_pattern a.items) ws.items rs.items) ts us → Spells shell (simple_pattern (roll-Simple (record { assigned = a; words = ws; texts = xs; redirects = rs }))) ts us
simple_behind a ws xs rs ts us b l n h = simple_by a ws xs rs ts us b l (with_parts (map assigned_pattern a.items ++ words_spelled (map word_spelling ws.items)) (map redirect_pattern rs.items) ts us n h)

pub shorter_whats : (xs ys : List Lexeme) → length xs < length ys → length (whats xs) < length (whats ys)
shorter_whats xs ys l =
    let a : length (whats xs) ≡ length xs = length-map xs (λ l. l.what) in
    let b : length (whats ys) ≡ length ys = length-map ys (λ l. l.what) in
    omega (arith, a, b, l)
