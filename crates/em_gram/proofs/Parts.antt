-- Exits and loops over the lexemes of a line.
use Rattle.std.proofs.Common.{◌≡◌, ℕ, subst, ◌<◌, ◌-◌, true, false, List, [], ◌∷◌, ◌++◌, map, refl, inl, inr}
use Rattle.std.proofs.lemmas.List.{map-append}
use Rattle.em_grammar.specs.Production.{many, more, empty, inner, ◌⨾◌, ◌∣◌}
use Rattle.em_grammar.specs.Machine.{first_set, nullable}
use Rattle.em_grammar.specs.Gives.{begins_with, Spells, Reads, Turns, Lead, on, Gives, all, parted}
use Rattle.em_grammar.specs.Checks.{firm}
use Rattle.em_grammar.proofs.Giving.{turn, more_many, more_row, last_row, spell_then, gives_inner, then_on, spell_all_more, spell_parted_more, spell_front}
use Rattle.em_lexeme.specs.declared.lexeme.What.{What}
use Rattle.em_token.specs.Shell.{shell, Expr, list, sequential}
use Rattle.em_gram.specs.Patterns.{row, list_of, some_list, patterns_of, first_pattern_of, pattern_behind, Spelling}
use Rattle.em_token.proofs.Checked.{shell_firm}
use Rattle.em_token.proofs.Tokens.{one_more}

-- one more in a loop
pub step_all : {X : Type 0} (f : X → Expr) {left : ℕ} {e a : Expr} {ts us rest : List What} {ys : List X} {x : X} (xs : List X) → Turns shell left e ts (all (map f xs)) (many a) us → firm a ≡ true → begins_with shell us (first_set shell.list_first a) ≡ true → Reads shell left a us (f x) rest → ys ≡ xs ++ x ∷ [] → Turns shell left e ts (all (map f ys)) (many a) rest
step_all f {ts = ts} {us = us} {rest = rest} {ys = ys} {x = x} xs t m b h e =
    more_many shell shell_firm t m b h (all (map f ys)) (rw (e, map-append f xs (x ∷ [])) (spell_all_more shell (map f xs) (f x) ts us rest t.spells h.spells))

pub step_parted : {X : Type 0} (f : X → Expr) (sep : Expr) {left : ℕ} {e a : Expr} {ts us rest : List What} {ys : List X} {x : X} (xs : List X) → Turns shell left e ts (parted sep (map f xs)) (many a) us → firm a ≡ true → begins_with shell us (first_set shell.list_first a) ≡ true → Reads shell left a us (sep ⨾ f x) rest → ys ≡ xs ++ x ∷ [] → Turns shell left e ts (parted sep (map f ys)) (many a) rest
step_parted f sep {ts = ts} {us = us} {rest = rest} {ys = ys} {x = x} xs t m b h e =
    more_many shell shell_firm t m b h (parted sep (map f ys)) (rw (e, map-append f xs (x ∷ [])) (spell_parted_more shell sep (map f xs) (f x) ts us rest t.spells h.spells))

-- a list one level deeper
pub inner_gives : (left : ℕ) → 0 < left → (ts : List What) (L : Lead What) → Gives shell (left - 1) list ts L → Gives shell left inner ts L
inner_gives left h ts L g = subst (λ (n : ℕ). Gives shell n inner ts L) (one_more left h) (gives_inner shell (left - 1) ts L refl g)

pub inner_on : (left : ℕ) → 0 < left → (ts : List What) (p : Expr) (us : List What) → Reads shell (left - 1) list ts p us → Reads shell left inner ts p us
inner_on left h ts p us g = inner_gives left h ts (on p us) g

pub assoc_on : {left : ℕ} {e : Expr} {ts us : List What} {p q r : Expr} → Reads shell left e ts (p ⨾ q ⨾ r) us → Reads shell left e ts ((p ⨾ q) ⨾ r) us
assoc_on h = record { spells = h.spells; goes = h.goes }

-- the same in grammar and pattern
pub assoc_both : {left : ℕ} {e f g : Expr} {ts us vs ws : List What} {p q r : Expr} → Reads shell left e ts p us → Reads shell left f us q vs → Reads shell left g vs r ws → Reads shell left ((e ⨾ f) ⨾ g) ts ((p ⨾ q) ⨾ r) ws
assoc_both a b c = then_on shell (then_on shell a b) c

pub row_end : (s : Expr) {left : ℕ} {e : Expr} {ts us : List What} {p : Expr} → Reads shell left e ts p us → Reads shell left e ts (p ⨾ (s ∣ empty)) us
row_end s {ts = ts} {us = us} {p = p} h = record { spells = spell_then shell p (s ∣ empty) ts us us h.spells (inr refl); goes = h.goes }

pub start_parted : {X : Type 0} (f : X → Expr) (sep : Expr) {left : ℕ} {e a : Expr} {ts us : List What} {ys : List X} {x : X} (xs : List X) → Reads shell left e ts (f x) us → xs ≡ [] → ys ≡ xs ++ x ∷ [] → Turns shell left (e ⨾ a) ts (parted sep (map f ys)) a us
start_parted f sep {us = us} {ys = ys} xs h n e =
    let t = turn shell h in
    record { spells = rw (e, n) h.spells; goes = t.goes }

pub step_after : {X : Type 0} (f : X → Expr) (p : Expr) {left : ℕ} {e a : Expr} {ts us rest : List What} {ys : List X} {x : X} (xs : List X) → Turns shell left e ts (p ⨾ all (map f xs)) (many a) us → firm a ≡ true → begins_with shell us (first_set shell.list_first a) ≡ true → Reads shell left a us (f x) rest → ys ≡ xs ++ x ∷ [] → Turns shell left e ts (p ⨾ all (map f ys)) (many a) rest
step_after f p {ts = ts} {us = us} {rest = rest} {ys = ys} {x = x} xs t m b h e =
    more_many shell shell_firm t m b h (p ⨾ all (map f ys)) (rw (e, map-append f xs (x ∷ [])) (spell_all_more shell (p ∷ map f xs) (f x) ts us rest t.spells h.spells))

pub start_after : {X : Type 0} (f : X → Expr) {left : ℕ} {e a : Expr} {ts us : List What} {p : Expr} (xs : List X) → Reads shell left e ts p us → xs ≡ [] → Turns shell left (e ⨾ a) ts (p ⨾ all (map f xs)) a us
start_after f xs h n =
    let t = turn shell h in
    record { spells = rw n h.spells; goes = t.goes }

-- rows: the separator is spelled by sep
pub step_row : {X : Type 0} (f : X → Expr) (sep : Expr) {left : ℕ} {e a s : Expr} {ts us vs rest : List What} {ys : List X} {x : X} (xs : List X) → Turns shell left e ts (parted sep (map f xs)) (more a s) us → firm s ≡ true → begins_with shell us (first_set shell.list_first s) ≡ true → Reads shell left s us sep vs → begins_with shell vs (first_set shell.list_first (a ⨾ more a s)) ≡ true → Reads shell left a vs (f x) rest → ys ≡ xs ++ x ∷ [] → Turns shell left e ts (parted sep (map f ys)) (more a s) rest
step_row f sep {ts = ts} {us = us} {vs = vs} {rest = rest} {ys = ys} {x = x} xs t m b y c h e =
    more_row shell shell_firm t m b y c h (parted sep (map f ys)) (rw (e, map-append f xs (x ∷ [])) (spell_parted_more shell sep (map f xs) (f x) ts us rest t.spells (spell_then shell sep (f x) us vs rest y.spells h.spells)))

pub end_row : {left : ℕ} {e a s sep : Expr} {ts us vs : List What} {p : Expr} → Turns shell left e ts p (more a s) us → firm s ≡ true → begins_with shell us (first_set shell.list_first s) ≡ true → Reads shell left s us sep vs → nullable (a ⨾ more a s) ≡ false → begins_with shell vs (first_set shell.list_first (a ⨾ more a s)) ≡ false → Reads shell left e ts (p ⨾ (sep ∣ empty)) vs
end_row {sep = sep} {ts = ts} {us = us} {vs = vs} {p = p} t m b y n c = last_row shell shell_firm t m b y n c (p ⨾ (sep ∣ empty)) (spell_then shell p (sep ∣ empty) ts us vs t.spells (inl y.spells))

-- a row of at least one is a list, and items
pub no_row : (sep : Expr) (ts us : List What) → Spells shell (row sep []) ts us → ⊥
no_row sep ts us h = let k = h.1 in cc

pub listed : {left : ℕ} {e : Expr} {ts us : List What} (ps : List Expr) → Reads shell left e ts (row sequential ps) us → Reads shell left e ts (some_list (list_of ps)) us
listed {ts = ts} {us = us} [] h = absurd (no_row sequential ts us h.spells)
listed (p ∷ ps) h = h

pub itemed : (s : Expr) {left : ℕ} {e : Expr} {ts us : List What} (ps : List Expr) → Reads shell left e ts (row s ps) us → (q : Expr) → ((p : Expr) (qs : List Expr) → ps ≡ p ∷ qs → q ≡ row s ps) → Reads shell left e ts q us
itemed s {ts = ts} {us = us} [] h q k = absurd (no_row s ts us h.spells)
itemed s (p ∷ ps) h q k = rw (k p ps refl) h

-- patterns of an item
spell_patterns : (ps : List Spelling) (q : Spelling) (ts us rest : List What) → Spells shell (patterns_of ps) ts us → Spells shell (pattern_behind q) us rest → Spells shell (patterns_of (ps ++ q ∷ [])) ts rest
spell_patterns [] q ts us rest h k = absurd (let u = h.1 in cc)
spell_patterns (p ∷ ps) q ts us rest h k =
    spell_front shell (first_pattern_of p) (all (map pattern_behind ps)) (all (map pattern_behind (ps ++ q ∷ []))) ts us rest
    (λ vs l. rw (map-append pattern_behind ps (q ∷ [])) (spell_all_more shell (map pattern_behind ps) (pattern_behind q) vs us rest l k)) h

pub start_patterns : {X : Type 0} (f : X → Spelling) {left : ℕ} {e a : Expr} {ts us : List What} {ys : List X} {x : X} (xs : List X) → Reads shell left e ts (first_pattern_of (f x)) us → xs ≡ [] → ys ≡ xs ++ x ∷ [] → Turns shell left (e ⨾ a) ts (patterns_of (map f ys)) a us
start_patterns f xs h n e = let t = turn shell h in record { spells = rw (e, n) h.spells; goes = t.goes }

pub step_patterns : {X : Type 0} (f : X → Spelling) {left : ℕ} {e a : Expr} {ts us rest : List What} {ys : List X} {x : X} (xs : List X) → Turns shell left e ts (patterns_of (map f xs)) (many a) us → firm a ≡ true → begins_with shell us (first_set shell.list_first a) ≡ true → Reads shell left a us (pattern_behind (f x)) rest → ys ≡ xs ++ x ∷ [] → Turns shell left e ts (patterns_of (map f ys)) (many a) rest
step_patterns f {ts = ts} {us = us} {rest = rest} {ys = ys} {x = x} xs t m b h e =
    more_many shell shell_firm t m b h (patterns_of (map f ys)) (rw (e, map-append f xs (x ∷ [])) (spell_patterns (map f xs) (f x) ts us rest t.spells h.spells))
