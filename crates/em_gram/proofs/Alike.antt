-- When what two patterns spell from one place on tells them apart.
use Rattle.std.proofs.Common.{◌≡◌, inl, inr, ℕ, zero, suc, ◌<◌, Bool, true, false, List, [], ◌∷◌, length, map, refl, sym, ap, subst, ◌∙◌, arith}
use Rattle.em_grammar.specs.Production.{empty, one, this, ◌⨾◌, ◌∣◌, Lang, Times}
use Rattle.em_grammar.specs.Checks.{apart, within}
use Rattle.em_grammar.specs.Gives.{begins_with, Spells, all, parted}
use Rattle.em_grammar.proofs.Cutting.{cut}
use Rattle.em_lexeme.specs.declared.lexeme.What.{What}
use Rattle.em_token.specs.Kinds.{kinds}
use Rattle.em_token.specs.Shell.{shell, Expr, key, newlines}
use Rattle.em_gram.specs.Patterns.{row as row_of}
use Rattle.em_gram.specs.Same.{Shape, row}
use Rattle.em_token.specs.declared.kind.Kind.TheVariants.{Newline}
use Rattle.em_gram.proofs.Starting.{Pat, begins_key, begins_wider, not_begins}

-- none of these follows
abbrev pub Ends : List ℕ → List What → Type 0
Ends s ts = begins_with shell ts s ≡ false

pub ends_within : (s u : List ℕ) → within s u ≡ true → (ts : List What) → Ends u ts → Ends s ts
ends_within s u w ts e = at (begins_with shell ts s) refl
  where
    at : (b : Bool) → begins_with shell ts s ≡ b → b ≡ false
    at true i = absurd (let k = begins_wider s u w ts i in cc)
    at false i = refl

pub clash : (s u : List ℕ) → apart s u ≡ true → (ts : List What) → begins_with shell ts s ≡ true → begins_with shell ts u ≡ true → ⊥
clash s u a ts b c = let k = not_begins s u a ts c in cc

pub over : (s u : List ℕ) → within s u ≡ true → (ts : List What) → begins_with shell ts s ≡ true → Ends u ts → ⊥
over s u w ts b e = let k = begins_wider s u w ts b in cc

-- what is spelled begins with one of these
pub record Begins (p : Expr) (s : List ℕ) : Type 1 where
  pub begins : (K : Lang What) (ts : List What) → Pat p K ts → begins_with shell ts s ≡ true

-- where none of G follows, it begins with none of F
pub record Fits (p : Expr) (G F : List ℕ) : Type 0 where
  pub fits : (ts r : List What) → Spells shell p ts r → Ends G r → Ends F ts

-- before what begins with none of F both are spelled from one place on, which has fewer than n
-- lexemes behind it, only if C, and up to one place
pub record Agree (n : ℕ) (p q : Expr) (F : List ℕ) (C : Type 0) : Type 0 where
  pub agrees : (ts r s : List What) → length ts < n → Spells shell p ts r → Spells shell q ts s → Ends F r → Ends F s → C × (r ≡ s)

-- what begins
pub begin_one : (s u : List ℕ) → within s u ≡ true → Begins (one s) u
begin_one s u w = record { begins = λ K ts h. begins_wider s u w ts (begins_key s K ts h) }

pub begin_then : {p q : Expr} {s : List ℕ} → Begins p s → Begins (p ⨾ q) s
begin_then {q = q} b = record { begins = λ K ts h. b.begins (Pat q K) ts h }

pub begin_wider : {p : Expr} (s u : List ℕ) → within s u ≡ true → Begins p s → Begins p u
begin_wider s u w b = record { begins = λ K ts h. begins_wider s u w ts (b.begins K ts h) }

pub begin_as : {p q : Expr} {s : List ℕ} → q ≡ p → Begins p s → Begins q s
begin_as {s = s} e b = subst (λ (z : Expr). Begins z s) (sym e) b

-- what fits
pub fit : {p : Expr} {s G F : List ℕ} → apart F s ≡ true → Begins p s → Fits p G F
fit {s = s} {F = F} a b = record { fits = λ ts r h e. not_begins F s a ts (b.begins (λ us. us ≡ r) ts h) }

pub fit_empty : {G F : List ℕ} → within F G ≡ true → Fits empty G F
fit_empty {G = G} {F = F} w = record { fits = λ ts r h e. ends_within F G w ts (rw h e) }

pub fit_then : {p q : Expr} {G M F : List ℕ} → Fits p M F → Fits q G M → Fits (p ⨾ q) G F
fit_then {p = p} {q = q} a b = record { fits = λ ts r h e. let c = cut shell p q ts r h in a.fits ts c.at c.first (b.fits c.at r c.second e) }

pub fit_either : {p q : Expr} {G F : List ℕ} → Fits p G F → Fits q G F → Fits (p ∣ q) G F
fit_either {p = p} {q = q} {G = G} {F = F} a b = record { fits = at }
  where
    at : (ts r : List What) → Spells shell (p ∣ q) ts r → Ends G r → Ends F ts
    at ts r (inl h) e = a.fits ts r h e
    at ts r (inr h) e = b.fits ts r h e

pub fit_as : {p q : Expr} {G F : List ℕ} → q ≡ p → Fits p G F → Fits q G F
fit_as {G = G} {F = F} e b = subst (λ (z : Expr). Fits z G F) (sym e) b

-- what agrees
pub agree_map : {n : ℕ} {p q : Expr} {F : List ℕ} {A B : Type 0} → (A → B) → Agree n p q F A → Agree n p q F B
agree_map k a = record { agrees = λ ts r s l h g e f. let x = a.agrees ts r s l h g e f in (k x.0, x.1) }

pub agree_as : {n : ℕ} {p q p' q' : Expr} {F : List ℕ} {A : Type 0} → p' ≡ p → q' ≡ q → Agree n p q F A → Agree n p' q' F A
agree_as {n = n} {F = F} {A = A} e f a = rw (e, f) a

pub agree_less : {n : ℕ} {p q : Expr} {F : List ℕ} {A : Type 0} → Agree (suc n) p q F A → Agree n p q F A
agree_less a = record { agrees = λ ts r s l h g e f. a.agrees ts r s (omega (arith, l)) h g e f }

pub agree_before : {n : ℕ} {p q : Expr} {A : Type 0} (F G : List ℕ) → within F G ≡ true → Agree n p q F A → Agree n p q G A
agree_before F G w a = record { agrees = λ ts r s l h g e f. a.agrees ts r s l h g (ends_within F G w r e) (ends_within F G w s f) }

pub agree_respelled : {n : ℕ} {p q p' q' : Expr} {F : List ℕ} {A : Type 0} → ((ts r : List What) → Spells shell p' ts r → Spells shell p ts r) → ((ts r : List What) → Spells shell q' ts r → Spells shell q ts r) → Agree n p q F A → Agree n p' q' F A
agree_respelled i j a = record { agrees = λ ts r s l h g e f. a.agrees ts r s l (i ts r h) (j ts s g) e f }

pub agree_one : {n : ℕ} {F : List ℕ} (k k' : List ℕ) → Agree n (one k) (one k') F (Unit {0})
agree_one {n = n} {F = F} k k' = record { agrees = at }
  where
    at : (ts r s : List What) → length ts < n → Spells shell (one k) ts r → Spells shell (one k') ts s → Ends F r → Ends F s → Unit {0} × (r ≡ s)
    at [] r s l h g e f = absurd h
    at (t ∷ ts) r s l h g e f = (tt, sym h.1 ∙ g.1)

pub agree_this : {n : ℕ} {F : List ℕ} (k k' : List ℕ) (u v : What) → Agree n (this k u) (this k' v) F (u ≡ v)
agree_this {n = n} {F = F} k k' u v = record { agrees = at }
  where
    at : (ts r s : List What) → length ts < n → Spells shell (this k u) ts r → Spells shell (this k' v) ts s → Ends F r → Ends F s → (u ≡ v) × (r ≡ s)
    at [] r s l h g e f = absurd h
    at (t ∷ ts) r s l h g e f = (sym h.0.1 ∙ g.0.1, sym h.1 ∙ g.1)

-- one behind the other
pub agree_then : {n : ℕ} {p p' q q' : Expr} {F G : List ℕ} {A B : Type 0} → Agree n p p' F A → (A → Agree n q q' G B) → Fits q G F → Fits q' G F → Agree n (p ⨾ q) (p' ⨾ q') G (A × B)
agree_then {n = n} {p = p} {p' = p'} {q = q} {q' = q'} {F = F} {G = G} {A = A} {B = B} a b i j = record { agrees = at }
  where
    at : (ts r s : List What) → length ts < n → Spells shell (p ⨾ q) ts r → Spells shell (p' ⨾ q') ts s → Ends G r → Ends G s → (A × B) × (r ≡ s)
    at ts r s l h g e f =
        let c = cut shell p q ts r h in
        let d = cut shell p' q' ts s g in
        let x = a.agrees ts c.at d.at l c.first d.first (i.fits c.at r c.second e) (j.fits d.at s d.second f) in
        let g' : Spells shell q' c.at s = rw x.1 d.second in
        let m : length c.at < n = let w = c.within in omega (arith, l, w) in
        let k : Agree n q q' G B = b x.0 in
        let y = k.agrees c.at r s m c.second g' e f in
        ((x.0, y.0), y.1)

-- behind one lexeme there are fewer
pub agree_behind : {n : ℕ} {q q' : Expr} {G : List ℕ} {B : Type 0} (k k' : List ℕ) → Agree n q q' G B → Agree (suc n) (one k ⨾ q) (one k' ⨾ q') G B
agree_behind {n = n} {q = q} {q' = q'} {G = G} {B = B} k k' a = record { agrees = at }
  where
    at : (ts r s : List What) → length ts < suc n → Spells shell (one k ⨾ q) ts r → Spells shell (one k' ⨾ q') ts s → Ends G r → Ends G s → B × (r ≡ s)
    at [] r s l h g e f = absurd h
    at (t ∷ ts) r s l h g e f = a.agrees ts r s (omega (arith, l)) h.1 g.1 e f

pub agree_behind_this : {n : ℕ} {q q' : Expr} {G : List ℕ} {B : Type 0} (k k' : List ℕ) (u v : What) → (u ≡ v → Agree n q q' G B) → Agree (suc n) (this k u ⨾ q) (this k' v ⨾ q') G ((u ≡ v) × B)
agree_behind_this {n = n} {q = q} {q' = q'} {G = G} {B = B} k k' u v a = record { agrees = at }
  where
    at : (ts r s : List What) → length ts < suc n → Spells shell (this k u ⨾ q) ts r → Spells shell (this k' v ⨾ q') ts s → Ends G r → Ends G s → ((u ≡ v) × B) × (r ≡ s)
    at [] r s l h g e f = absurd h
    at (t ∷ ts) r s l h g e f =
        let i : u ≡ v = sym h.0.1 ∙ g.0.1 in
        let b : Agree n q q' G B = a i in
        let x = b.agrees ts r s (omega (arith, l)) h.1 g.1 e f in
        ((i, x.0), x.1)

-- newlines
newline_rows : (m k : ℕ) (ts r s : List What) → Times m (Pat (key Newline)) (λ us. us ≡ r) ts → Times k (Pat (key Newline)) (λ us. us ≡ s) ts → Ends (kinds (Newline ∷ [])) r → Ends (kinds (Newline ∷ [])) s → r ≡ s
newline_rows zero zero ts r s h g e f = sym h ∙ g
newline_rows zero (suc k) [] r s h g e f = absurd g
newline_rows zero (suc k) (t ∷ ts) r s h g e f = absurd (let i : begins_with shell (t ∷ ts) (kinds (Newline ∷ [])) ≡ true = g.0 in let j : Ends (kinds (Newline ∷ [])) (t ∷ ts) = subst (λ (z : List What). Ends (kinds (Newline ∷ [])) z) (sym h) e in cc)
newline_rows (suc m) zero [] r s h g e f = absurd h
newline_rows (suc m) zero (t ∷ ts) r s h g e f = absurd (let i : begins_with shell (t ∷ ts) (kinds (Newline ∷ [])) ≡ true = h.0 in let j : Ends (kinds (Newline ∷ [])) (t ∷ ts) = subst (λ (z : List What). Ends (kinds (Newline ∷ [])) z) (sym g) f in cc)
newline_rows (suc m) (suc k) [] r s h g e f = absurd h
newline_rows (suc m) (suc k) (t ∷ ts) r s h g e f = newline_rows m k ts r s h.1 g.1 e f

pub agree_newlines : {n : ℕ} → Agree n newlines newlines (kinds (Newline ∷ [])) (Unit {0})
agree_newlines = record { agrees = λ ts r s l h g e f. (tt, newline_rows h.0 g.0 ts r s h.1 g.1 e f) }

newlines_fit_by : (G F : List ℕ) → apart F (kinds (Newline ∷ [])) ≡ true → within F G ≡ true → (m : ℕ) (ts r : List What) → Times m (Pat (key Newline)) (λ us. us ≡ r) ts → Ends G r → Ends F ts
newlines_fit_by G F a w zero ts r h e = ends_within F G w ts (rw h e)
newlines_fit_by G F a w (suc m) [] r h e = absurd h
newlines_fit_by G F a w (suc m) (t ∷ ts) r h e = not_begins F (kinds (Newline ∷ [])) a (t ∷ ts) h.0

pub newlines_fit : {G F : List ℕ} → apart F (kinds (Newline ∷ [])) ≡ true → within F G ≡ true → Fits newlines G F
newlines_fit {G = G} {F = F} a w = record { fits = λ ts r h e. newlines_fit_by G F a w h.0 ts r h.1 e }

-- more ways to agree
pub fit_none : {p : Expr} {G : List ℕ} → Fits p G []
fit_none = record { fits = λ ts r h e. none ts }
  where
    none : (ts : List What) → Ends [] ts
    none [] = refl
    none (t ∷ ts) = refl

pub agree_apart : {n : ℕ} {p q : Expr} {F : List ℕ} {A : Type 0} (s u : List ℕ) → Begins p s → Begins q u → apart s u ≡ true → Agree n p q F A
agree_apart s u b c a = record { agrees = λ ts r t l h g e f. absurd (clash s u a ts (b.begins (λ us. us ≡ r) ts h) (c.begins (λ us. us ≡ t) ts g)) }

pub agree_empty : {n : ℕ} {F : List ℕ} → Agree n empty empty F (Unit {0})
agree_empty = record { agrees = λ ts r s l h g e f. (tt, sym h ∙ g) }

-- what is there in one alone
pub agree_left : {n : ℕ} {p : Expr} {F : List ℕ} {A : Type 0} (s : List ℕ) → Begins p s → within s F ≡ true → Agree n p empty F A
agree_left {F = F} s b w = record { agrees = λ ts r t l h g e f. absurd (over s F w ts (b.begins (λ us. us ≡ r) ts h) (rw g f)) }

pub agree_right : {n : ℕ} {p : Expr} {F : List ℕ} {A : Type 0} (s : List ℕ) → Begins p s → within s F ≡ true → Agree n empty p F A
agree_right {F = F} s b w = record { agrees = λ ts r t l h g e f. absurd (over s F w ts (b.begins (λ us. us ≡ t) ts g) (rw h e)) }

-- parts that are the same in both, in front or at the end
pub fixed_then : {n : ℕ} {p q q' : Expr} {G : List ℕ} {B : Type 0} → Agree n p p [] (Unit {0}) → Agree n q q' G B → Agree n (p ⨾ q) (p ⨾ q') G B
fixed_then a b = agree_map (λ i. i.1) (agree_then a (λ i. b) fit_none fit_none)

pub then_fixed : {n : ℕ} {p q q' : Expr} {F : List ℕ} {B : Type 0} → Agree n q q' F B → Agree n p p [] (Unit {0}) → Fits p [] F → Agree n (q ⨾ p) (q' ⨾ p) [] B
then_fixed b a i = agree_map (λ i. i.0) (agree_then b (λ i. a) i i)

-- rows of parts that begin with S, before what doesn't
module _ {X : Type 0} (f : X → Expr) (shape : X → Shape) (S E F : List ℕ) (begin : (x : X) → Begins (f x) S) (a : apart E S ≡ true) (v : within S F ≡ true) (w : within E F ≡ true) where
  pub all_fit : (xs : List X) → Fits (all (map f xs)) F E
  all_fit [] = fit_empty w
  all_fit (x ∷ xs) = fit a (begin_then (begin x))

  module _ (n : ℕ) (agree : (x y : X) → Agree n (f x) (f y) E (shape x ≡ shape y)) where
    pub agree_all : (xs ys : List X) → Agree n (all (map f xs)) (all (map f ys)) F (row (map shape xs) ≡ row (map shape ys))
    agree_all [] [] = record { agrees = λ ts r s l h g e k. (refl, sym h ∙ g) }
    agree_all [] (y ∷ ys) = record { agrees = λ ts r s l h g e k. absurd (over S F v ts ((begin y).begins (Pat (all (map f ys)) (λ us. us ≡ s)) ts g) (rw h e)) }
    agree_all (x ∷ xs) [] = record { agrees = λ ts r s l h g e k. absurd (over S F v ts ((begin x).begins (Pat (all (map f xs)) (λ us. us ≡ r)) ts h) (rw g k)) }
    agree_all (x ∷ xs) (y ∷ ys) = agree_map (λ i. rw (i.0, i.1) refl) (agree_then (agree x y) (λ i. agree_all xs ys) (all_fit xs) (all_fit ys))

-- what follows an item in a row with separators
pub behind_of : {X : Type 0} (sep : Expr) (f : X → Expr) (xs : List X) → map (λ q. sep ⨾ q) (map f xs) ≡ map (λ x. sep ⨾ f x) xs
behind_of sep f [] = refl
behind_of sep f (x ∷ xs) = ap (λ l. (sep ⨾ f x) ∷ l) (behind_of sep f xs)

-- rows with a separator between two and perhaps at the end: P begins a separator, S an item, and N
-- none of these follows a separator
module _ {X : Type 0} (f : X → Expr) (shape : X → Shape) (sep : Expr) (P N S E F : List ℕ) (part : Begins sep P) (begin : (x : X) → Begins (f x) S) (a : apart E P ≡ true) (b : apart N S ≡ true) (v : within P F ≡ true) (u : within S F ≡ true) (w : within E F ≡ true) (m : within N F ≡ true) (n : ℕ) (agree_sep : Agree n sep sep N (Unit {0})) (agree : (x y : X) → Agree n (f x) (f y) E (shape x ≡ shape y)) where
  abbrev Tail : List X → Expr
  Tail xs = all (map (λ x. sep ⨾ f x) xs) ⨾ (sep ∣ empty)

  tail_begins : (x : X) (xs : List X) (ts r : List What) → Spells shell (Tail (x ∷ xs)) ts r → begins_with shell ts P ≡ true
  tail_begins x xs ts r h = part.begins (Pat (f x) (Pat (all (map (λ x. sep ⨾ f x) xs)) (Pat (sep ∣ empty) (λ us. us ≡ r)))) ts h

  tail_fit : (xs : List X) → Fits (Tail xs) F E
  tail_fit [] = record { fits = λ ts r h e. let b : Fits (sep ∣ empty) F E = fit_either (fit a part) (fit_empty w) in b.fits ts r h e }
  tail_fit (x ∷ xs) = record { fits = λ ts r h e. not_begins E P a ts (tail_begins x xs ts r h) }

  -- after a separator an item follows in one, and the end in the other
  no_item : (x : X) (xs : List X) (ts r s : List What) → length ts < n → Spells shell (Tail (x ∷ xs)) ts r → Spells shell (sep ∣ empty) ts s → Ends F s → ⊥
  no_item x xs ts r s l h (inr g) e = over P F v ts (tail_begins x xs ts r h) (rw g e)
  no_item x xs ts r s l h (inl g) e =
      let c = cut shell sep (f x ⨾ Tail xs) ts r h in
      let i = (begin x).begins (Pat (Tail xs) (λ us. us ≡ r)) c.at c.second in
      let y = agree_sep.agrees ts c.at s l c.first g (not_begins N S b c.at i) (ends_within N F m s e) in
      over S F u c.at i (rw y.1 e)

  agree_end : Agree n (sep ∣ empty) (sep ∣ empty) F (Unit {0})
  agree_end = record { agrees = at }
    where
      at : (ts r s : List What) → length ts < n → Spells shell (sep ∣ empty) ts r → Spells shell (sep ∣ empty) ts s → Ends F r → Ends F s → Unit {0} × (r ≡ s)
      at ts r s l (inl h) (inl g) e k = agree_sep.agrees ts r s l h g (ends_within N F m r e) (ends_within N F m s k)
      at ts r s l (inl h) (inr g) e k = absurd (over P F v ts (part.begins (λ us. us ≡ r) ts h) (rw g k))
      at ts r s l (inr h) (inl g) e k = absurd (over P F v ts (part.begins (λ us. us ≡ s) ts g) (rw h e))
      at ts r s l (inr h) (inr g) e k = (tt, sym h ∙ g)

  item_fit : (x : X) (q : Expr) → Fits (f x ⨾ q) F N
  item_fit x q = fit b (begin_then (begin x))

  agree_tail : (xs ys : List X) → Agree n (Tail xs) (Tail ys) F (row (map shape xs) ≡ row (map shape ys))
  agree_tail [] [] = agree_map (λ i. refl) (fixed_then agree_empty agree_end)
  agree_tail [] (y ∷ ys) = record { agrees = λ ts r s l h g e k. absurd (no_item y ys ts s r l g h e) }
  agree_tail (x ∷ xs) [] = record { agrees = λ ts r s l h g e k. absurd (no_item x xs ts r s l h g k) }
  agree_tail (x ∷ xs) (y ∷ ys) =
      agree_respelled (λ ts r h. h) (λ ts r h. h)
      (agree_map (λ i. rw (i.1.0, i.1.1) refl) (agree_then agree_sep (λ j. agree_then (agree x y) (λ i. agree_tail xs ys) (tail_fit xs) (tail_fit ys)) (item_fit x (Tail xs)) (item_fit y (Tail ys))))

  pub agree_row : (x y : X) (xs ys : List X) → Agree n (row_of sep (map f (x ∷ xs))) (row_of sep (map f (y ∷ ys))) F (row (map shape (x ∷ xs)) ≡ row (map shape (y ∷ ys)))
  agree_row x y xs ys =
      rw (behind_of sep f xs, behind_of sep f ys)
      (agree_respelled (λ ts r h. h) (λ ts r h. h) (agree_map (λ i. rw (i.0, i.1) refl) (agree_then (agree x y) (λ i. agree_tail xs ys) (tail_fit xs) (tail_fit ys))))

-- a row of at least one with separators between two
module _ {X : Type 0} (f : X → Expr) (shape : X → Shape) (sep : Expr) (P N S E F : List ℕ) (part : Begins sep P) (begin : (x : X) → Begins (f x) S) (a : apart E P ≡ true) (b : apart N S ≡ true) (v : within P F ≡ true) (w : within E F ≡ true) (n : ℕ) (agree_sep : Agree n sep sep N (Unit {0})) (agree : (x y : X) → Agree n (f x) (f y) E (shape x ≡ shape y)) where
  agree_behind_sep : (x y : X) → Agree n (sep ⨾ f x) (sep ⨾ f y) E (shape x ≡ shape y)
  agree_behind_sep x y = agree_map (λ i. i.1) (agree_then agree_sep (λ i. agree x y) (fit b (begin x)) (fit b (begin y)))

  begin_behind : (x : X) → Begins (sep ⨾ f x) P
  begin_behind x = begin_then part

  pub agree_parted : (xs ys : List X) → Agree n (parted sep (map f xs)) (parted sep (map f ys)) F (row (map shape xs) ≡ row (map shape ys))
  agree_parted [] ys = record { agrees = λ ts r s l h g e k. absurd (let i = h.1 in cc) }
  agree_parted (x ∷ xs) [] = record { agrees = λ ts r s l h g e k. absurd (let i = g.1 in cc) }
  agree_parted (x ∷ xs) (y ∷ ys) =
      rw (behind_of sep f xs, behind_of sep f ys)
      (agree_map (λ i. rw (i.0, i.1) refl)
      (agree_then (agree x y) (λ i. agree_all (λ z. sep ⨾ f z) shape P E F begin_behind a v w n agree_behind_sep xs ys)
      (all_fit (λ z. sep ⨾ f z) shape P E F begin_behind a v w xs) (all_fit (λ z. sep ⨾ f z) shape P E F begin_behind a v w ys)))
