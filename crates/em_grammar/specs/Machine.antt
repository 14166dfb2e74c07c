-- The machine that reads by a grammar, with one token of lookahead: a stack of what is still to
-- come.
use Rattle.std.specs.Prelude.{ℕ, zero, suc, Bool, true, false, ◌||◌, ◌&&◌, cond, List, [], ◌∷◌, ◌++◌}
use Rattle.em_grammar.specs.Production.{Production, empty, one, this, ◌⨾◌, ◌∣◌, many, more, nested, inner, last, balanced, refused, is_among, depth}

-- a grammar: its list, with the classes that begin one (its first set) and those that may follow
-- one (its follow set)
pub record Grammar (T : Type 0) : Type 0 where
  pub class : T → ℕ
  pub list : Production T
  pub list_first : List ℕ
  pub list_follow : List ℕ

abbrev pub nullable : {T : Type 0} → Production T → Bool
nullable empty = true
nullable (one s) = false
nullable (this s u) = false
nullable (e ⨾ f) = nullable e && nullable f
nullable (e ∣ f) = nullable e || nullable f
nullable (many e) = true
nullable (more a s) = true
nullable (nested s e) = false
nullable inner = false
nullable (last s) = true
nullable (balanced zero o e c) = true
nullable (balanced (suc k) o e c) = false
nullable (refused s c) = false

-- the classes of the tokens that may begin it
abbrev pub first_set : {T : Type 0} → List ℕ → Production T → List ℕ
first_set begins empty = []
first_set begins (one s) = s
first_set begins (this s u) = []
first_set begins (e ⨾ f) = first_set begins e ++ cond (nullable e) (first_set begins f) []
first_set begins (e ∣ f) = first_set begins e ++ first_set begins f
first_set begins (many e) = first_set begins e
first_set begins (more a s) = first_set begins s
first_set begins (nested s e) = s
first_set begins inner = begins
first_set begins (last s) = []
first_set begins (balanced zero o e c) = o ++ first_set begins e
first_set begins (balanced (suc k) o e c) = o ++ (first_set begins e ++ c)
first_set begins (refused s c) = s

abbrev pub Stack : Type 0 → Type 0
Stack T = List (ℕ × Production T)

-- what a token leads to: a stack, or the fault at it. 0 is unexpected, others are constructs
pub data Next (T : Type 0) : Type 0 where
  goes : Stack T → Next T
  stops : ℕ → Next T

abbrev pub opened : {T : Type 0} → ℕ → Production T → Stack T → Next T
opened zero e S = stops depth
opened (suc n) e S = goes ((suc n, e) ∷ S)

-- a bracket is closed, where one is open
abbrev pub closed : {T : Type 0} → ℕ → Bool → (ℕ → Stack T) → Next T → Next T
closed zero b S next = next
closed (suc k) b S next = cond b (goes (S k)) (stops 0)

-- the token t in front of an e that S follows; `next` is where it leads if there is nothing of e
abbrev pub step : {T : Type 0} → Grammar T → ℕ → (T → Stack T → Next T → Next T) → Production T → T → Stack T → Next T → Next T
step G left deeper empty t S next = next
step G left deeper (one s) t S next = cond (is_among (G.class t) s) (goes S) (stops 0)
step G left deeper (this s u) t S next = stops 0
step G left deeper (e ⨾ f) t S next = step G left deeper e t ((left, f) ∷ S) (step G left deeper f t S next)
step G left deeper (e ∣ f) t S next = cond (is_among (G.class t) (first_set G.list_first e)) (step G left deeper e t S next) (step G left deeper f t S next)
step G left deeper (many e) t S next = cond (is_among (G.class t) (first_set G.list_first e)) (step G left deeper e t ((left, many e) ∷ S) (stops 0)) next
step G left deeper (more a s) t S next = cond (is_among (G.class t) (first_set G.list_first s)) (step G left deeper s t ((left, (a ⨾ more a s) ∣ empty) ∷ S) (stops 0)) next
step G left deeper (nested s e) t S next = cond (is_among (G.class t) s) (opened left e S) (stops 0)
step G left deeper inner t S next = deeper t S next
step G left deeper (last s) t S next = cond (is_among (G.class t) s) (stops 0) next
step G left deeper (balanced k o e c) t S next =
    cond (is_among (G.class t) o) (goes ((left, balanced (suc k) o e c) ∷ S))
    (cond (is_among (G.class t) (first_set G.list_first e)) (step G left deeper e t ((left, balanced k o e c) ∷ S) (stops 0))
    (closed k (is_among (G.class t) c) (λ j. (left, balanced j o e c) ∷ S) next))
step G left deeper (refused s c) t S next = stops (cond (is_among (G.class t) s) c 0)

unfoldable pub step_below : {T : Type 0} → Grammar T → ℕ → T → Stack T → Next T → Next T
step_below G zero t S next = stops 0
step_below G (suc n) t S next = step G n (step_below G n) G.list t S next

abbrev pub steps : {T : Type 0} → Grammar T → Stack T → T → Next T
steps G [] t = stops 0
steps G ((left, e) ∷ S) t = step G left (step_below G left) e t S (steps G S t)

abbrev pub may_end : {T : Type 0} → Stack T → Bool
may_end [] = true
may_end ((left, e) ∷ S) = nullable e && may_end S

-- the tokens are read, or the fault with what is left from where it stands on
pub data Outcome (T : Type 0) : Type 0 where
  done : Outcome T
  fault : ℕ → List T → Outcome T

abbrev pub after : {T : Type 0} → (Stack T → Outcome T) → Next T → List T → Outcome T
after f (goes S) ts = f S
after f (stops c) ts = fault c ts

unfoldable pub run : {T : Type 0} → Grammar T → Stack T → List T → Outcome T
run G S [] = cond (may_end S) done (fault 0 [])
run G S (t ∷ ts) = after (λ S'. run G S' ts) (steps G S t) (t ∷ ts)
