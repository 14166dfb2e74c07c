-- A production in EBNF, and what it means.
--     Front .. e K ts      ts begins with an e, and what follows it is in the language K
-- Tokens are read by their class, a number.
use Rattle.std.specs.Prelude.{◌≡◌, ◌⊎◌, ℕ, zero, suc, ◌==◌, Bool, true, false, ◌||◌, IsTrue, List, [], ◌∷◌}

infixr 6 ◌⨾◌
infixr 5 ◌∣◌
pub data Production (T : Type 0) : Type 0 where
  -- nothing
  empty : Production T
  -- one token of these classes; this very token, which is of these classes
  one : List ℕ → Production T
  this : List ℕ → T → Production T
  -- one after the other; one or the other; any number
  ◌⨾◌ : Production T → Production T → Production T
  ◌∣◌ : Production T → Production T → Production T
  many : Production T → Production T
  -- what follows the first a in a row of a's with an s between two and perhaps at the end: { s a }
  -- [ s ]
  more : Production T → Production T → Production T
  -- a token of these classes, which takes one of the levels that are left, and what goes on on this
  -- level
  nested : List ℕ → Production T → Production T
  -- on a level: the whole grammar's list, one level deeper
  inner : Production T
  -- nothing, where no token of these classes follows
  last : List ℕ → Production T
  -- any number of e's and of brackets in balance, where so many brackets are open already: a token
  -- of the first classes opens one, one of the second closes one
  balanced : ℕ → List ℕ → Production T → List ℕ → Production T
  -- a token of these classes here is refused, as this construct
  refused : List ℕ → ℕ → Production T

abbrev pub Lang : Type 0 → Type 1
Lang T = List T → Type 0

abbrev pub is_among : ℕ → List ℕ → Bool
is_among n [] = false
is_among n (x ∷ xs) = (n == x) || is_among n xs

-- the first token is a t with P, and K goes on
abbrev pub Reads : {T : Type 0} → (T → Type 0) → Lang T → Lang T
Reads P K [] = ⊥
Reads P K (t ∷ ts) = P t × K ts

-- the first token is of these classes
abbrev pub opens : {T : Type 0} → (T → ℕ) → List T → List ℕ → Bool
opens class [] s = false
opens class (t ∷ ts) s = is_among (class t) s

abbrev pub Times : {T : Type 0} → ℕ → (Lang T → Lang T) → Lang T → Lang T
Times zero f K = K
Times (suc n) f K = f (Times n f K)

-- n e's and brackets, with k open at the begin and none at the end
abbrev pub Closes : {T : Type 0} → (T → ℕ) → ℕ → List ℕ → (ℕ → Lang T) → Lang T
Closes class zero c L ts = ⊥
Closes class (suc k) c L ts = Reads (λ t. IsTrue (is_among (class t) c)) (L k) ts

abbrev pub Balance : {T : Type 0} → (T → ℕ) → ℕ → ℕ → List ℕ → (Lang T → Lang T) → List ℕ → Lang T → Lang T
Balance class zero zero o f c K = K
Balance class zero (suc k) o f c K = λ ts. ⊥
Balance class (suc n) k o f c K = λ ts. f (Balance class n k o f c K) ts ⊎ (Reads (λ t. IsTrue (is_among (class t) o)) (Balance class n (suc k) o f c K) ts ⊎ Closes class k c (λ j. Balance class n j o f c K) ts)

-- Which constructs, by their number, may end a line, and with which tokens. In the language itself
-- none does.
abbrev pub Ending : Type 0 → Type 0
Ending T = ℕ → List T → Bool

abbrev pub nothing : {T : Type 0} → Ending T
nothing c ts = false

-- the construct that is too deep
abbrev pub depth : ℕ
depth = 1

-- a token of these classes stands here, and the line ends with the construct
abbrev pub Ended : {T : Type 0} → (T → ℕ) → Ending T → List ℕ → ℕ → Lang T
Ended class ending s c ts = (opens class ts s ≡ true) × (ending c ts ≡ true)

-- where a level is left the token is read; else what it opens is too deep
abbrev pub Opened : {T : Type 0} → (T → ℕ) → Ending T → ℕ → List ℕ → Lang T → Lang T
Opened class ending zero s K ts = Ended class ending s depth ts
Opened class ending (suc n) s K ts = Reads (λ t. IsTrue (is_among (class t) s)) K ts

-- with `left` levels left, and `deeper` for what a list one level deeper is
abbrev pub Front : {T : Type 0} → (T → ℕ) → Ending T → ℕ → (Lang T → Lang T) → Production T → Lang T → Lang T
Front class ending left deeper empty K = K
Front class ending left deeper (one s) K = Reads (λ t. IsTrue (is_among (class t) s)) K
Front class ending left deeper (this s u) K = Reads (λ t. IsTrue (is_among (class t) s) × (t ≡ u)) K
Front class ending left deeper (e ⨾ f) K = Front class ending left deeper e (Front class ending left deeper f K)
Front class ending left deeper (e ∣ f) K = λ ts. Front class ending left deeper e K ts ⊎ Front class ending left deeper f K ts
Front class ending left deeper (many e) K = λ ts. (n : ℕ) × Times n (Front class ending left deeper e) K ts
Front class ending left deeper (more a s) K = λ ts. (n : ℕ) × Times n (λ L. Front class ending left deeper s (Front class ending left deeper a L)) (λ us. K us ⊎ Front class ending left deeper s K us) ts
Front class ending left deeper (nested s e) K = Opened class ending left s (Front class ending left deeper e K)
Front class ending left deeper inner K = deeper K
Front class ending left deeper (last s) K = λ ts. (opens class ts s ≡ false) × K ts
Front class ending left deeper (balanced k o e c) K = λ ts. (n : ℕ) × Balance class n k o (Front class ending left deeper e) c K ts
Front class ending left deeper (refused s c) K = Ended class ending s c

-- the list of the grammar, below which this many levels are left
unfoldable pub Below : {T : Type 0} → (T → ℕ) → Ending T → Production T → ℕ → Lang T → Lang T
Below class ending list zero K ts = ⊥
Below class ending list (suc n) K ts = Front class ending n (Below class ending list n) list K ts

-- at the end
abbrev pub Ends : {T : Type 0} → Lang T
Ends [] = Unit {0}
Ends (t ∷ ts) = ⊥

-- the tokens are an e, with `left` levels left; or they are one up to a construct that may end the
-- line
abbrev pub IsWith : {T : Type 0} → (T → ℕ) → Ending T → Production T → ℕ → Production T → List T → Type 0
IsWith class ending list left e ts = Front class ending left (Below class ending list left) e Ends ts

abbrev pub Is : {T : Type 0} → (T → ℕ) → Production T → ℕ → Production T → List T → Type 0
Is class list left e ts = IsWith class nothing list left e ts
