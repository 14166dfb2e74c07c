-- What is asked of a grammar, each a test that computes: that it is LL(1), and that what it has
-- begun can be completed.
use Rattle.std.specs.Prelude.{ℕ, zero, suc, Bool, true, false, ◌||◌, ◌&&◌, not, cond, List, [], ◌∷◌, ◌++◌}
use Rattle.em_grammar.specs.Production.{Production, empty, one, this, ◌⨾◌, ◌∣◌, many, more, nested, inner, last, balanced, refused, is_among}
use Rattle.em_grammar.specs.Machine.{Grammar, first_set, nullable}

abbrev pub apart : List ℕ → List ℕ → Bool
apart [] ys = true
apart (x ∷ xs) ys = not (is_among x ys) && apart xs ys

abbrev pub within : List ℕ → List ℕ → Bool
within [] ys = true
within (x ∷ xs) ys = is_among x ys && within xs ys

abbrev pub without : List ℕ → List ℕ → List ℕ
without [] s = []
without (x ∷ xs) s = cond (is_among x s) (without xs s) (x ∷ without xs s)

-- the classes that a token may have in front of an e that F follows
abbrev pub lookahead : {T : Type 0} → List ℕ → Production T → List ℕ → List ℕ
lookahead begins empty F = F
lookahead begins (one s) F = s
lookahead begins (this s u) F = []
lookahead begins (e ⨾ f) F = lookahead begins e (lookahead begins f F)
lookahead begins (e ∣ f) F = lookahead begins e F ++ lookahead begins f F
lookahead begins (many e) F = first_set begins e ++ F
lookahead begins (more a s) F = first_set begins s ++ F
lookahead begins (nested s e) F = s
lookahead begins inner F = begins
lookahead begins (last s) F = without F s
lookahead begins (balanced zero o e c) F = o ++ (first_set begins e ++ F)
lookahead begins (balanced (suc k) o e c) F = o ++ (first_set begins e ++ c)
lookahead begins (refused s c) F = s

-- LL(1): with F for what may follow it, the next token tells how an e is read
abbrev pub decided : {T : Type 0} → Grammar T → Production T → List ℕ → Bool
decided G empty F = true
decided G (one s) F = true
decided G (this s u) F = false
decided G (e ⨾ f) F = decided G e (lookahead G.list_first f F) && decided G f F
decided G (e ∣ f) F = decided G e F && (decided G f F && (not (nullable e) && apart (first_set G.list_first e) (lookahead G.list_first f F)))
decided G (many e) F = decided G e (first_set G.list_first e ++ F) && (not (nullable e) && apart (first_set G.list_first e) F)
decided G (more a s) F = decided G s (first_set G.list_first a ++ F) && (decided G a (first_set G.list_first s ++ F) && (not (nullable s) && (not (nullable a) && (apart (first_set G.list_first s) F && apart (first_set G.list_first a) F))))
decided G (nested s e) F = decided G e F
decided G inner F = within F G.list_follow
decided G (last s) F = true
decided G (balanced k o e c) F = decided G e (o ++ (first_set G.list_first e ++ (c ++ F))) && (not (nullable e) && (apart o (first_set G.list_first e ++ (c ++ F)) && apart (first_set G.list_first e) (c ++ F)))
decided G (refused s c) F = true

-- How a stack is completed. `deep`: a level is left; there are tokens of these classes; `clear`:
-- what follows begins with none of `words`. what completes an e begins with none of the words
abbrev mutual
  pub clears : {T : Type 0} → Bool → List ℕ → List ℕ → Production T → Bool → Bool
  clears deep classes words empty b = b
  clears deep classes words (one []) b = false
  clears deep classes words (one (c ∷ s)) b = not (is_among c words)
  clears deep classes words (this s u) b = false
  clears deep classes words (e ⨾ f) b = clears deep classes words e (clears deep classes words f b)
  clears deep classes words (e ∣ f) b = cond (lives deep classes words e b) (clears deep classes words e b) (clears deep classes words f b)
  clears deep classes words (many e) b = b
  clears deep classes words (more a s) b = clears deep classes words s b
  clears deep classes words (nested [] e) b = false
  clears deep classes words (nested (c ∷ s) e) b = not (is_among c words)
  clears deep classes words inner b = false
  clears deep classes words (last s) b = b
  clears deep classes words (balanced k o e []) b = false
  clears deep classes words (balanced k o e (x ∷ c)) b = b && not (is_among x words)
  clears deep classes words (refused s c) b = false

  -- something completes an e
  pub lives : {T : Type 0} → Bool → List ℕ → List ℕ → Production T → Bool → Bool
  lives deep classes words empty b = true
  lives deep classes words (one []) b = false
  lives deep classes words (one (c ∷ s)) b = is_among c classes
  lives deep classes words (this s u) b = false
  lives deep classes words (e ⨾ f) b = lives deep classes words e (clears deep classes words f b) && lives deep classes words f b
  lives deep classes words (e ∣ f) b = lives deep classes words e b || lives deep classes words f b
  lives deep classes words (many e) b = true
  lives deep classes words (more a s) b = lives deep classes words s b
  lives deep classes words (nested [] e) b = false
  lives deep classes words (nested (c ∷ s) e) b = (deep && is_among c classes) && lives deep classes words e b
  lives deep classes words inner b = deep
  lives deep classes words (last s) b = b && within s words
  lives deep classes words (balanced k o e []) b = false
  lives deep classes words (balanced k o e (x ∷ c)) b = is_among x classes
  lives deep classes words (refused s c) b = false

-- what follows a token in it can be completed
abbrev pub stays : {T : Type 0} → Bool → List ℕ → List ℕ → Production T → Bool → Bool
stays deep classes words empty b = true
stays deep classes words (one s) b = true
stays deep classes words (this s u) b = true
stays deep classes words (e ⨾ f) b = stays deep classes words e (clears deep classes words f b) && (lives deep classes words f b && stays deep classes words f b)
stays deep classes words (e ∣ f) b = stays deep classes words e b && stays deep classes words f b
stays deep classes words (many e) b = stays deep classes words e b
stays deep classes words (more a s) b = stays deep classes words s (clears deep classes words ((a ⨾ more a s) ∣ empty) b) && (stays deep classes words a (clears deep classes words s b) && lives deep classes words s b)
stays deep classes words (nested s e) b = not deep || (lives deep classes words e b && stays deep classes words e b)
stays deep classes words inner b = true
stays deep classes words (last s) b = true
stays deep classes words (balanced k o e c) b = lives deep classes words (balanced k o e c) b && stays deep classes words e (clears deep classes words (balanced k o e c) b)
stays deep classes words (refused s c) b = true

-- takes a token in any case
abbrev pub firm : {T : Type 0} → Production T → Bool
firm empty = false
firm (one s) = true
firm (this s u) = true
firm (e ⨾ f) = firm e || firm f
firm (e ∣ f) = firm e && firm f
firm (many e) = false
firm (more a s) = false
firm (nested s e) = true
firm inner = true
firm (last s) = false
firm (balanced k o e c) = false
firm (refused s c) = true
