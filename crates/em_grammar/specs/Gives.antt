-- What a reading of one part of a grammar gives: a tree and what is left, or a fault.
use Rattle.std.specs.Prelude.{◌≡◌, ℕ, Bool, List, [], ◌∷◌, map, Option, Some, None, Result, Ok, Err}
use Rattle.em_grammar.specs.Production.{Production, empty, ◌⨾◌, refused, Front, opens, nothing}
use Rattle.em_grammar.specs.Machine.{Grammar, Stack, run, fault}

-- the first of the tokens is among these classes
abbrev pub begins_with : {T : Type 0} → Grammar T → List T → List ℕ → Bool
begins_with G ts s = opens G.class ts s

-- the tokens up to `rest` are a p, where p has no lists inside
abbrev pub Spells : {T : Type 0} → Grammar T → Production T → List T → List T → Type 0
Spells G p ts rest = Front G.class nothing 0 (λ K us. ⊥) p (λ us. us ≡ rest) ts

abbrev pub all : {T : Type 0} → List (Production T) → Production T
all [] = empty
all (p ∷ ps) = p ⨾ all ps

-- an e is read, a p, and `rest` is left
pub record Reads {T : Type 0} (G : Grammar T) (left : ℕ) (e : Production T) (ts : List T) (p : Production T) (rest : List T) : Type 0 where
  pub spells : Spells G p ts rest
  pub goes : (S : Stack T) → run G ((left, e) ∷ S) ts ≡ run G S rest

-- no e is there: the fault is where `rest` begins
pub record Faults {T : Type 0} (G : Grammar T) (left : ℕ) (e : Production T) (ts : List T) (c : ℕ) (rest : List T) : Type 0 where
  pub stops : (S : Stack T) → run G ((left, e) ∷ S) ts ≡ fault c rest

-- so far: what was read is a p, and f is what is left of e
pub record Turns {T : Type 0} (G : Grammar T) (left : ℕ) (e : Production T) (ts : List T) (p f : Production T) (now : List T) : Type 0 where
  pub spells : Spells G p ts now
  pub goes : (S : Stack T) → run G ((left, e) ∷ S) ts ≡ run G ((left, f) ∷ S) now

-- p's with a separator between two
abbrev pub parted : {T : Type 0} → Production T → List (Production T) → Production T
parted sep [] = refused [] 0
parted sep (p ∷ ps) = p ⨾ all (map (λ q. sep ⨾ q) ps)

pub data Lead (T : Type 0) : Type 0 where
  on : Production T → List T → Lead T
  off : ℕ → List T → Lead T
  -- want of memory
  free : Lead T

abbrev pub Gives : {T : Type 0} → Grammar T → ℕ → Production T → List T → Lead T → Type 0
Gives G left e ts (on p rest) = Reads G left e ts p rest
Gives G left e ts (off c rest) = Faults G left e ts c rest
Gives G left e ts free = Unit {0}

abbrev pub lead_off : {T : Type 0} → Option (ℕ × List T) → Lead T
lead_off None = free
lead_off (Some f) = off f.0 f.1

-- what a function returned, seen by `view` and `why`
abbrev pub lead_of : {T X E : Type 0} → (X → Production T × List T) → (E → Option (ℕ × List T)) → Result X E → Lead T
lead_of view why (Ok x) = on (view x).0 (view x).1
lead_of view why (Err e) = lead_off (why e)

-- the same without the trees: an e is passed; up to here e, and from here f
pub record Passes {T : Type 0} (G : Grammar T) (left : ℕ) (e : Production T) (ts rest : List T) : Type 0 where
  pub goes : (S : Stack T) → run G ((left, e) ∷ S) ts ≡ run G S rest

pub record Moves {T : Type 0} (G : Grammar T) (left : ℕ) (e : Production T) (ts : List T) (f : Production T) (now : List T) : Type 0 where
  pub goes : (S : Stack T) → run G ((left, e) ∷ S) ts ≡ run G ((left, f) ∷ S) now
