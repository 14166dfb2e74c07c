-- The first fault of a list of tokens in a language.
use Rattle.std.specs.Prelude.{◌≡◌, List, [], ◌∷◌, ◌++◌}
use Rattle.em_grammar.specs.Production.{Lang}

-- nothing goes on from here: the tokens before aren't enough, or with the next one there is no way
-- on
abbrev pub Stops : {T : Type 0} → Lang T → List T → List T → Type 0
Stops L before [] = L before → ⊥
Stops L before (t ∷ ts) = (more : List _) → L (before ++ t ∷ more) → ⊥

-- the first token after which nothing of the language goes on, or the end, is where `rest` begins
pub record IsFirstFault {T : Type 0} (L : Lang T) (tokens rest : List T) : Type 0 where
  pub before : List T
  pub whole : tokens ≡ before ++ rest
  -- up to it something goes on
  pub goes_on : (more : List T) × L (before ++ more)
  pub stops : Stops L before rest
