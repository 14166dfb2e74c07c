-- Passing over arguments.
--     behind n ps    what stands behind the end of the outermost of n arguments that are open
use Rattle.std.specs.Prelude.{ℕ, zero, suc, List, [], ◌∷◌}
use Rattle.em_syntax.specs.declared.tree.WordPiece.{WordPiece}
use Rattle.em_syntax.specs.Nesting.{Nesting, Stays, Opens, Closes, nesting_of}

abbrev pub still_open : Nesting → ℕ → ℕ
still_open Stays n = suc n
still_open Opens n = suc (suc n)
still_open Closes n = n

abbrev pub behind : ℕ → List WordPiece → List WordPiece
behind zero ps = ps
behind (suc n) [] = []
behind (suc n) (p ∷ ps) = behind (still_open (nesting_of p) n) ps
