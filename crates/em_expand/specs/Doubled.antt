-- A text with each `$` doubled.
use Rattle.std.specs.Prelude.{ℕ, ◌==◌, List, [], ◌∷◌, if◌then◌else◌}

abbrev pub doubled : List ℕ → List ℕ
doubled [] = []
doubled (b ∷ bs) = if b == 36 then 36 ∷ 36 ∷ doubled bs else b ∷ doubled bs
