-- Components each behind a slash: a path's text, but nothing for the root.
use Rattle.std.specs.Prelude.{ℕ, List, ◌∷◌}
use Rattle.std.specs.List.{flat_map}

abbrev pub spelled : List (List ℕ) → List ℕ
spelled cs = flat_map (λ (d : List ℕ). 47 ∷ d) cs
