-- Names as they are known: a name's leading `./` are dropped.
use Rattle.std.specs.Prelude.{ℕ, zero, suc, ◌==◌, ◌&&◌, List, [], ◌∷◌, if◌then◌else◌}

abbrev pub undotted : List ℕ → List ℕ
undotted [] = []
undotted (a ∷ []) = a ∷ []
undotted (a ∷ b ∷ rest) = if (a == 46) && (b == 47) then undotted rest else a ∷ b ∷ rest

-- so many `./`
abbrev pub dots : ℕ → List ℕ
dots zero = []
dots (suc k) = 46 ∷ 47 ∷ dots k
