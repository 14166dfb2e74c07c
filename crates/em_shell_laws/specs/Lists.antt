-- Pipelines joined by `&&` and `||`.
use Rattle.std.specs.Prelude.{◌≡◌, List, [], ◌∷◌, ◌++◌}
use Rattle.em_syntax.specs.declared.tree.AndOr.{AndOr, out-AndOr}
use Rattle.em_syntax.specs.declared.tree.Joined.{Joined}

-- the second list is the first one with one more pipeline joined behind it
abbrev pub IsWith : AndOr → Joined → AndOr → Type 0
IsWith a j b = ((out-AndOr b).first ≡ (out-AndOr a).first) × ((out-AndOr b).rest.items ≡ (out-AndOr a).rest.items ++ j ∷ [])
