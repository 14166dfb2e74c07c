-- What holds of each row of the table of functions holds of the one of a name, if there is one.
use Rattle.std.proofs.Common.{ℕ, cond, List, [], ◌∷◌, Option, Some, None}
use Rattle.std.specs.List.{AllByRecursion, find}
use Rattle.em_base.proofs.Lemmas.{by_cases}
use Rattle.em_expand.specs.Table.{Row, table, is_named, function_of}

abbrev pub Where : (Row → Type 0) → Option Row → Type 0
Where P None = Unit {0}
Where P (Some r) = P r

found : (P : Row → Type 0) (name : List ℕ) (rows : List Row) → AllByRecursion P rows → Where P (find (is_named name) rows)
found P name [] h = tt
found P name (r ∷ rows) h = by_cases (is_named name r) (λ b. Where P (cond b (Some r) (find (is_named name) rows))) (λ _. h.0) (λ _. found P name rows h.1)

pub known : (P : Row → Type 0) → AllByRecursion P table → (name : List ℕ) → Where P (function_of name)
unfolding function_of
known P h name = found P name table h
