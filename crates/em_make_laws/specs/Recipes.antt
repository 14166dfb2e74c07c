-- Words of the laws on recipes.
use Rattle.std.specs.Prelude.{◌≡◌, ◌≢◌, ◌⊎◌, ◌++◌, All, ℕ, false, List, [], ◌∷◌, Some, codes}
use Rattle.em_vars.specs.Entries.{Entries, value_of}
use Rattle.em_expand.specs.Layered.{automatic}
use Rattle.em_plan.specs.declared.planned.PlanJob.{PlanJob}
use Rattle.em_recipe.specs.declared.mark.Marks.{Marks}
use Rattle.em_recipe.specs.Automatic.{with_automatic}

-- among the variables with which a job's recipe is expanded the one of this name is automatic, and
-- this is its text
abbrev pub Reads : Entries → PlanJob → List (List ℕ) → List ℕ → List ℕ → Type 0
Reads vars job newer name text = value_of (with_automatic vars job newer) name ≡ Some (automatic text)

abbrev pub HasNo : ℕ → List ℕ → Type 0
HasNo c bytes = All (λ b. b ≢ c) bytes

-- a name, the directory that it says, and the file in it
pub record Parted : Type 0 where
  pub word : List ℕ
  pub directory : List ℕ
  pub file : List ℕ

-- they stand in front of the last slash and behind it; a name without one is in `.`
abbrev pub IsParted : Parted → Type 0
IsParted p = HasNo 47 p.file × ((p.word ≡ p.directory ++ 47 ∷ p.file) ⊎ ((p.word ≡ p.file) × (p.directory ≡ codes ".")))

abbrev pub unmarked : Marks
unmarked = record { silent = false; lenient = false; forced = false }

-- the text begins with no blank and with no mark
abbrev pub BeginsPlain : List ℕ → Type 0
BeginsPlain [] = Unit {0}
BeginsPlain (b ∷ bs) = (b ≢ 32) × (b ≢ 9) × (b ≢ 64) × (b ≢ 45) × (b ≢ 43)

abbrev pub EndsWith : ℕ → List ℕ → Type 0
EndsWith b text = (front : List ℕ) × (text ≡ front ++ b ∷ [])

-- each newline has a backslash in front of it
abbrev pub AreEscaped : List ℕ → Type 0
AreEscaped text = (front rest : List ℕ) → text ≡ front ++ 10 ∷ rest → EndsWith 92 front
