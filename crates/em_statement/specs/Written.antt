-- Words of the laws.
--     IsBlotted shape text     byte by byte, that of the text or an `x`
--     IsWritten text a         a text with an assignment's name, an operator's sign and the value, in this order, and blanks round the name and sign
use Rattle.std.specs.Prelude.{◌≡◌, ◌⊎◌, ℕ, List, [], ◌∷◌, ◌++◌, All, true, codes}
use Rattle.em_base.specs.Blanks.{is_blank}
use Rattle.em_statement.specs.declared.assignment.Assignment.{Assignment}
use Rattle.em_statement.specs.declared.assignment.Operator.{Operator}
use Rattle.em_statement.specs.declared.assignment.Operator.TheVariants.{Recursive, Simple, IfUndefined, Append, Shell, Posix}

abbrev pub IsBlotted : List ℕ → List ℕ → Type 0
IsBlotted [] [] = Unit {0}
IsBlotted (s ∷ ss) (t ∷ ts) = ((s ≡ t) ⊎ (s ≡ 120)) × IsBlotted ss ts
IsBlotted [] (t ∷ ts) = ⊥
IsBlotted (s ∷ ss) [] = ⊥

-- how an operator is written
abbrev pub Spells : Operator → List ℕ → Type 0
Spells Recursive sign = sign ≡ codes "="
Spells Simple sign = (sign ≡ codes ":=") ⊎ (sign ≡ codes "::=")
Spells IfUndefined sign = sign ≡ codes "?="
Spells Append sign = sign ≡ codes "+="
Spells Shell sign = sign ≡ codes "!="
Spells Posix sign = sign ≡ codes ":::="

abbrev pub AllBlank : List ℕ → Type 0
AllBlank text = All (λ b. is_blank b ≡ true) text

pub record IsWritten (text : List ℕ) (a : Assignment) : Type 0 where
  pub before : List ℕ
  pub behind : List ℕ
  pub sign : List ℕ
  pub ahead : List ℕ
  pub whole : text ≡ (before ++ (a.name ++ behind)) ++ (sign ++ (ahead ++ a.value))
  pub spelled : Spells a.operator sign
  pub blanks : AllBlank before × AllBlank behind × AllBlank ahead
