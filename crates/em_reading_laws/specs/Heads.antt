-- Words of the laws on what is refused in a rule.
--     HasNo c text            the byte stands nowhere in the text
--     NamesNoSuffixes head    `.SUFFIXES`, which is refused by what stands behind the colon, is no target
use Rattle.std.specs.Prelude.{◌≡◌, ◌≢◌, ℕ, All, List, false, Some, codes}
use Rattle.std.specs.Str.{bytes_eq}
use Rattle.em_rules.specs.Dots.{undotted}
use Rattle.em_statement.specs.declared.head.Head.{Head}
use Rattle.em_statement.specs.Heads.{head_of}

abbrev pub HasNo : ℕ → List ℕ → Type 0
HasNo c text = All (λ b. b ≢ c) text

abbrev pub NamesNoSuffixes : List ℕ → Type 0
NamesNoSuffixes text = (h : Head) → head_of text ≡ Some h → All (λ t. bytes_eq (undotted t) (codes ".SUFFIXES") ≡ false) h.targets
