-- What an expansion makes of a desk's answers, and what it pays.
use Rattle.std.specs.Prelude.{ℕ, Bool, true, false}
use Rattle.em_view.specs.declared.no.DeskNo.{DeskNo}
use Rattle.em_view.specs.declared.no.DeskNo.TheVariants as desk
use Rattle.em_view.specs.Actions.{spend}
use Rattle.em_view.specs.Steps.{Steps, below}
use Rattle.em_expand.specs.declared.no.ExpandNo.{ExpandNo}
use Rattle.em_expand.specs.declared.no.ExpandNo.TheVariants as no
use Rattle.em_expand.specs.declared.spoken.Spoken.{Spoken}

-- what is done over a desk, and says something
abbrev pub Says : Type 0 → Type 0
Says A = Steps Spoken ExpandNo A

-- the one error that may come freely
abbrev pub is_free : ExpandNo → Bool
is_free no.NoMemory = true
is_free _ = false

-- no file is changed, so that no operation is refused
abbrev pub of_desk : DeskNo → ExpandNo
of_desk desk.NoMemory = no.NoMemory
of_desk desk.Spent = no.Spent
of_desk (desk.File f) = no.Spent

unfoldable pub pay : ℕ → Says (Unit {0})
pay n = below of_desk (spend n)
