-- How the refusals of lower layers are called in a reading.
use Rattle.std.specs.Prelude.{Bool, true, false}
use Rattle.em_base.specs.declared.place.Place.{Place}
use Rattle.em_view.specs.declared.no.DeskNo.{DeskNo}
use Rattle.em_view.specs.declared.no.DeskNo.TheVariants as desk
use Rattle.em_expand.specs.declared.no.ExpandNo.{ExpandNo}
use Rattle.em_expand.specs.declared.no.ExpandNo.TheVariants as no
use Rattle.em_reading.specs.declared.no.MakefileFault.{MakefileFault}
use Rattle.em_reading.specs.declared.no.MakefileFault.TheVariants as fault
use Rattle.em_rules.specs.declared.book.BookNo.{BookNo}
use Rattle.em_rules.specs.declared.book.BookNo.TheVariants as book_no
use Rattle.em_reading.specs.declared.no.RuleNo.TheVariants as rule_no
use Rattle.em_reading.specs.declared.no.ReadNo.{ReadNo}
use Rattle.em_reading.specs.declared.no.ReadNo.TheVariants.{At, NoMemory}

-- the one error that may come freely
abbrev pub is_free : ReadNo → Bool
is_free NoMemory = true
is_free _ = false

abbrev pub at_place : Place → MakefileFault → ReadNo
at_place p f = At p f

abbrev pub of_expand : Place → ExpandNo → ReadNo
of_expand p no.NoMemory = NoMemory
of_expand p no.Spent = At p fault.Spent
of_expand p (no.Refused name) = At p (fault.Refused name)
of_expand p e = At p (fault.Expand e)

abbrev pub of_book : Place → BookNo → ReadNo
of_book p book_no.NoMemory = NoMemory
of_book p (book_no.Static target) = At p (fault.Rule (rule_no.Static target))
of_book p (book_no.Group target) = At p (fault.Rule (rule_no.Group target))
of_book p (book_no.Mixed target) = At p (fault.Rule (rule_no.Mixed target))

-- a reading changes no file, so that no operation is refused
abbrev pub of_desk : Place → DeskNo → ReadNo
of_desk p desk.NoMemory = NoMemory
of_desk p desk.Spent = At p fault.Spent
of_desk p (desk.File f) = At p fault.Spent
