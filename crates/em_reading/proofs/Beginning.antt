-- A rule that was judged begins.
use Rattle.std.proofs.Common.{◌≡◌, ℕ, length, Option, Some, None, Ok, refl}
use Rattle.em_rules.specs.declared.rule.Rule.{Rule}
use Rattle.em_rules.specs.declared.book.BookNo.{BookNo}
use Rattle.em_rules.specs.Static.{undotted_rule}
use Rattle.em_rules.specs.Books.{unless}
use Rattle.em_reading.specs.declared.reading.Reading.{Reading}
use Rattle.em_reading.specs.Changes.{Changed, begin_by}

pub begins : (r : Reading) (rule judged known : Rule) (around : ℕ) (f : Option BookNo) → unless f rule ≡ Ok judged → known ≡ undotted_rule judged → around ≡ length r.opened
    → ◌≡◌ {A = Changed} (Ok (tt, record r { begun = Some known; around = around })) (begin_by (undotted_rule rule) f r)
begins r rule judged known around None passed is size = let same : judged ≡ rule = cc in rw (is, same, size) refl
begins r rule judged known around (Some e) passed is size = absurd cc
