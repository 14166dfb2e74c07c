use Rattle.std.proofs.Common.{◌≡◌, ◌∙◌, sym}
use Rattle.em_fields.proofs.Joining.{last_marked}
use Rattle.em_fields.proofs.part.ends_marked.Goals as goal

pub returns-in-Some : goal.returns-in-Some
returns-in-Some c = c.is_mark.ensures ∙ sym (last_marked _ _ _ c.in-Some.ensures.cases.0)
