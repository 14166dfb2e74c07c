use Rattle.em_view.proofs.Doing.{owned_s, refused_s, gave_s}
use Rattle.em_expand.proofs.Making.{given_s}
use Rattle.em_expand.proofs.put.put_plain.Goals as goal

pub returns-in-Text : goal.returns-in-Text
returns-in-Text g c = rw c.in-Text.is (given_s _ c.text_value.ensures)

pub returns-in-Name : goal.returns-in-Name
returns-in-Name g c = rw c.in-Name.is (gave_s _ c.name_value.ensures)

pub returns-in-Value : goal.returns-in-Value
returns-in-Value g c = rw c.in-Value.is (gave_s _ (rw (c.text_of.ensures, c.nth-first.ensures) at c.put.ensures))

pub returns-in-Origin : goal.returns-in-Origin
returns-in-Origin g c = rw c.in-Origin.is (gave_s _ (rw (c.origin_of.ensures, c.nth-first.ensures) at c.put-in-Origin.ensures))

pub returns-in-Flavour : goal.returns-in-Flavour
returns-in-Flavour g c = rw c.in-Flavour.is (gave_s _ (rw (c.flavour_of.ensures, c.nth-first.ensures) at c.put-in-Flavour.ensures))

pub returns-in-Eval : goal.returns-in-Eval
returns-in-Eval g c = rw c.in-Eval.is (owned_s _ (rw c.nth-first.ensures at c.keep.ensures))

pub returns-in-Info : goal.returns-in-Info
returns-in-Info g c = rw c.in-Info.is (owned_s _ (rw c.nth-first.ensures at c.info.ensures))

pub returns-in-Warning : goal.returns-in-Warning
returns-in-Warning g c = rw c.in-Warning.is (owned_s _ (rw c.nth-first.ensures at c.warn.ensures))

pub returns-in-Error : goal.returns-in-Error
returns-in-Error g c = rw c.in-Error.is (refused_s _ (rw c.nth-first.ensures at c.user_error.ensures))
