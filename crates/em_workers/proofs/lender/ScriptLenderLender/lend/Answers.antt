use Rattle.std.proofs.Common.{◌∙◌, ap, refl}
use Rattle.em_workers.specs.Lending.{Lending, first_of}
use Rattle.std.specs.Prelude.{IfSome}
use Rattle.std.proofs.lemmas.List.Elements.{All-drop}
use Rattle.em_shared.specs.Waited.{IsLent}
use Rattle.em_workers.proofs.Lending.{first_lent}
use Rattle.em_workers.proofs.lender.ScriptLenderLender.lend.Goals as goal

pub invariant_of-self : goal.invariant_of-self
invariant_of-self g c = rw c.first_of.ensures.left (All-drop (λ o. IfSome o IsLent) 1 _ c.self.invariant)

pub returns-clause-lent : goal.returns-clause-lent
returns-clause-lent g c = rw c.first_of.ensures.first (first_lent (λ o. IfSome o IsLent) _ tt c.self.invariant)

pub returns-clause-told : goal.returns-clause-told
returns-clause-told g c = record {
  lent_is = c.first_of.ensures.first ∙ ap (λ (l : Lending g.row.S.Denot). first_of l.lends) c.self.view_is;
  left = rw (← c.self.view_is, c.first_of.ensures.left, c.goes_on-self-inside.ensures) refl;
}
