-- What a history doesn't change: it bears on what jobs wait for, and so on notes, and on nothing else
-- that is built.
--     AreSites s t           only the pairs that are known, and the notes of earlier builds and the
--                            pairs that these have shown, may differ
--     AreProjects p q, AreSteps u v      the same of what there is to build
--     IsSame c d files       two ways to a step make the same calls, and lead to such steps
use Rattle.std.specs.Prelude.{◌≡◌, Result, Ok, Err}
use Rattle.em_host.specs.Outside.{Files}
use Rattle.em_program.specs.declared.project.Project.{Project}
use Rattle.em_program.specs.declared.rounds.BuildStep.{BuildStep}
use Rattle.em_program.specs.declared.site.Site.{Site}
use Rattle.em_program.specs.declared.verdict.BuildStatus.{BuildStatus}
use Rattle.em_program.specs.Course.{Course}

pub record AreSites (s t : Site) : Type 0 where
  pub order : s.order ≡ t.order
  pub start : s.start ≡ t.start
  pub outcomes : s.earlier.outcomes ≡ t.earlier.outcomes

pub record AreProjects (p q : Project) : Type 0 where
  pub order : p.terms.order ≡ q.terms.order
  pub outcomes : p.terms.earlier.outcomes ≡ q.terms.earlier.outcomes
  pub plan : p.terms.plan ≡ q.terms.plan
  pub goals : p.terms.goals ≡ q.terms.goals
  pub start : p.start ≡ q.start
  pub specs : p.specs ≡ q.specs

pub record AreSteps (u v : BuildStep) : Type 0 where
  pub project : AreProjects u.project v.project
  pub remaking : u.remaking ≡ v.remaking

abbrev pub EndAlike : Result BuildStep BuildStatus → Result BuildStep BuildStatus → Type 0
EndAlike (Ok u) (Ok v) = AreSteps u v
EndAlike (Err d) (Err e) = d ≡ e
EndAlike _ _ = ⊥

pub record IsSame (c d : Course BuildStep) (files : Files) : Type 0 where
  pub calls : (c files).calls ≡ (d files).calls
  pub end : EndAlike (c files).end (d files).end
