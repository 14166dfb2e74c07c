use Rattle.std.proofs.Common.{◌∙◌, subst, Some}
use Rattle.em_tree.specs.declared.state.State.{State}
use Rattle.em_tree.specs.Answers.{answer}
use Rattle.em_view.specs.Performs.{AreTrue}
use Rattle.em_view.proofs.Performing.{agreed_with}
use Rattle.em_workers.proofs.next.rerun.Goals as goal

pub commit_run-requires-clause-agrees : goal.commit_run-requires-clause-agrees
commit_run-requires-clause-agrees g c =
    agreed_with _ _ (subst (λ (s : State). AreTrue (λ i q. Some (answer s q)) c.in_ok-run.run'.usage) (c.new-view.ensures ∙ c.new.ensures ∙ c.state.ensures.state) c.in_ok-run.ensures.told)
