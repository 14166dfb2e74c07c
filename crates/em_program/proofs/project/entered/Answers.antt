use Rattle.std.proofs.Common.{◌≡◌, ℕ, List, None, sym, ◌∙◌}
use Rattle.em_path.specs.Paths.{root_text}
use Rattle.em_path.specs.Reading.{read_fault}
use Rattle.em_program.proofs.Following.{but, finish}
use Rattle.em_program.proofs.Ends.{entered_dir, entered_other, entered_none, if_err}
use Rattle.em_program.proofs.project.entered.Goals as goal

pub returns-in-Dir-clause-told : goal.returns-in-Dir-clause-told
returns-in-Dir-clause-told g c =
    let ok = rw c.root.ensures.text at c.in-Ok.ensures.ok in
    rw (entered_dir _ _ _ ok.0 ok.1 (sym c.in_ok-kind-in-Ok.ensures ∙ c.in-Dir.is)) finish

pub returns-in-Ok-clause-told : goal.returns-in-Ok-clause-told
returns-in-Ok-clause-told g c =
    let ok = rw c.root.ensures.text at c.in-Ok.ensures.ok in
    rw (entered_other _ _ _ ok.0 ok.1 (λ dir. c.in_default.not-Dir (c.in_ok-kind-in-Ok.ensures ∙ dir))) c.no_dir.ensures.told

pub returns-in-Ok-clause-path : goal.returns-in-Ok-clause-path
returns-in-Ok-clause-path g c = if_err (λ (p : List ℕ). read_fault root_text c.args.name.now ≡ None) c.no_dir.result c.no_dir.ensures.ends

pub returns-clause-told : goal.returns-clause-told
returns-clause-told g c =
    rw (entered_none _ _ _ (but c.in_default-no.not-NoMemory (rw c.root.ensures.text at c.in-Err.ensures.err))) c.no_dir-in_default-no.ensures.told

pub returns-clause-path : goal.returns-clause-path
returns-clause-path g c = if_err (λ (p : List ℕ). read_fault root_text c.args.name.now ≡ None) c.no_dir-in_default-no.result c.no_dir-in_default-no.ensures.ends
