use Rattle.std.proofs.Common.{◌∙◌, sym, ap, List, ℕ}
use Rattle.em_path.specs.Reading.{resolve, resolved_text}
use Rattle.em_path.proofs.Walking.{resolve_names, text_spelled, text_names}
use Rattle.em_path.proofs.path.Path.read.Goals as goal

pub within-requires-clause-spelled : goal.within-requires-clause-spelled
within-requires-clause-spelled c =
    let cwd = c.args.cwd.now in
    let name = c.args.name.now in
    let faultless = sym c.name_fault.ensures ∙ c.in_default.is in
    let is = c.in_ok-resolved.ensures ∙ ap (λ (q : List ℕ). resolved_text q name) c.text.ensures.text in
    text_spelled c.in_ok-resolved.field-0.items (resolve cwd name) (resolve_names cwd name c.text.ensures.path faultless) is

pub within-requires-clause-names : goal.within-requires-clause-names
within-requires-clause-names c =
    let cwd = c.args.cwd.now in
    let name = c.args.name.now in
    let faultless = sym c.name_fault.ensures ∙ c.in_default.is in
    let is = c.in_ok-resolved.ensures ∙ ap (λ (q : List ℕ). resolved_text q name) c.text.ensures.text in
    text_names c.in_ok-resolved.field-0.items (resolve cwd name) (resolve_names cwd name c.text.ensures.path faultless) is
