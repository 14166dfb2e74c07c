use Rattle.std.proofs.Common.{◌≡◌, ◌++◌, append-nil, sym, ap, ◌∙◌}
use Rattle.std.specs.List.{flat_map}
use Rattle.std.proofs.lemmas.List.{take_rest}
use Rattle.em_base.proofs.Lemmas.{none_at}
use Rattle.em_refs.specs.Parts.{parted, left}
use Rattle.em_lines.specs.Folding.{folded_references, folded_part}
use Rattle.em_lines.proofs.fold.folded_references.Goals as goal
use Rattle.em_lines.proofs.fold.folded_references.Goals.{in-Some+in_ok-add, in_default}

pub returns : goal.returns
unfolding folded_references
returns c =
    let line = c.args.line.now in
    let text = c.loop-part.text in
    let unclosed = c.in_ok-parts.field-0.unclosed in
    let parts : flat_map (folded_part line) (parted line).parts ≡ text = c.loop-part.invariant ∙ ap (λ ps. text ++ flat_map (folded_part line) ps) (none_at c.items-part-items.result.now c.loop-part.part-index c.loop-part-test.false) ∙ append-nil text in
    let whole : folded_references line ≡ text ++ left line unclosed = ap (λ t. t ++ left line (parted line).unclosed) parts ∙ ap (λ p. text ++ left line p.unclosed) (sym c.in_ok-parts.ensures) in
    elim c.match-unclosed.branch [
      | in-Some+in_ok-add w ↦ w.text-is ∙ w.in_ok-add.ensures.ok ∙ ap (λ r. text ++ r) (w.of.ensures ∙ take_rest line _) ∙ sym (whole ∙ ap (λ u. text ++ left line u) w.in-Some.is)
      | in_default w ↦ w.text-is ∙ sym (whole ∙ ap (λ u. text ++ left line u) w.in_default.is ∙ append-nil text)
    ]
