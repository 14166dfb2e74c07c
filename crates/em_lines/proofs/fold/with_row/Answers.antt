use Rattle.std.proofs.Common.{◌++◌, ◌∷◌, sym, ap, ◌∙◌}
use Rattle.em_lines.specs.Joining.{goes_on}
use Rattle.em_lines.specs.Folding.{folded_rows}
use Rattle.em_lines.proofs.Folded.{joined_first}
use Rattle.em_lines.proofs.fold.with_row.Goals as goal

pub returns-then-goes_on : goal.returns-then-goes_on
returns-then-goes_on c = λ more.
    ap (λ rest. c.args.text.now ++ rest) (joined_first c.args.joined.items c.args.row.now more (sym (c.if-goes_on.ensures ∙ ap goes_on c.as_slice.ensures.value)) ∙ ap (λ t. folded_rows (t ∷ more)) (sym c.in_ok-splice.ensures))
