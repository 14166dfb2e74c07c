use Rattle.std.proofs.Common.{◌≡◌, ◌∙◌, ◌-◌, ℕ, List, ap, length, drop}
use Rattle.std.specs.List.{concat}
use Rattle.std.proofs.lemmas.List.{take_rest}
use Rattle.bstr.specs.Text.{lines_of}
use Rattle.em_lineutil.specs.Lines.{tail}
use Rattle.em_lineutil.proofs.Passing.{back_is, text_parted}
use Rattle.em_lineutil.proofs.line.tail.Goals as goal

pub returns : goal.returns
unfolding tail
returns c =
    let text = c.args.text.now in
    let ls = lines_of text in
    let left : c.length_behind-left.result ≡ length (concat (drop (length ls - c.args.n) ls)) = c.length_behind-left.ensures.count ∙ ap (λ k. length (concat (drop k ls))) (c.saturating_sub-passed.ensures ∙ ap (λ m. m - c.args.n) c.count_lines.ensures) in
    take_rest text (length text - c.length_behind-left.result) ∙ rw left (back_is _ _ _ (text_parted (length ls - c.args.n) text))
