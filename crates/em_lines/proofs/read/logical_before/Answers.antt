use Rattle.std.proofs.Common.{◌≡◌, map, rules, sym, ap, ◌∙◌}
use Rattle.std.proofs.lemmas.Iterator.Consumers.{YieldsList-end}
use Rattle.std.proofs.lemmas.Iterator.Adapters.{YieldsList-from_vec}
use Rattle.em_base.proofs.Lemmas.{map_map}
use Rattle.em_lines.specs.Lines.{logical}
use Rattle.em_lines.specs.Kept.{bared}
use Rattle.em_lines.proofs.Numbered.{mapped, logical_bared}
use Rattle.em_lines.proofs.read.logical_before.Goals as goal

pub returns : goal.returns
returns c =
    let items = c.into_vec-line-items.result in
    let given = c.into_iter-line-iterator.ensures.into_iter_gives in
    let all = YieldsList-end (YieldsList-from_vec items.items given.0 (given.1 ∙ search rules)) c.loop-line.yielded c.loop-line.line-iterator c.loop-line.yielded_by c.next.result c.next.new.self c.in-None.is c.next.ensures.steps in
    let lines : c.loop-line.bared ≡ map bared c.in_ok-lines.field-0.lines = c.loop-line.invariant.done ∙ sym (map_map bared (λ y. y) c.loop-line.yielded) ∙ ap (map bared) (all.0 ∙ c.into_vec-line-items.ensures) in
    let told : logical c.args.file.now c.args.bytes.now ≡ mapped c.in_ok-lines.field-0 = logical_bared c.args.file.now c.args.bytes.now ∙ ap mapped (sym c.in_ok-lines.ensures) in
    cc (lines, told, c.loop-line.invariant.end)
