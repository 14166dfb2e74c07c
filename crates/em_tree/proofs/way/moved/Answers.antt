use Rattle.std.proofs.Common.{rules, ◌∙◌, sym}
use Rattle.em_tree.proofs.Resolving.{moved_else}
use Rattle.em_tree.proofs.way.moved.Goals as goal

pub returns : goal.returns
returns c = moved_else c.args.base c.args.link.now c.args.p.now c.as_slice.result.now c.in_ok-from_text.field-0 (sym c.eq.ensures ∙ c.if-eq.false) (search rules) (search rules) (search rules)
