use Rattle.std.proofs.Common.{sym, ◌∙◌}
use Rattle.em_fileutil.proofs.Linked.{link_texts}
use Rattle.em_fileutil.proofs.link.is_link_text.Goals as goal

pub returns-then-text-le1024-clause-holds : goal.returns-then-text-le1024-clause-holds
returns-then-text-le1024-clause-holds c = link_texts c.args.text.now c.are_plain.result c.are_plain.ensures (sym c.if-text-le1024.true.0 ∙ c.is_empty.ensures) c.if-text-le1024.true.1
