use Rattle.std.proofs.Common.{◌∙◌, sym}
use Rattle.em_view.specs.Rows.{names_below}
use Rattle.em_view.proofs.Performing.{then, finish}
use Rattle.em_view.proofs.Below.{owned}
use Rattle.em_view.proofs.desk.Desk.names_below.Goals as goal

pub returns-in-None-clause-performs : goal.returns-in-None-clause-performs
unfolding names_below
returns-in-None-clause-performs g c = then _ (owned c.args.self.now c.args.p.now _ c.in-None.ensures) c.other_names.ensures.performs

pub returns-then-is_dir-clause-performs : goal.returns-then-is_dir-clause-performs
unfolding names_below
returns-then-is_dir-clause-performs g c = then _ (owned c.args.self.now c.args.p.now _ c.in-Some.ensures) (rw (sym c.is_dir.ensures ∙ c.if-is_dir.true) c.made_names.ensures.performs)

pub returns-else-is_dir-clause-performs : goal.returns-else-is_dir-clause-performs
unfolding names_below
returns-else-is_dir-clause-performs g c = then _ (owned c.args.self.now c.args.p.now _ c.in-Some.ensures) (rw (sym c.is_dir.ensures ∙ c.if-is_dir.false) finish)
