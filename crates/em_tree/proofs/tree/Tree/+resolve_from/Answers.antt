use Rattle.std.proofs.Common.{sym, ◌∙◌, arith}
use Rattle.em_tree.specs.Resolving.{links_in}
use Rattle.em_tree.proofs.Resolving.{way_bad, way_next_ok}
use Rattle.em_tree.proofs.tree.Tree.+resolve_from.Goals as goal

pub returns-in-Some-2 : goal.returns-in-Some-2
returns-in-Some-2 t c = way_next_ok (links_in c.args.self.now) c.args.left c.args.p c.in-Some-2.q c.in-Some.met c.resolve_from.result (omega arith) (sym c.in_ok-met.ensures ∙ c.in-Some.is) (sym c.in_ok-q.ensures ∙ c.in-Some-2.is) c.resolve_from.ensures

pub returns : goal.returns
returns t c = way_bad (links_in c.args.self.now) c.args.left c.args.p c.in-Some.met (omega arith) (sym c.in_ok-met.ensures ∙ c.in-Some.is) (sym c.in_ok-q.ensures ∙ c.in-None.is)
