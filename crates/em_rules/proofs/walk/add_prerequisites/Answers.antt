use Rattle.std.proofs.Common.{sym, append-nil}
use Rattle.em_rules.proofs.Indexing.{none_past, get_at}
use Rattle.em_rules.proofs.walk.add_prerequisites.Goals as goal

pub returns-in-None : goal.returns-in-None
returns-in-None c = rw (none_past c.args.rules.now c.args.number c.in-None.ensures.lookup.3) (sym (append-nil c.args.list.now))

pub returns-in-Some : goal.returns-in-Some
returns-in-Some c = rw (get_at c.args.rules.now c.args.number c.in-Some.rule.now c.in-Some.ensures.lookup.3.0 c.in-Some.ensures.lookup.1) c.add_rule.ensures
