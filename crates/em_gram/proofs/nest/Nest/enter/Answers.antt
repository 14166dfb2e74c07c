use Rattle.std.proofs.Common.{rules}
use Rattle.em_gram.proofs.Nested.{parts_add, opens_add}
use Rattle.em_gram.proofs.nest.Nest.enter.Goals as goal

pub returns-clause-parts : goal.returns-clause-parts
returns-clause-parts c = parts_add _ _ _ c.in_ok-push.ensures.items

pub returns-clause-counted : goal.returns-clause-counted
returns-clause-counted c = opens_add _ _ _ _ _ c.in_ok-push.ensures.items c.requires.counted c.requires.opens (search rules)
