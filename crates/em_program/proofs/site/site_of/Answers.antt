use Rattle.std.proofs.Common.{refl}
use Rattle.em_program.proofs.Following.{then, leave, finish}
use Rattle.em_program.proofs.site.site_of.Goals as goal

pub returns-in_err-order-clause-told : goal.returns-in_err-order-clause-told
returns-in_err-order-clause-told g c = leave _ c.from_residual.ensures.1 c.in_err-order.ensures.told

pub returns-in_err-explained-clause-told : goal.returns-in_err-explained-clause-told
returns-in_err-explained-clause-told g c =
    then _ c.in_ok-order.ensures.told
    (leave _ c.from_residual-in_err-explained.ensures.1 c.in_err-explained.ensures.told)

pub returns-in_err-tree-clause-told : goal.returns-in_err-tree-clause-told
returns-in_err-tree-clause-told g c =
    then _ c.in_ok-order.ensures.told
    (then _ c.in_ok-explained.ensures.told
    (leave _ c.from_residual-in_err-tree.ensures.1 c.in_err-tree.ensures.told))

pub returns-in_err-old-clause-told : goal.returns-in_err-old-clause-told
returns-in_err-old-clause-told g c =
    then _ c.in_ok-order.ensures.told
    (then _ c.in_ok-explained.ensures.told
    (then _ c.in_ok-tree.ensures.told
    (leave _ c.from_residual-in_err-old.ensures.1 c.in_err-old.ensures.told)))

pub returns-clause-told : goal.returns-clause-told
returns-clause-told g c =
    then _ c.in_ok-order.ensures.told
    (then _ c.in_ok-explained.ensures.told
    (then _ c.in_ok-tree.ensures.told
    (then _ c.in_ok-old.ensures.told (rw (c.fresh.ensures, c.new.ensures, c.new-2.ensures, c.new-3.ensures) finish))))

pub returns-clause-is : goal.returns-clause-is
returns-clause-is g c = record { bare = rw c.fresh.ensures refl; ranges = c.in_ok-order.ensures.ranges }
