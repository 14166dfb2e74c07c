use Rattle.em_view.proofs.Performing.{then, leave, finish}
use Rattle.em_utility.proofs.Trying.{named_by}
use Rattle.em_command.specs.Streams.{emptied}
use Rattle.em_command.proofs.streams.emptied.Goals as goal

pub returns-in_err-named : goal.returns-in_err-named
unfolding emptied
returns-in_err-named g c = leave _ c.from_residual.ensures.1 (named_by _ c.in_err-named.ensures c.put.ensures.performs)

pub returns : goal.returns
unfolding emptied
returns g c = then _ (named_by _ c.in_ok-named.ensures c.put.ensures.performs) finish
