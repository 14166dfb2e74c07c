use Rattle.em_view.proofs.Performing.{then, leave, finish}
use Rattle.em_utility.proofs.Trying.{named_by, gave_error}
use Rattle.em_command.specs.Streams.{added}
use Rattle.em_command.proofs.streams.added.Goals as goal

pub returns-in_err-named : goal.returns-in_err-named
unfolding added
returns-in_err-named g c = leave _ c.from_residual.ensures.1 (named_by _ c.in_err-named.ensures c.kind.ensures.performs)

pub returns-in-Absent : goal.returns-in-Absent
unfolding added
returns-in-Absent g c = then _ (named_by _ c.in_ok-named.ensures c.kind.ensures.performs) (rw c.in-Absent.is c.emptied.ensures)

pub returns-in-File : goal.returns-in-File
unfolding added
returns-in-File g c = then _ (named_by _ c.in_ok-named.ensures c.kind.ensures.performs) (rw c.in-File.is finish)

pub returns-in-Link : goal.returns-in-Link
unfolding added
returns-in-Link g c = then _ (named_by _ c.in_ok-named.ensures c.kind.ensures.performs) (rw c.in-Link.is finish)

pub returns-in-Dir : goal.returns-in-Dir
unfolding added
returns-in-Dir g c = then _ (named_by _ c.in_ok-named.ensures c.kind.ensures.performs) (rw c.in-Dir.is (gave_error c.fault.ensures))
