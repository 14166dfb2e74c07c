use Rattle.em_view.proofs.Doing.{then_s, leave_s, refused_s, owned_s}
use Rattle.em_utility.proofs.Trying.{named_s}
use Rattle.em_fileutil.specs.Listing.{list_operand}
use Rattle.em_fileutil.proofs.Spotting.{yes_s, no_s}
use Rattle.em_fileutil.proofs.list.list_operand.Goals as goal

pub returns-in_err-tried : goal.returns-in_err-tried
unfolding list_operand
returns-in_err-tried g c = leave_s _ c.from_residual.ensures.1 (named_s _ c.in_err-tried.ensures c.kind.ensures.performs)

pub returns-in-Absent : goal.returns-in-Absent
unfolding list_operand
returns-in-Absent g c = then_s _ (named_s _ c.in_ok-tried.ensures c.kind.ensures.performs) (rw c.in-Absent.is (refused_s _ c.told.ensures))

pub returns-in-Link : goal.returns-in-Link
unfolding list_operand
returns-in-Link g c = then_s _ (named_s _ c.in_ok-tried.ensures c.kind.ensures.performs) (rw c.in-Link.is (refused_s _ c.told-in-Link.ensures))

pub returns-in-File : goal.returns-in-File
unfolding list_operand
returns-in-File g c = then_s _ (named_s _ c.in_ok-tried.ensures c.kind.ensures.performs) (rw c.in-File.is (owned_s _ c.list_itself.ensures))

pub returns-then-how : goal.returns-then-how
unfolding list_operand
returns-then-how g c = then_s _ (named_s _ c.in_ok-tried.ensures c.kind.ensures.performs) (rw c.in-Dir.is (yes_s c.args.how.itself _ c.if-how.true (owned_s _ c.list_itself-then-how.ensures)))

pub returns-else-how : goal.returns-else-how
unfolding list_operand
returns-else-how g c = then_s _ (named_s _ c.in_ok-tried.ensures c.kind.ensures.performs) (rw c.in-Dir.is (no_s c.args.how.itself _ c.if-how.false c.list_directory.ensures))
