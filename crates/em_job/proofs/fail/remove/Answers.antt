use Rattle.std.proofs.Common.{refl}
use Rattle.em_view.proofs.Doing.{then_s, finish_s, owned_s, refused_s, below_ok, below_err}
use Rattle.em_view.proofs.Performing.{tried}
use Rattle.em_view.proofs.Doing.{lost_s}
use Rattle.em_expand.specs.declared.spoken.Spoken.{Spoken}
use Rattle.em_job.specs.Carrying.{remove_target}
use Rattle.em_job.specs.Stops as stops
use Rattle.em_job.specs.Stops.{is_free}
use Rattle.em_job.proofs.Stopping.{desk_free}
use Rattle.em_job.proofs.fail.remove.Goals as goal

pub returns-in-Ok : goal.returns-in-Ok
unfolding remove_target
returns-in-Ok g c = then_s _ (below_ok (stops.of_desk c.args.place.now) (tried refl c.in-Ok.ensures.performs)) (owned_s _ c.say_deleted.ensures)

pub returns-in-Err-File : goal.returns-in-Err-File
unfolding remove_target
returns-in-Err-File g c = then_s _ (below_ok (stops.of_desk c.args.place.now) (tried (rw c.in-Err-File.field-0-is refl) c.in-Err-File.ensures.performs)) (rw c.in-Err-File.field-0-is finish_s)

pub returns-in-Err-Spent : goal.returns-in-Err-Spent
unfolding remove_target
returns-in-Err-Spent g c = then_s _ (below_ok (stops.of_desk c.args.place.now) (tried (rw c.in-Err-Spent.field-0-is refl) c.in-Err-Spent.ensures.performs)) (rw c.in-Err-Spent.field-0-is (refused_s _ c.of_desk.ensures))

pub returns-in-Err-NoMemory : goal.returns-in-Err-NoMemory
returns-in-Err-NoMemory g c = lost_s {T = Spoken} {any = is_free} {x = c.args.spoken.now} {y = c.args.spoken.now} _ refl refl
    (below_err (stops.of_desk c.args.place.now) (desk_free c.args.place.now) (λ h. refl) c.in-Err-NoMemory.ensures.performs)
