use Rattle.std.proofs.Common.{refl}
use Rattle.em_workers.proofs.Lending.{settles}
use Rattle.em_workers.proofs.lender.ScriptLenderLender.settle.Goals as goal

pub returns : goal.returns
returns g c = record { told = settles _ _ _ (rw (← c.self.view_is, c.in_ok-keep.ensures.ok) refl) }
