use Rattle.std.proofs.Common.{◌≡◌, drop, option_map}
use Rattle.em_job.specs.Deciding as deciding
use Rattle.em_job.proofs.awaiting.behind.Given as goal

-- what is left of them leaves the same
abbrev pub invariant-loop-pre : goal.invariant-loop-pre
invariant-loop-pre l = deciding.behind (drop l.pre-index l.pres) (option_map (λ o. o.now) l.left) ≡ deciding.behind l.fn.pres (option_map (λ o. o.now) l.fn.known)
