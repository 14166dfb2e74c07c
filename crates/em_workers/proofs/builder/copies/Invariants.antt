use Rattle.std.proofs.Common.{◌≡◌, true, take}
use Rattle.std.specs.List.{AllZip}
use Rattle.em_workers.proofs.builder.copies.Given as goal

abbrev pub invariant-loop-spec : goal.invariant-loop-spec
invariant-loop-spec g l = AllZip (λ spec copy. g.S.PartialEq.eq copy spec ≡ true) (take l.spec-index l.specs) l.all.items
