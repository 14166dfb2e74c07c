use Rattle.std.proofs.Common.{◌≡◌, ◌++◌, drop}
use Rattle.std.specs.List.{flat_map}
use Rattle.em_report.specs.Reports.{wait_text}
use Rattle.em_report.proofs.writing.put_waits.Given as goal

-- what is written and what is left make the whole
abbrev pub invariant-loop-wait : goal.invariant-loop-wait
invariant-loop-wait l = l.out ++ flat_map wait_text (drop l.wait-index l.waits) ≡ l.fn.out ++ flat_map wait_text l.waits
