use Rattle.std.proofs.Common.{refl}
use Rattle.em_program.proofs.Working.{bare_new, count_short, count_said, count_unsaid, count_refused}
use Rattle.em_program.proofs.count.count.Goals as goal

pub returns-in_err-line-in-Ok-clause-told : goal.returns-in_err-line-in-Ok-clause-told
returns-in_err-line-in-Ok-clause-told g c = count_short c.args.site _ _ _ (bare_new c.new-quiet.ensures) c.in-Ok.ensures.told _ _ c.from_residual.ensures.1

pub returns-in_err-say-in-Ok-clause-told : goal.returns-in_err-say-in-Ok-clause-told
returns-in_err-say-in-Ok-clause-told g c =
    count_unsaid c.args.site c.in-Ok.finished _ _ (bare_new c.new-quiet.ensures) c.in-Ok.ensures.told _ _ _ _ c.from_residual-in_err-say-in-Ok.ensures.1
    (rw (c.bytes.ensures, c.in_ok-line-in-Ok.ensures, c.printed.ensures) at c.in_err-say-in-Ok.ensures.told)

pub returns-in-Ok-clause-told : goal.returns-in-Ok-clause-told
returns-in-Ok-clause-told g c =
    count_said c.args.site c.in-Ok.finished _ _ (bare_new c.new-quiet.ensures) c.in-Ok.ensures.told _ _
    (rw (c.bytes.ensures, c.in_ok-line-in-Ok.ensures, c.printed.ensures) at c.in_ok-say-in-Ok.ensures.told)

pub returns-in-Err-End-clause-told : goal.returns-in-Err-End-clause-told
returns-in-Err-End-clause-told g c =
    count_refused c.args.site c.in-Err-End.verdict _ _ (bare_new c.new-quiet.ensures) (rw c.in-Err-End.field-0-is at c.in-Err-End.ensures.told) _ _ _ c.stop.ensures.ends
    (rw (c.printed-in-Err-End.ensures, c.in-Err-End.verdict-is) at c.stop.ensures.told)

pub returns : goal.returns
returns g c = record {
  told = count_short c.args.site c.work.result _ _ (bare_new c.new-quiet.ensures) c.work.ensures.told _ _ refl;
  faults = refl;
}
