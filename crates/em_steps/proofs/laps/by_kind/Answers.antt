use Rattle.std.proofs.Common.{◌∙◌, sym}
use Rattle.em_steps.proofs.laps.by_kind.Goals as goal

pub returns-then-not-is_dir-clause-works : goal.returns-then-not-is_dir-clause-works
returns-then-not-is_dir-clause-works c = λ n. rw (sym c.is_dir.ensures ∙ c.if-not-is_dir.true) (rw c.bytes.ensures at c.refuse_dir.ensures.works n)
