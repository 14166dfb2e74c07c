use Rattle.std.proofs.Common.{◌∙◌, ap, sym, ℕ, List, [], ◌∷◌, ◌++◌}
use Rattle.em_plan.specs.Resuming.{numbers_in, open_in}
use Rattle.em_plan.proofs.Marking.{closed_none, closed_one}
use Rattle.em_plan.proofs.marks.close_one.Goals as goal

pub returns-then-not-is_open : goal.returns-then-not-is_open
returns-then-not-is_open c = λ q. closed_none c.args.marks.now c.args.name.now q c.args.number (ap (open_in c.args.marks.now) (sym c.bytes.ensures) ∙ sym c.is_open.ensures ∙ c.if-not-is_open.true)

pub returns : goal.returns
returns c = λ q. rw (c.in_ok-insert.ensures.ok, c.in_ok-copy.ensures, c.take_jobs-held.ensures.rest, c.bytes-2.ensures)
    (closed_one c.args.marks.now c.args.name.now q _ c.args.number (ap (open_in c.args.marks.now) (sym c.bytes.ensures) ∙ sym c.is_open.ensures ∙ c.if-not-is_open.false)
    (c.in_ok-jobs.ensures ∙ ap (λ (ks : List ℕ). ks ++ c.args.number ∷ []) (c.take_jobs-held.ensures.jobs ∙ ap (numbers_in c.args.marks.now) c.bytes-2.ensures)))
