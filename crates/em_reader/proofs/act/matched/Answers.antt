use Rattle.std.proofs.Common.{refl, sym, ◌∙◌}
use Rattle.em_view.proofs.Doing.{then_s, finish_s, out_s, more_s, stop_s, end_s}
use Rattle.em_base.proofs.Lemmas.{left_at, none_at}
use Rattle.em_reader.proofs.Plain.{plain_turn}
use Rattle.em_reader.proofs.act.matched.Goals as goal
use Rattle.em_reader.proofs.act.matched.Goals.{then-is_plain+in_ok-push, else-is_plain+in_ok-more+in_ok-all}

pub returns-in_err-copy : goal.returns-in_err-copy
returns-in_err-copy g c = end_s c.loop-word.invariant (out_s _ refl c.from_residual.ensures.1)

pub returns-in_err-push : goal.returns-in_err-push
returns-in_err-push g c = end_s c.loop-word.invariant (out_s _ refl c.from_residual-in_err-push.ensures.1)

pub returns-in_err-more : goal.returns-in_err-more
returns-in_err-more g c =
    let left = left_at c.args.words.now c.loop-word.word-index c.word-item.result c.loop-word-test.true c.word-item.is in
    stop_s _ (rw left at c.loop-word.invariant) c.from_residual-in_err-more.ensures.1 (rw c.in_ok-copy.ensures at c.in_err-more.ensures)

pub returns-in_err-all : goal.returns-in_err-all
returns-in_err-all g c =
    let left = left_at c.args.words.now c.loop-word.word-index c.word-item.result c.loop-word-test.true c.word-item.is in
    end_s (rw left at c.loop-word.invariant) (then_s _ (rw c.in_ok-copy.ensures at c.in_ok-more.ensures) (out_s _ refl c.from_residual-in_err-all.ensures.1))

pub loop-word-preserved : goal.loop-word-preserved
loop-word-preserved g c =
    let left = left_at c.args.words.now c.loop-word.word-index c.word-item.result c.loop-word-test.true c.word-item.is in
    elim c.if-is_plain.branch [
      | then-is_plain+in_ok-push w ↦ rw (w.desk-is, w.reading-is, w.all-is, w.in_ok-push.ensures.ok, c.in_ok-copy.ensures)
          (plain_turn c.args.place.now c.loop-word.all _ _ (sym (rw c.bytes.ensures at c.is_plain.ensures) ∙ w.if-is_plain.true) (rw left at c.loop-word.invariant))
      | else-is_plain+in_ok-more+in_ok-all w ↦ rw (w.desk-is, w.reading-is, w.all-is, w.in_ok-all.ensures)
          (more_s _ (rw left at c.loop-word.invariant) (rw c.in_ok-copy.ensures at w.in_ok-more.ensures))
    ]

pub returns : goal.returns
returns g c =
    let none = none_at c.args.words.now c.loop-word.word-index c.loop-word-test.false in
    end_s (rw none at c.loop-word.invariant) finish_s
