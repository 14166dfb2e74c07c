use Rattle.std.proofs.Common.{refl}
use Rattle.em_view.proofs.Performing.{more, stop, end, then, finish, ran_out}
use Rattle.em_base.proofs.Lemmas.{left_at, none_at}
use Rattle.em_word.proofs.names.names_of_each.Goals as goal

pub returns-in_err-names : goal.returns-in_err-names
returns-in_err-names g c =
    let inv = rw (left_at c.args.fields.now c.loop-field.field-index c.field-item.result c.loop-field-test.true c.field-item.is) at c.loop-field.invariant in
    stop _ inv c.from_residual.ensures.1 (rw c.items.ensures at c.in_err-names.ensures)

pub returns-in_err-all : goal.returns-in_err-all
returns-in_err-all g c =
    let inv = rw (left_at c.args.fields.now c.loop-field.field-index c.field-item.result c.loop-field-test.true c.field-item.is) at c.loop-field.invariant in
    end inv (then _ (rw c.items.ensures at c.in_ok-names.ensures) (ran_out _ refl c.from_residual-in_err-all.ensures.1))

pub loop-field-preserved : goal.loop-field-preserved
loop-field-preserved g c =
    let inv = rw (left_at c.args.fields.now c.loop-field.field-index c.field-item.result c.loop-field-test.true c.field-item.is) at c.loop-field.invariant in
    rw c.in_ok-all.ensures (more _ inv (rw c.items.ensures at c.in_ok-names.ensures))

pub returns : goal.returns
returns g c =
    let inv = rw (none_at c.args.fields.now c.loop-field.field-index c.loop-field-test.false) at c.loop-field.invariant in
    end inv finish
