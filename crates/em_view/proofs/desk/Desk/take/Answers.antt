use Rattle.std.proofs.Common.{refl}
use Rattle.std.proofs.lemmas.Result.{err_from_is_err_and}
use Rattle.em_view.proofs.Primitives.{too_little, enough}
use Rattle.em_view.proofs.desk.Desk.take.Goals as goal

pub returns-in_err-spend-clause-performs : goal.returns-in_err-spend-clause-performs
returns-in_err-spend-clause-performs g c =
    let p = err_from_is_err_and c.from_residual.result c.from_residual.ensures.1 in
    rw (p.1, p.2) (too_little c.args.self.now c.spend.new.self c.args.n c.in_err-spend.ensures.err (c.in_err-spend.ensures.spent.0 refl))

pub returns-clause-performs : goal.returns-clause-performs
returns-clause-performs g c = enough c.args.self.now c.spend.new.self c.args.n c.in_ok-spend.ensures.ok.0 c.in_ok-spend.ensures.ok.1
