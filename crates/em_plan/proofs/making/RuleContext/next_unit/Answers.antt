use Rattle.std.proofs.Common.{◌∙◌, sym, length, arith}
use Rattle.em_plan.specs.Resuming.{known_in, numbers_in}
use Rattle.em_plan.proofs.Offering.{double_result, none_offers, single_offers, single_stops}
use Rattle.em_plan.proofs.making.RuleContext.next_unit.Goals as goal

pub returns-then-is_double-clause-next : goal.returns-then-is_double-clause-next
returns-then-is_double-clause-next g c = double_result g.T.There.asks c.args.self.now (known_in c.args.marks.now) c.args.name.now (length (numbers_in c.args.marks.now c.args.name.now)) (sym c.is_double.ensures ∙ c.if-is_double.true) _ c.double_at.result
    (rw c.requires at c.double_at.ensures.ok) c.double_at.ensures.only

pub returns-then-place-gt0-clause-next : goal.returns-then-place-gt0-clause-next
returns-then-place-gt0-clause-next g c = none_offers g.T.There.asks c.args.self.now (known_in c.args.marks.now) c.args.name.now (length (numbers_in c.args.marks.now c.args.name.now)) (sym c.is_double.ensures ∙ c.if-is_double.false)
    (let e = c.requires in omega (arith, e, c.if-place-gt0.true)) _

pub returns-in_err-unit-clause-next : goal.returns-in_err-unit-clause-next
returns-in_err-unit-clause-next g c = single_stops g.T.There.asks c.args.self.now (known_in c.args.marks.now) c.args.name.now (length (numbers_in c.args.marks.now c.args.name.now)) (sym c.is_double.ensures ∙ c.if-is_double.false)
    (let e = c.requires in omega (arith, e, c.if-place-gt0.false)) _ _ c.from_residual.ensures.1 c.in_err-unit.ensures.asked

pub returns-clause-next : goal.returns-clause-next
returns-clause-next g c = single_offers g.T.There.asks c.args.self.now (known_in c.args.marks.now) c.args.name.now (length (numbers_in c.args.marks.now c.args.name.now)) (sym c.is_double.ensures ∙ c.if-is_double.false)
    (let e = c.requires in omega (arith, e, c.if-place-gt0.false)) _ c.in_ok-unit.ensures.asked
