use Rattle.std.proofs.Common.{◌≡◌, ◌∙◌, ◌+◌, ◌-◌, length, sym, ap, arith}
use Rattle.std.specs.Option.{option_map}
use Rattle.em_fields.specs.Cuts.{is_prefix_to}
use Rattle.em_fields.proofs.Places.{found, passed}
use Rattle.em_fields.proofs.cut.first_prefix.Goals as goal

pub returns-then-matches : goal.returns-then-matches
returns-then-matches c = sym (found (is_prefix_to c.args.pattern.now c.args.text.now) (length c.args.text.now + 1) c.loop-i.i c.loop-i-test.true c.loop-i.invariant (sym c.matches.ensures.test ∙ c.if-matches.true))

pub loop-i-preserved : goal.loop-i-preserved
loop-i-preserved c = passed (is_prefix_to c.args.pattern.now c.args.text.now) (length c.args.text.now + 1) c.loop-i.i c.loop-i-test.true c.loop-i.invariant (sym c.matches.ensures.test ∙ c.if-matches.false)
