use Rattle.std.proofs.Common.{◌≡◌, ◌∙◌, ◌+◌, ◌-◌, length, sym, ap, arith}
use Rattle.std.specs.Option.{option_map}
use Rattle.em_fields.specs.Cuts.{is_suffix_at}
use Rattle.em_glob.specs.Patterns.{fits, pieces}
use Rattle.em_fields.proofs.Places.{found, passed}
use Rattle.em_fields.proofs.cut.first_suffix.Goals as goal

pub returns-then-matches : goal.returns-then-matches
returns-then-matches c = sym (found (is_suffix_at c.args.pattern.now c.args.text.now) (length c.args.text.now + 1) c.loop-i.i c.loop-i-test.true c.loop-i.invariant (ap (λ t. fits (pieces c.args.pattern.now) t) (sym c.behind.ensures) ∙ sym c.matches.ensures.test ∙ c.if-matches.true))

pub loop-i-preserved : goal.loop-i-preserved
loop-i-preserved c = passed (is_suffix_at c.args.pattern.now c.args.text.now) (length c.args.text.now + 1) c.loop-i.i c.loop-i-test.true c.loop-i.invariant (ap (λ t. fits (pieces c.args.pattern.now) t) (sym c.behind.ensures) ∙ sym c.matches.ensures.test ∙ c.if-matches.false)
