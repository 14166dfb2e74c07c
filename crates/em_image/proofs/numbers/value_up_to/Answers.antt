use Rattle.std.proofs.Common.{arith}
use Rattle.em_image.proofs.Digits.{is_above}
use Rattle.em_image.proofs.numbers.value_up_to.Goals as goal
use Rattle.em_image.proofs.numbers.value_up_to.Goals.{then-number-limit-via-then-number-limit, then-number-limit-via-else-number-limit+then-number-digit}

pub returns-then-number-limit : goal.returns-then-number-limit
returns-then-number-limit c =
    is_above c.args.limit c.loop-byte.number c.args.digits.now c.loop-byte.byte-index c.loop-byte-test.true c.loop-byte.invariant.spelled
    (elim c.then-number-limit.branch [
      | then-number-limit-via-then-number-limit w ↦ omega arith
      | then-number-limit-via-else-number-limit+then-number-digit w ↦ omega arith
    ])
