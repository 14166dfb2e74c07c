use Rattle.em_image.proofs.Digits.{taken_digits}
use Rattle.em_image.proofs.parts.digits.Goals as goal

pub returns-in-Some-clause-digits : goal.returns-in-Some-clause-digits
returns-in-Some-clause-digits c = taken_digits c.args.cursor.rest.now c.in-Some.n c.in-Some.ensures
