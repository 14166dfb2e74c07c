use Rattle.std.proofs.Common.{◌≡◌, length, slice_get, Some, arith, refl}
use Rattle.std.specs.FinMap.{get, get-empty}
use Rattle.std.proofs.lemmas.Bool.Decides.{nat_tests}
use Rattle.std.proofs.lemmas.Option.{slice_get_read}
use Rattle.em_base.proofs.Lemmas.{order}
use Rattle.em_learning.specs.Links.{listed}
use Rattle.em_learning.proofs.Numbers.{found_more, found_all}
use Rattle.em_learning.proofs.waits.numbers.Goals as goal

pub loop-number-init : goal.loop-number-init
loop-number-init c name k = rw (c.new-numbers.ensures, get-empty order name) (grind (arith, nat_tests))

pub loop-number-preserved : goal.loop-number-preserved
loop-number-preserved c =
    let jobs = c.args.jobs.now in
    let job = c.index-jobs-number.result in
    let at : slice_get jobs c.loop-number.number ≡ Some job = slice_get_read jobs (length jobs) c.loop-number.number job refl c.loop-number-test.true c.index-jobs-number.is in
    found_more jobs (λ name. listed (get c.loop-number.numbers name)) (λ name. listed (get c.put.new.numbers name)) c.loop-number.number job at (rw c.get.ensures at c.in_ok-put.ensures) c.loop-number.invariant

pub returns : goal.returns
returns c = found_all c.args.jobs.now (λ name. listed (get c.loop-number.numbers name)) c.loop-number.number c.loop-number-test.false c.loop-number.invariant
