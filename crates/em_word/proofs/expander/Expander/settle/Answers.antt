use Rattle.std.proofs.Common.{length}
use Rattle.em_fields.specs.Parts.{marked}
use Rattle.em_word.proofs.Holding.{marked_size}
use Rattle.em_word.proofs.Stepping.{bad, failed, lost}
use Rattle.em_word.proofs.Landing.{parts_unpaid, parts_paid, parts_go}
use Rattle.em_word.proofs.expander.Expander.settle.Goals as goal

pub returns-in_err-charge-clause-steps : goal.returns-in_err-charge-clause-steps
returns-in_err-charge-clause-steps g c =
    let t = c.args.text.now in
    bad _ _ c.from_residual.ensures.1 (parts_unpaid (marked c.args.quoted t) (length t) (marked_size c.args.quoted t) c.args.self.now c.in_err-charge.ensures)

pub returns-in_err-add_bytes-clause-steps : goal.returns-in_err-add_bytes-clause-steps
returns-in_err-add_bytes-clause-steps g c =
    let t = c.args.text.now in
    bad _ _ c.from_residual-in_err-add_bytes.ensures.1 (failed (parts_paid (marked c.args.quoted t) (length t) (marked_size c.args.quoted t) c.args.self.now c.in_ok-charge.ensures) lost)

pub returns-clause-steps : goal.returns-clause-steps
returns-clause-steps g c =
    let t = c.args.text.now in
    rw c.in_ok-add_bytes.ensures (parts_go (marked c.args.quoted t) (length t) (marked_size c.args.quoted t) c.args.self.now c.requires.runs c.requires.counted c.in_ok-charge.ensures)
