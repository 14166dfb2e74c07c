use Rattle.std.proofs.Common.{length, refl}
use Rattle.em_fields.specs.Parts.{marked, without_newlines}
use Rattle.em_word.specs.Held.{word_of, mode_of}
use Rattle.em_word.proofs.Holding.{marked_size}
use Rattle.em_word.proofs.Stepping.{bad, failed, lost}
use Rattle.em_word.proofs.Landing.{parts_unpaid, parts_paid, parts_go}
use Rattle.em_word.proofs.expander.Expander.use_output.Goals as goal

pub returns-in_err-charge-clause-goes : goal.returns-in_err-charge-clause-goes
returns-in_err-charge-clause-goes g c =
    let t = without_newlines c.args.output.now in
    bad _ _ c.from_residual.ensures.1 (parts_unpaid (marked c.args.quoted t) (length t) (marked_size c.args.quoted t) c.args.self.now (rw c.without_newlines-output.ensures at c.in_err-charge.ensures))

pub returns-in_err-add_bytes-clause-goes : goal.returns-in_err-add_bytes-clause-goes
returns-in_err-add_bytes-clause-goes g c =
    let t = without_newlines c.args.output.now in
    bad _ _ c.from_residual-in_err-add_bytes.ensures.1 (failed (parts_paid (marked c.args.quoted t) (length t) (marked_size c.args.quoted t) c.args.self.now (rw c.without_newlines-output.ensures at c.in_ok-charge.ensures)) lost)

pub returns-clause-goes : goal.returns-clause-goes
returns-clause-goes g c =
    let t = without_newlines c.args.output.now in
    rw (c.in_ok-add_bytes.ensures, c.without_newlines-output.ensures) (parts_go (marked c.args.quoted t) (length t) (marked_size c.args.quoted t) c.args.self.now c.requires.runs c.requires.counted (rw c.without_newlines-output.ensures at c.in_ok-charge.ensures))

pub returns-in_err-add_bytes-clause-same : goal.returns-in_err-add_bytes-clause-same
unfolding word_of mode_of
returns-in_err-add_bytes-clause-same g c = (refl, refl)

pub returns-clause-same : goal.returns-clause-same
unfolding word_of mode_of
returns-clause-same g c = (refl, refl)
