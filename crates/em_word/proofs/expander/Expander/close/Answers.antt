use Rattle.std.proofs.Common.{length}
use Rattle.em_fields.proofs.Joining.{joined_assoc}
use Rattle.em_fields.specs.Cuts.{cut_off}
use Rattle.em_fields.specs.Forms as forms
use Rattle.em_fields.specs.Parts.{glyphs, bytes, mark, marked, joined}
use Rattle.em_word.specs.Held.{with_piece}
use Rattle.em_word.specs.Values.{charged, text_of}
use Rattle.em_word.proofs.Holding.{kept_size, marked_size}
use Rattle.em_word.proofs.Stepping.{bad, failed, fails, lost, unpaid, looked}
use Rattle.em_word.proofs.Landing.{parts_unpaid, parts_go, goes_on, assign_turn}
use Rattle.em_word.proofs.expander.Expander.close.Goals as goal

pub returns-in_err-charge-in-Keep-clause-steps : goal.returns-in_err-charge-in-Keep-clause-steps
returns-in_err-charge-in-Keep-clause-steps g c = rw c.in-Keep.is (bad _ _ c.from_residual.ensures.1 (parts_unpaid (joined (mark c.args.value.now.quoted) c.args.value.now.argument) (length (glyphs c.args.value.now.argument)) (kept_size c.args.value.now.quoted c.args.value.now.argument) c.args.self.now (rw (c.size.ensures.size, c.items-argument.ensures) at c.in_err-charge-in-Keep.ensures)))

pub returns-in_ok-add_parts-in-Keep-clause-steps : goal.returns-in_ok-add_parts-in-Keep-clause-steps
returns-in_ok-add_parts-in-Keep-clause-steps g c = rw (c.in-Keep.is, c.in_ok-add_parts-in-Keep.ensures, c.in_ok-add_mark-in-Keep.ensures, c.items-argument.ensures, joined_assoc c.args.self.now.parts (mark c.args.value.now.quoted) c.args.value.now.argument) (parts_go (joined (mark c.args.value.now.quoted) c.args.value.now.argument) (length (glyphs c.args.value.now.argument)) (kept_size c.args.value.now.quoted c.args.value.now.argument) c.args.self.now c.requires.runs c.requires.counted (rw (c.size.ensures.size, c.items-argument.ensures) at c.in_ok-charge-in-Keep.ensures))

pub returns-in_err-text-in-Assign-clause-steps : goal.returns-in_err-text-in-Assign-clause-steps
returns-in_err-text-in-Assign-clause-steps g c = bad _ _ c.from_residual-in_err-text-in-Assign.ensures.1 lost

pub returns-in_err-charge-in-Assign-clause-steps : goal.returns-in_err-charge-in-Assign-clause-steps
returns-in_err-charge-in-Assign-clause-steps g c = rw c.in-Assign.is (bad _ _ c.from_residual-in_err-charge-in-Assign.ensures.1 (unpaid _ (rw (c.bytes-in-Assign.ensures, c.in_ok-text-in-Assign.ensures, c.items-argument.ensures) at c.in_err-charge-in-Assign.ensures)))

pub returns-in_ok-from_slice-in-Assign-clause-steps : goal.returns-in_ok-from_slice-in-Assign-clause-steps
returns-in_ok-from_slice-in-Assign-clause-steps g c = rw (c.in-Assign.is, c.in_ok-add_bytes-in-Assign.ensures, c.in_ok-from_slice-in-Assign.ensures, c.bytes-in-Assign-2.ensures, c.in_ok-text-in-Assign.ensures, c.items-argument.ensures) (assign_turn c.args.value.now.quoted c.args.value.now.name.now (bytes c.args.value.now.argument) c.args.self.now c.requires.runs c.requires.counted (rw (c.bytes-in-Assign.ensures, c.in_ok-text-in-Assign.ensures, c.items-argument.ensures) at c.in_ok-charge-in-Assign.ensures))

pub returns-in_err-text-in-Complain-clause-steps : goal.returns-in_err-text-in-Complain-clause-steps
returns-in_err-text-in-Complain-clause-steps g c = bad _ _ c.from_residual-in_err-text-in-Complain.ensures.1 lost

pub returns-in_err-complaint-in-Complain-clause-steps : goal.returns-in_err-complaint-in-Complain-clause-steps
returns-in_err-complaint-in-Complain-clause-steps g c = bad _ _ c.from_residual-in_err-complaint-in-Complain.ensures.1 lost

pub returns-in_ok-complaint-in-Complain-clause-steps : goal.returns-in_ok-complaint-in-Complain-clause-steps
returns-in_ok-complaint-in-Complain-clause-steps g c = rw (c.in-Complain.is, c.in_ok-complaint-in-Complain.ensures, c.bytes-in-Complain-2.ensures, c.in_ok-text-in-Complain.ensures, c.items-argument.ensures) fails

pub returns-in_err-pattern-in-Cut-clause-steps : goal.returns-in_err-pattern-in-Cut-clause-steps
returns-in_err-pattern-in-Cut-clause-steps g c = bad _ _ c.from_residual-in_err-pattern-in-Cut.ensures.1 lost

pub returns-in_err-charge-in-Cut-clause-steps : goal.returns-in_err-charge-in-Cut-clause-steps
returns-in_err-charge-in-Cut-clause-steps g c = rw c.in-Cut.is (bad _ _ c.from_residual-in_err-charge-in-Cut.ensures.1 (failed (looked (λ shell. with_piece (charged (marked c.args.value.now.quoted (cut_off c.in-Cut.cut (glyphs c.args.value.now.argument) (forms.text (text_of shell c.args.value.now.name.now))))) c.args.self.now)) (parts_unpaid (marked c.args.value.now.quoted (cut_off c.in-Cut.cut (glyphs c.args.value.now.argument) (forms.text (text_of c.args.shell.now c.args.value.now.name.now)))) (length (cut_off c.in-Cut.cut (glyphs c.args.value.now.argument) (forms.text (text_of c.args.shell.now c.args.value.now.name.now)))) (marked_size c.args.value.now.quoted (cut_off c.in-Cut.cut (glyphs c.args.value.now.argument) (forms.text (text_of c.args.shell.now c.args.value.now.name.now)))) c.args.self.now (rw (c.cut_off-text.ensures, c.items.ensures, c.in_ok-pattern-in-Cut.ensures, c.text_or_empty.ensures, c.items-argument.ensures) at c.in_err-charge-in-Cut.ensures))))

pub returns-in_ok-add_bytes-in-Cut-clause-steps : goal.returns-in_ok-add_bytes-in-Cut-clause-steps
returns-in_ok-add_bytes-in-Cut-clause-steps g c = rw (c.in-Cut.is, c.in_ok-add_bytes-in-Cut.ensures, c.cut_off-text.ensures, c.items.ensures, c.in_ok-pattern-in-Cut.ensures, c.text_or_empty.ensures, c.items-argument.ensures) (goes_on _ _ (looked (λ shell. with_piece (charged (marked c.args.value.now.quoted (cut_off c.in-Cut.cut (glyphs c.args.value.now.argument) (forms.text (text_of shell c.args.value.now.name.now))))) c.args.self.now)) (parts_go (marked c.args.value.now.quoted (cut_off c.in-Cut.cut (glyphs c.args.value.now.argument) (forms.text (text_of c.args.shell.now c.args.value.now.name.now)))) (length (cut_off c.in-Cut.cut (glyphs c.args.value.now.argument) (forms.text (text_of c.args.shell.now c.args.value.now.name.now)))) (marked_size c.args.value.now.quoted (cut_off c.in-Cut.cut (glyphs c.args.value.now.argument) (forms.text (text_of c.args.shell.now c.args.value.now.name.now)))) c.args.self.now c.requires.runs c.requires.counted (rw (c.cut_off-text.ensures, c.items.ensures, c.in_ok-pattern-in-Cut.ensures, c.text_or_empty.ensures, c.items-argument.ensures) at c.in_ok-charge-in-Cut.ensures)))
