use Rattle.std.proofs.Common.{◌≡◌, ◌∙◌, List, [], ◌∷◌, length, refl}
use Rattle.em_syntax.specs.declared.tree.Command.TheOpen.{WordWhat-F}
use Rattle.em_syntax.specs.declared.tree.WordPiece.{out-WordPiece}
use Rattle.em_syntax.proofs.Variants.{is_bytes, is_value, is_argument, is_end, is_output}
use Rattle.em_fields.specs.Parts.{marked}
use Rattle.em_word.specs.Held.{mode_of, IsCounted}
use Rattle.em_word.proofs.Counting.{bytes_scripts, value_scripts, argument_scripts, end_scripts, output_scripts}
use Rattle.em_word.proofs.Stepping.{bad, failed, lost, paid, unpaid, is_same}
use Rattle.em_word.proofs.Landing.{led, landed, piece_first, none_first, counted_first, ask_turn}
use Rattle.em_word.proofs.expander.Expander.step.Goals as goal

none_left : {A : Type 0} (xs : List A) → length xs ≡ 0 → xs ≡ []
none_left [] e = refl
none_left (x ∷ xs) e = absurd cc

pub returns-in_default-clause-steps : goal.returns-in_default-clause-steps
returns-in_default-clause-steps g c = record { leads = is_same (none_first c.args.self.now c.requires.runs (none_left _ c.in_default.ensures.cases)) }

pub returns-in_err-add_bytes-in-Bytes-clause-steps : goal.returns-in_err-add_bytes-in-Bytes-clause-steps
returns-in_err-add_bytes-in-Bytes-clause-steps g c = bad _ _ c.from_residual.ensures.1 lost

pub returns-in_ok-add_bytes-in-Bytes-clause-steps : goal.returns-in_ok-add_bytes-in-Bytes-clause-steps
unfolding IsCounted
returns-in_ok-add_bytes-in-Bytes-clause-steps g c =
    rw (c.in_ok-add_bytes-in-Bytes.ensures, c.bytes.ensures) (record {
      leads = is_same (piece_first c.args.self.now c.in-Some.piece.now c.in-Some.rest (WordWhat-F.Bytes c.in-Bytes.text) c.requires.runs c.in-Some.ensures.cases.0 (is_bytes c.in-Some.piece.now c.in-Bytes.text c.in-Bytes.is) ∙ landed (record c.args.self.now { rest = c.in-Some.rest }) (marked (out-WordPiece c.in-Some.piece.now).quoted c.in-Bytes.text) c.requires.runs);
      steady = record { runs = c.requires.runs; counted = counted_first c.args.self.now c.in-Some.piece.now c.in-Some.rest.now _ c.in-Some.ensures.cases.0 c.requires.counted (bytes_scripts c.in-Some.piece.now c.in-Some.rest.now c.in-Bytes.text c.in-Bytes.is) };
    })

pub returns-in_err-charge_unit-in-Output-clause-steps : goal.returns-in_err-charge_unit-in-Output-clause-steps
returns-in_err-charge_unit-in-Output-clause-steps g c = rw (piece_first c.args.self.now c.in-Some.piece.now c.in-Some.rest (WordWhat-F.Output c.in-Output.script) c.requires.runs c.in-Some.ensures.cases.0 (is_output c.in-Some.piece.now c.in-Output.script c.in-Output.is)) (bad _ _ c.from_residual-in_err-charge_unit-in-Output.ensures.1 (unpaid _ c.in_err-charge_unit-in-Output.ensures))

pub returns-in_err-ask-in-Output-clause-steps : goal.returns-in_err-ask-in-Output-clause-steps
returns-in_err-ask-in-Output-clause-steps g c = rw (piece_first c.args.self.now c.in-Some.piece.now c.in-Some.rest (WordWhat-F.Output c.in-Output.script) c.requires.runs c.in-Some.ensures.cases.0 (is_output c.in-Some.piece.now c.in-Output.script c.in-Output.is)) (bad _ _ c.from_residual-in_err-ask-in-Output.ensures.1 (failed (paid _ c.in_ok-charge_unit-in-Output.ensures) lost))

pub returns-in_ok-ask-in-Output-clause-steps : goal.returns-in_ok-ask-in-Output-clause-steps
returns-in_ok-ask-in-Output-clause-steps g c =
    rw (piece_first c.args.self.now c.in-Some.piece.now c.in-Some.rest (WordWhat-F.Output c.in-Output.script) c.requires.runs c.in-Some.ensures.cases.0 (is_output c.in-Some.piece.now c.in-Output.script c.in-Output.is), c.in_ok-ask-in-Output.ensures.turn, c.in_ok-ask-in-Output.ensures.new)
    (ask_turn (out-WordPiece c.in-Some.piece.now).quoted _ (record c.args.self.now { rest = c.in-Some.rest }) (counted_first c.args.self.now c.in-Some.piece.now c.in-Some.rest.now _ c.in-Some.ensures.cases.0 c.requires.counted (output_scripts c.in-Some.piece.now c.in-Some.rest.now c.in-Output.script c.in-Output.is)) c.in_ok-charge_unit-in-Output.ensures)

pub value-requires : goal.value-requires
unfolding IsCounted
value-requires g c = record { runs = c.requires.runs; counted = counted_first c.args.self.now c.in-Some.piece.now c.in-Some.rest.now _ c.in-Some.ensures.cases.0 c.requires.counted (value_scripts c.in-Some.piece.now c.in-Some.rest.now c.in-Value.value c.in-Value.is) }

pub returns-in-Value-clause-steps : goal.returns-in-Value-clause-steps
unfolding mode_of
returns-in-Value-clause-steps g c = led _ _ (is_same (piece_first c.args.self.now c.in-Some.piece.now c.in-Some.rest (WordWhat-F.Value c.in-Value.value) c.requires.runs c.in-Some.ensures.cases.0 (is_value c.in-Some.piece.now c.in-Value.value c.in-Value.is))) c.value.result c.value.ensures.steps

pub begin-requires : goal.begin-requires
unfolding IsCounted
begin-requires g c = record { runs = c.requires.runs; counted = counted_first c.args.self.now c.in-Some.piece.now c.in-Some.rest.now _ c.in-Some.ensures.cases.0 c.requires.counted (argument_scripts c.in-Some.piece.now c.in-Some.rest.now c.in-Argument.value c.in-Argument.is) }

pub returns-in-Argument-clause-steps : goal.returns-in-Argument-clause-steps
unfolding mode_of
returns-in-Argument-clause-steps g c = led _ _ (is_same (piece_first c.args.self.now c.in-Some.piece.now c.in-Some.rest (WordWhat-F.Argument c.in-Argument.value) c.requires.runs c.in-Some.ensures.cases.0 (is_argument c.in-Some.piece.now c.in-Argument.value c.in-Argument.is))) c.begin.result c.begin.ensures.steps

pub leave-requires : goal.leave-requires
unfolding IsCounted
leave-requires g c = record { runs = c.requires.runs; counted = counted_first c.args.self.now c.in-Some.piece.now c.in-Some.rest.now _ c.in-Some.ensures.cases.0 c.requires.counted (end_scripts c.in-Some.piece.now c.in-Some.rest.now c.in-End.is) }

pub returns-in-End-clause-steps : goal.returns-in-End-clause-steps
unfolding mode_of
returns-in-End-clause-steps g c = led _ _ (is_same (piece_first c.args.self.now c.in-Some.piece.now c.in-Some.rest (WordWhat-F.End) c.requires.runs c.in-Some.ensures.cases.0 (is_end c.in-Some.piece.now c.in-End.is))) c.leave.result c.leave.ensures.steps
