use Rattle.std.proofs.Common.{◌≡◌, drop}
use Rattle.em_syntax.specs.declared.tree.Word.{out-Word}
use Rattle.em_exec.specs.Literals.{is_text}
use Rattle.em_exec.specs.Subs.{is_written, written_in}
use Rattle.em_exec.proofs.form.is_written.Given as goal

abbrev pub invariant-loop-piece : goal.invariant-loop-piece
invariant-loop-piece l = is_text l.left (written_in (drop l.piece-index l.piece-items)) ≡ is_text l.initial.left (written_in l.piece-items)
