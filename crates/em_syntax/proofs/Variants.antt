-- What a piece is, as the code meets it.
use Rattle.std.proofs.Common.{◌≡◌, ◌∙◌, ℕ, List, sym, ap}
use Rattle.em_syntax.specs.declared.tree.Command.TheOpen.{WordWhat-F}
use Rattle.em_syntax.specs.declared.tree.WordWhat.{out-WordWhat, out-roll-WordWhat}
use Rattle.em_syntax.specs.declared.tree.WordWhat.TheVariants as what
use Rattle.em_syntax.specs.declared.tree.WordPiece.{WordPiece, out-WordPiece}
use Rattle.em_syntax.specs.declared.tree.Value.{Value}
use Rattle.em_syntax.specs.declared.tree.Script.{Script}
use Rattle.em_syntax.specs.Pieces.{what_in}

module _ (p : WordPiece) where
  pub is_bytes : (t : List ℕ) → (out-WordPiece p).what ≡ what.Bytes t → what_in p ≡ WordWhat-F.Bytes t
  is_bytes t e = ap out-WordWhat (e ∙ sym (what.rolls-Bytes t)) ∙ out-roll-WordWhat _

  pub is_value : (v : Value) → (out-WordPiece p).what ≡ what.Value v → what_in p ≡ WordWhat-F.Value v
  is_value v e = ap out-WordWhat (e ∙ sym (what.rolls-Value v)) ∙ out-roll-WordWhat _

  pub is_argument : (v : Value) → (out-WordPiece p).what ≡ what.Argument v → what_in p ≡ WordWhat-F.Argument v
  is_argument v e = ap out-WordWhat (e ∙ sym (what.rolls-Argument v)) ∙ out-roll-WordWhat _

  pub is_end : (out-WordPiece p).what ≡ what.End → what_in p ≡ WordWhat-F.End
  is_end e = ap out-WordWhat (e ∙ sym what.rolls-End) ∙ out-roll-WordWhat _

  pub is_output : (s : Script) → (out-WordPiece p).what ≡ what.Output s → what_in p ≡ WordWhat-F.Output s
  is_output s e = ap out-WordWhat (e ∙ sym (what.rolls-Output s)) ∙ out-roll-WordWhat _
