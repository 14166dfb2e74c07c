-- What a piece of a word is.
use Rattle.em_syntax.specs.declared.tree.Command.TheOpen.{WordWhat-F}
use Rattle.em_syntax.specs.declared.tree.Command.{Command}
use Rattle.em_syntax.specs.declared.tree.Compound.{Compound}
use Rattle.em_syntax.specs.declared.tree.WordWhat.{WordWhat, out-WordWhat}
use Rattle.em_syntax.specs.declared.tree.AndOr.{AndOr}
use Rattle.em_syntax.specs.declared.tree.Assigned.{Assigned}
use Rattle.em_syntax.specs.declared.tree.Branch.{Branch}
use Rattle.em_syntax.specs.declared.tree.Case.{Case}
use Rattle.em_syntax.specs.declared.tree.For.{For}
use Rattle.em_syntax.specs.declared.tree.If.{If}
use Rattle.em_syntax.specs.declared.tree.Item.{Item}
use Rattle.em_syntax.specs.declared.tree.Joined.{Joined}
use Rattle.em_syntax.specs.declared.tree.Loop.{Loop}
use Rattle.em_syntax.specs.declared.tree.Pipeline.{Pipeline}
use Rattle.em_syntax.specs.declared.tree.Redirect.{Redirect}
use Rattle.em_syntax.specs.declared.tree.Script.{Script}
use Rattle.em_syntax.specs.declared.tree.Simple.{Simple}
use Rattle.em_syntax.specs.declared.tree.Word.{Word}
use Rattle.em_syntax.specs.declared.tree.WordPiece.{WordPiece, out-WordPiece}

abbrev pub What : Type 0
What = WordWhat-F Command Compound WordWhat AndOr Assigned Branch Case For If Item Joined Loop Pipeline Redirect Script Simple Word WordPiece

abbrev pub what_in : WordPiece → What
what_in p = out-WordWhat (out-WordPiece p).what
