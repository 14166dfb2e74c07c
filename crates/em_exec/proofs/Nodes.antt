-- The variants of commands, as the code meets them.
use Rattle.std.proofs.Common.{◌≡◌, ◌∙◌, sym, ap}
use Rattle.em_syntax.specs.declared.tree.Command.TheOpen.{Command-F, Compound-F}
use Rattle.em_syntax.specs.declared.tree.Command.{out-Command, out-roll-Command}
use Rattle.em_syntax.specs.declared.tree.Command.TheVariants as command
use Rattle.em_syntax.specs.declared.tree.Compound.{out-Compound, out-roll-Compound}
use Rattle.em_syntax.specs.declared.tree.Compound.TheVariants as compound
use Rattle.em_syntax.specs.declared.tree.Simple.{Simple}
use Rattle.em_syntax.specs.declared.tree.Script.{Script}
use Rattle.em_syntax.specs.declared.tree.If.{If}
use Rattle.em_syntax.specs.declared.tree.Loop.{Loop}
use Rattle.em_syntax.specs.declared.tree.For.{For}
use Rattle.em_syntax.specs.declared.tree.Case.{Case}

pub is_simple : (x : Simple) → out-Command (command.Simple x) ≡ Command-F.Simple x
is_simple x = ap out-Command (sym (command.rolls-Simple x)) ∙ out-roll-Command _

pub is_subshell : (x : Script) → out-Compound (compound.Subshell x) ≡ Compound-F.Subshell x
is_subshell x = ap out-Compound (sym (compound.rolls-Subshell x)) ∙ out-roll-Compound _

pub is_group : (x : Script) → out-Compound (compound.Group x) ≡ Compound-F.Group x
is_group x = ap out-Compound (sym (compound.rolls-Group x)) ∙ out-roll-Compound _

pub is_if : (x : If) → out-Compound (compound.If x) ≡ Compound-F.If x
is_if x = ap out-Compound (sym (compound.rolls-If x)) ∙ out-roll-Compound _

pub is_loop : (x : Loop) → out-Compound (compound.Loop x) ≡ Compound-F.Loop x
is_loop x = ap out-Compound (sym (compound.rolls-Loop x)) ∙ out-roll-Compound _

pub is_for : (x : For) → out-Compound (compound.For x) ≡ Compound-F.For x
is_for x = ap out-Compound (sym (compound.rolls-For x)) ∙ out-roll-Compound _

pub is_case : (x : Case) → out-Compound (compound.Case x) ≡ Compound-F.Case x
is_case x = ap out-Compound (sym (compound.rolls-Case x)) ∙ out-roll-Compound _
