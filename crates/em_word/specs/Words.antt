-- The expansion of a word of the syntax tree, up to splitting: what it asks for are the scripts of
-- its command substitutions.
--     plan n os ps pieces   the pieces from left to right behind the parts ps, where the arguments of the values os are open, the
--                           innermost first, and of n more arguments, which don't bear on their values, only the ends are looked for
--     word_plan w           all pieces of a word
-- What this means is said by the laws in laws.rt: closed lists come one after another, and a value
-- is expanded with its argument.
use Rattle.std.specs.Prelude.{ℕ, zero, suc, Bool, true, List, [], ◌∷◌, Option, Some, None}
use Rattle.em_base.specs.declared.construct.Construct.TheVariants.{Positional}
use Rattle.em_syntax.specs.declared.tree.Command.TheOpen.{WordWhat-F}
use Rattle.em_syntax.specs.declared.tree.Script.{Script}
use Rattle.em_syntax.specs.declared.tree.Word.{Word, out-Word}
use Rattle.em_syntax.specs.declared.tree.WordPiece.{WordPiece, out-WordPiece}
use Rattle.em_syntax.specs.Pieces.{What, what_in}
use Rattle.em_fields.specs.declared.part.Part.{Part}
use Rattle.em_fields.specs.declared.form.Form.{Form}
use Rattle.em_fields.specs.declared.form.Late.{Late}
use Rattle.em_fields.specs.Forms.{form_of, early_value, late_value}
use Rattle.em_fields.specs.Parts.{marked, joined}
use Rattle.em_word.specs.declared.fault.WordFault.TheVariants.{Refused}
use Rattle.em_word.specs.Talk.{Ends, Fails, Pays, Looks, and_then}
use Rattle.em_word.specs.Values.{Plan, charged, text_of, close, output_piece, value_piece}

-- a value whose argument is open, and what stands before it in the text around it
pub record Around : Type 0 where
  pub quoted : Bool
  pub late : Late
  pub name : List ℕ
  pub parts : List Part

-- what follows a piece: the arguments that are passed over, the values around, and the parts so far
abbrev pub Next : Type 0
Next = ℕ → List Around → List Part → Plan Script

abbrev pub and_part : Plan Script → List Around → List Part → Next → Plan Script
and_part p os ps next = and_then p (λ more. next 0 os (joined ps more))

-- the argument is expanded only where it bears on the value; else it is passed over
abbrev pub if_early : Option (List ℕ) → Late → Bool → List ℕ → List Around → List Part → Next → Plan Script
if_early (Some value) late q name os ps next = and_then (charged (marked q value)) (λ more. next 1 os (joined ps more))
if_early None late q name os ps next = next 0 (record { quoted = q; late = late; name = name; parts = ps } ∷ os) []

abbrev pub begun : Option Form → Bool → List ℕ → List Around → List Part → Next → Plan Script
begun None q name os ps next = Fails (Refused Positional)
begun (Some f) q name os ps next = Looks (λ shell. if_early (early_value f (text_of shell name) shell.status) (late_value f) q name os ps next)

abbrev pub ended : List Around → List Part → Next → Plan Script
ended [] ps next = next 0 [] ps
ended (o ∷ os) ps next = and_part (close o.late o.quoted o.name ps) os o.parts next

-- a piece of an argument that is passed over
abbrev pub passed : ℕ → What → List Around → List Part → Next → Plan Script
passed n (WordWhat-F.Argument v) os ps next = next (suc (suc n)) os ps
passed n WordWhat-F.End os ps next = next n os ps
passed n _ os ps next = next (suc n) os ps

abbrev pub taken_up : What → Bool → List Around → List Part → Next → Plan Script
taken_up (WordWhat-F.Bytes text) q os ps next = next 0 os (joined ps (marked q text))
taken_up (WordWhat-F.Value v) q os ps next = and_part (value_piece q v.name v.form None) os ps next
taken_up (WordWhat-F.Argument v) q os ps next = Pays 1 (begun (form_of v.name v.form true) q v.name os ps next)
taken_up WordWhat-F.End q os ps next = ended os ps next
taken_up (WordWhat-F.Output s) q os ps next = and_part (output_piece q s) os ps next

abbrev pub piece : ℕ → What → Bool → List Around → List Part → Next → Plan Script
piece zero what q os ps next = taken_up what q os ps next
piece (suc n) what q os ps next = passed n what os ps next

abbrev pub plan : ℕ → List Around → List Part → List WordPiece → Plan Script
plan n os ps [] = Ends ps
plan n os ps (p ∷ rest) = piece n (what_in p) (out-WordPiece p).quoted os ps (λ m us qs. plan m us qs rest)

-- pieces behind these parts, where no argument is open
abbrev pub expansion : List Part → List WordPiece → Plan Script
expansion ps pieces = plan 0 [] ps pieces

unfoldable pub word_plan : Word → Plan Script
word_plan w = expansion [] (out-Word w).pieces.items
