-- What an expander stands for.
--     plan_of e          what is left of its word's expansion
--     plan_given e out   the same, where this is the output that it asked for
--     IsReady e, IsWaiting e    its next turn may be taken; it waits for an output
--     asked_of e         the script for whose output it waits
--     seen e r           a turn as a caller has it, with what is left then
use Rattle.std.specs.Prelude.{◌≡◌, ℕ, Bool, true, false, List, [], ◌∷◌, ◌++◌, map, drop, slice_get, Result, Ok, Err, Option, Some, None}
use Rattle.em_syntax.specs.declared.tree.Script.{Script}
use Rattle.em_syntax.specs.declared.tree.Word.{Word}
use Rattle.em_syntax.specs.declared.tree.WordPiece.{WordPiece}
use Rattle.em_syntax.specs.declared.tree.Value.{Value}
use Rattle.em_syntax.specs.Scripts.{scripts, scripts_in}
use Rattle.em_fields.specs.declared.form.Late.{Late}
use Rattle.em_fields.specs.declared.part.Part.{Part}
use Rattle.em_fields.specs.Forms.{form_of}
use Rattle.em_fields.specs.Parts.{joined}
use Rattle.em_word.specs.declared.fault.WordFault.{WordFault}
use Rattle.em_word.specs.declared.turn.Mode.{Mode}
use Rattle.em_word.specs.declared.turn.WordTurn.{WordTurn}
use Rattle.em_word.specs.declared.turn.WordTurn.TheVariants as turn
use Rattle.em_word.specs.declared.expander.Expander.{Expander}
use Rattle.em_word.specs.declared.expander.Open.{Open}
use Rattle.em_word.specs.declared.expander.ExpanderStage.{ExpanderStage}
use Rattle.em_word.specs.declared.expander.ExpanderStage.TheVariants.{Ready, Waiting, Given}
use Rattle.em_word.specs.Talk.{Pays, and_then}
use Rattle.em_word.specs.Values.{Plan, taken, value_piece}
use Rattle.em_word.specs.Words.{Around, Next, plan, begun, ended}
use Rattle.em_word.specs.Turns.{Stop, Finished, Matching, Setting, Asking}

-- a value whose argument is open
abbrev pub around : Open → Around
around o = record { quoted = o.quoted; late = o.late; name = o.name.now; parts = o.parts }

abbrev pub arounds : Expander → List Around
arounds e = map around e.outer

-- what is left, behind these parts
abbrev pub next : List WordPiece → Next
next rest n os ps = plan n os ps rest

abbrev pub staged : ExpanderStage → List Around → List Part → List WordPiece → Plan Script
staged Ready os ps rest = plan 0 os ps rest
staged (Waiting q s) os ps rest = plan 0 os ps rest
staged (Given q output) os ps rest = and_then (taken q output) (λ more. plan 0 os (joined ps more) rest)

unfoldable pub plan_of : Expander → Plan Script
plan_of e = staged e.stage (arounds e) e.parts e.rest.now

abbrev pub given : ExpanderStage → List ℕ → ExpanderStage
given Ready output = Given false output
given (Waiting q s) output = Given q output
given (Given q _) output = Given q output

unfoldable pub plan_given : Expander → List ℕ → Plan Script
plan_given e output = plan_of (record e { stage = given e.stage output })

-- the expander's word
unfoldable pub word_of : Expander → Word
word_of e = e.word.now

unfoldable pub mode_of : Expander → Mode
mode_of e = e.mode

abbrev pub asked_in : ExpanderStage → Option Script
asked_in (Waiting q s) = Some s.now
asked_in _ = None

-- the script for whose output it waits
unfoldable pub asked_of : Expander → Option Script
asked_of e = asked_in e.stage

-- whether it waits for an output
abbrev pub waits : ExpanderStage → Bool
waits (Waiting q s) = true
waits _ = false

-- those of ss, and then those that are left, are what the word has behind the first so many
abbrev pub IsBehind : List Script → Expander → Type 0
IsBehind ss e = drop e.before (scripts e.word.now) ≡ ss ++ scripts_in e.rest.now

unfoldable pub IsCounted : Expander → Type 0
IsCounted e = IsBehind [] e

pub record IsReady (e : Expander) : Type 0 where
  pub runs : waits e.stage ≡ false
  pub counted : IsCounted e

pub record IsWaiting (e : Expander) : Type 0 where
  pub stops : waits e.stage ≡ true
  pub counted : IsCounted e

-- it waits for the output of the word's substitution of this number
pub record IsAsking (e : Expander) (n : ℕ) : Type 0 where
  pub waits : IsWaiting e
  pub number : slice_get (scripts (word_of e)) n ≡ asked_of e

-- between two pieces
pub record IsSteady (e : Expander) : Type 0 where
  pub runs : e.stage ≡ Ready
  pub counted : IsCounted e

-- the plan of a piece, and then what is left
abbrev pub with_piece : Plan Script → Expander → Plan Script
with_piece p e = and_then p (λ more. plan 0 (arounds e) (joined e.parts more) e.rest.now)

-- the begin of a value's argument, and the end of the innermost one, and then what is left
abbrev pub with_begin : Value → Bool → Expander → Plan Script
with_begin v q e = Pays 1 (begun (form_of v.name v.form true) q v.name (arounds e) e.parts (next e.rest.now))

abbrev pub with_end : Expander → Plan Script
with_end e = ended (arounds e) e.parts (next e.rest.now)

abbrev pub value_plan : Value → Bool → Plan Script
value_plan v q = value_piece q v.name v.form None

-- the expander has gone into the argument of a value
pub record Entered (old new : Expander) (q : Bool) (late : Late) (v : Value) : Type 0 where
  pub value : Open
  pub inside : new ≡ record old { parts = []; outer = value ∷ old.outer }
  pub quoted : value.quoted ≡ q
  pub late_is : value.late ≡ late
  pub name : value.name.now ≡ v.name
  pub parts : value.parts ≡ old.parts

abbrev pub seen_turn : Expander → WordTurn → Stop
seen_turn e (turn.Done names) = Finished names
seen_turn e (turn.Pattern gs) = Matching gs
seen_turn e (turn.Set name value) = Setting name value (plan_of e)
seen_turn e (turn.Output n) = Asking (asked_of e) (plan_given e)

abbrev pub seen : Expander → Result WordTurn WordFault → Result Stop WordFault
seen e (Ok t) = Ok (seen_turn e t)
seen e (Err f) = Err f

-- the next turn may be taken after a value is set, and an output is waited for after it was asked
-- for
abbrev pub StandsAfter : Expander → WordTurn → Type 0
StandsAfter e (turn.Set name value) = IsReady e
StandsAfter e (turn.Output n) = IsAsking e n
StandsAfter e _ = Unit {0}
