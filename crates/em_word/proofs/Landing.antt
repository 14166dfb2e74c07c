-- Parts that were paid for, and what stands then.
use Rattle.std.proofs.Common.{◌≡◌, ◌∙◌, ◌+◌, ℕ, Bool, List, [], ◌∷◌, map, length, drop, Option, Some, None, refl, sym, ap, subst, Bor}
use Rattle.std.specs.Prelude.{Result, Ok, Err, MatchResult}
use Rattle.em_view.specs.Actions.{lift, spend}
use Rattle.em_view.specs.Performs.{DeskState, Told, Performs}
use Rattle.em_view.specs.Rows.{blocks}
use Rattle.em_syntax.specs.Pieces.{What, what_in}
use Rattle.em_syntax.specs.Scripts.{scripts, scripts_in}
use Rattle.em_syntax.specs.declared.tree.Script.{Script}
use Rattle.em_syntax.specs.declared.tree.Value.{Value}
use Rattle.em_syntax.specs.declared.tree.WordPiece.{WordPiece, out-WordPiece}
use Rattle.em_fields.specs.declared.part.Part.{Part}
use Rattle.em_fields.specs.declared.form.Form.{Form}
use Rattle.em_fields.specs.declared.form.Late.{Late}
use Rattle.em_fields.specs.Forms.{early_value}
use Rattle.em_fields.specs.Parts.{glyphs, marked, joined}
use Rattle.em_word.specs.declared.shell.Shell.{Shell}
use Rattle.em_word.specs.declared.fault.WordFault.{WordFault}
use Rattle.em_word.specs.declared.turn.Mode.{Mode}
use Rattle.em_word.specs.declared.turn.WordTurn.TheVariants as wordturn
use Rattle.em_word.specs.declared.expander.Expander.{Expander}
use Rattle.em_word.specs.declared.expander.Open.{Open}
use Rattle.em_word.specs.declared.expander.ExpanderStage.TheVariants.{Ready, Waiting, Given}
use Rattle.em_word.specs.declared.step.ExpansionStep.{ExpansionStep}
use Rattle.em_word.specs.declared.step.ExpansionStep.TheVariants as step
use Rattle.em_word.specs.Talk.{Ends, Pays, Looks, and_then}
use Rattle.em_word.specs.Values.{Plan, charged, taken, text_of, close, unless_early, assigned, output_piece}
use Rattle.em_word.specs.Words.{Around, Next, if_early, ended, taken_up, plan}
use Rattle.em_word.specs.Passing.{behind}
use Rattle.em_word.specs.Ends.{is_want, of_desk}
use Rattle.em_word.specs.Held.{plan_of, plan_given, word_of, asked_of, waits, with_piece, with_end, staged, around, arounds, next, Entered, IsCounted, IsBehind}
use Rattle.em_word.specs.Leads.{Leads, Failed, GoesOn, Turned, Stepped}
use Rattle.em_word.specs.Turns.{Setting, turn}
use Rattle.em_word.proofs.Meaning.{behind_plan}
use Rattle.em_word.proofs.Counting.{next_is, past_one}
use Rattle.em_word.proofs.Stepping.{paid, unpaid, on, is_same, looked, failed, set, asked}

-- what a piece came to stands behind the parts
pub landed : (e : Expander) (ps : List Part) → e.stage ≡ Ready → with_piece (Ends ps) e ≡ plan_of (record e { parts = joined e.parts ps })
unfolding plan_of
landed e ps is = ap (λ s. staged s (arounds e) (joined e.parts ps) e.rest.now) (sym is)

module _ {V : Type 0} {tells : V → Told} {mode : Mode} {shell : Shell} {first here : DeskState V} (ps : List Part) (m : ℕ) (size : length (glyphs ps) ≡ m) (e : Expander) where
  pub parts_unpaid : {f : WordFault} → Performs is_want tells first here (Err f) (lift of_desk (spend (blocks m))) → Failed tells mode shell first here (with_piece (charged ps) e) f
  parts_unpaid {f} p = subst (λ n. Failed tells mode shell first here (Pays (blocks n) (with_piece (Ends ps) e)) f) (sym size) (unpaid _ p)

  pub parts_paid : Performs is_want tells first here (Ok tt) (lift of_desk (spend (blocks m))) → Leads tells mode shell first here (with_piece (charged ps) e) (with_piece (Ends ps) e)
  parts_paid p = subst (λ n. Leads tells mode shell first here (Pays (blocks n) (with_piece (Ends ps) e)) (with_piece (Ends ps) e)) (sym size) (paid _ p)

  pub parts_go : e.stage ≡ Ready → IsCounted e → Performs is_want tells first here (Ok tt) (lift of_desk (spend (blocks m))) → GoesOn tells mode shell first here (with_piece (charged ps) e) (record e { parts = joined e.parts ps })
  unfolding IsCounted
  parts_go is counted p = record { leads = on (parts_paid p) (is_same (landed e ps is)); steady = record { runs = is; counted = counted } }

-- an output that was handed in comes first
pub given_first : (e : Expander) (q : Bool) (output : List ℕ) → e.stage ≡ Given q output → plan_of e ≡ with_piece (taken q output) (record e { stage = Ready })
unfolding plan_of
given_first e q output is = ap (λ s. staged s (arounds e) e.parts e.rest.now) is

-- the first of the pieces that are left
pub piece_first : (e : Expander) (p : WordPiece) (r : Bor (List WordPiece)) (w : What) → e.stage ≡ Ready → e.rest.now ≡ p ∷ r.now → what_in p ≡ w → plan_of e ≡ taken_up w (out-WordPiece p).quoted (arounds e) e.parts (next r.now)
unfolding plan_of
piece_first e p r w is rest what =
    ap (λ s. staged s (arounds e) e.parts e.rest.now) is ∙ ap (λ l. plan 0 (arounds e) e.parts l) rest
    ∙ ap (λ x. taken_up x (out-WordPiece p).quoted (arounds e) e.parts (next r.now)) what

pub none_first : (e : Expander) → e.stage ≡ Ready → e.rest.now ≡ [] → plan_of e ≡ Ends e.parts
unfolding plan_of
none_first e is rest = λ i. staged (is i) (arounds e) e.parts (rest i)

pub counted_first : (e : Expander) (p : WordPiece) (ps : List WordPiece) (ss : List Script) → e.rest.now ≡ p ∷ ps → IsCounted e → scripts_in (p ∷ ps) ≡ ss → drop e.before (scripts e.word.now) ≡ ss
unfolding IsCounted
counted_first e p ps ss rest c is = c ∙ ap scripts_in rest ∙ is

-- a step on what another one led to
module _ {V : Type 0} {tells : V → Told} {mode : Mode} {shell : Shell} {a b : DeskState V} {whole mid : Plan Script} (c : DeskState V) (new : Expander) where
  pub led : Leads tells mode shell a b whole mid → (r : Result ExpansionStep WordFault) → MatchResult r (Stepped tells mode shell b c mid new) (Failed tells mode shell b c mid) → MatchResult r (Stepped tells mode shell a c whole new) (Failed tells mode shell a c whole)
  led l (Ok step.Goes) s = record { leads = on l s.leads; steady = s.steady }
  led l (Ok (step.Turn t)) s = record { turned = l.goes _ _ s.turned; stands = s.stands }
  led l (Ok step.Ended) s = record { leads = on l s.leads }
  led l (Err f) s = failed l s

  pub goes_on : Leads tells mode shell a b whole mid → GoesOn tells mode shell b c mid new → GoesOn tells mode shell a c whole new
  goes_on l s = record { leads = on l s.leads; steady = s.steady }

-- the shell is looked at for a value
module _ {V : Type 0} {tells : V → Told} {mode : Mode} {shell : Shell} {d : DeskState V} (f : Form) (q : Bool) (name : List ℕ) (x : Option (List ℕ)) (is : early_value f (text_of shell name) shell.status ≡ x) where
  pub looked_value : (late : Plan Script) (e : Expander) → Leads tells mode shell d d (Looks (λ s. with_piece (unless_early (early_value f (text_of s name) s.status) q late) e)) (with_piece (unless_early x q late) e)
  looked_value late e = on (looked (λ s. with_piece (unless_early (early_value f (text_of s name) s.status) q late) e)) (is_same (ap (λ y. with_piece (unless_early y q late) e) is))

  pub looked_begin : (late : Late) (os : List Around) (ps : List Part) (after : Next) → Leads tells mode shell d d (Looks (λ s. if_early (early_value f (text_of s name) s.status) late q name os ps after)) (if_early x late q name os ps after)
  looked_begin late os ps after = on (looked (λ s. if_early (early_value f (text_of s name) s.status) late q name os ps after)) (is_same (ap (λ y. if_early y late q name os ps after) is))

-- into an argument
module _ (old new : Expander) (q : Bool) (late : Late) (v : Value) (e : Entered old new q late v) where
  pub entered_plan : old.stage ≡ Ready → if_early None late q v.name (arounds old) old.parts (next old.rest.now) ≡ plan_of new
  unfolding plan_of
  entered_plan is =
      sym (ap plan_of e.inside ∙ (λ i. staged (is i) (record { quoted = e.quoted i; late = e.late_is i; name = e.name i; parts = e.parts i } ∷ arounds old) [] old.rest.now))

  pub entered_count : IsCounted old → IsCounted new
  unfolding IsCounted
  entered_count counted = ap (λ (x : Expander). drop x.before (scripts x.word.now)) e.inside ∙ counted ∙ sym (ap (λ (x : Expander). scripts_in x.rest.now) e.inside)

  pub entered_stage : old.stage ≡ Ready → new.stage ≡ Ready
  entered_stage is = ap (λ (x : Expander). x.stage) e.inside ∙ is

-- past an argument
pub passed_plan : (old new : Expander) (late : Late) (q : Bool) (name value : List ℕ) → new ≡ record old { rest = new.rest; before = new.before } → new.rest.now ≡ behind 1 old.rest.now →
    if_early (Some value) late q name (arounds old) old.parts (next old.rest.now) ≡ with_piece (charged (marked q value)) new
passed_plan old new late q name value same rest =
    (λ i. and_then (charged (marked q value)) (λ more. behind_plan 1 (arounds old) (joined old.parts more) old.rest.now i))
    ∙ (λ i. and_then (charged (marked q value)) (λ more. plan 0 (arounds old) (joined old.parts more) (sym rest i)))
    ∙ sym (ap (λ (x : Expander). and_then (charged (marked q value)) (λ more. plan 0 (arounds x) (joined x.parts more) new.rest.now)) same)

-- a variable is to be set
module _ {V : Type 0} {tells : V → Told} {mode : Mode} {shell : Shell} {first here : DeskState V} (q : Bool) (name value : List ℕ) (e : Expander) where
  pub assign_turn : e.stage ≡ Ready → IsCounted e → Performs is_want tells first here (Ok tt) (lift of_desk (spend (blocks (length value)))) → Turned tells mode shell first here (with_piece (assigned q name value) e) (record e { parts = joined e.parts (marked q value) }) (wordturn.Set name value)
  unfolding IsCounted
  assign_turn is counted p = record {
    turned = subst (λ t. Performs is_want tells first here (Ok (Setting name value t)) (turn mode (with_piece (assigned q name value) e) shell)) (landed e (marked q value) is) (set {mode = mode} {shell = shell} (paid _ p));
    stands = record { runs = ap waits is; counted = counted };
  }

-- an output is needed
module _ {V : Type 0} {tells : V → Told} {mode : Mode} {shell : Shell} {first here : DeskState V} (q : Bool) (s : Bor Script) (e : Expander) where
  pub ask_turn : IsBehind (s.now ∷ []) e → Performs is_want tells first here (Ok tt) (lift of_desk (spend 1)) → Turned tells mode shell first here (with_piece (output_piece q s.now) e) (record e { before = e.before + 1; stage = Waiting q s }) (wordturn.Output e.before)
  unfolding IsCounted plan_of plan_given word_of asked_of
  ask_turn counted p = record {
    turned = asked {mode = mode} {shell = shell} (paid _ p);
    stands = record {
      waits = record { stops = refl; counted = past_one e.before (scripts e.word.now) s.now (scripts_in e.rest.now) counted };
      number = next_is e.before (scripts e.word.now) s.now (scripts_in e.rest.now) counted;
    };
  }

-- the end of the innermost argument
pub none_open : (e : Expander) → e.stage ≡ Ready → e.outer ≡ [] → with_end e ≡ plan_of e
unfolding plan_of
none_open e is outer = (λ i. ended (map around (outer i)) e.parts (next e.rest.now)) ∙ sym (λ i. staged (is i) (map around (outer i)) e.parts e.rest.now)

pub left_plan : (e : Expander) (o : Open) (os : List Open) (dest argument : List Part) → e.outer ≡ o ∷ os → argument ≡ e.parts → dest ≡ o.parts → with_end e ≡ and_then (close o.late o.quoted o.name.now argument) (λ more. plan 0 (map around os) (joined dest more) e.rest.now)
left_plan e o os dest argument outer arg to =
    (λ i. ended (map around (outer i)) e.parts (next e.rest.now))
    ∙ sym (λ i. and_then (close o.late o.quoted o.name.now (arg i)) (λ more. plan 0 (map around os) (joined (to i) more) e.rest.now))
