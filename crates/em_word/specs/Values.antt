-- The pieces of a word, each on what its parts give. `q` says whether the piece is quoted.
--     output_piece q s            `$( )`: a unit, the output of s without the newlines at its end, its blocks
--     value_piece q name form w   `$name` and its kin: a unit, the value, its blocks; w is the argument
use Rattle.std.specs.Prelude.{ℕ, Bool, true, false, List, [], ◌∷◌, ◌++◌, length, Option, Some, None, option_map, codes}
use Rattle.em_base.specs.declared.construct.Construct.TheVariants.{Positional}
use Rattle.em_vars.specs.Entries.{value_of}
use Rattle.em_view.specs.Rows.{blocks}
use Rattle.em_fields.specs.declared.part.Part.{Part}
use Rattle.em_fields.specs.declared.form.Form.{Form}
use Rattle.em_fields.specs.declared.form.Late.{Late}
use Rattle.em_fields.specs.declared.form.Late.TheVariants.{Keep, Assign, Complain, Cut}
use Rattle.em_fields.specs.Parts.{marked, mark, joined, glyphs, bytes, without_newlines}
use Rattle.em_fields.specs.Forms.{form_of, early_value, late_value, text}
use Rattle.em_fields.specs.Cuts.{cut_off}
use Rattle.em_word.specs.declared.shell.Shell.{Shell}
use Rattle.em_word.specs.declared.fault.WordFault.{WordFault}
use Rattle.em_word.specs.declared.fault.WordFault.TheVariants.{Unset, Refused}
use Rattle.em_word.specs.Talk.{Talk, Ends, Fails, Pays, Looks, Sets, Asks, and_then}

abbrev pub Plan : Type 0 → Type 0
Plan Q = Talk Q WordFault (List Part)

-- the text of the shell's variable
abbrev pub text_of : Shell → List ℕ → Option (List ℕ)
text_of shell name = option_map (λ v. v.text) (value_of shell.vars name)

-- what an expansion gives costs its blocks before it is used
abbrev pub charged : {Q : Type 0} → List Part → Plan Q
charged ps = Pays (blocks (length (glyphs ps))) (Ends ps)

abbrev pub taken : {Q : Type 0} → Bool → List ℕ → Plan Q
taken q output = charged (marked q (without_newlines output))

abbrev pub output_piece : {Q : Type 0} → Bool → Q → Plan Q
output_piece q s = Pays 1 (Asks s (taken q))

-- what `${name?word}` writes
abbrev pub complaint : List ℕ → List ℕ → List ℕ
complaint name word = codes "emake: sh: " ++ name ++ codes ": " ++ word ++ 10 ∷ []

-- the value, once its argument has been expanded to these parts
abbrev pub assigned : {Q : Type 0} → Bool → List ℕ → List ℕ → Plan Q
assigned q name value = Pays (blocks (length value)) (Sets name value (Ends (marked q value)))

abbrev pub close : {Q : Type 0} → Late → Bool → List ℕ → List Part → Plan Q
close Keep q name ps = charged (joined (mark q) ps)
close Assign q name ps = assigned q name (bytes ps)
close Complain q name ps = Fails (Unset (complaint name (bytes ps)))
close (Cut side) q name ps = Looks (λ shell. charged (marked q (cut_off side (glyphs ps) (text (text_of shell name)))))

abbrev pub argument : {Q : Type 0} → Option (Plan Q) → Plan Q
argument None = Ends []
argument (Some w) = w

abbrev pub unless_early : {Q : Type 0} → Option (List ℕ) → Bool → Plan Q → Plan Q
unless_early (Some value) q late = charged (marked q value)
unless_early None q late = late

-- the value of a name in a form; the argument is expanded only where it bears on it
abbrev pub by_form : {Q : Type 0} → Option Form → Bool → List ℕ → Option (Plan Q) → Plan Q
by_form None q name w = Fails (Refused Positional)
by_form (Some f) q name w =
    Looks (λ shell. unless_early (early_value f (text_of shell name) shell.status) q (and_then (argument w) (close (late_value f) q name)))

abbrev pub is_there : {A : Type 0} → Option A → Bool
is_there None = false
is_there (Some a) = true

unfoldable pub value_piece : {Q : Type 0} → Bool → List ℕ → List ℕ → Option (Plan Q) → Plan Q
value_piece q name form w = Pays 1 (by_form (form_of name form (is_there w)) q name w)
