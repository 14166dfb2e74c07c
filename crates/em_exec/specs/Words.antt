-- The expansion of words by a shell on its way.
--     hold deeper scene mode plan     what a word's plan asks of the shell is done, step by step
--     expanded deeper scene mode w    a word in a mode
--     fields deeper scene ws          the fields of words, from left to right
--     whole deeper scene w            a word that is neither split nor expanded to path names
-- `deeper` is how a script runs that is one level deeper.
use Rattle.std.specs.Prelude.{ℕ, Bool, false, List, [], ◌∷◌, ◌++◌, Option, Some, None, Result, Ok, Err}
use Rattle.em_glob.specs.declared.glyph.Glyph.{Glyph}
use Rattle.em_view.specs.declared.done.ExecNo.TheVariants as exec
use Rattle.em_view.specs.Actions.{Action, fail, lift, spend}
use Rattle.em_view.specs.Steps.{Steps, done, refuse, own}
use Rattle.em_view.specs.Do.{◌>>=◌}
use Rattle.em_syntax.specs.declared.tree.Script.{Script}
use Rattle.em_syntax.specs.declared.tree.Word.{Word}
use Rattle.em_word.specs.declared.fault.WordFault.{WordFault}
use Rattle.em_word.specs.declared.turn.Mode.{Mode}
use Rattle.em_word.specs.declared.turn.Mode.TheVariants as mode
use Rattle.em_word.specs.Ends.{of_desk}
use Rattle.em_word.specs.Talk.{Ends, Fails, Pays, Looks, Sets, Asks}
use Rattle.em_word.specs.Turns.{Stop, Finished, Matching, Setting, Asking, finish}
use Rattle.em_word.specs.Values.{Plan}
use Rattle.em_word.specs.Words.{word_plan}
use Rattle.em_command.specs.declared.jump.Jump.{Jump}
use Rattle.em_command.specs.declared.jump.Jump.TheVariants.{End}
use Rattle.em_command.specs.declared.here.Here.{Here}
use Rattle.em_command.specs.declared.here.Scene.{Scene}
use Rattle.em_command.specs.Jumps.{Acts}
use Rattle.em_command.specs.Heres.{faulted, assigned}
use Rattle.em_exec.specs.declared.expand.Expansion.{Expansion}
use Rattle.em_exec.specs.declared.expand.Expansion.TheVariants.{Fields, Pattern}
use Rattle.em_exec.specs.Copies.{substituted}

abbrev pub Deeper : Type 0
Deeper = Script → Scene → Acts (Unit {0})

-- in a copy of the shell no loop is around
abbrev pub in_copy : List ℕ → Scene
in_copy input = record { input = input; in_loop = false }

abbrev pub come_to : {A : Type 0} → Result A WordFault → Here → Result (A × Here) (Jump × Here)
come_to (Ok a) h = Ok (a, h)
come_to (Err f) h = Err (faulted f h)

-- what a word does over the desk alone, with its fault
unfoldable pub worded : {A : Type 0} → (Here → Action WordFault A) → Acts A
worded m = λ h o w. (come_to (m h o w).0 h, (m h o w).1)

abbrev pub expansion_of : Stop → Expansion
expansion_of (Finished names) = Fields names
expansion_of (Matching gs) = Pattern gs
expansion_of (Setting name value t) = Fields []
expansion_of (Asking s t) = Fields []

abbrev pub fields_in : Expansion → List (List ℕ)
fields_in (Fields ts) = ts
fields_in (Pattern gs) = []

abbrev pub first_in : List (List ℕ) → List ℕ
first_in [] = []
first_in (t ∷ ts) = t

abbrev pub glyphs_in : Expansion → List Glyph
glyphs_in (Fields ts) = []
glyphs_in (Pattern gs) = gs

module _ (deeper : Deeper) (scene : Scene) where
  -- the output of a command substitution: it reads the standard input that stands around its
  -- command, never that command's own redirections
  abbrev pub output : Script → Acts (List ℕ)
  output s = substituted (deeper s (in_copy scene.input))

  -- of no substitution: this never comes, since an output is asked for where one stands
  abbrev pub output_if : Option Script → Acts (List ℕ)
  output_if None = refuse (End exec.NoMemory)
  output_if (Some s) = output s

  abbrev pub hold : Mode → Plan Script → Acts Expansion
  hold m (Ends ps) = worded (λ h. finish m h.shell.cwd ps) >>= (λ s. done (expansion_of s))
  hold m (Fails f) = worded (λ h. fail f)
  hold m (Pays n t) = worded (λ h. lift of_desk (spend n)) >>= (λ u. hold m t)
  hold m (Looks t) = λ h. hold m (t h.shell) h
  hold m (Sets name value t) = own (assigned name value) >>= (λ u. hold m t)
  hold m (Asks s t) = output s >>= (λ text. hold m (t text))

  unfoldable pub expanded : Mode → Word → Acts Expansion
  expanded m w = hold m (word_plan w)

  -- with the fields of one more word
  unfoldable pub added : List (List ℕ) → Word → Acts (List (List ℕ))
  added so_far w = do
    e ← expanded mode.Fields w
    done (so_far ++ fields_in e)

  abbrev pub fields : List (List ℕ) → List Word → Acts (List (List ℕ))
  fields so_far [] = done so_far
  fields so_far (w ∷ ws) = do
    more ← added so_far w
    fields more ws

  unfoldable pub whole : Word → Acts (List ℕ)
  whole w = do
    e ← expanded mode.Whole w
    done (first_in (fields_in e))

  unfoldable pub pattern : Word → Acts (List Glyph)
  pattern w = do
    e ← expanded mode.Pattern w
    done (glyphs_in e)
