-- How far a word's expansion goes by itself: to its end, or to where it needs its caller.
--     names_of cwd f         a field: the names that match it, or the field itself
--     finish mode cwd ps     what a word comes to in a mode
--     turn mode t shell      the plan t, as far as it goes on this shell
use Rattle.std.specs.Prelude.{ℕ, List, [], ◌∷◌, ◌++◌, Option, Some, if◌then◌else◌}
use Rattle.em_glob.specs.declared.glyph.Glyph.{Glyph}
use Rattle.em_glob.specs.Patterns.{is_pattern, bytes_of}
use Rattle.em_view.specs.Actions.{Action, ◌>>=◌, done, fail, lift, spend}
use Rattle.em_pathname.specs.Walking.{matching_names}
use Rattle.em_syntax.specs.declared.tree.Script.{Script}
use Rattle.em_fields.specs.declared.part.Part.{Part}
use Rattle.em_fields.specs.Parts.{glyphs, bytes, fields}
use Rattle.em_word.specs.declared.shell.Shell.{Shell}
use Rattle.em_word.specs.declared.fault.WordFault.{WordFault}
use Rattle.em_word.specs.declared.turn.Mode.{Mode}
use Rattle.em_word.specs.declared.turn.Mode.TheVariants as mode
use Rattle.em_word.specs.Talk.{Ends, Fails, Pays, Looks, Sets, Asks}
use Rattle.em_word.specs.Values.{Plan}
use Rattle.em_word.specs.Ends.{of_desk}

-- a turn: the fields, the pattern, a variable that is to be set, or a command whose output is
-- needed; the last two with what follows. No command stands for one that isn't in the word
pub data Stop : Type 0 where
  Finished : List (List ℕ) → Stop
  Matching : List Glyph → Stop
  Setting : List ℕ → List ℕ → Plan Script → Stop
  Asking : Option Script → (List ℕ → Plan Script) → Stop

-- a pattern without a match stays
abbrev pub or_itself : List Glyph → List (List ℕ) → List (List ℕ)
or_itself f [] = bytes_of f ∷ []
or_itself f (n ∷ ns) = n ∷ ns

unfoldable pub names_that_match : List ℕ → List Glyph → Action WordFault (List (List ℕ))
names_that_match cwd f = do
  ns ← lift of_desk (matching_names cwd f)
  done (or_itself f ns)

unfoldable pub names_of : List ℕ → List Glyph → Action WordFault (List (List ℕ))
names_of cwd f = if is_pattern f then names_that_match cwd f else done (bytes_of f ∷ [])

abbrev pub names_of_each : List ℕ → List (List ℕ) → List (List Glyph) → Action WordFault (List (List ℕ))
names_of_each cwd so_far [] = done so_far
names_of_each cwd so_far (f ∷ fs) = do
  ns ← names_of cwd f
  names_of_each cwd (so_far ++ ns) fs

unfoldable pub expanded : List ℕ → List (List Glyph) → Action WordFault Stop
expanded cwd fs = do
  ns ← names_of_each cwd [] fs
  done (Finished ns)

abbrev pub finish : Mode → List ℕ → List Part → Action WordFault Stop
finish mode.Fields cwd ps = expanded cwd (fields ps)
finish mode.Whole cwd ps = done (Finished (bytes ps ∷ []))
finish mode.Pattern cwd ps = done (Matching (glyphs ps))

abbrev pub turn : Mode → Plan Script → Shell → Action WordFault Stop
turn m (Ends ps) shell = finish m shell.cwd ps
turn m (Fails f) shell = fail f
turn m (Pays n t) shell = lift of_desk (spend n) >>= (λ u. turn m t shell)
turn m (Looks t) shell = turn m (t shell) shell
turn m (Sets name value t) shell = done (Setting name value t)
turn m (Asks s t) shell = done (Asking (Some s) t)
