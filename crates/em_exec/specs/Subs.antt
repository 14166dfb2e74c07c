-- A line that begins a make within a make: one simple command, neither with assignments nor with
-- redirections, whose words begin with `emake` or `make`; or `cd W &&` before such a command, where
-- W comes to one field. The two names count as they stand in the line, without their quotes: what an
-- expansion gives is no such name.
--     sub_form script       the form, where the script has one
--     heard f               the words behind the name; a directory that isn't there; or an ordinary line has run
--     words_of f            the same from a session on, as a line runs
--     words_if              where there is no form nothing is done
use Rattle.std.specs.Prelude.{ℕ, ◌==◌, ◌&&◌, ◌||◌, Bool, true, false, List, [], ◌∷◌, ◌++◌, codes, drop, length, Option, Some, None, Result, Ok, Err, if◌then◌else◌}
use Rattle.std.specs.Option.{option_map}
use Rattle.em_path.specs.declared.path.PathNo.{PathNo}
use Rattle.em_path.specs.Reading.{read_fault, resolved_text}
use Rattle.em_tree.specs.declared.node.Kind.{Kind}
use Rattle.em_tree.specs.declared.node.Kind.TheVariants as kind
use Rattle.em_view.specs.declared.done.ExecNo.{ExecNo}
use Rattle.em_view.specs.Actions.{spend}
use Rattle.em_view.specs.Rows.{kind_at}
use Rattle.em_view.specs.Steps.{Steps, done, own, below}
use Rattle.em_view.specs.Do.{◌>>=◌}
use Rattle.em_syntax.specs.declared.tree.Command.TheOpen.{Command-F}
use Rattle.em_syntax.specs.declared.tree.Script.{Script, out-Script}
use Rattle.em_syntax.specs.declared.tree.AndOr.{AndOr, out-AndOr}
use Rattle.em_syntax.specs.declared.tree.Joined.{Joined, out-Joined}
use Rattle.em_syntax.specs.declared.tree.Pipeline.{Pipeline, out-Pipeline}
use Rattle.em_syntax.specs.declared.tree.Command.{Command, out-Command}
use Rattle.em_syntax.specs.declared.tree.Simple.{Simple, out-Simple}
use Rattle.em_syntax.specs.declared.tree.Word.{Word, out-Word}
use Rattle.em_syntax.specs.declared.tree.WordPiece.{WordPiece}
use Rattle.em_syntax.specs.Texts.{bytes_in}
use Rattle.em_command.specs.declared.jump.Jump.{Jump}
use Rattle.em_command.specs.declared.jump.Jump.TheVariants.{End}
use Rattle.em_command.specs.declared.here.Here.{Here}
use Rattle.em_command.specs.declared.here.Scene.{Scene}
use Rattle.em_command.specs.Jumps.{Acts, Change, of_desk}
use Rattle.em_command.specs.Heres.{begun}
use Rattle.em_exec.specs.declared.sub.SubWords.{SubWords}
use Rattle.em_exec.specs.declared.sub.SubWords.TheVariants.{Words, NoDir, Status}
use Rattle.em_exec.specs.declared.sub.WordsHeard.{WordsHeard}
use Rattle.em_exec.specs.declared.sub.WordsHeard.TheVariants.{Told, Missed, Ran}
use Rattle.em_exec.specs.Literals.{is_text}
use Rattle.em_exec.specs.Words.{Deeper, in_copy, fields}
use Rattle.em_exec.specs.Running.{CommandBody, unsubstituted, of_words, joined_one, script_at}
use Rattle.em_exec.specs.Exec.{Session, left_by}

-- ---- the form

-- behind the bytes of a piece those of the pieces behind it
abbrev pub followed : Option (List ℕ) → Option (List ℕ) → Option (List ℕ)
followed (Some text) (Some more) = Some (text ++ more)
followed _ _ = None

abbrev pub written_in : List WordPiece → Option (List ℕ)
written_in [] = Some []
written_in (p ∷ ps) = followed (bytes_in p) (written_in ps)

-- what stands in the line, without its quotes; none where something of it is expanded
abbrev pub written : Word → Option (List ℕ)
written w = written_in (out-Word w).pieces.items

abbrev pub is_written : List ℕ → Word → Bool
is_written name w = is_text name (written w)

abbrev pub is_make : Word → Bool
is_make w = is_written (codes "emake") w || is_written (codes "make") w

abbrev pub begins_with_make : List Word → Bool
begins_with_make [] = false
begins_with_make (w ∷ ws) = is_make w

-- `cd` and one word
abbrev pub is_cd : List Word → Bool
is_cd (c ∷ w ∷ []) = is_written (codes "cd") c
is_cd _ = false

-- neither assignments nor redirections
abbrev pub is_bare : Simple → Bool
is_bare c = (length (out-Simple c).assigned.items == 0) && (length (out-Simple c).redirects.items == 0)

abbrev pub simple_by : CommandBody → Option Simple
simple_by (Command-F.Simple c) = Some c
simple_by (Command-F.Compound c rs) = None

abbrev pub stage_of : List Command → Option Simple
stage_of (c ∷ []) = simple_by (out-Command c)
stage_of _ = None

-- the simple command that the whole pipeline is, without `!`
abbrev pub one_command : Pipeline → Option Simple
one_command p = if (out-Pipeline p).not then None else stage_of (out-Pipeline p).stages.items

abbrev pub such : (List Word → Bool) → Option Simple → Option Simple
such is (Some c) = if is_bare c && is (out-Simple c).words.items then Some c else None
such is None = None

abbrev pub command_alone : (List Word → Bool) → Pipeline → Option Simple
command_alone is p = such is (one_command p)

pub data SubForm : Type 0 where
  -- the command
  Alone : Simple → SubForm
  -- `cd W`, what is joined to it, and in that the command
  Behind : Simple → Joined → Simple → SubForm

abbrev pub behind : Joined → Option Simple → Option Simple → Option SubForm
behind j (Some cd) (Some make) = if (out-Joined j).and then Some (Behind cd j make) else None
behind j _ _ = None

abbrev pub form_by : Pipeline → List Joined → Option SubForm
form_by p [] = option_map Alone (command_alone begins_with_make p)
form_by p (j ∷ []) = behind j (command_alone is_cd p) (command_alone begins_with_make (out-Joined j).next)
form_by p (j ∷ k ∷ js) = None

abbrev pub form_in : List AndOr → Option SubForm
form_in (a ∷ []) = form_by (out-AndOr a).first (out-AndOr a).rest.items
form_in _ = None

unfoldable pub sub_form : Script → Option SubForm
sub_form s = form_in (out-Script s).list.items

-- ---- the directory

abbrev pub path_by : Option PathNo → List ℕ → Option (List ℕ)
path_by None p = Some p
path_by (Some fault) p = None

-- the path that a name is, read against the working directory
abbrev pub path_of : List ℕ → List ℕ → Option (List ℕ)
path_of cwd name = path_by (read_fault cwd name) (resolved_text cwd name)

abbrev pub at_path : List ℕ → Change Bool
at_path p h = Ok (true, record h { shell = record h.shell { cwd = p } })

abbrev pub into : List ℕ → Kind → Acts Bool
into p kind.Dir = own (at_path p)
into p _ = done false

abbrev pub enter_by : Option (List ℕ) → Acts Bool
enter_by None = done false
enter_by (Some p) = below of_desk (kind_at p) >>= into p

-- into a directory, if there is one: whether there is. A name that is no path isn't asked for
unfoldable pub enter : List ℕ → Acts Bool
enter name = λ h. enter_by (path_of h.shell.cwd name) h

-- ---- the words

module _ (deeper : Deeper) (scene : Scene) where
  unfoldable pub fields_in : Simple → Acts (List (List ℕ))
  fields_in c = do
    u ← own unsubstituted
    fields deeper scene [] (out-Simple c).words.items

  -- a simple command's unit is taken before all, then come its words
  unfoldable pub charged : Simple → Acts (List (List ℕ))
  charged c = do
    u ← below of_desk (spend 1)
    fields_in c

  -- the words behind the name
  abbrev pub told : List (List ℕ) → Acts WordsHeard
  told ws = done (Told (drop 1 ws))

  abbrev pub if_there : List ℕ → Simple → Bool → Acts WordsHeard
  if_there name make true = fields_in make >>= told
  if_there name make false = done (Missed name)

  -- the command's unit, the directory, and then the words, which are expanded there
  unfoldable pub inside : List ℕ → Simple → Acts WordsHeard
  inside name make = do
    u ← below of_desk (spend 1)
    there ← enter name
    if_there name make there

  -- what `cd` does with these words, and what is joined to it
  unfoldable pub ordinary : Simple → List (List ℕ) → Joined → Acts WordsHeard
  ordinary cd words j = do
    u ← of_words deeper scene cd words
    v ← joined_one deeper scene j
    done Ran

  -- where W comes to one field; else the line is an ordinary one
  abbrev pub by_fields : Simple → Joined → Simple → List (List ℕ) → Acts WordsHeard
  by_fields cd j make (c ∷ name ∷ []) = inside name make
  by_fields cd j make words = ordinary cd words j

  abbrev pub heard : SubForm → Acts WordsHeard
  heard (Alone make) = charged make >>= told
  heard (Behind cd j make) = charged cd >>= by_fields cd j make

-- ---- a line

-- what the line comes to, and the session behind it; `exit` and a name that isn't set end the line
abbrev pub closed_with : Session → Result (WordsHeard × Here) (Jump × Here) → Result (SubWords × Session) (ExecNo × Session)
closed_with s (Ok (Told ws, h)) = Ok (Words ws, left_by h s)
closed_with s (Ok (Missed name, h)) = Ok (NoDir name, left_by h s)
closed_with s (Ok (Ran, h)) = Ok (Status h.shell.status, left_by h s)
closed_with s (Err (End e, h)) = Err (e, left_by h s)
closed_with s (Err (j, h)) = Ok (Status h.shell.status, left_by h s)

-- an error of the desk has ended the line
abbrev pub is_ended : {A : Type 0} → Result A Jump → Bool
is_ended (Err (End e)) = true
is_ended _ = false

unfoldable pub words_of : SubForm → Steps Session ExecNo SubWords
words_of f = λ s o w. (closed_with s (heard (script_at 64) (in_copy []) f (begun s.shell) o w).0, (heard (script_at 64) (in_copy []) f (begun s.shell) o w).1)

abbrev pub words_if : Option (Steps Session ExecNo SubWords) → Steps Session ExecNo (Option SubWords)
words_if None = done None
words_if (Some m) = m >>= (λ ws. done (Some ws))
