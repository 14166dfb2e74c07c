-- Redirections, and what files hold.
--     Empties ..      `> word`: an empty file is put at the path that the word says
--     Finds ..        `>> word`: a file is there
--     IsTwoToOne ..   `2>&1`
--     Holds w p b     the job has put a file with these bytes at the path
--     HasNoLinks o w  no symbolic link is told of, and the job has made none
--     into s f        s with stream 1 going to one more file
--     both_into s f   with both streams going to it
use Rattle.std.specs.Prelude.{◌≡◌, ◌≢◌, ℕ, List, [], ◌∷◌, ◌++◌, length, codes, Option, Some, None, Result, Ok}
use Rattle.std.specs.FinMap.{get}
use Rattle.em_tree.specs.declared.node.Kind.TheVariants as kind
use Rattle.em_tree.specs.declared.node.Node.TheVariants as node
use Rattle.em_view.specs.Actions.{Oracle, Workspace}
use Rattle.em_view.specs.Bare.{TellsNone, AreBare}
use Rattle.em_view.specs.Rows.{kind_at, put}
use Rattle.em_utility.specs.Operands.{located}
use Rattle.em_syntax.specs.declared.tree.Redirect.{Redirect, out-Redirect}
use Rattle.em_syntax.specs.declared.tree.RedirectKind.{RedirectKind}
use Rattle.em_syntax.specs.declared.tree.RedirectKind.TheVariants.{Write, Append, Duplicate}
use Rattle.em_command.specs.declared.here.Here.{Here}
use Rattle.em_command.specs.declared.here.Scene.{Scene}
use Rattle.em_command.specs.declared.streams.OpenedFile.{OpenedFile}
use Rattle.em_command.specs.declared.streams.Sink.TheVariants.{Output, Nowhere, File}
use Rattle.em_command.specs.declared.streams.Streams.{Streams}
use Rattle.em_exec.specs.Words.{Deeper, whole}
use Rattle.em_shell_laws.specs.Ends.{Ends}

abbrev pub Is : ℕ → RedirectKind → Redirect → Type 0
Is fd k r = ((out-Redirect r).fd ≡ fd) × ((out-Redirect r).kind ≡ k)

-- from h and w the word of a redirection of stream 1 comes to f's, and says f's path, which isn't
-- `/dev/null`; u stands behind its expansion
pub record Says (deeper : Deeper) (scene : Scene) (o : Oracle) (k : RedirectKind) (r : Redirect) (h : Here) (w : Workspace) (f : OpenedFile) (t : Here) (u : Workspace) : Type 0 where
  pub is : Is 1 k r
  pub word : Ends o (whole deeper scene (out-Redirect r).target) h w f.word t u
  pub path : located t.shell.cwd f.word ≡ Ok f.path
  pub plain : f.path ≢ codes "/dev/null"

pub record Empties (deeper : Deeper) (scene : Scene) (o : Oracle) (r : Redirect) (h : Here) (w : Workspace) (f : OpenedFile) (t : Here) (v : Workspace) : Type 0 where
  pub between : Workspace
  pub says : Says deeper scene o Write r h w f t between
  pub puts : put f.path [] o between ≡ (Ok tt, v)

pub record Finds (deeper : Deeper) (scene : Scene) (o : Oracle) (r : Redirect) (h : Here) (w : Workspace) (f : OpenedFile) (t : Here) (v : Workspace) : Type 0 where
  pub between : Workspace
  pub says : Says deeper scene o Append r h w f t between
  pub finds : kind_at f.path o between ≡ (Ok kind.File, v)

-- its word is the digit whatever the shell is like
pub record IsTwoToOne (deeper : Deeper) (scene : Scene) (o : Oracle) (r : Redirect) : Type 0 where
  pub is : Is 2 Duplicate r
  pub word : (h : Here) (w : Workspace) → Ends o (whole deeper scene (out-Redirect r).target) h w (codes "1") h w

-- ---- where streams go

abbrev pub into : Streams → OpenedFile → Streams
into s f = record s { output = File (length s.files); files = s.files ++ f ∷ [] }

abbrev pub both_into : Streams → OpenedFile → Streams
both_into s f = record s { output = File (length s.files); errors = File (length s.files); files = s.files ++ f ∷ [] }

-- stream 2 goes where stream 1 went
abbrev pub apart_into : Streams → OpenedFile → Streams
apart_into s f = record s { output = File (length s.files); errors = s.output; files = s.files ++ f ∷ [] }

abbrev pub HasNoLinks : Oracle → Workspace → Type 0
HasNoLinks o w = TellsNone o × AreBare w.changes

abbrev pub Holds : Workspace → List ℕ → List ℕ → Type 0
Holds w p bytes = (stamp : ℕ) × (get w.changes p ≡ Some (Some (node.File bytes stamp)))
