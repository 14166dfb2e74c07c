-- A text means one thing to the shell.
use Rattle.std.proofs.Common.{◌≡◌, ◌≢◌, ◌∙◌, ℕ, List, [], length, refl, sym, ap}
use Rattle.em_base.specs.declared.construct.Construct.{Construct}
use Rattle.em_lex.specs.Lexing.{lexed}
use Rattle.em_syntax.specs.declared.tree.Script as tree
use Rattle.em_gram.specs.declared.no.GramNo.{GramNo}
use Rattle.em_gram.specs.declared.no.GramNo.TheVariants as gram
use Rattle.em_gram.specs.Line.{IsScript, IsFault}
use Rattle.em_gram.specs.Same.{script_shape}
use Rattle.em_gram.proofs.Only.{only_tree}
use Rattle.em_gram.proofs.Verdicts.{only_fault, tree_or_fault}
use Rattle.em_command.specs.Heres.{begun}
use Rattle.em_exec.specs.Words.{in_copy}
use Rattle.em_exec.specs.Exec.{run, closed}
use Rattle.em_script.specs.declared.line.ShellLine.{ShellLine}
use Rattle.em_script.specs.declared.line.ShellLine.TheVariants.{Script, Wrong, Refused}
use Rattle.em_script.specs.Lines.{IsWrong, Unexpected, Unclosed, IsRefused, IsRead, run_line}
use Rattle.em_script.specs.Strands.{Meaning, sub_of, IsMeant}
use Rattle.em_script.proofs.Alike.{scripts_alike}
use Rattle.em_script.proofs.Subs.{subs_alike}

pub alike : (s t : tree.Script) → script_shape s ≡ script_shape t → run s ≡ run t
unfolding run
alike s t e = λ i. λ a o w. (closed a (scripts_alike 65 s t e i (in_copy []) (begun a.shell) o w).0, (scripts_alike 65 s t e i (in_copy []) (begun a.shell) o w).1)

-- the line of a fault
abbrev line_of : GramNo → ShellLine
line_of (gram.Refused construct at) = Refused construct
line_of _ = Wrong

record Faulty (text : List ℕ) (line : ShellLine) : Type 0 where
  reason : GramNo
  fault : IsFault (lexed text) (length text) reason
  told : reason ≢ gram.NoMemory
  is : line ≡ line_of reason

wrong : (text : List ℕ) → IsWrong text → Faulty text Wrong
wrong text (Unexpected at f) = record { reason = gram.Unexpected at; fault = f; told = λ e. absurd cc; is = refl }
wrong text (Unclosed at f) = record { reason = gram.Unclosed at; fault = f; told = λ e. absurd cc; is = refl }

refused : (text : List ℕ) (c : Construct) → IsRefused text c → Faulty text (Refused c)
refused text c r = record { reason = gram.Refused c r.at; fault = r.fault; told = λ e. absurd cc; is = refl }

same_line : (text : List ℕ) (a b : ShellLine) → Faulty text a → Faulty text b → run_line a ≡ run_line b
same_line text a b f g = ap run_line (f.is ∙ ap line_of (only_fault (lexed text) (length text) f.reason g.reason f.fault g.fault f.told g.told) ∙ sym g.is)

no_line : {A : Type 0} (text : List ℕ) (s : tree.Script) (a : ShellLine) → IsScript (lexed text) s → Faulty text a → A
no_line text s a h f = absurd (f.told (tree_or_fault (lexed text) (length text) s f.reason h f.fault))

pub one_meaning : (text : List ℕ) (a b : ShellLine) → IsRead text a → IsRead text b → run_line a ≡ run_line b
one_meaning text (Script s) (Script t) h g = alike s t (only_tree (lexed text) s t h g)
one_meaning text (Script s) Wrong h g = no_line text s _ h (wrong text g)
one_meaning text (Script s) (Refused c) h g = no_line text s _ h (refused text c g)
one_meaning text Wrong (Script t) h g = no_line text t _ g (wrong text h)
one_meaning text (Refused c) (Script t) h g = no_line text t _ g (refused text c h)
one_meaning text Wrong Wrong h g = refl
one_meaning text Wrong (Refused d) h g = same_line text _ _ (wrong text h) (refused text d g)
one_meaning text (Refused c) Wrong h g = same_line text _ _ (refused text c h) (wrong text g)
one_meaning text (Refused c) (Refused d) h g = same_line text _ _ (refused text c h) (refused text d g)

one_sub : (text : List ℕ) (a b : ShellLine) → IsRead text a → IsRead text b → sub_of a ≡ sub_of b
one_sub text (Script s) (Script t) h g = subs_alike s t (only_tree (lexed text) s t h g)
one_sub text (Script s) Wrong h g = no_line text s _ h (wrong text g)
one_sub text (Script s) (Refused c) h g = no_line text s _ h (refused text c g)
one_sub text Wrong (Script t) h g = no_line text t _ g (wrong text h)
one_sub text (Refused c) (Script t) h g = no_line text t _ g (refused text c h)
one_sub text Wrong Wrong h g = refl
one_sub text Wrong (Refused d) h g = refl
one_sub text (Refused c) Wrong h g = refl
one_sub text (Refused c) (Refused d) h g = refl

pub one_text : (text : List ℕ) (a b : Meaning) → IsMeant text a → IsMeant text b → a ≡ b
one_text text a b h g =
    let run = one_meaning text h.line g.line h.read g.read in
    let sub = one_sub text h.line g.line h.read g.read in
    h.is ∙ (λ i. record { run = run i; sub = sub i }) ∙ sym g.is
