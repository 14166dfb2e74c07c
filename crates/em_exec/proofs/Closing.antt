-- A line as a whole, from what its commands have done, or from what was heard of its words.
use Rattle.std.proofs.Common.{◌≡◌, ◌∙◌, ℕ, false, [], Result, Ok, Err, refl, sym, ap}
use Rattle.em_view.specs.declared.done.ExecNo.{ExecNo}
use Rattle.em_view.specs.Actions.{Workspace}
use Rattle.em_view.specs.Performs.{DeskState, Told}
use Rattle.em_view.specs.Performs as performs
use Rattle.em_view.specs.Steps.{Does, with_state}
use Rattle.em_view.specs.Ends.{is_want}
use Rattle.em_syntax.specs.declared.tree.Script.{Script}
use Rattle.em_command.specs.declared.jump.Jump.{Jump}
use Rattle.em_command.specs.declared.jump.Jump.TheVariants.{Exit, Break, Continue, End}
use Rattle.em_command.specs.declared.here.Here.{Here}
use Rattle.em_command.specs.Heres.{begun}
use Rattle.em_command.specs.Jumps.{is_free}
use Rattle.em_exec.specs.Copies.{Ended}
use Rattle.em_exec.specs.Words.{in_copy}
use Rattle.em_exec.specs.Running.{script_at}
use Rattle.em_exec.specs.Exec.{Session, closed, run}
use Rattle.em_exec.specs.declared.sub.SubWords.{SubWords}
use Rattle.em_exec.specs.declared.sub.WordsHeard.{WordsHeard}
use Rattle.em_exec.specs.declared.sub.WordsHeard.TheVariants.{Told as Hears, Missed, Ran}
use Rattle.em_exec.specs.Subs.{SubForm, heard, closed_with, words_of}

ended_free : {A : Type 0} (r : Result A Jump) (h : Here) → performs.is_free (λ (x : Jump × Here). is_free x.0) (with_state r h) ≡ performs.is_free is_free r
ended_free (Ok a) h = refl
ended_free (Err j) h = refl

session_free : {A : Type 0} (x : Result A ExecNo) (u : Session) → performs.is_free (λ (e : ExecNo × Session). is_want e.0) (with_state x u) ≡ performs.is_free is_want x
session_free (Ok a) u = refl
session_free (Err e) u = refl

closed_free : (s : Session) (r : Result (Unit {0}) Jump) (h : Here) → performs.is_free (λ (e : ExecNo × Session). is_want e.0) (closed s (with_state r h)) ≡ performs.is_free is_free r
closed_free s (Ok u) h = refl
closed_free s (Err Exit) h = refl
closed_free s (Err Break) h = refl
closed_free s (Err Continue) h = refl
closed_free s (Err (End e)) h = refl

module _ {V : Type 0} {tells : V → Told} {old new : DeskState V} {s u : Session} {h : Here} {r : Result (Unit {0}) Jump} {x : Result ℕ ExecNo} (script : Script) where
  pub closing : Does is_free tells old new (begun s.shell) h r (script_at 65 script (in_copy [])) → (performs.is_free is_want x ≡ false → with_state x u ≡ closed s (with_state r h)) → Does is_want tells old new s u x (run script)
  unfolding run
  closing p is = record {
    performs = record {
      grows = p.performs.grows;
      plain = λ n o all.
          let end = is (sym (session_free x u) ∙ n) in
          let kept = sym (closed_free s r h) ∙ ap (λ (z : Result (ℕ × Session) (ExecNo × Session)). performs.is_free (λ (e : ExecNo × Session). is_want e.0) z) (sym end) ∙ n in
          ap (λ (z : Ended × Workspace). let y : Result (ℕ × Session) (ExecNo × Session) × Workspace = (closed s z.0, z.1) in y) (p.performs.plain (ended_free r h ∙ kept) o all)
          ∙ ap (λ (z : Result (ℕ × Session) (ExecNo × Session)). let y : Result (ℕ × Session) (ExecNo × Session) × Workspace = (z, new.work) in y) (sym end);
    };
  }

-- ---- the words of a line

words_free : (s : Session) (r : Result WordsHeard Jump) (h : Here) → performs.is_free (λ (e : ExecNo × Session). is_want e.0) (closed_with s (with_state r h)) ≡ performs.is_free is_free r
words_free s (Ok (Hears ws)) h = refl
words_free s (Ok (Missed name)) h = refl
words_free s (Ok Ran) h = refl
words_free s (Err Exit) h = refl
words_free s (Err Break) h = refl
words_free s (Err Continue) h = refl
words_free s (Err (End e)) h = refl

module _ {V : Type 0} {tells : V → Told} {old new : DeskState V} {s u : Session} {h : Here} {r : Result WordsHeard Jump} {x : Result SubWords ExecNo} (f : SubForm) where
  pub closing_words : Does is_free tells old new (begun s.shell) h r (heard (script_at 64) (in_copy []) f) → (performs.is_free is_want x ≡ false → with_state x u ≡ closed_with s (with_state r h)) → Does is_want tells old new s u x (words_of f)
  unfolding words_of
  closing_words p is = record {
    performs = record {
      grows = p.performs.grows;
      plain = λ n o all.
          let end = is (sym (session_free x u) ∙ n) in
          let kept = sym (words_free s r h) ∙ ap (λ (z : Result (SubWords × Session) (ExecNo × Session)). performs.is_free (λ (e : ExecNo × Session). is_want e.0) z) (sym end) ∙ n in
          ap (λ (z : Result (WordsHeard × Here) (Jump × Here) × Workspace). let y : Result (SubWords × Session) (ExecNo × Session) × Workspace = (closed_with s z.0, z.1) in y) (p.performs.plain (ended_free r h ∙ kept) o all)
          ∙ ap (λ (z : Result (SubWords × Session) (ExecNo × Session)). let y : Result (SubWords × Session) (ExecNo × Session) × Workspace = (z, new.work) in y) (sym end);
    };
  }
