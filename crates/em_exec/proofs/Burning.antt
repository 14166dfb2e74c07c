-- Fuel that is gone where no error of the desk has ended the line.
--     same_end       an error at a `?`
--     unended        a line that has words was not ended by the desk
use Rattle.std.proofs.Common.{◌≡◌, ◌∙◌, false, Result, Ok, Err, refl, sym, ap}
use Rattle.std.specs.Prelude.{IfOk, IsErrAnd}
use Rattle.em_view.specs.declared.done.ExecNo.{ExecNo}
use Rattle.em_view.specs.Performs as performs
use Rattle.em_view.specs.Steps.{with_state}
use Rattle.em_view.specs.Ends.{is_want}
use Rattle.em_command.specs.declared.jump.Jump.{Jump}
use Rattle.em_command.specs.declared.jump.Jump.TheVariants.{Exit, Break, Continue, End}
use Rattle.em_command.specs.declared.here.Here.{Here}
use Rattle.em_exec.specs.declared.sub.SubWords.{SubWords}
use Rattle.em_exec.specs.declared.sub.WordsHeard.{WordsHeard}
use Rattle.em_exec.specs.Exec.{Session}
use Rattle.em_exec.specs.Subs.{closed_with, is_ended}

of_any : (A B : Type 0) (j : Jump) → is_ended {A = A} (Err j) ≡ is_ended {A = B} (Err j)
of_any A B Exit = refl
of_any A B Break = refl
of_any A B Continue = refl
of_any A B (End e) = refl

pub same_end : (A : Type 0) {B : Type 0} (j : Jump) (r : Result B Jump) → IsErrAnd r (λ x. x ≡ j) → is_ended {A = A} (Err j) ≡ is_ended r
same_end A j (Ok b) is = absurd is
same_end A {B} j (Err x) is = ap (λ (y : Jump). is_ended {A = A} (Err y)) (sym is) ∙ of_any A B x

pub unended : (P : Type 0) (s u : Session) (h : Here) (r : Result WordsHeard Jump) (x : Result SubWords ExecNo) → (performs.is_free is_want x ≡ false → with_state x u ≡ closed_with s (with_state r h)) → (is_ended r ≡ false → P) → IfOk x (λ w. P)
unended P s u h r (Err e) is p = tt
unended P s u h (Ok heard) (Ok w) is p = p refl
unended P s u h (Err Exit) (Ok w) is p = p refl
unended P s u h (Err Break) (Ok w) is p = p refl
unended P s u h (Err Continue) (Ok w) is p = p refl
unended P s u h (Err (End e)) (Ok w) is p = absurd (let same = is refl in cc)
