-- How the proofs of these utilities are put together, beside the lemmas of em_view and em_utility.
--     found_by               what was read, with an operand's fault kept
--     gave                   a value, or an error, that was found without the desk
--     asked_ok, asked_err    a desk's call alone
use Rattle.std.proofs.Common.{◌≡◌, ◌∙◌, ℕ, Bool, true, false, List, Result, Ok, Err, refl, sym, ap, subst, arith}
use Rattle.std.specs.Prelude.{IsErrAnd}
use Rattle.em_view.specs.declared.no.DeskNo.{DeskNo}
use Rattle.em_view.specs.declared.no.DeskNo.TheVariants as no
use Rattle.em_view.specs.declared.done.ExecNo.{ExecNo}
use Rattle.em_view.specs.Actions.{Workspace, Action, done, fail, lift}
use Rattle.em_view.specs.Performs.{DeskState, Told, Performs}
use Rattle.em_view.specs.Performs as performs
use Rattle.em_view.specs.Rows.{is_memory}
use Rattle.em_view.specs.Ends.{is_want, of_desk}
use Rattle.em_view.proofs.Performing.{itself, act, lifted, lifted_exit}
use Rattle.em_utility.specs.declared.operand.OperandNo.{OperandNo}
use Rattle.em_utility.specs.declared.operand.OperandNo.TheVariants.{Fault, End}
use Rattle.em_utility.specs.Operands.{is_free, read, gives}
use Rattle.em_textutil.specs.declared.source.OperandContent.{OperandContent}
use Rattle.em_textutil.specs.Sources.{kept, found}

still_free : (r : Result (List ℕ) OperandNo) → performs.is_free is_want (kept r) ≡ false → performs.is_free is_free r ≡ false
still_free (Ok bytes) h = refl
still_free (Err (Fault operand reason)) h = refl
still_free (Err (End e)) h = h

module _ {V : Type 0} {tells : V → Told} {old new : DeskState V} {r : Result (List ℕ) OperandNo} (cwd name : List ℕ) where
  pub found_by : Performs is_free tells old new r (read cwd name) → Performs is_want tells old new (kept r) (found cwd name)
  unfolding found
  found_by p = record {
    grows = p.grows;
    plain = λ h o all. ap (λ (z : Result (List ℕ) OperandNo × Workspace). let y : Result OperandContent ExecNo × Workspace = (kept z.0, z.1) in y) (p.plain (still_free r h) o all);
  }

module _ {V A : Type 0} {tells : V → Told} {d : DeskState V} where
  pub gave : (r x : Result A ExecNo) → (performs.is_free is_want r ≡ false → r ≡ x) → Performs is_want tells d d r (gives x)
  unfolding done fail
  gave r (Ok a) is = act refl refl itself (omega arith) (λ h o. ap (λ (y : Result A ExecNo). let z : Result A ExecNo × Workspace = (y, d.work) in z) (sym (is h)))
  gave r (Err e) is = act refl refl itself (omega arith) (λ h o. ap (λ (y : Result A ExecNo). let z : Result A ExecNo × Workspace = (y, d.work) in z) (sym (is h)))

  pub gave_by : {a : A} {x : Result A ExecNo} → (let r : Result A ExecNo = Ok a in performs.is_free is_want r ≡ false → r ≡ x) → Performs is_want tells d d (Ok a) (gives x)
  gave_by {a} {x} is = gave (Ok a) x is

  pub gave_none : {e : ExecNo} {x : Result A ExecNo} → (let r : Result A ExecNo = Err e in performs.is_free is_want r ≡ false → r ≡ x) → Performs is_want tells d d (Err e) (gives x)
  gave_none {e} {x} is = gave (Err e) x is

want_same : (x : DeskNo) → is_want (of_desk x) ≡ is_memory x
want_same (no.File f) = refl
want_same no.Spent = refl
want_same no.NoMemory = refl

module _ {V A : Type 0} {tells : V → Told} {old new : DeskState V} {m : Action DeskNo A} where
  pub asked_ok : {a : A} → Performs is_memory tells old new (Ok a) m → Performs is_want tells old new (Ok a) (lift of_desk m)
  asked_ok p = lifted of_desk p

  pub asked_err : {r : Result A ExecNo} {e : DeskNo} → IsErrAnd r (λ x. x ≡ of_desk e) → Performs is_memory tells old new (Err e) m → Performs is_want tells old new r (lift of_desk m)
  asked_err {r = Ok a} is p = absurd is
  asked_err {r = Err x} is p = subst (λ (y : ExecNo). Performs is_want tells old new (Err y) (lift of_desk m)) (sym is) (lifted_exit of_desk want_same p)
