-- How a proof of a utility is put together, beside the lemmas of em_view.
--     named_by, named_s          a desk's call for an operand, as an action and as a step
--     gave_by, gave_none, gave_error     a value, or an error, that was found without the desk
--     caught_by                  an operand's fault is written
--     command_ok, command_err    what the command leaves
use Rattle.std.proofs.Common.{◌≡◌, ℕ, false, List, Result, Ok, Err, refl, sym, ap, subst, ◌∙◌, arith}
use Rattle.em_view.specs.declared.no.DeskNo.{DeskNo}
use Rattle.em_view.specs.declared.no.DeskNo.TheVariants as no
use Rattle.em_view.specs.declared.done.Done.{Done}
use Rattle.em_view.specs.declared.done.ExecNo.{ExecNo}
use Rattle.em_view.specs.Actions.{Workspace, Action, fail, done, renamed, lift}
use Rattle.em_view.specs.Performs.{DeskState, Told, Performs}
use Rattle.em_view.specs.Performs as performs
use Rattle.em_view.specs.Rows.{is_memory}
use Rattle.em_view.specs.Steps.{with_state, Does, below}
use Rattle.em_view.specs.Ends.{is_want}
use Rattle.em_view.proofs.Performing.{itself, act}
use Rattle.em_utility.specs.declared.operand.OperandNo.{OperandNo}
use Rattle.em_utility.specs.declared.operand.OperandNo.TheVariants.{Fault, End}
use Rattle.em_utility.specs.Writing.{nothing}
use Rattle.em_utility.specs.Operands.{is_free, refused, named, at, gives, Tries, Runs, settled, left_by, command}
use Rattle.em_utility.specs.Operands as operands

pub free_no : (operand : List ℕ) (e : DeskNo) → is_free (refused operand e) ≡ is_memory e
free_no operand (no.File f) = refl
free_no operand no.Spent = refl
free_no operand no.NoMemory = refl

free_same : {A : Type 0} (operand : List ℕ) (r : Result A DeskNo) → performs.is_free is_free (renamed (refused operand) r) ≡ performs.is_free is_memory r
free_same operand (Ok a) = refl
free_same operand (Err e) = free_no operand e

module _ {V A : Type 0} {tells : V → Told} {old new : DeskState V} {r : Result A DeskNo} {m : Action DeskNo A} (operand : List ℕ) where
  pub named_by : {x : Result A OperandNo} → (performs.is_free is_free x ≡ false → x ≡ renamed (refused operand) r) → Performs is_memory tells old new r m → Performs is_free tells old new x (named operand m)
  unfolding named lift
  named_by {x} is p = record {
    grows = p.grows;
    plain = λ h o all.
        let given : performs.is_free is_memory r ≡ false = sym (free_same operand r) ∙ ap (λ (y : Result A OperandNo). performs.is_free is_free y) (sym (is h)) ∙ h in
        ap (λ (z : Result A DeskNo × Workspace). let y : Result A OperandNo × Workspace = (renamed (refused operand) z.0, z.1) in y) (p.plain given o all)
        ∙ ap (λ (y : Result A OperandNo). let z : Result A OperandNo × Workspace = (y, new.work) in z) (sym (is h));
  }

  pub named_s : {s : Done} {x : Result A OperandNo} → (performs.is_free is_free x ≡ false → x ≡ renamed (refused operand) r) → Performs is_memory tells old new r m → Does is_free tells old new s s x (at operand m)
  unfolding at below
  named_s {s} {x = Ok a} is p = record {
    performs = record {
      grows = p.grows;
      plain = λ h o all.
          let given : performs.is_free is_memory r ≡ false = sym (free_same operand r) ∙ ap (λ (y : Result A OperandNo). performs.is_free is_free y) (sym (is refl)) in
          ap (λ (z : Result A DeskNo × Workspace). let y : Result (A × Done) (OperandNo × Done) × Workspace = (with_state (renamed (refused operand) z.0) s, z.1) in y) (p.plain given o all)
          ∙ ap (λ (y : Result A OperandNo). let z : Result (A × Done) (OperandNo × Done) × Workspace = (with_state y s, new.work) in z) (sym (is refl));
    };
  }
  named_s {s} {x = Err e} is p = record {
    performs = record {
      grows = p.grows;
      plain = λ h o all.
          let given : performs.is_free is_memory r ≡ false = sym (free_same operand r) ∙ ap (λ (y : Result A OperandNo). performs.is_free is_free y) (sym (is h)) ∙ h in
          ap (λ (z : Result A DeskNo × Workspace). let y : Result (A × Done) (OperandNo × Done) × Workspace = (with_state (renamed (refused operand) z.0) s, z.1) in y) (p.plain given o all)
          ∙ ap (λ (y : Result A OperandNo). let z : Result (A × Done) (OperandNo × Done) × Workspace = (with_state y s, new.work) in z) (sym (is h));
    };
  }

module _ {V A : Type 0} {tells : V → Told} {d : DeskState V} where
  -- a value or an error that was found without the desk
  gave : (r x : Result A OperandNo) → (performs.is_free is_free r ≡ false → r ≡ x) → Performs is_free tells d d r (gives x)
  unfolding done fail
  gave r (Ok a) is = act refl refl itself (omega arith) (λ h o. ap (λ (y : Result A OperandNo). let z : Result A OperandNo × Workspace = (y, d.work) in z) (sym (is h)))
  gave r (Err e) is = act refl refl itself (omega arith) (λ h o. ap (λ (y : Result A OperandNo). let z : Result A OperandNo × Workspace = (y, d.work) in z) (sym (is h)))

  pub gave_by : {a : A} {x : Result A OperandNo} → (let r : Result A OperandNo = Ok a in performs.is_free is_free r ≡ false → r ≡ x) → Performs is_free tells d d (Ok a) (gives x)
  gave_by {a} {x} is = gave (Ok a) x is

  pub gave_none : {e : OperandNo} {x : Result A OperandNo} → (let r : Result A OperandNo = Err e in performs.is_free is_free r ≡ false → r ≡ x) → Performs is_free tells d d (Err e) (gives x)
  gave_none {e} {x} is = gave (Err e) x is

  -- a refusal that needs memory for its words
  pub gave_error : {e f : OperandNo} → (is_free f ≡ false → f ≡ e) → Performs is_free tells d d (Err f) (fail {A = A} e)
  unfolding fail
  gave_error {e} {f} is = act refl refl itself (omega arith) (λ h o. ap (λ (y : OperandNo). let z : Result A OperandNo × Workspace = (Err y, d.work) in z) (sym (is h)))

-- ---- what is written

free_pair : (r : Result (Unit {0}) OperandNo) (t : Done) → performs.is_free is_free r ≡ false → performs.is_free (λ (x : OperandNo × Done). is_free x.0) (with_state r t) ≡ false
free_pair (Ok a) t h = refl
free_pair (Err e) t h = h

free_end : (d u : Done) (e : ExecNo) (x : Result (Unit {0}) ExecNo) → performs.is_free is_want x ≡ false → with_state x u ≡ Err (e, d) → is_want e ≡ false
free_end d u e (Ok a) h is = absurd (let never : Ok (a, u) ≡ Err (e, d) = is in cc)
free_end d u e (Err f) h is = let same : (let x : Result (Unit {0} × Done) (ExecNo × Done) = Err (f, u) in x) ≡ Err (e, d) = is in subst (λ (y : ExecNo). is_want y ≡ false) (ap first_error same) h
  where
    first_error : Result (Unit {0} × Done) (ExecNo × Done) → ExecNo
    first_error (Ok p) = f
    first_error (Err p) = p.0

-- unless the command's end is want of memory, the operand's was none
still_free : (utility : List ℕ) (t u : Done) (r : Result (Unit {0}) OperandNo) (x : Result (Unit {0}) ExecNo) → performs.is_free is_want x ≡ false → with_state x u ≡ settled utility (with_state r t) → performs.is_free is_free r ≡ false
still_free utility t u (Ok a) x h is = refl
still_free utility t u (Err (Fault operand why)) x h is = refl
still_free utility t u (Err (End e)) x h is = free_end t u e x h is

module _ {V : Type 0} {tells : V → Told} {old new : DeskState V} {s t u : Done} {m : Tries} (utility : List ℕ) where
  caught : (r : Result (Unit {0}) OperandNo) (x : Result (Unit {0}) ExecNo) → (performs.is_free is_want x ≡ false → with_state x u ≡ settled utility (with_state r t)) → Does is_free tells old new s t r m
      → performs.is_free (λ (y : ExecNo × Done). is_want y.0) (with_state x u) ≡ performs.is_free is_want x → Does is_want tells old new s u x (operands.caught utility m)
  unfolding operands.caught
  caught r x is q same = let p = q.performs in record {
    performs = record {
      grows = p.grows;
      plain = λ h o all.
          let h' : performs.is_free is_want x ≡ false = sym same ∙ h in
          let given : performs.is_free (λ (y : OperandNo × Done). is_free y.0) (with_state r t) ≡ false = free_pair r t (still_free utility t u r x h' (is h')) in
          ap (λ (z : Result (Unit {0} × Done) (OperandNo × Done) × Workspace). let y : Result (Unit {0} × Done) (ExecNo × Done) × Workspace = (settled utility z.0, z.1) in y) (p.plain given o all)
          ∙ ap (λ (y : Result (Unit {0} × Done) (ExecNo × Done)). let z : Result (Unit {0} × Done) (ExecNo × Done) × Workspace = (y, new.work) in z) (sym (is h'));
    };
  }

  pub caught_by : {r : Result (Unit {0}) OperandNo} {x : Result (Unit {0}) ExecNo} → (performs.is_free is_want x ≡ false → with_state x u ≡ settled utility (with_state r t)) → Does is_free tells old new s t r m → Does is_want tells old new s u x (operands.caught utility m)
  caught_by {r} {x = Ok a} is q = caught r (Ok a) is q refl
  caught_by {r} {x = Err e} is q = caught r (Err e) is q refl

-- ---- what a command leaves

module _ {V : Type 0} {tells : V → Told} {old new : DeskState V} {d : Done} {m : Runs} where
  pub command_ok : Does is_want tells old new nothing d (Ok tt) m → Performs is_want tells old new (Ok d) (command m)
  unfolding command
  command_ok q = let p = q.performs in record {
    grows = p.grows;
    plain = λ h o all. ap (λ (z : Result (Unit {0} × Done) (ExecNo × Done) × Workspace). let y : Result Done ExecNo × Workspace = (left_by z.0, z.1) in y) (p.plain refl o all);
  }

  pub command_err : {e : ExecNo} → Does is_want tells old new nothing d (Err e) m → Performs is_want tells old new (Err e) (command m)
  unfolding command
  command_err {e} q = let p = q.performs in record {
    grows = p.grows;
    plain = λ h o all. ap (λ (z : Result (Unit {0} × Done) (ExecNo × Done) × Workspace). let y : Result Done ExecNo × Workspace = (left_by z.0, z.1) in y) (p.plain h o all);
  }
