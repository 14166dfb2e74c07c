-- How what was done below is put together with what is done with its end, beside the lemmas of
-- em_view and em_utility.
--     gave_any       a value or an error that was found without the desk
--     looked_by      what is done for a word, and then by how that ended
--     settled_by     a built-in, the fault of whose operand is written
--     said_s         what a function said of the state alone
--     free_desk      want of memory below is want of memory here
use Rattle.std.proofs.Common.{◌≡◌, ℕ, false, List, Result, Ok, Err, refl, sym, ap, subst, ◌∙◌}
use Rattle.em_view.specs.declared.no.DeskNo.{DeskNo}
use Rattle.em_view.specs.declared.no.DeskNo.TheVariants as no
use Rattle.em_view.specs.declared.done.ExecNo.{ExecNo}
use Rattle.em_view.specs.Actions.{Workspace, Action}
use Rattle.em_view.specs.Performs.{DeskState, Told, Performs}
use Rattle.em_view.specs.Performs as performs
use Rattle.em_view.specs.Steps.{with_state, Does}
use Rattle.em_view.specs.Rows.{is_memory}
use Rattle.em_view.specs.Ends.{is_want}
use Rattle.em_view.proofs.Doing.{owned_s}
use Rattle.em_utility.specs.declared.operand.OperandNo.{OperandNo}
use Rattle.em_utility.specs.declared.operand.OperandNo.TheVariants as operand
use Rattle.em_utility.specs.Operands as operands
use Rattle.em_utility.specs.Operands.{gives}
use Rattle.em_utility.proofs.Trying.{gave_by, gave_none}
use Rattle.em_word.specs.declared.shell.Shell.{Shell}
use Rattle.em_command.specs.declared.jump.Jump.{Jump}
use Rattle.em_command.specs.declared.jump.Jump.TheVariants.{End}
use Rattle.em_command.specs.declared.here.Here.{Here}
use Rattle.em_command.specs.declared.builtin.BuiltinResult.{BuiltinResult}
use Rattle.em_command.specs.declared.builtin.Ran.{Ran}
use Rattle.em_command.specs.Jumps as jumps
use Rattle.em_command.specs.Jumps.{is_free, of_desk}
use Rattle.em_command.specs.Builtins.{Asked, settled, settling, says}

pub gave_any : {V A : Type 0} {tells : V → Told} {d : DeskState V} (r x : Result A OperandNo) → (performs.is_free operands.is_free r ≡ false → r ≡ x) → Performs operands.is_free tells d d r (gives x)
gave_any (Ok a) x is = gave_by is
gave_any (Err e) x is = gave_none is

-- ---- how what was done for a word ended

module _ {A B : Type 0} (m : Here → Action OperandNo A) (k : Result A OperandNo → jumps.Change B) (strict : (h : Here) (e : ExecNo) → k (Err (operand.End e)) h ≡ Err (End e, h)) (h t : Here) where
  same_end : (e : ExecNo) (x : Result B Jump) → performs.is_free is_free x ≡ false → with_state x t ≡ Err (End e, h) → is_want e ≡ false
  same_end e (Ok b) n is = absurd (let never : Ok (b, t) ≡ Err (End e, h) = is in cc)
  same_end e (Err j) n is =
      let same : (let x : Result (B × Here) (Jump × Here) = Err (j, t) in x) ≡ Err (End e, h) = is in
      subst (λ (y : Jump). is_free y ≡ false) (ap first_error same) n
    where
      first_error : Result (B × Here) (Jump × Here) → Jump
      first_error (Ok p) = j
      first_error (Err p) = p.0

  -- unless memory ran out in the end, it didn't for the word
  word_free : (r : Result A OperandNo) (x : Result B Jump) → performs.is_free is_free x ≡ false → with_state x t ≡ k r h → performs.is_free operands.is_free r ≡ false
  word_free (Ok a) x n is = refl
  word_free (Err (operand.Fault word why)) x n is = refl
  word_free (Err (operand.End e)) x n is = same_end e x n (is ∙ strict h e)

  module _ {V : Type 0} {tells : V → Told} {old new : DeskState V} where
    by_end : (r : Result A OperandNo) (x : Result B Jump) → performs.is_free (λ (y : Jump × Here). is_free y.0) (with_state x t) ≡ performs.is_free is_free x
        → (performs.is_free is_free x ≡ false → with_state x t ≡ k r h) → Performs operands.is_free tells old new r (m h) → Does is_free tells old new h t x (jumps.looked m k)
    unfolding jumps.looked
    by_end r x same is p = record {
      performs = record {
        grows = p.grows;
        plain = λ n o all.
            let free : performs.is_free is_free x ≡ false = sym same ∙ n in
            ap (λ (z : Result A OperandNo × Workspace). let y : Result (B × Here) (Jump × Here) × Workspace = (k z.0 h, z.1) in y) (p.plain (word_free r x free (is free)) o all)
            ∙ ap (λ (y : Result (B × Here) (Jump × Here)). let z : Result (B × Here) (Jump × Here) × Workspace = (y, new.work) in z) (sym (is free));
      };
    }

    pub looked_by : {r : Result A OperandNo} {x : Result B Jump} → (performs.is_free is_free x ≡ false → with_state x t ≡ k r h) → Performs operands.is_free tells old new r (m h) → Does is_free tells old new h t x (jumps.looked m k)
    looked_by {r} {x = Ok b} is p = by_end r (Ok b) refl is p
    looked_by {r} {x = Err j} is p = by_end r (Err j) refl is p

-- ---- built-ins

built_end : (s t : Shell) (e : ExecNo) (x : Result Ran ExecNo) → performs.is_free is_want x ≡ false → with_state x t ≡ Err (e, s) → is_want e ≡ false
built_end s t e (Ok a) n is = absurd (let never : Ok (a, t) ≡ Err (e, s) = is in cc)
built_end s t e (Err f) n is =
    let same : (let x : Result (Ran × Shell) (ExecNo × Shell) = Err (f, t) in x) ≡ Err (e, s) = is in
    subst (λ (y : ExecNo). is_want y ≡ false) (ap first_error same) n
  where
    first_error : Result (Ran × Shell) (ExecNo × Shell) → ExecNo
    first_error (Ok p) = f
    first_error (Err p) = p.0

built_free : (name : List ℕ) (t : Shell) (r : Result BuiltinResult OperandNo) (x : Result Ran ExecNo) → performs.is_free is_want x ≡ false → with_state x t ≡ settled name (with_state r t) → performs.is_free (λ (y : OperandNo × Shell). operands.is_free y.0) (with_state r t) ≡ false
built_free name t (Ok a) x n is = refl
built_free name t (Err (operand.Fault word why)) x n is = refl
built_free name t (Err (operand.End e)) x n is = built_end t t e x n is

module _ {V : Type 0} {tells : V → Told} {old new : DeskState V} {s t : Shell} {m : Asked} (name : List ℕ) where
  built : (r : Result BuiltinResult OperandNo) (x : Result Ran ExecNo) → performs.is_free (λ (y : ExecNo × Shell). is_want y.0) (with_state x t) ≡ performs.is_free is_want x
      → (performs.is_free is_want x ≡ false → with_state x t ≡ settled name (with_state r t)) → Does operands.is_free tells old new s t r m → Does is_want tells old new s t x (settling name m)
  unfolding settling
  built r x same is q = let p = q.performs in record {
    performs = record {
      grows = p.grows;
      plain = λ n o all.
          let free : performs.is_free is_want x ≡ false = sym same ∙ n in
          ap (λ (z : Result (BuiltinResult × Shell) (OperandNo × Shell) × Workspace). let y : Result (Ran × Shell) (ExecNo × Shell) × Workspace = (settled name z.0, z.1) in y) (p.plain (built_free name t r x free (is free)) o all)
          ∙ ap (λ (y : Result (Ran × Shell) (ExecNo × Shell)). let z : Result (Ran × Shell) (ExecNo × Shell) × Workspace = (y, new.work) in z) (sym (is free));
    };
  }

  pub settled_by : {r : Result BuiltinResult OperandNo} {x : Result Ran ExecNo} → (performs.is_free is_want x ≡ false → with_state x t ≡ settled name (with_state r t)) → Does operands.is_free tells old new s t r m → Does is_want tells old new s t x (settling name m)
  settled_by {r} {x = Ok a} is q = built r (Ok a) refl is q
  settled_by {r} {x = Err e} is q = built r (Err e) refl is q

-- what a function found by the state alone
pub said_s : {V : Type 0} {tells : V → Told} {d : DeskState V} {s : Shell} {r : Result BuiltinResult OperandNo} (f : Shell → Result BuiltinResult OperandNo) → (performs.is_free operands.is_free r ≡ false → r ≡ f s) → Does operands.is_free tells d d s s r (says f)
said_s {s} f is = owned_s _ (λ n. ap (λ (y : Result BuiltinResult OperandNo). with_state y s) (is n))

pub free_desk : (e : DeskNo) → is_free (of_desk e) ≡ is_memory e
free_desk (no.File f) = refl
free_desk no.Spent = refl
free_desk no.NoMemory = refl
