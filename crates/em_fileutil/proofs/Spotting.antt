-- What the steps of the file utilities come to.
use Rattle.std.proofs.Common.{◌≡◌, ◌≢◌, ◌+◌, ◌-◌, ℕ, zero, suc, Bool, true, false, List, [], ◌∷◌, drop, Option, Some, None, Result, Ok, Err, refl, sym, ap, subst, ◌∙◌, arith}
use Rattle.std.specs.Prelude.{IsErrAnd, if◌then◌else◌}
use Rattle.em_view.specs.declared.no.DeskNo.{DeskNo}
use Rattle.em_view.specs.declared.done.Done.{Done}
use Rattle.em_view.specs.declared.done.ExecNo.{ExecNo}
use Rattle.em_view.specs.Actions.{Workspace, Action}
use Rattle.em_view.specs.Performs.{DeskState, Told, Performs}
use Rattle.em_view.specs.Performs as performs
use Rattle.em_view.specs.Rows.{is_memory}
use Rattle.em_view.specs.Steps.{with_state, Does}
use Rattle.em_view.specs.Ends.{is_want}
use Rattle.em_view.proofs.Doing.{Goes, owned_s, within_ok, within_err, more_s, stop_s, end_s, finish_s}
use Rattle.em_utility.specs.declared.operand.OperandNo.{OperandNo}
use Rattle.em_utility.specs.declared.operand.OperandNo.TheVariants.{End}
use Rattle.em_utility.specs.Operands.{is_free, Tries, Runs, settled, each}
use Rattle.em_utility.proofs.Trying.{free_no, caught_by}
use Rattle.em_fileutil.specs.declared.operand.Operand.{Operand}
use Rattle.em_fileutil.specs.Spots.{gives, there_by, there, same_done, new_done, ending}

pub one_more : (left : ℕ) → left ≢ 0 → left ≡ suc (left - 1)
one_more zero h = absurd (h refl)
one_more (suc n) h = let e : suc n - 1 ≡ n = omega arith in ap suc (sym e)

-- ---- what a desk told of an operand

there_same : {A : Type 0} (o : Operand) (r : Result (Option A) DeskNo) → performs.is_free is_free (there_by o r) ≡ performs.is_free is_memory r
there_same o (Ok (Some a)) = refl
there_same o (Ok None) = refl
there_same o (Err e) = free_no o.name e

module _ {V A : Type 0} {tells : V → Told} {old new : DeskState V} {r : Result (Option A) DeskNo} {m : Action DeskNo (Option A)} (o : Operand) {s : Done} where
  there_done : (x : Result A OperandNo) → performs.is_free (λ (y : OperandNo × Done). is_free y.0) (with_state x s) ≡ performs.is_free is_free x → (performs.is_free is_free x ≡ false → x ≡ there_by o r) → Performs is_memory tells old new r m → Does is_free tells old new s s x (there o m)
  unfolding there
  there_done x same is p = record {
    performs = record {
      grows = p.grows;
      plain = λ h oracle all.
          let h' : performs.is_free is_free x ≡ false = sym same ∙ h in
          let given : performs.is_free is_memory r ≡ false = sym (there_same o r) ∙ ap (λ (y : Result A OperandNo). performs.is_free is_free y) (sym (is h')) ∙ h' in
          ap (λ (z : Result (Option A) DeskNo × Workspace). let y : Result (A × Done) (OperandNo × Done) × Workspace = (with_state (there_by o z.0) s, z.1) in y) (p.plain given oracle all)
          ∙ ap (λ (y : Result A OperandNo). let z : Result (A × Done) (OperandNo × Done) × Workspace = (with_state y s, new.work) in z) (sym (is h'));
    };
  }

  pub there_s : {x : Result A OperandNo} → (performs.is_free is_free x ≡ false → x ≡ there_by o r) → Performs is_memory tells old new r m → Does is_free tells old new s s x (there o m)
  there_s {x = Ok a} is p = there_done (Ok a) refl is p
  there_s {x = Err e} is p = there_done (Err e) refl is p

-- a value or an error that was found without the desk
pub given_s : {V A : Type 0} {tells : V → Told} {d : DeskState V} {s : Done} {r : Result A OperandNo} (x : Result A OperandNo) → (performs.is_free is_free r ≡ false → r ≡ x) → Does is_free tells d d s s r (gives x)
given_s {A} {s} x is = owned_s (with_state x) (λ h. ap (λ (y : Result A OperandNo). with_state y s) (is h))

-- ---- a choice

module _ {V : Type 0} {tells : V → Told} {old new : DeskState V} {s t : Done} {r : Result (Unit {0}) OperandNo} where
  pub yes_s : (b : Bool) {x : Tries} (y : Tries) → b ≡ true → Does is_free tells old new s t r x → Does is_free tells old new s t r (if b then x else y)
  yes_s true y e p = p
  yes_s false y e p = absurd (let never : false ≡ true = e in cc)

  pub no_s : (b : Bool) (x : Tries) {y : Tries} → b ≡ false → Does is_free tells old new s t r y → Does is_free tells old new s t r (if b then x else y)
  no_s true x e p = absurd (let never : true ≡ false = e in cc)
  no_s false x e p = p

-- ---- a run within what is done for an operand

module _ {V : Type 0} {tells : V → Told} {old new : DeskState V} {s t : Done} {m : Runs} where
  pub ending_ok : Does is_want tells old new s t (Ok tt) m → Does is_free tells old new s t (Ok tt) (ending m)
  ending_ok p = within_ok same_done new_done End m s p

  pub ending_err : {e : ExecNo} → Does is_want tells old new s t (Err e) m → Does is_free tells old new s t (Err (End e)) (ending m)
  ending_err {e} p = within_err same_done new_done End m s (λ x. refl) (λ h. refl) p

  -- the same at a `?` that ends the whole
  pub ending_leave : {e : ExecNo} {r : Result (Unit {0}) OperandNo} → IsErrAnd r (λ x. x ≡ End e) → Does is_want tells old new s t (Err e) m → Does is_free tells old new s t r (ending m)
  ending_leave {r = Ok a} is p = absurd is
  ending_leave {r = Err x} is p = subst (λ (y : OperandNo). Does is_free tells old new s t (Err y) (ending m)) (sym is) (ending_err p)

-- ---- one after another

module _ {V A : Type 0} {tells : V → Told} {first here : DeskState V} {s t : Done} (utility : List ℕ) (act : A → Tries) (xs : List A) (i : ℕ)
    (inv : Goes is_want tells first here s t (each utility act xs) (each utility act (drop i xs))) where
  pub each_stop : {next : DeskState V} {u v : Done} {e : ExecNo} {q : Result (Unit {0}) OperandNo} {r : Result (Unit {0}) ExecNo} (x : A) → drop i xs ≡ x ∷ drop (i + 1) xs → IsErrAnd r (λ y. y ≡ e)
      → (let z : Result (Unit {0}) ExecNo = Err e in performs.is_free is_want z ≡ false → with_state z v ≡ settled utility (with_state q u)) → Does is_free tells here next t u q (act x) → Does is_want tells first next s v r (each utility act xs)
  each_stop x at is same p = stop_s _ (rw at at inv) is (caught_by utility same p)

  pub each_more : {next : DeskState V} {u v : Done} {q : Result (Unit {0}) OperandNo} (x : A) → drop i xs ≡ x ∷ drop (i + 1) xs
      → (let z : Result (Unit {0}) ExecNo = Ok tt in performs.is_free is_want z ≡ false → with_state z v ≡ settled utility (with_state q u)) → Does is_free tells here next t u q (act x)
      → Goes is_want tells first next s v (each utility act xs) (each utility act (drop (i + 1) xs))
  each_more x at same p = more_s _ (rw at at inv) (caught_by utility same p)

  pub each_end : drop i xs ≡ [] → Does is_want tells first here s t (Ok tt) (each utility act xs)
  each_end none = end_s (rw none at inv) finish_s
