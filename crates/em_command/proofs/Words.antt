-- What a command comes to, by its words and its options, and a built-in by its operands.
use Rattle.std.proofs.Common.{◌≡◌, ◌<◌, ◌≤◌, ℕ, Bool, false, List, [], ◌∷◌, length, get_or, Option, Some, None, Result, Ok, Err, refl, sym, subst, arith}
use Rattle.std.specs.Prelude.{◌==◌, drop, slice_get, IsErrAnd}
use Rattle.em_base.proofs.Lemmas.{by_cases}
use Rattle.em_base.specs.declared.construct.Construct.{Construct}
use Rattle.em_view.specs.declared.done.ExecNo.{ExecNo}
use Rattle.em_view.specs.declared.done.ExecNo.TheVariants.{Refused}
use Rattle.em_view.specs.Actions.{Action}
use Rattle.em_view.specs.Ends.{is_want}
use Rattle.em_view.specs.Performs.{DeskState, Told, Performs}
use Rattle.em_view.specs.Steps.{Does, done, refuse, below}
use Rattle.em_view.proofs.Doing.{refused_s, below_ok, below_err, out_s}
use Rattle.em_utility.specs.declared.options.Options.{Options}
use Rattle.em_utility.specs.declared.operand.OperandNo.{OperandNo}
use Rattle.em_utility.specs.declared.operand.OperandNo.TheVariants as operand
use Rattle.em_utility.specs.declared.reason.Reason.TheVariants as reason
use Rattle.em_utility.specs.Operands.{is_free}
use Rattle.em_utility.specs.Writing.{nothing}
use Rattle.em_word.specs.declared.shell.Shell.{Shell}
use Rattle.em_command.specs.declared.builtin.Builtin.{Builtin}
use Rattle.em_command.specs.declared.builtin.BuiltinResult.{BuiltinResult}
use Rattle.em_command.specs.declared.builtin.Ran.{Ran}
use Rattle.em_command.specs.Builtins.{plain, well, wrong, each, each_of_some, change_directory, cd, asked_of, with_options, builtin_of, builtin}
use Rattle.em_command.specs.Commands as commands
use Rattle.em_command.specs.Commands.{by_builtin, by_refusal, run}

-- ---- operands

-- at least one operand
pub each_some : (change : List ℕ → Shell → Shell) (os : List (List ℕ)) (s : Shell) → false ≡ (length os == 0) → each_of_some change os s ≡ Ok (well, each change os s)
each_some change [] s e = absurd cc
each_some change (o ∷ os) s e = refl

module _ {V : Type 0} {tells : V → Told} {old new : DeskState V} {s t : Shell} {r : Result BuiltinResult OperandNo} where
  pub cd_none : (os : List (List ℕ)) → length os < 1 → Does is_free tells old new s t r (refuse (wrong reason.MissingOperand)) → Does is_free tells old new s t r (cd os)
  cd_none [] lt p = p
  cd_none (o ∷ os) lt p = absurd (omega arith)

  pub cd_one : (os : List (List ℕ)) (d : List ℕ) → 1 ≤ length os → length os < 2 → d ≡ get_or os 0 d → Does is_free tells old new s t r (change_directory s.cwd d) → Does is_free tells old new s t r (cd os)
  cd_one [] d ge lt is p = absurd (omega arith)
  cd_one (o ∷ []) d ge lt is p = let q = subst (λ (x : List ℕ). Does is_free tells old new s t r (change_directory s.cwd x)) is p in record { performs = q.performs }
  cd_one (o ∷ e ∷ es) d ge lt is p = absurd (omega arith)

  pub cd_more : (os : List (List ℕ)) → 2 ≤ length os → Does is_free tells old new s t r (refuse (wrong reason.ExtraOperand)) → Does is_free tells old new s t r (cd os)
  cd_more [] ge p = absurd (omega arith)
  cd_more (o ∷ []) ge p = absurd (omega arith)
  cd_more (o ∷ e ∷ es) ge p = p

-- ---- options

module _ {V : Type 0} {tells : V → Told} {old new : DeskState V} {s t : Shell} {r : Result BuiltinResult OperandNo} (b : Builtin) (in_loop : Bool) (words : List (List ℕ)) where
  pub options_given : {o : Options} {x : Result Options ExecNo} → Ok o ≡ x → Does is_free tells old new s t r (asked_of b in_loop (drop o.taken words)) → Does is_free tells old new s t r (with_options b in_loop words x)
  options_given {o} is p = subst (λ (y : Result Options ExecNo). Does is_free tells old new s t r (with_options b in_loop words y)) is p

module _ {V : Type 0} {tells : V → Told} {d : DeskState V} {s : Shell} (b : Builtin) (in_loop : Bool) (words : List (List ℕ)) where
  unlisted : (e : ExecNo) (x : Result Options ExecNo) (r : Result BuiltinResult OperandNo) → (is_want e ≡ false → Err e ≡ x) → IsErrAnd r (λ y. y ≡ operand.End e) → Does is_free tells d d s s r (with_options b in_loop words x)
  unlisted e x (Ok a) is end = absurd end
  unlisted e x (Err y) is end =
      subst (λ (z : OperandNo). Does is_free tells d d s s (Err z) (with_options b in_loop words x)) (sym end)
      (by_cases (is_want e) (λ w. Does is_free tells d d s s (Err (operand.End e)) (with_options b in_loop words x))
      (λ want. out_s (operand.End e) want refl)
      (λ free. subst (λ (y : Result Options ExecNo). Does is_free tells d d s s (Err (operand.End e)) (with_options b in_loop words y)) (is free) (refused_s (operand.End e) (λ h. refl))))

  -- an option's letter that isn't listed
  pub options_refused : {e : ExecNo} {x : Result Options ExecNo} {r : Result BuiltinResult OperandNo} → (is_want e ≡ false → Err e ≡ x) → IsErrAnd r (λ y. y ≡ operand.End e) → Does is_free tells d d s s r (with_options b in_loop words x)
  options_refused {e} {x} {r} is end = unlisted e x r is end

-- ---- the command's name

module _ {V : Type 0} {tells : V → Told} {old new : DeskState V} {s t : Shell} {r : Result Ran ExecNo} (name : List ℕ) (words : List (List ℕ)) (input : List ℕ) (in_loop : Bool) where
  pub by_some : {o : Option Builtin} {b : Builtin} → Some b ≡ o → Does is_want tells old new s t r (builtin b in_loop (drop 1 words)) → Does is_want tells old new s t r (by_builtin o name words input in_loop)
  by_some is p = subst (λ (x : Option Builtin). Does is_want tells old new s t r (by_builtin x name words input in_loop)) is p

  pub not_refused : {c : Option Construct} → None ≡ c → Does is_want tells old new s t r (by_builtin (builtin_of name) name words input in_loop) → Does is_want tells old new s t r (by_refusal c name words input in_loop)
  not_refused is p = subst (λ (x : Option Construct). Does is_want tells old new s t r (by_refusal x name words input in_loop)) is p

  run_first : (ws : List (List ℕ)) → Some name ≡ slice_get ws 0 → Does is_want tells old new s t r (by_refusal (commands.refused_as name) name ws input in_loop) → Does is_want tells old new s t r (run ws input in_loop)
  unfolding run
  run_first [] is p = absurd (let never : Some name ≡ None = is in cc)
  run_first (w ∷ ws) is p = let same : name ≡ w = cc in subst (λ (n : List ℕ). Does is_want tells old new s t r (by_refusal (commands.refused_as n) n (w ∷ ws) input in_loop)) same p

  pub run_named : Some name ≡ slice_get words 0 → Does is_want tells old new s t r (by_refusal (commands.refused_as name) name words input in_loop) → Does is_want tells old new s t r (run words input in_loop)
  run_named is p = run_first words is p

module _ {V : Type 0} {tells : V → Told} {old new : DeskState V} {s t : Shell} {r : Result Ran ExecNo} (input : List ℕ) (in_loop : Bool) where
  pub run_none : (ws : List (List ℕ)) → None ≡ slice_get ws 0 → Does is_want tells old new s t r (done (plain nothing)) → Does is_want tells old new s t r (run ws input in_loop)
  unfolding run
  run_none [] is p = p
  run_none (w ∷ ws) is p = absurd (let never : None ≡ Some w = is in cc)

module _ {V : Type 0} {tells : V → Told} {old new : DeskState V} {s : Shell} {m : Action ExecNo Ran} where
  below_any : (r : Result Ran ExecNo) → Performs is_want tells old new r m → Does is_want tells old new s s r (below commands.itself m)
  below_any (Ok a) p = below_ok commands.itself p
  below_any (Err e) p = below_err commands.itself (λ x. refl) (λ h. refl) p

module _ {V : Type 0} {tells : V → Told} {old : DeskState V} {s : Shell} (name : List ℕ) (words : List (List ℕ)) (input : List ℕ) (in_loop : Bool) where
  pub by_none : {new : DeskState V} {o : Option Builtin} {r : Result Ran ExecNo} → None ≡ o → Performs is_want tells old new r (commands.utility name words input s.cwd) → Does is_want tells old new s s r (by_builtin o name words input in_loop)
  by_none {new} {o} {r} is p = let q = below_any {s = s} r p in subst (λ (x : Option Builtin). Does is_want tells old new s s r (by_builtin x name words input in_loop)) is record { performs = q.performs }

  pub is_refused : {c : Construct} {x : Option Construct} → Some c ≡ x → Does is_want tells old old s s (Err (Refused c)) (by_refusal x name words input in_loop)
  is_refused {c} is = subst (λ (y : Option Construct). Does is_want tells old old s s (Err (Refused c)) (by_refusal y name words input in_loop)) is (refused_s (Refused c) (λ h. refl))
