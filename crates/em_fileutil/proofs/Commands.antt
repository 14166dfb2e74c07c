-- What a command comes to, by its operands and its first word.
use Rattle.std.proofs.Common.{◌≡◌, ◌<◌, ◌≤◌, ℕ, suc, true, false, List, [], ◌∷◌, length, None, Result, Ok, Err, refl, sym, ap, arith}
use Rattle.std.specs.Prelude.{◌==◌}
use Rattle.std.proofs.lemmas.Bool.{eqb-true, lt-ltb, le-ltb}
use Rattle.em_view.specs.declared.done.Done.{Done}
use Rattle.em_view.specs.declared.done.ExecNo.{ExecNo}
use Rattle.em_view.specs.Actions.{Workspace, done, fail}
use Rattle.em_view.specs.Performs.{DeskState, Told, Performs}
use Rattle.em_view.specs.Performs as performs
use Rattle.em_view.specs.Steps.{Does}
use Rattle.em_view.specs.Ends.{is_want}
use Rattle.em_view.proofs.Performing.{itself, act, finish}
use Rattle.em_utility.specs.Operands.{gives, caught, Runs}
use Rattle.em_fileutil.specs.declared.copy.Manner.{Manner}
use Rattle.em_fileutil.specs.declared.list.Listing.{Listing}
use Rattle.em_fileutil.specs.declared.act.Act.TheVariants as act_of
use Rattle.em_fileutil.specs.Utilities.{for_each, missing, some, copy_all, copy, list, utility}

module _ {V : Type 0} {tells : V → Told} {old new : DeskState V} {s t : Done} {r : Result (Unit {0}) ExecNo} where
  pub some_none : (name : List ℕ) (os : List (List ℕ)) (m : Runs) → true ≡ (length os == 0) → Does is_want tells old new s t r (missing name) → Does is_want tells old new s t r (some name os m)
  some_none name [] m e p = p
  some_none name (o ∷ os) m e p = absurd (let none = eqb-true (suc (length os)) 0 (sym e) in omega arith)

  pub some_filled : (name : List ℕ) (os : List (List ℕ)) (m : Runs) → false ≡ (length os == 0) → Does is_want tells old new s t r m → Does is_want tells old new s t r (some name os m)
  some_filled name [] m e p = absurd cc
  some_filled name (o ∷ os) m e p = p

  pub list_here : (name : List ℕ) (how : Listing) (cwd : List ℕ) (os : List (List ℕ)) → true ≡ (length os == 0) → Does is_want tells old new s t r (for_each name (act_of.ListDirectory how) cwd ((46 ∷ []) ∷ [])) → Does is_want tells old new s t r (list name how cwd os)
  list_here name how cwd [] e p = p
  list_here name how cwd (o ∷ os) e p = absurd (let none = eqb-true (suc (length os)) 0 (sym e) in omega arith)

  pub list_those : (name : List ℕ) (how : Listing) (cwd : List ℕ) (os : List (List ℕ)) → false ≡ (length os == 0) → Does is_want tells old new s t r (for_each name (act_of.ListDirectory how) cwd os) → Does is_want tells old new s t r (list name how cwd os)
  list_those name how cwd [] e p = absurd cc
  list_those name how cwd (o ∷ os) e p = p

  pub copy_few : (name : List ℕ) (manner : Manner) (cwd : List ℕ) (os : List (List ℕ)) → length os < 2 → Does is_want tells old new s t r (missing name) → Does is_want tells old new s t r (copy name manner cwd os)
  copy_few name manner cwd os lt p = rw (lt-ltb (length os) 2 lt) p

  pub copy_enough : (name : List ℕ) (manner : Manner) (cwd : List ℕ) (os : List (List ℕ)) → 2 ≤ length os → Does is_want tells old new s t r (caught name (copy_all name manner cwd os)) → Does is_want tells old new s t r (copy name manner cwd os)
  copy_enough name manner cwd os le p = rw (le-ltb (length os) 2 le) p

module _ {V A : Type 0} {tells : V → Told} {d : DeskState V} where
  end_by : (r x : Result A ExecNo) → (performs.is_free is_want r ≡ false → r ≡ x) → Performs is_want tells d d r (gives x)
  unfolding done fail
  end_by r (Ok a) is = act refl refl itself (omega arith) (λ h o. ap (λ (y : Result A ExecNo). let z : Result A ExecNo × Workspace = (y, d.work) in z) (sym (is h)))
  end_by r (Err e) is = act refl refl itself (omega arith) (λ h o. ap (λ (y : Result A ExecNo). let z : Result A ExecNo × Workspace = (y, d.work) in z) (sym (is h)))

  -- a value or an error that was found without the desk
  pub ended : {a : A} {x : Result A ExecNo} → (let r : Result A ExecNo = Ok a in performs.is_free is_want r ≡ false → r ≡ x) → Performs is_want tells d d (Ok a) (gives x)
  ended {a} {x} is = end_by (Ok a) x is

  pub ended_err : {e : ExecNo} {x : Result A ExecNo} → (let r : Result A ExecNo = Err e in performs.is_free is_want r ≡ false → r ≡ x) → Performs is_want tells d d (Err e) (gives x)
  ended_err {e} {x} is = end_by (Err e) x is

-- no word is no utility
pub no_words : {V : Type 0} {tells : V → Told} {d : DeskState V} (words : List (List ℕ)) (cwd : List ℕ) → length words ≡ 0 → Performs is_want tells d d (Ok None) (utility words cwd)
no_words [] cwd e = finish
no_words (w ∷ words) cwd e = absurd (omega arith)
