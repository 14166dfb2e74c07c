-- Steps of an expander, one after another.
use Rattle.std.proofs.Common.{◌≡◌, ℕ, List, refl, sym, subst}
use Rattle.std.specs.Prelude.{Result, Ok, Err, Some, MatchResult, IfOk}
use Rattle.std.specs.Result.{IsErrAnd}
use Rattle.em_view.specs.declared.no.DeskNo.{DeskNo}
use Rattle.em_view.specs.declared.no.DeskNo.TheVariants as desk
use Rattle.em_view.specs.Actions.{Action, lift, spend}
use Rattle.em_view.specs.Performs.{DeskState, Told, Performs}
use Rattle.em_view.specs.Rows.{is_memory}
use Rattle.em_view.proofs.Performing.{then, exit, finish, refused, ran_out, lifted_exit}
use Rattle.em_syntax.specs.declared.tree.Script.{Script}
use Rattle.em_word.specs.declared.shell.Shell.{Shell}
use Rattle.em_word.specs.declared.fault.WordFault.{WordFault}
use Rattle.em_word.specs.declared.fault.WordFault.TheVariants as fault
use Rattle.em_word.specs.declared.turn.Mode.{Mode}
use Rattle.em_word.specs.Talk.{Fails, Pays, Looks, Sets, Asks}
use Rattle.em_word.specs.Values.{Plan}
use Rattle.em_word.specs.Ends.{is_want, of_desk}
use Rattle.em_word.specs.Turns.{Setting, Asking, turn}
use Rattle.em_word.specs.Leads.{Leads, Failed}

pub desk_same : (x : DeskNo) → is_want (of_desk x) ≡ is_memory x
desk_same desk.NoMemory = refl
desk_same desk.Spent = refl
desk_same (desk.File f) = refl

-- a desk's error, handed on
pub lifted_left : {V A : Type 0} {tells : V → Told} {old new : DeskState V} {e : DeskNo} {r : Result A WordFault} {m : Action DeskNo A} → IsErrAnd r (λ x. x ≡ of_desk e) → Performs is_memory tells old new (Err e) m → Performs is_want tells old new r (lift of_desk m)
lifted_left {r = Ok a} is p = absurd is
lifted_left {V} {A} {tells} {old} {new} {r = Err x} {m} is p = subst (λ y. Performs is_want tells old new (Err y) (lift of_desk m)) (sym is) (lifted_exit of_desk desk_same p)

module _ {V : Type 0} {tells : V → Told} {mode : Mode} {shell : Shell} where
  module _ {first here : DeskState V} {n : ℕ} (t : Plan Script) where
    pub paid : Performs is_want tells first here (Ok tt) (lift of_desk (spend n)) → Leads tells mode shell first here (Pays n t) t
    paid p = record { goes = λ new r q. then _ p q }

    pub unpaid : {f : WordFault} → Performs is_want tells first here (Err f) (lift of_desk (spend n)) → Failed tells mode shell first here (Pays n t) f
    unpaid p = record { performs = exit _ p }

  pub on : {a b c : DeskState V} {whole mid rest : Plan Script} → Leads tells mode shell a b whole mid → Leads tells mode shell b c mid rest → Leads tells mode shell a c whole rest
  on l m = record { goes = λ new r q. l.goes new r (m.goes new r q) }

  pub is_same : {d : DeskState V} {whole rest : Plan Script} → whole ≡ rest → Leads tells mode shell d d whole rest
  is_same {d} e = record { goes = λ new r q. subst (λ t. Performs is_want tells d new r (turn mode t shell)) (sym e) q }

  -- the shell is looked at
  pub looked : {d : DeskState V} (t : Shell → Plan Script) → Leads tells mode shell d d (Looks t) (t shell)
  looked t = record { goes = λ new r q. q }

  pub failed : {a b c : DeskState V} {whole rest : Plan Script} {f : WordFault} → Leads tells mode shell a b whole rest → Failed tells mode shell b c rest f → Failed tells mode shell a c whole f
  failed l p = record { performs = l.goes _ _ p.performs }

  pub fails : {d : DeskState V} {f : WordFault} → Failed tells mode shell d d (Fails f) f
  fails = record { performs = refused }

  pub lost : {d : DeskState V} {whole : Plan Script} → Failed tells mode shell d d whole fault.NoMemory
  lost {d} {whole} = record { performs = ran_out {r = Err fault.NoMemory} fault.NoMemory refl refl }

  pub set : {a b : DeskState V} {whole t : Plan Script} {name value : List ℕ} → Leads tells mode shell a b whole (Sets name value t) → Performs is_want tells a b (Ok (Setting name value t)) (turn mode whole shell)
  set l = l.goes _ _ finish

  pub asked : {a b : DeskState V} {whole : Plan Script} {s : Script} {t : List ℕ → Plan Script} → Leads tells mode shell a b whole (Asks s t) → Performs is_want tells a b (Ok (Asking (Some s) t)) (turn mode whole shell)
  asked l = l.goes _ _ finish

  -- an error of a call, handed on
  pub bad : {a b : DeskState V} {whole : Plan Script} {A : Type 0} {e : WordFault} (r : Result A WordFault) (P : A → Type 0) → IsErrAnd r (λ x. x ≡ e) → Failed tells mode shell a b whole e → MatchResult r P (Failed tells mode shell a b whole)
  bad (Ok s) P is p = absurd is
  bad {a} {b} {whole} {A} {e} (Err x) P is p = subst (Failed tells mode shell a b whole) (sym is) p

pub not_ok : {A E : Type 0} (Q : E → Type 0) (r : Result A E) (P : A → Type 0) → IsErrAnd r Q → IfOk r P
not_ok Q (Ok a) P is = absurd is
not_ok Q (Err e) P is = tt
