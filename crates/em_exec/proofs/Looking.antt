-- Steps whose end is looked at.
--     looked_s     what follows goes on from what they have come to
--     copied_s     in a copy of the shell, after which a function that has ends as its own goes on
--     caught_s     a part of a loop's turn
--     worded_ok, worded_err     what a word does over the desk
use Rattle.std.proofs.Common.{◌≡◌, Bool, true, false, Result, Ok, Err, refl, sym, ap, subst, ◌∙◌}
use Rattle.em_view.specs.Actions.{Workspace, Action}
use Rattle.em_view.specs.Performs.{DeskState, Told, Performs}
use Rattle.em_view.specs.Performs as performs
use Rattle.em_view.specs.Steps.{Does, with_state, and_then}
use Rattle.em_view.specs.Ends.{is_want}
use Rattle.em_view.proofs.Performing.{grows_then}
use Rattle.em_view.proofs.Doing.{then_s}
use Rattle.em_word.specs.declared.fault.WordFault.{WordFault}
use Rattle.em_word.specs.declared.fault.WordFault.TheVariants as fault
use Rattle.em_word.specs.Ends as word
use Rattle.em_command.specs.declared.jump.Jump.{Jump}
use Rattle.em_command.specs.declared.jump.Jump.TheVariants.{Exit, Break, Continue, End}
use Rattle.em_command.specs.declared.here.Here.{Here}
use Rattle.em_command.specs.Jumps.{is_free, Acts}
use Rattle.em_command.specs.Heres.{ended_as, faulted}
use Rattle.em_exec.specs.declared.loops.LoopTurn.{LoopTurn}
use Rattle.em_exec.specs.Copies.{Ended, seen, looked_at, turn_of, settled, caught}
use Rattle.em_exec.specs.Words.{worded, come_to}

free_with : {A : Type 0} (r : Result A Jump) (t : Here) → performs.is_free (λ (x : Jump × Here). is_free x.0) (with_state r t) ≡ performs.is_free is_free r
free_with (Ok a) t = refl
free_with (Err e) t = refl

seen_with : {A : Type 0} (f : Result (Unit {0}) Jump → Here → A) (r : Result (Unit {0}) Jump) (t : Here) → seen f (with_state r t) ≡ f r t
seen_with f (Ok u) t = refl
seen_with f (Err j) t = refl

module _ {V A B : Type 0} {tells : V → Told} {old mid new : DeskState V} {h t u : Here} {r : Result (Unit {0}) Jump} {x : Result B Jump} {m : Acts (Unit {0})} (from : Here → Here)
    (back : Here → Result (Unit {0}) Jump → Here → A × Here) (k : A → Acts B) where
  pub looked_s : (performs.is_free is_free x ≡ false → performs.is_free is_free r ≡ false) → Does is_free tells old mid (from h) t r m
      → Does is_free tells mid new (back h r t).1 u x (k (back h r t).0) → Does is_free tells old new h u x (and_then (looked_at from back m) k)
  unfolding looked_at
  looked_s kept p q = by_end (performs.is_free is_free r) refl
    where
      by_end : (b : Bool) → performs.is_free is_free r ≡ b → Does is_free tells old new h u x (and_then (looked_at from back m) k)
      by_end false e =
          let first : Does is_free tells old mid h (back h r t).1 (Ok (back h r t).0) (looked_at from back m) = record {
            performs = record {
              grows = p.performs.grows;
              plain = λ n o all. ap (λ (z : Ended × Workspace). let y : Result (A × Here) (Jump × Here) × Workspace = (Ok (seen (back h) z.0), z.1) in y) (p.performs.plain (free_with r t ∙ e) o all)
                  ∙ ap (λ (z : A × Here). let y : Result (A × Here) (Jump × Here) × Workspace = (Ok z, mid.work) in y) (seen_with (back h) r t);
            };
          } in
          then_s k first q
      by_end true e = record {
        performs = record {
          grows = grows_then p.performs.grows q.performs.grows;
          plain = λ n. absurd (let no : true ≡ false = sym e ∙ kept (sym (free_with x u) ∙ n) in cc);
        };
      }

-- a copy whose end is one's own where it has none
abbrev value_in : {A : Type 0} → Result (A × Here) (Jump × Here) → Result A Jump
value_in (Ok p) = Ok p.0
value_in (Err p) = Err p.0

value_with : {A : Type 0} (r : Result A Jump) (t : Here) → value_in (with_state r t) ≡ r
value_with (Ok a) t = refl
value_with (Err e) t = refl

ended_free : {A : Type 0} (a : A) (s : Result (Unit {0}) Jump) → performs.is_free is_free (ended_as a s) ≡ performs.is_free is_free s
ended_free a (Ok n) = refl
ended_free a (Err Exit) = refl
ended_free a (Err Break) = refl
ended_free a (Err Continue) = refl
ended_free a (Err (End e)) = refl

pub kept_by : {A : Type 0} (r : Result (Unit {0}) Jump) (x : Result A Jump) (a : A) (u v : Here) → (performs.is_free is_free x ≡ false → with_state x u ≡ with_state (ended_as a r) v)
    → performs.is_free is_free x ≡ false → performs.is_free is_free r ≡ false
kept_by {A} r x a u v is n =
    let same : x ≡ ended_as a r = sym (value_with x u) ∙ ap (λ (z : Result (A × Here) (Jump × Here)). value_in z) (is n) ∙ value_with (ended_as a r) v in
    sym (ended_free a r) ∙ ap (λ (z : Result A Jump). performs.is_free is_free z) (sym same) ∙ n

-- ---- turns

free_turn : (s : Result (Unit {0}) Jump) → performs.is_free is_free (turn_of s) ≡ performs.is_free is_free s
free_turn (Ok n) = refl
free_turn (Err Exit) = refl
free_turn (Err Break) = refl
free_turn (Err Continue) = refl
free_turn (Err (End e)) = refl

settled_with : (s : Result (Unit {0}) Jump) (z : Here) → settled (with_state s z) ≡ with_state (turn_of s) z
settled_with (Ok n) z = refl
settled_with (Err Exit) z = refl
settled_with (Err Break) z = refl
settled_with (Err Continue) z = refl
settled_with (Err (End e)) z = refl

module _ {V : Type 0} {tells : V → Told} {old new : DeskState V} {h t : Here} {r : Result (Unit {0}) Jump} {m : Acts (Unit {0})} where
  pub caught_s : {x : Result LoopTurn Jump} → x ≡ turn_of r → Does is_free tells old new h t r m → Does is_free tells old new h t x (caught m)
  unfolding caught
  caught_s {x} is p = subst (λ (y : Result LoopTurn Jump). Does is_free tells old new h t y (caught m)) (sym is) (record {
    performs = record {
      grows = p.performs.grows;
      plain = λ n o all. ap (λ (z : Ended × Workspace). let y : Result (LoopTurn × Here) (Jump × Here) × Workspace = (settled z.0, z.1) in y)
          (p.performs.plain (free_with r t ∙ sym (free_turn r) ∙ sym (free_with (turn_of r) t) ∙ n) o all)
          ∙ ap (λ (y : Result (LoopTurn × Here) (Jump × Here)). let z : Result (LoopTurn × Here) (Jump × Here) × Workspace = (y, new.work) in z) (settled_with r t);
    };
  })

-- ---- words

free_fault : (h : Here) (f : WordFault) → is_free (faulted f h).0 ≡ word.is_want f
free_fault h (fault.Unset text) = refl
free_fault h (fault.Refused c) = refl
free_fault h fault.Spent = refl
free_fault h fault.NoMemory = refl

module _ {V A : Type 0} {tells : V → Told} {old new : DeskState V} {h : Here} (m : Here → Action WordFault A) where
  pub worded_ok : {a : A} → Performs word.is_want tells old new (Ok a) (m h) → Does is_free tells old new h h (Ok a) (worded m)
  unfolding worded
  worded_ok {a} p = record {
    performs = record {
      grows = p.grows;
      plain = λ n o all. ap (λ (z : Result A WordFault × Workspace). let y : Result (A × Here) (Jump × Here) × Workspace = (come_to z.0 h, z.1) in y) (p.plain refl o all);
    };
  }

  pub worded_err : {f : WordFault} {j : Jump} {u : Here} → (is_free j ≡ false → (j, u) ≡ faulted f h) → Performs word.is_want tells old new (Err f) (m h) → Does is_free tells old new h u (Err j) (worded m)
  unfolding worded
  worded_err {f} {j} {u} is p =
      let given : is_free j ≡ false → word.is_want f ≡ false = λ n. sym (free_fault h f) ∙ ap (λ (y : Jump × Here). is_free y.0) (sym (is n)) ∙ n in
      record {
        performs = record {
          grows = p.grows;
          plain = λ n o all. ap (λ (z : Result A WordFault × Workspace). let y : Result (A × Here) (Jump × Here) × Workspace = (come_to z.0 h, z.1) in y) (p.plain (given n) o all)
              ∙ ap (λ (y : Jump × Here). let z : Result (A × Here) (Jump × Here) × Workspace = (Err y, new.work) in z) (sym (is n));
        };
      }
