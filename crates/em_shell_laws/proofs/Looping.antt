-- Loops, turn by turn.
use Rattle.std.proofs.Common.{◌≡◌, ◌≢◌, ◌≤◌, ◌<◌, ℕ, zero, suc, ◌-◌, Bool, true, false, not, cond, Option, Some, None, Result, Ok, Err, refl, sym, ap, subst, ◌∙◌, arith, ne_eqb, le-ltb, ltb-false, lt-ltb, eq-eqb}
use Rattle.std.specs.Prelude.{◌==◌, nat_lt}
use Rattle.em_base.proofs.Lemmas.{by_cases}
use Rattle.em_view.specs.declared.done.ExecNo.{ExecNo}
use Rattle.em_view.specs.declared.done.ExecNo.TheVariants.{Spent}
use Rattle.em_view.specs.declared.no.DeskNo.{DeskNo}
use Rattle.em_view.specs.declared.no.DeskNo.TheVariants as no
use Rattle.em_view.specs.Actions as action
use Rattle.em_view.specs.Actions.{Oracle, Workspace, ◌>>=◌, go_on, renamed, taken, spend}
use Rattle.em_view.specs.Steps.{and_then, done, own, refuse, below, with_state}
use Rattle.em_syntax.specs.declared.tree.Loop.{Loop, out-Loop}
use Rattle.em_command.specs.declared.jump.Jump.{Jump}
use Rattle.em_command.specs.declared.jump.Jump.TheVariants.{Exit, Break, Continue, End}
use Rattle.em_command.specs.declared.here.Here.{Here}
use Rattle.em_command.specs.declared.here.Scene.{Scene}
use Rattle.em_command.specs.Jumps.{Acts, of_desk}
use Rattle.em_command.specs.Heres.{with_status}
use Rattle.em_exec.specs.Copies.{Ended, settled, caught}
use Rattle.em_exec.specs.Words.{Deeper}
use Rattle.em_exec.specs.Running.{goes_on, after_body, body_turn, if_goes_on, after_test, one_turn, again, turns, loop_of}
use Rattle.em_shell_laws.specs.Ends.{Ends, Leaves}
use Rattle.em_shell_laws.specs.Loops.{test_of, body_of, turns_of, going_on, Lets, turn_taken, MakesNoFuel}
use Rattle.em_shell_laws.proofs.Going.{Outcome, then_on, left_out, alike}

-- ---- the unit of a turn

abbrev unit : Acts (Unit {0})
unit = below of_desk (spend 1)

abbrev Taken : Type 0
Taken = Result (Unit {0}) DeskNo × Workspace

abbrev taken_by : Here → Taken → Outcome (Unit {0})
taken_by h z = (with_state (renamed of_desk z.0) h, z.1)

abbrev by_fuel : Here → Workspace → Bool → Outcome (Unit {0})
by_fuel h w short = taken_by h (cond short (Err no.Spent, w) (Ok tt, turn_taken w))

module _ (o : Oracle) (h : Here) (w : Workspace) where
  takes : 0 < w.fuel → Ends o unit h w tt h (turn_taken w)
  unfolding below spend
  takes some = ap (by_fuel h w) (le-ltb w.fuel 1 (omega arith))

  lacks : w.fuel ≡ 0 → Leaves o unit h w (End Spent) h w
  unfolding below spend
  lacks none = ap (by_fuel h w) (lt-ltb w.fuel 1 (omega arith))

  -- where it has come to its end a unit is gone
  pays : (t : Here) (v : Workspace) (u : Unit {0}) → Ends o unit h w u t v → (0 < w.fuel) × (v.fuel ≡ w.fuel - 1)
  unfolding below spend
  pays t v u e = by_cases (nat_lt w.fuel 1) (λ b. nat_lt w.fuel 1 ≡ b → by_fuel h w b ≡ (Ok (u, t), v) → (0 < w.fuel) × (v.fuel ≡ w.fuel - 1))
      (λ _ is f. absurd (let bad : ◌≡◌ {A = Result (Unit {0} × Here) (Jump × Here)} (Err (End Spent, h)) (Ok (u, t)) = ap (λ y. y.0) f in cc))
      (λ _ is f. ((let low = ltb-false w.fuel 1 is in omega arith), ap (λ (y : Outcome (Unit {0})). y.1.fuel) (sym f))) refl e

-- ---- a turn

module _ (until : Bool) (test body : Acts (Unit {0})) (last : ℕ) (o : Oracle) where
  abbrev turn : Acts (Option ℕ)
  turn = one_turn until test body last

  abbrev test_settled : Outcome (Unit {0}) → Outcome (Option ℕ)
  test_settled z = go_on (settled z.0) z.1 (λ p. after_test until body last p.0 p.1) o

  abbrev body_settled : Outcome (Unit {0}) → Outcome (Option ℕ)
  body_settled z = go_on (settled z.0) z.1 (λ p. own (after_body p.0) p.1) o

  tested : (h : Here) (w : Workspace) (z : Outcome (Unit {0})) → test h o w ≡ z → turn h o w ≡ test_settled z
  unfolding one_turn caught and_then ◌>>=◌
  tested h w z e = ap test_settled e

  bodied : (h : Here) (w : Workspace) (z : Outcome (Unit {0})) → body h o w ≡ z → body_turn body h o w ≡ body_settled z
  unfolding body_turn caught and_then ◌>>=◌
  bodied h w z e = ap body_settled e

  abbrev goes : Here → Workspace → Bool → Outcome (Option ℕ)
  goes h w b = if_goes_on b body last h o w

  body_comes : MakesNoFuel body → (h : Here) (w : Workspace) → (body_turn body h o w).1.fuel ≤ w.fuel
  unfolding own
  body_comes less h w = subst (λ (y : Outcome (Option ℕ)). y.1.fuel ≤ w.fuel) (sym (bodied h w (body h o w) refl)) (by (body h o w) (less h o w))
    where
      by : (z : Outcome (Unit {0})) → z.1.fuel ≤ w.fuel → (body_settled z).1.fuel ≤ w.fuel
      by (Ok (u, t), v) le = le
      by (Err (Exit, t), v) le = le
      by (Err (Break, t), v) le = le
      by (Err (Continue, t), v) le = le
      by (Err (End e, t), v) le = le

  goes_comes : MakesNoFuel body → (h : Here) (w : Workspace) (b : Bool) → (goes h w b).1.fuel ≤ w.fuel
  unfolding own
  goes_comes less h w true = body_comes less h w
  goes_comes less h w false = omega arith

  pub turn_comes : MakesNoFuel test → MakesNoFuel body → (h : Here) (w : Workspace) → (turn h o w).1.fuel ≤ w.fuel
  unfolding own done
  turn_comes less_test less h w = subst (λ (y : Outcome (Option ℕ)). y.1.fuel ≤ w.fuel) (sym (tested h w (test h o w) refl)) (by (test h o w) (less_test h o w))
    where
      by : (z : Outcome (Unit {0})) → z.1.fuel ≤ w.fuel → (test_settled z).1.fuel ≤ w.fuel
      by (Ok (u, t), v) le = let more = goes_comes less t v (goes_on until t.shell.status) in omega (arith, more, le)
      by (Err (Exit, t), v) le = le
      by (Err (Break, t), v) le = le
      by (Err (Continue, t), v) le = le
      by (Err (End e, t), v) le = le

-- ---- whether a test lets a loop go on

lets : (until : Bool) (n : ℕ) → Lets until n → goes_on until n ≡ true
lets false n is = eq-eqb n 0 is
lets true n is = ap not (ne_eqb n 0 is)

ends : (until : Bool) (n : ℕ) → ¬ Lets until n → goes_on until n ≡ false
ends false n isnt = ne_eqb n 0 isnt
ends true n isnt = by_cases (n == 0) (λ b. (n == 0) ≡ b → not b ≡ false) (λ _ _. refl) (λ _ is. absurd (isnt (λ e. (let bad : true ≡ false = sym (eq-eqb n 0 e) ∙ is in cc)))) refl

-- ---- the number of turns

module _ (until : Bool) (test body : Acts (Unit {0})) (less_test : MakesNoFuel test) (less : MakesNoFuel body) (o : Oracle) where
  abbrev go_with : ℕ → Option ℕ → Acts (Unit {0})
  go_with n a = again a (turns n until test body)

  abbrev rest : ℕ → ℕ → Unit {0} → Acts (Unit {0})
  rest n last u = and_then (one_turn until test body last) (go_with n)

  abbrev AreSame : ℕ → ℕ → Type 0
  AreSame n m = (last : ℕ) (h : Here) (w : Workspace) → w.fuel < n → w.fuel < m → turns n until test body last h o w ≡ turns m until test body last h o w

  same_after : (n m : ℕ) → AreSame n m → (a : Option ℕ) (k : Here) (x : Workspace) → x.fuel < n → x.fuel < m → go_with n a k o x ≡ go_with m a k o x
  same_after n m same None k x low high = refl
  same_after n m same (Some l) k x low high = same l k x low high

  one_further : (n m : ℕ) → AreSame n m → AreSame (suc n) (suc m)
  one_further n m same last h w low high =
      alike unit (rest n last) (rest m last) h o w (λ u t v paid.
      alike (one_turn until test body last) (go_with n) (go_with m) t o v (λ a k x turned.
      (let spent = pays o h w t v u paid in
      let here : x.fuel ≤ v.fuel = subst (λ (y : Outcome (Option ℕ)). y.1.fuel ≤ v.fuel) turned (turn_comes until test body last o less_test less t v) in
      same_after n m same a k x (omega (arith, spent.0, spent.1)) (omega (arith, spent.0, spent.1)))))

  any_count : (n m : ℕ) → AreSame n m
  any_count zero m last h w low high = absurd (omega arith)
  any_count (suc n) zero last h w low high = absurd (omega arith)
  any_count (suc n) (suc m) last h w low high = one_further n m (any_count n m) last h w low high

-- ---- loops

module _ (deeper : Deeper) (scene : Scene) (o : Oracle) (c : Loop) where
  abbrev until : Bool
  until = (out-Loop c).until

  abbrev test : Acts (Unit {0})
  test = test_of deeper scene c

  abbrev body : Acts (Unit {0})
  body = body_of deeper scene c

  abbrev going : ℕ → Acts (Unit {0})
  going last = going_on deeper scene c last

  abbrev next : Workspace → Option ℕ → Acts (Unit {0})
  next w a = again a (turns w.fuel until test body)

  abbrev turned : ℕ → Acts (Option ℕ)
  turned last = one_turn until test body last

  pub begins : (h : Here) (w : Workspace) → loop_of deeper scene c h o w ≡ going_on deeper scene c 0 h o w
  unfolding loop_of
  begins h w = refl

  pub unbounded : (last n : ℕ) (h : Here) (w : Workspace) → MakesNoFuel test → MakesNoFuel body → w.fuel < n → turns_of deeper scene c n last h o w ≡ going_on deeper scene c last h o w
  unbounded last n h w less_test less low = any_count until test body less_test less o n (suc w.fuel) last h w low (omega arith)

  pub spent : (last : ℕ) (h : Here) (w : Workspace) → w.fuel ≡ 0 → Leaves o (going_on deeper scene c last) h w (End Spent) h w
  spent last h w none = left_out unit (λ u. and_then (turned last) (next w)) o (End Spent) (lacks o h w none)

  module _ (last : ℕ) (h : Here) (w : Workspace) (some : 0 < w.fuel) where
    abbrev at : Workspace
    at = turn_taken w

    begun : going last h o w ≡ and_then (turned last) (next w) h o at
    begun = then_on unit (λ u. and_then (turned last) (next w)) o tt (takes o h w some)

    on_end : (t : Here) (v : Workspace) → Ends o (turned last) h at None t v → Ends o (going last) h w tt t v
    unfolding done
    on_end t v e = begun ∙ then_on (turned last) (next w) o None e

    on_leave : (j : Jump) (t : Here) (v : Workspace) → Leaves o (turned last) h at j t v → Leaves o (going last) h w j t v
    on_leave j t v e = begun ∙ left_out (turned last) (next w) o j e

    on_more : MakesNoFuel test → MakesNoFuel body → (n : ℕ) (t : Here) (v : Workspace) → Ends o (turned last) h at (Some n) t v → going last h o w ≡ going n t o v
    on_more less_test less n t v e =
        let down : v.fuel ≤ at.fuel = subst (λ (y : Outcome (Option ℕ)). y.1.fuel ≤ at.fuel) e (turn_comes until test body last o less_test less h at) in
        begun ∙ then_on (turned last) (next w) o (Some n) e
        ∙ any_count until test body less_test less o w.fuel (suc v.fuel) n t v (omega (arith, some, down)) (omega arith)

    module _ (t : Here) (v : Workspace) where
      pub break_in_test : Leaves o test h at Break t v → Ends o (going_on deeper scene c last) h w tt (with_status last t) v
      unfolding own
      break_in_test e = on_end (with_status last t) v (tested until test body last o h at (Err (Break, t), v) e)

      pub continue_in_test : MakesNoFuel test → MakesNoFuel body → Leaves o test h at Continue t v → going_on deeper scene c last h o w ≡ going_on deeper scene c last t o v
      unfolding done
      continue_in_test less_test less e = on_more less_test less last t v (tested until test body last o h at (Err (Continue, t), v) e)

      pub exit_in_test : Leaves o test h at Exit t v → Leaves o (going_on deeper scene c last) h w Exit t v
      exit_in_test e = on_leave Exit t v (tested until test body last o h at (Err (Exit, t), v) e)

      pub no_end_in_test : (x : ExecNo) → Leaves o test h at (End x) t v → Leaves o (going_on deeper scene c last) h w (End x) t v
      no_end_in_test x e = on_leave (End x) t v (tested until test body last o h at (Err (End x, t), v) e)

      module _ (e : Ends o test h at tt t v) where
        by_test : turned last h o at ≡ goes until test body last o t v (goes_on until t.shell.status)
        by_test = tested until test body last o h at (Ok (tt, t), v) e

        pub over : ¬ Lets until t.shell.status → Ends o (going_on deeper scene c last) h w tt (with_status last t) v
        unfolding own
        over isnt = on_end (with_status last t) v (by_test ∙ ap (goes until test body last o t v) (ends until t.shell.status isnt))

        module _ (is : Lets until t.shell.status) (k : Here) (x : Workspace) where
          by_body : (z : Outcome (Unit {0})) → body t o v ≡ z → turned last h o at ≡ body_settled until test body last o z
          by_body z f = by_test ∙ ap (goes until test body last o t v) (lets until t.shell.status is) ∙ bodied until test body last o t v z f

          pub once_more : MakesNoFuel test → MakesNoFuel body → Ends o body t v tt k x → going_on deeper scene c last h o w ≡ going_on deeper scene c k.shell.status k o x
          unfolding own
          once_more less_test less f = on_more less_test less k.shell.status k x (by_body (Ok (tt, k), x) f)

          pub continue_in_body : MakesNoFuel test → MakesNoFuel body → Leaves o body t v Continue k x → going_on deeper scene c last h o w ≡ going_on deeper scene c k.shell.status k o x
          unfolding own
          continue_in_body less_test less f = on_more less_test less k.shell.status k x (by_body (Err (Continue, k), x) f)

          pub break_in_body : Leaves o body t v Break k x → Ends o (going_on deeper scene c last) h w tt k x
          unfolding own
          break_in_body f = on_end k x (by_body (Err (Break, k), x) f)

          pub exit_in_body : Leaves o body t v Exit k x → Leaves o (going_on deeper scene c last) h w Exit k x
          exit_in_body f = on_leave Exit k x (by_body (Err (Exit, k), x) f)

          pub no_end_in_body : (y : ExecNo) → Leaves o body t v (End y) k x → Leaves o (going_on deeper scene c last) h w (End y) k x
          no_end_in_body y f = on_leave (End y) k x (by_body (Err (End y, k), x) f)
