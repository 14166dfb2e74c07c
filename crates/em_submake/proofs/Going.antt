-- How ways are followed.
--     spun_comes         a strand whose texts are read
--     ends_map, if_ends  an end of other ways
--     goes_by, still     what was done over a desk, and what is left; where nothing was done over it
--     over, paused       a turn of the innermost job
--     found              steps that can't fail came to a value
--     unit, assoc        ways put together
--     picked, passed     a choice
--     begins, lost_w     the loop's begin; memory was short
use Rattle.std.proofs.Common.{◌≡◌, ℕ, Bool, true, false, List, length, Result, Ok, Err, refl, sym, subst}
use Rattle.std.specs.Prelude.{IfOk, IsErrAnd}
use Rattle.em_base.specs.declared.memory.NoMemory.{NoMemory}
use Rattle.em_tree.specs.declared.outcome.Outcome.{Outcome}
use Rattle.em_view.specs.Actions.{Workspace, Oracle, AgreesFrom}
use Rattle.em_view.specs.Performs.{DeskState, Told, Grows}
use Rattle.em_view.specs.Steps.{Does}
use Rattle.em_view.proofs.Performing.{split, grows_then}
use Rattle.em_exec.specs.declared.turn.SubLine.{SubLine}
use Rattle.em_exec.specs.declared.turn.Turn.TheVariants as turn
use Rattle.em_script.specs.Strands.{Back, Strand, Over, Pause, Read, Plot, Comes, Turned}
use Rattle.em_script.proofs.Strands.{next_number}
use Rattle.em_submake.specs.Ways.{Ended, Ways, and_then, done, pick, goes_on, IsOnly, only}
use Rattle.em_submake.specs.Submakes.{Said, spun, whole}
use Rattle.em_submake.specs.Climbing.{Ends, Went, GoesW}

pub spun_comes : (deeper : SubLine → Ways Back) (s t : Strand) (o : Oracle) (z : Ended Outcome) → Comes s t → spun deeper t o z → spun deeper s o z
spun_comes deeper (Over a out w) t o z c h = subst (λ (x : Strand). spun deeper x o z) c h
spun_comes deeper (Pause l out w k) t o z c h = subst (λ (x : Strand). spun deeper x o z) c h
spun_comes deeper (Read text k) t o z c h = (c.0, (c.1.0, spun_comes deeper (k c.0) t o z c.1.1 h))

-- ---- ends

module _ (m k : Ways Outcome) (s t : List ℕ) (o : Oracle) (w v : Workspace) where
  pub ends_map : {a : Outcome} {u : List ℕ} {x : Workspace} → ((z : Ended Outcome) → k t o v z → m s o w z) → Ends k t o v a u x → Ends m s o w a u x
  ends_map f h = (h.0, (f h.0 h.1.0, h.1.1))

  pub if_ends : (u : List ℕ) (x : Workspace) (r : Result Outcome NoMemory) → ((z : Ended Outcome) → k t o v z → m s o w z) → IfOk r (λ a. Ends k t o v a u x) → IfOk r (λ a. Ends m s o w a u x)
  if_ends u x (Ok a) f h = (h.0, (f h.0 h.1.0, h.1.1))
  if_ends u x (Err e) f h = tt

-- ---- what was done over a desk

module _ {V : Type 0} {tells : V → Told} where
  -- whoever goes on with the rest has gone on with the whole
  pub goes_by : {old mid : DeskState V} {s t : List ℕ} {whole rest : Ways Outcome} (g : Grows tells old mid)
      → ((o : Oracle) → AgreesFrom (length old.work.asked) o g.entries → (z : Ended Outcome) → rest t o mid.work z → whole s o old.work z) → GoesW tells old mid s t whole rest
  goes_by {old} {mid} {s} {t} {whole} {rest} g lead new after r p = record {
    grows = grows_then g p.grows;
    plain = λ o all.
        let both = split (length old.work.asked) o g.entries p.grows.entries all in
        if_ends whole rest s t o old.work mid.work after new.work r (lead o both.0) (p.plain o (subst (λ n. AgreesFrom n o p.grows.entries) (next_number g) both.1));
  }

  -- nothing was done over it
  pub still : {d : DeskState V} (whole rest : Ways Outcome) (s t : List ℕ) → ((o : Oracle) (w : Workspace) (z : Ended Outcome) → rest t o w z → whole s o w z) → GoesW tells d d s t whole rest
  still {d} whole rest s t lead new after r p = record {
    grows = p.grows;
    plain = λ o all. if_ends whole rest s t o d.work d.work after new.work r (lead o d.work) (p.plain o all);
  }

  module _ {plot : Plot} {back : Back → Plot} {old mid : DeskState V} {s t : List ℕ} (deeper : SubLine → Ways Back) (k : Outcome → Ways Outcome) where
    pub over : {a : Outcome} (p : Turned tells old mid s t (Ok (turn.Ended a)) plot back) (o : Oracle) → AgreesFrom (length old.work.asked) o p.grows.entries → (z : Ended Outcome) → k a t o mid.work z
        → and_then (whole deeper plot) k s o old.work z
    unfolding whole
    over {a} p o all z h = ((Ok (a, t), mid.work), (spun_comes deeper (plot s o old.work) (Over a t mid.work) o _ (p.plain o all) refl, h))

    pub paused : {l : SubLine} (p : Turned tells old mid s t (Ok (turn.Sub l)) plot back) (o : Oracle) → AgreesFrom (length old.work.asked) o p.grows.entries → (z : Ended Outcome)
        → and_then (and_then (deeper l) (λ b. whole deeper (back b))) k t o mid.work z → and_then (whole deeper plot) k s o old.work z
    unfolding whole
    paused {l} p o all z h = (h.0, (spun_comes deeper (plot s o old.work) (Pause l t mid.work back) o h.0 (p.plain o all) h.1.0, h.1.1))

  -- steps that can't fail came to a value
  pub found : {A : Type 0} {free : NoMemory → Bool} {old mid : DeskState V} {s t : List ℕ} {a : A} {m : Said A} (p : Does free tells old mid s t (Ok a) m) (o : Oracle) → AgreesFrom (length old.work.asked) o p.performs.grows.entries
      → only m s o old.work (Ok (a, t), mid.work)
  found {A} {mid} {t} {a} p o all = subst (λ (x : Result (A × List ℕ) (NoMemory × List ℕ) × Workspace). IsOnly x.0 x.1 (Ok (a, t), mid.work)) (sym (p.performs.plain refl o all)) refl

-- ---- ways put together

pub unit : (m : Ways Outcome) (out : List ℕ) (o : Oracle) (w : Workspace) (z : Ended Outcome) → and_then m (λ a. done a) out o w z → m out o w z
unit m out o w z h = by (h.0.0) (h.0.1) h.1.0 h.1.1
  where
    by : (y : Result (Outcome × List ℕ) (Outcome × List ℕ)) (v : Workspace) → m out o w (y, v) → goes_on y v (λ a. done a) o z → m out o w z
    by (Ok p) v q e = subst (λ (x : Ended Outcome). m out o w x) (sym e) q
    by (Err p) v q e = subst (λ (x : Ended Outcome). m out o w x) (sym e) q

pub assoc : {A B C : Type 0} (m : Ways A) (h : A → Ways B) (k : B → Ways C) (out : List ℕ) (o : Oracle) (w : Workspace) (z : Ended C) → and_then m (λ a. and_then (h a) k) out o w z → and_then (and_then m h) k out o w z
assoc {A} {B} {C} m h k out o w z x = by x.0.0 x.0.1 x.1.0 x.1.1
  where
    by : (y : Result (A × List ℕ) (Outcome × List ℕ)) (v : Workspace) → m out o w (y, v) → goes_on y v (λ a. and_then (h a) k) o z → and_then (and_then m h) k out o w z
    by (Ok p) v q g = (g.0, (((Ok p, v), (q, g.1.0)), g.1.1))
    by (Err p) v q g = ((Err p, v), (((Err p, v), (q, refl)), g))

module _ {A : Type 0} (m k : Ways A) {out : List ℕ} {o : Oracle} {w : Workspace} {z : Ended A} where
  pub picked : (b : Bool) → b ≡ true → m out o w z → pick b m k out o w z
  picked true e h = h
  picked false e h = absurd (let no : false ≡ true = e in cc)

  pub passed : (b : Bool) → b ≡ false → k out o w z → pick b m k out o w z
  passed true e h = absurd (let no : true ≡ false = e in cc)
  passed false e h = h

-- ---- the loop

module _ {V : Type 0} {tells : V → Told} where
  pub begins : {old new : DeskState V} {s u : List ℕ} {r : Result Outcome NoMemory} (m : Ways Outcome) → Went tells old new s u r (and_then m (λ a. done a)) → Went tells old new s u r m
  begins {old} {new} {s} {u} {r} m p = record {
    grows = p.grows;
    plain = λ o all. if_ends m (and_then m (λ a. done a)) s s o old.work old.work u new.work r (unit m s o old.work) (p.plain o all);
  }

  pub lost_w : {old new : DeskState V} {s u t v : List ℕ} {r : Result Outcome NoMemory} {e : NoMemory} {m k : Ways Outcome} → IsErrAnd r (λ x. x ≡ e) → Went tells old new s u (Err e) m → Went tells old new t v r k
  lost_w {r = Ok x} is p = absurd is
  lost_w {r = Err x} is p = record { grows = p.grows; plain = λ o all. tt }
