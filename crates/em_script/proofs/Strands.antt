-- How a proof that a job was followed to a turn is put together, one line for each exit of a
-- function, as Doing of em_view has it for steps.
--     step_t, stop_t, stopped_t      a step gave a value; one gave an error, by which the job ends
--     lost_t, lacked_t, short_t      memory was short: behind steps, behind whatever was done, or before anything
--     read_t, over_t, pause_t, from_t      a text was read; the end; a pause; the plot of a state's own
--     start_t, more_t, read_more_t, from_more_t, halt_t, halted_t, end_t      the turns of a loop whose invariant is Goes_t
use Rattle.std.proofs.Common.{◌≡◌, ℕ, ◌+◌, Bool, false, List, length, map, length-append, Result, Ok, Err, refl, sym, ap, subst, arith}
use Rattle.std.proofs.lemmas.List.{length-map}
use Rattle.em_base.specs.declared.memory.NoMemory.{NoMemory}
use Rattle.em_tree.specs.declared.question.Entry.{Entry}
use Rattle.em_tree.specs.declared.outcome.Outcome.{Outcome}
use Rattle.em_view.specs.Actions.{Workspace, AgreesFrom}
use Rattle.em_view.specs.Performs.{DeskState, Told, Grows}
use Rattle.em_view.specs.Steps.{Steps, Does}
use Rattle.em_view.proofs.Performing.{split, grows_then, grows_still, itself}
use Rattle.em_exec.specs.declared.turn.SubLine.{SubLine}
use Rattle.em_exec.specs.declared.turn.Turn.{Turn}
use Rattle.em_exec.specs.declared.turn.Turn.TheVariants.{Ended, Sub}
use Rattle.em_script.specs.Strands.{Meaning, IsMeant, Strand, Read, Pause, Back, Plot, Going, reading, from_output, go, to, over, pause, IsTurn, Turned}

-- the number of the next ask
pub next_number : {V : Type 0} {tells : V → Told} {old new : DeskState V} (p : Grows tells old new) → length old.work.asked + length p.entries ≡ length new.work.asked
next_number {old} {new} p = omega (arith, ap length p.asked, length-append old.work.asked (map (λ (e : Entry). e.question) p.entries), length-map p.entries (λ (e : Entry). e.question))

-- what a text means has come to this turn, and so has the text
once_read : {text : List ℕ} {m : Meaning} (r : Result Turn NoMemory) (k : Meaning → Strand) (out : List ℕ) (w : Workspace) (back : Back → Plot) → IsMeant text m → IsTurn r (k m) out w back → IsTurn r (Read text k) out w back
once_read {m} (Ok (Ended a)) k out w back is h = (m, (is, h))
once_read {m} (Ok (Sub line)) k out w back is h = (m, (is, h))
once_read (Err e) k out w back is h = tt

module _ {V : Type 0} {tells : V → Told} where
  module _ {S E A : Type 0} {free : E → Bool} (close : E → S → Outcome × List ℕ) (k : A → Going S) where
    -- a step gave a value, and what follows came to the turn
    pub step_t : {old mid new : DeskState V} {s t : S} {a : A} {m : Steps S E A} {after : List ℕ} {r : Result Turn NoMemory} {back : Back → Plot} → Does free tells old mid s t (Ok a) m → Turned tells mid new t after r (k a) back → Turned tells old new s after r (to close m k) back
    step_t {old} {new} {after} {r} {back} p q = record {
      grows = grows_then p.performs.grows q.grows;
      plain = λ o all.
          let both = split (length old.work.asked) o p.performs.grows.entries q.grows.entries all in
          subst (λ (z : Result (A × S) (E × S) × Workspace). IsTurn r (go close k o z.0 z.1) after new.work back) (sym (p.performs.plain refl o both.0))
          (q.plain o (subst (λ n. AgreesFrom n o q.grows.entries) (next_number p.performs.grows) both.1));
    }

    -- a step gave an error, which ends the job
    pub stop_t : {old new : DeskState V} {s t : S} {e : E} {m : Steps S E A} {back : Back → Plot} → free e ≡ false → Does free tells old new s t (Err e) m → Turned tells old new s (close e t).1 (Ok (Ended (close e t).0)) (to close m k) back
    stop_t {old} {new} {t} {e} {back} h p = record {
      grows = p.performs.grows;
      plain = λ o all. subst (λ (z : Result (A × S) (E × S) × Workspace). IsTurn (Ok (Ended (close e t).0)) (go close k o z.0 z.1) (close e t).1 new.work back) (sym (p.performs.plain h o all)) refl;
    }

    -- the same where the result and the output are told by equations
    pub stopped_t : {old new : DeskState V} {s t : S} {e : E} {m : Steps S E A} {out : List ℕ} {r : Result Turn NoMemory} {back : Back → Plot} → free e ≡ false → r ≡ Ok (Ended (close e t).0) → out ≡ (close e t).1 → Does free tells old new s t (Err e) m → Turned tells old new s out r (to close m k) back
    stopped_t {old} {new} {s} {t} {e} {m} {out} {back} h is text p =
        subst (λ (x : Result Turn NoMemory). Turned tells old new s out x (to close m k) back) (sym is) (subst (λ (x : List ℕ). Turned tells old new s x (Ok (Ended (close e t).0)) (to close m k) back) (sym text) (stop_t h p))

  module _ {S : Type 0} {old new : DeskState V} {s : S} {after : List ℕ} {e : NoMemory} {plot : Going S} {back : Back → Plot} where
    -- memory was short behind whatever was done
    pub lacked_t : Grows tells old new → Turned tells old new s after (Err e) plot back
    lacked_t p = record { grows = p; plain = λ o all. tt }

    -- behind steps of any layer
    pub lost_t : {T F C : Type 0} {free : F → Bool} {x y : T} {q : Result C F} {m : Steps T F C} → Does free tells old new x y q m → Turned tells old new s after (Err e) plot back
    lost_t p = lacked_t p.performs.grows

  module _ {S : Type 0} {d : DeskState V} {s : S} {back : Back → Plot} where
    -- before anything was done
    pub short_t : {after : List ℕ} {e : NoMemory} {plot : Going S} → Turned tells d d s after (Err e) plot back
    short_t = lacked_t (grows_still refl refl itself (omega arith))

    module _ (written : S → List ℕ) where
      pub over_t : {a : Outcome} → Turned tells d d s (written s) (Ok (Ended a)) (over written a) back
      over_t = record { grows = grows_still refl refl itself (omega arith); plain = λ o all. refl }

      pub pause_t : {line : SubLine} {k : Back → Plot} → back ≡ k → Turned tells d d s (written s) (Ok (Sub line)) (pause written line k) back
      pause_t {line} e = record { grows = grows_still refl refl itself (omega arith); plain = λ o all. ap (Pause line (written s) d.work) e }

  module _ {old new : DeskState V} {after : List ℕ} {r : Result Turn NoMemory} {back : Back → Plot} where
    -- a text was read
    pub read_t : {S : Type 0} {s : S} {text : List ℕ} {m : Meaning} (k : Meaning → Going S) → IsMeant text m → Turned tells old new s after r (k m) back → Turned tells old new s after r (reading text k) back
    read_t {s} k is p = record { grows = p.grows; plain = λ o all. once_read r (λ x. k x s o old.work) after new.work back is (p.plain o all) }

    -- the state of the job's own was begun
    pub from_t : {S : Type 0} {out : List ℕ} (begin : List ℕ → S) (g : Going S) → Turned tells old new (begin out) after r g back → Turned tells old new out after r (from_output begin g) back
    from_t begin g p = record { grows = p.grows; plain = p.plain }

-- ---- loops

-- whatever comes to a turn with the rest from this desk and state comes to it with the whole from
-- the first ones; the states may be of two types
abbrev pub Goes_t : {V S T : Type 0} → (V → Told) → DeskState V → DeskState V → S → T → Going S → Going T → Type 0
Goes_t {V} tells first here s t whole rest = (new : DeskState V) (after : List ℕ) (r : Result Turn NoMemory) (back : Back → Plot) → Turned tells here new t after r rest back → Turned tells first new s after r whole back

module _ {V S T : Type 0} {tells : V → Told} {first here : DeskState V} {s : S} {t : T} {whole : Going S} where
  -- a text was read, and the loop goes on
  pub read_more_t : {text : List ℕ} {m : Meaning} (k : Meaning → Going T) → Goes_t tells first here s t whole (reading text k) → IsMeant text m → Goes_t tells first here s t whole (k m)
  read_more_t k inv is new after r back q = inv new after r back (read_t k is q)

  -- the loop has ended, with what follows it
  pub end_t : {rest : Going T} {new : DeskState V} {after : List ℕ} {r : Result Turn NoMemory} {back : Back → Plot} → Goes_t tells first here s t whole rest → Turned tells here new t after r rest back → Turned tells first new s after r whole back
  end_t {new} {after} {r} {back} inv p = inv new after r back p

  module _ {E A : Type 0} {free : E → Bool} {next : DeskState V} {u : T} {m : Steps T E A} (close : E → T → Outcome × List ℕ) (k : A → Going T) where
    -- a step gave a value, and the loop goes on
    pub more_t : {a : A} → Goes_t tells first here s t whole (to close m k) → Does free tells here next t u (Ok a) m → Goes_t tells first next s u whole (k a)
    more_t inv p new after r back q = inv new after r back (step_t close k p q)

    -- a step gave an error, which ends the job
    pub halt_t : {e : E} {back : Back → Plot} → Goes_t tells first here s t whole (to close m k) → free e ≡ false → Does free tells here next t u (Err e) m → Turned tells first next s (close e u).1 (Ok (Ended (close e u).0)) whole back
    halt_t {back} inv h p = inv next _ _ back (stop_t close k h p)

    pub halted_t : {e : E} {out : List ℕ} {r : Result Turn NoMemory} {back : Back → Plot} → Goes_t tells first here s t whole (to close m k) → free e ≡ false → r ≡ Ok (Ended (close e u).0) → out ≡ (close e u).1 → Does free tells here next t u (Err e) m
        → Turned tells first next s out r whole back
    halted_t {out} {r} {back} inv h is text p = inv next out r back (stopped_t close k h is text p)

module _ {V S : Type 0} {tells : V → Told} {first : DeskState V} {s : S} {whole : Going S} where
  -- before the loop
  pub start_t : Goes_t tells first first s s whole whole
  start_t new after r back p = p

module _ {V S T : Type 0} {tells : V → Told} {first here : DeskState V} {s : S} {out : List ℕ} {whole : Going S} where
  -- the state of the job's own was begun, and the loop goes on from it
  pub from_more_t : (begin : List ℕ → T) (g : Going T) → Goes_t tells first here s out whole (from_output begin g) → Goes_t tells first here s (begin out) whole g
  from_more_t begin g inv new after r back q = inv new after r back (from_t begin g q)
