-- Where in a legal journal a job began, and where it ended.
use Rattle.std.proofs.Common.{◌≡◌, ℕ, zero, suc, ◌+◌, ◌<◌, ◌≤◌, List, [], ◌∷◌, ◌++◌, Bool, true, false, Some, None, Option, length, set, refl, sym, ap, subst, ◌∙◌, inl, inr, arith, slice_get, replicate}
use Rattle.std.specs.Prelude.{All, IsTrue, ◌==◌, ◌⊎◌, slice_index_or}
use Rattle.std.proofs.lemmas.Bool.{eqb-true, eq-eqb}
use Rattle.std.proofs.lemmas.List.Elements.{All-nil, All-cons}
use Rattle.std.proofs.lemmas.Option.{slice_get_within, same_Some}
use Rattle.em_tree.specs.declared.state.State.{State}
use Rattle.em_engine.specs.declared.event.Event.{Event}
use Rattle.em_engine.specs.declared.event.Event.TheVariants as event
use Rattle.em_engine.specs.declared.ready.JobStage.{JobStage}
use Rattle.em_engine.specs.declared.ready.JobStage.TheVariants as stage
use Rattle.em_engine.specs.Stages.{is_over}
use Rattle.em_engine.specs.Journal.{Replay, first, after, May, replay, IsLegal}
use Rattle.em_engine.specs.Laws.{ends, IsRunning, HasEnded, stops_in}
use Rattle.em_engine.proofs.Places.{slice_get-set_other, slice_get-set_same}
use Rattle.em_engine.proofs.Lawful.{may_there}

-- ---- one stage written

-- where job j is claimed afterwards, another stage than claimed was written for another job
kept_claimed : (j k : ℕ) (stages : List JobStage) (s : JobStage) → k < length stages → (s ≡ stage.Claimed → ⊥) → slice_get (set stages k s) j ≡ Some stage.Claimed
    → (slice_get stages j ≡ Some stage.Claimed) × ((k == j) ≡ false)
kept_claimed j k stages s lt not h = by_test (k == j) refl
  where
    by_test : (b : Bool) → (k == j) ≡ b → (slice_get stages j ≡ Some stage.Claimed) × ((k == j) ≡ false)
    by_test true e =
        let same : k ≡ j = eqb-true k j e in
        let there = slice_get-set_same stages k s lt in
        let here : slice_get (set stages k s) k ≡ Some stage.Claimed = ap (λ (i : ℕ). slice_get (set stages k s) i) same ∙ h in
        absurd (not (same_Some s stage.Claimed (sym there ∙ here)))
    by_test false e =
        let ne : k ≡ j → ⊥ = (λ same. let t : (k == j) ≡ true = eq-eqb k j same in absurd (cc)) in
        (sym (slice_get-set_other stages k j s ne) ∙ h, e)

-- where job j is over afterwards, it was before, or its stage was written
over_or_written : (j k : ℕ) (stages : List JobStage) (s : JobStage) → IsTrue (is_over (slice_get (set stages k s) j)) → IsTrue (is_over (slice_get stages j)) ⊎ ((k == j) ≡ true)
over_or_written j k stages s h = by_test (k == j) refl
  where
    by_test : (b : Bool) → (k == j) ≡ b → IsTrue (is_over (slice_get stages j)) ⊎ ((k == j) ≡ true)
    by_test true e = inr e
    by_test false e =
        let ne : k ≡ j → ⊥ = (λ same. let t : (k == j) ≡ true = eq-eqb k j same in absurd (cc)) in
        inl (subst (λ (o : Option JobStage). IsTrue (is_over o)) (slice_get-set_other stages k j s ne) h)

-- where job j is over after a claim, it was before
over_kept : (j k : ℕ) (stages : List JobStage) → k < length stages → IsTrue (is_over (slice_get (set stages k stage.Claimed) j)) → IsTrue (is_over (slice_get stages j))
over_kept j k stages lt h = by_test (k == j) refl
  where
    by_test : (b : Bool) → (k == j) ≡ b → IsTrue (is_over (slice_get stages j))
    by_test true e =
        let same : k ≡ j = eqb-true k j e in
        let there : slice_get (set stages k stage.Claimed) j ≡ Some stage.Claimed = ap (λ (i : ℕ). slice_get (set stages k stage.Claimed) i) (sym same) ∙ slice_get-set_same stages k stage.Claimed lt in
        let no : false ≡ true = subst (λ (o : Option JobStage). IsTrue (is_over o)) there h in absurd (cc)
    by_test false e =
        let ne : k ≡ j → ⊥ = (λ same. let t : (k == j) ≡ true = eq-eqb k j same in absurd (cc)) in
        subst (λ (o : Option JobStage). IsTrue (is_over o)) (slice_get-set_other stages k j stage.Claimed ne) h

-- at first no job is claimed, and none is over
never_claimed : (n j : ℕ) → slice_get (replicate n stage.Free) j ≡ Some stage.Claimed → ⊥
never_claimed zero j h = absurd (cc)
never_claimed (suc n) zero h = absurd (cc)
never_claimed (suc n) (suc j) h = never_claimed n j h

never_over : (n j : ℕ) → IsTrue (is_over (slice_get (replicate n stage.Free) j)) → ⊥
never_over zero j h = let no : false ≡ true = h in absurd (cc)
never_over (suc n) zero h = let no : false ≡ true = h in absurd (cc)
never_over (suc n) (suc j) h = never_over n j h

module _ (start : State) (waits : List (List ℕ)) where
  settled_within : (r : Replay) (k : ℕ) → (slice_get r.stages k ≡ Some stage.Claimed) ⊎ (slice_get r.stages k ≡ Some stage.Ended) → k < length r.stages
  settled_within r k (inl at) = slice_get_within r.stages k stage.Claimed at
  settled_within r k (inr at) = slice_get_within r.stages k stage.Ended at

  -- ---- where a job is claimed

  -- where it is after an event, it was before and didn't end, or the event is its claim
  claimed_by : (j : ℕ) (r : Replay) (e : Event) → May start waits r e → slice_get (after r e).stages j ≡ Some stage.Claimed
      → ((slice_get r.stages j ≡ Some stage.Claimed) × (ends j e ≡ false)) ⊎ (e ≡ event.Claim j)
  claimed_by j r (event.Claim k) may h = by_test (k == j) refl
    where
      by_test : (b : Bool) → (k == j) ≡ b → ((slice_get r.stages j ≡ Some stage.Claimed) × (ends j (event.Claim k) ≡ false)) ⊎ (event.Claim k ≡ event.Claim j)
      by_test true e = inr (ap event.Claim (eqb-true k j e))
      by_test false e =
          let ne : k ≡ j → ⊥ = (λ same. let t : (k == j) ≡ true = eq-eqb k j same in absurd (cc)) in
          inl (sym (slice_get-set_other r.stages k j stage.Claimed ne) ∙ h, refl)
  claimed_by j r (event.Ask k e) may h = inl (h, refl)
  claimed_by j r (event.Publish k d o) may h = inl (kept_claimed j k r.stages stage.Ended (slice_get_within r.stages k _ may) (λ e. absurd (cc)) h)
  claimed_by j r (event.GiveUp k) may h = inl (kept_claimed j k r.stages stage.Ended (slice_get_within r.stages k _ may) (λ e. absurd (cc)) h)
  claimed_by j r (event.Settle k d o) may h = inl (kept_claimed j k r.stages stage.Settled (settled_within r k may.1) (λ e. absurd (cc)) h)
  claimed_by j r event.Stop may h = inl (h, refl)

  abbrev Runs : ℕ → Replay → List Event → Type 0
  Runs j r es = ((slice_get r.stages j ≡ Some stage.Claimed) × All (λ e. ends j e ≡ false) es) ⊎ IsRunning j es

  runs_from : (j : ℕ) (r : Replay) (es : List Event) → IsLegal start waits r es → slice_get (replay r es).stages j ≡ Some stage.Claimed → Runs j r es
  runs_from j r [] legal h = inl (h, All-nil (λ e. ends j e ≡ false))
  runs_from j r (e ∷ es) legal h = by_rest (runs_from j (after r e) es legal.1 h)
    where
      by_event : All (λ x. ends j x ≡ false) es → ((slice_get r.stages j ≡ Some stage.Claimed) × (ends j e ≡ false)) ⊎ (e ≡ event.Claim j) → Runs j r (e ∷ es)
      by_event none (inl (at, not)) = inl (at, All-cons (λ x. ends j x ≡ false) e es not none)
      by_event none (inr is) = inr (record { before = []; behind = es; all = ap (λ (x : Event). x ∷ es) is; none = none })

      by_rest : Runs j (after r e) es → Runs j r (e ∷ es)
      by_rest (inl (at, none)) = by_event none (claimed_by j r e legal.0 at)
      by_rest (inr was) = inr (record { before = e ∷ was.before; behind = was.behind; all = ap (λ (xs : List Event). e ∷ xs) was.all; none = was.none })

  legal_before : (r : Replay) (es fs : List Event) → IsLegal start waits r (es ++ fs) → IsLegal start waits r es
  legal_before r [] fs legal = tt
  legal_before r (e ∷ es) fs legal = (legal.0, legal_before (after r e) es fs legal.1)

  pub running : (j : ℕ) (es fs : List Event) → IsLegal start waits (first (length waits)) (es ++ fs) → slice_get (replay (first (length waits)) es).stages j ≡ Some stage.Claimed → IsRunning j es
  running j es fs legal at = by_begin (runs_from j (first (length waits)) es (legal_before (first (length waits)) es fs legal) at)
    where
      by_begin : Runs j (first (length waits)) es → IsRunning j es
      by_begin (inl (was, none)) = absurd (never_claimed (length waits) j was)
      by_begin (inr is) = is

  -- ---- where a job has ended

  over_by : (j : ℕ) (r : Replay) (e : Event) → May start waits r e → IsTrue (is_over (slice_get (after r e).stages j)) → IsTrue (is_over (slice_get r.stages j)) ⊎ (ends j e ≡ true)
  over_by j r (event.Claim k) may h = inl (over_kept j k r.stages (slice_get_within r.stages k _ may.0) h)
  over_by j r (event.Ask k e) may h = inl h
  over_by j r (event.Publish k d o) may h = over_or_written j k r.stages stage.Ended h
  over_by j r (event.GiveUp k) may h = over_or_written j k r.stages stage.Ended h
  over_by j r (event.Settle k d o) may h = over_or_written j k r.stages stage.Settled h
  over_by j r event.Stop may h = inl h

  over_from : (j : ℕ) (r : Replay) (es : List Event) → IsLegal start waits r es → IsTrue (is_over (slice_get (replay r es).stages j)) → IsTrue (is_over (slice_get r.stages j)) ⊎ HasEnded j es
  over_from j r [] legal h = inl h
  over_from j r (e ∷ es) legal h = by_rest (over_from j (after r e) es legal.1 h)
    where
      by_event : IsTrue (is_over (slice_get r.stages j)) ⊎ (ends j e ≡ true) → IsTrue (is_over (slice_get r.stages j)) ⊎ HasEnded j (e ∷ es)
      by_event (inl was) = inl was
      by_event (inr is) = inr (record { before = []; end = e; behind = es; all = refl; is = is })

      by_rest : IsTrue (is_over (slice_get (after r e).stages j)) ⊎ HasEnded j es → IsTrue (is_over (slice_get r.stages j)) ⊎ HasEnded j (e ∷ es)
      by_rest (inl at) = by_event (over_by j r e legal.0 at)
      by_rest (inr was) = inr (record { before = e ∷ was.before; end = was.end; behind = was.behind; all = ap (λ (xs : List Event). e ∷ xs) was.all; is = was.is })

  ended : (j : ℕ) (es fs : List Event) → IsLegal start waits (first (length waits)) (es ++ fs) → IsTrue (is_over (slice_get (replay (first (length waits)) es).stages j)) → HasEnded j es
  ended j es fs legal at = by_begin (over_from j (first (length waits)) es (legal_before (first (length waits)) es fs legal) at)
    where
      by_begin : IsTrue (is_over (slice_get (first (length waits)).stages j)) ⊎ HasEnded j es → HasEnded j es
      by_begin (inl was) = absurd (never_over (length waits) j was)
      by_begin (inr is) = is

  pub waited : (j : ℕ) (es fs : List Event) → IsLegal start waits (first (length waits)) (es ++ event.Claim j ∷ fs) → All (λ k. HasEnded k es) (slice_index_or waits j [])
  waited j es fs legal = λ i d lt. ended _ es (event.Claim j ∷ fs) legal ((may_there start waits (first (length waits)) es (event.Claim j) fs legal).1 i d lt)

  -- ---- the board is stopped once: where it is stopped, no more

  quiet : (r : Replay) (es : List Event) → (r.stopped ≡ true → stops_in es ≡ 0) × (stops_in es ≤ 1) → (r.stopped ≡ true → 0 + stops_in es ≡ 0) × (0 + stops_in es ≤ 1)
  quiet r es (none, one) = (λ h. (let z = none h in omega (arith, z)), omega (arith, one))

  stops_from : (r : Replay) (es : List Event) → IsLegal start waits r es → (r.stopped ≡ true → stops_in es ≡ 0) × (stops_in es ≤ 1)
  stops_from r [] legal = (λ h. refl, omega arith)
  stops_from r (event.Claim k ∷ es) legal = quiet r es (stops_from (after r (event.Claim k)) es legal.1)
  stops_from r (event.Ask k e ∷ es) legal = quiet r es (stops_from r es legal.1)
  stops_from r (event.Publish k d o ∷ es) legal = quiet r es (stops_from (after r (event.Publish k d o)) es legal.1)
  stops_from r (event.GiveUp k ∷ es) legal = quiet r es (stops_from (after r (event.GiveUp k)) es legal.1)
  stops_from r (event.Settle k d o ∷ es) legal = quiet r es (stops_from (after r (event.Settle k d o)) es legal.1)
  stops_from r (event.Stop ∷ es) legal = once (stops_from (after r event.Stop) es legal.1)
    where
      once : (true ≡ true → stops_in es ≡ 0) × (stops_in es ≤ 1) → (r.stopped ≡ true → 1 + stops_in es ≡ 0) × (1 + stops_in es ≤ 1)
      once (none, one) = (λ h. (let going : r.stopped ≡ false = legal.0 in absurd (cc)), (let z = none refl in omega (arith, z)))

  pub stopped_once : (es : List Event) → IsLegal start waits (first (length waits)) es → stops_in es ≤ 1
  stopped_once es legal = (stops_from (first (length waits)) es legal).1
