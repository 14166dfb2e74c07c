-- The laws of legal journals.
use Rattle.std.proofs.Common.{◌≡◌, ℕ, zero, suc, ◌+◌, ◌≤◌, List, [], ◌∷◌, ◌++◌, Bool, true, false, Some, length, set, refl, sym, ap, subst, ◌∙◌, inl, inr, arith, slice_get}
use Rattle.std.specs.Prelude.{IfSome, ◌==◌, ◌⊎◌, if◌then◌else◌}
use Rattle.std.specs.FinMap.{empty}
use Rattle.std.proofs.lemmas.Bool.{eqb-true, eq-eqb}
use Rattle.std.proofs.lemmas.Option.{slice_get_within}
use Rattle.em_tree.specs.declared.question.Entry.{Entry}
use Rattle.em_tree.specs.declared.state.State.{State}
use Rattle.em_chain.specs.Posts.{Posts}
use Rattle.em_chain.specs.Looking.{looked}
use Rattle.em_engine.specs.declared.event.Event.{Event}
use Rattle.em_engine.specs.declared.event.Event.TheVariants as event
use Rattle.em_engine.specs.declared.ready.JobStage.TheVariants as stage
use Rattle.em_engine.specs.Stages.{is_free}
use Rattle.em_engine.specs.Journal.{Replay, first, after, May, replay, IsLegal}
use Rattle.em_engine.specs.Laws.{claims_of, settled_in, posts_in}
use Rattle.em_engine.proofs.Places.{slice_get-set_other, slice_get-set_same}
use Rattle.em_engine.proofs.Counts.{at_set}

module _ (start : State) (waits : List (List ℕ)) where
  -- ---- a job is claimed once: where it isn't free, no more

  record Once (j : ℕ) (r : Replay) (es : List Event) : Type 0 where
    gone : is_free (slice_get r.stages j) ≡ false → claims_of j es ≡ 0
    once : claims_of j es ≤ 1

  claimed : (j k : ℕ) (r : Replay) (es : List Event) → slice_get r.stages k ≡ Some stage.Free → Once j (after r (event.Claim k)) es → Once j r (event.Claim k ∷ es)
  claimed j k r es at o = by_test (k == j) refl
    where
      by_test : (b : Bool) → (k == j) ≡ b → Once j r (event.Claim k ∷ es)
      by_test true e =
          let same : k ≡ j = eqb-true k j e in
          let free : is_free (slice_get r.stages j) ≡ true = ap (λ (i : ℕ). is_free (slice_get r.stages i)) (sym same) ∙ ap is_free at in
          let now : is_free (slice_get (set r.stages k stage.Claimed) j) ≡ false =
          ap (λ (i : ℕ). is_free (slice_get (set r.stages k stage.Claimed) i)) (sym same) ∙ ap is_free (slice_get-set_same r.stages k stage.Claimed (slice_get_within r.stages k _ at)) in
          let none : claims_of j es ≡ 0 = o.gone now in
          let one : claims_of j (event.Claim k ∷ es) ≡ 1 = ap (λ (b : Bool). (if b then 1 else 0) + claims_of j es) e ∙ ap (λ (n : ℕ). 1 + n) none in
          record { gone = λ h. absurd (cc); once = omega (arith, one) }
      by_test false e =
          let ne : k ≡ j → ⊥ = (λ h. let t : (k == j) ≡ true = eq-eqb k j h in absurd (cc)) in
          let same : is_free (slice_get (set r.stages k stage.Claimed) j) ≡ is_free (slice_get r.stages j) = ap is_free (slice_get-set_other r.stages k j stage.Claimed ne) in
          let none : claims_of j (event.Claim k ∷ es) ≡ claims_of j es = ap (λ (b : Bool). (if b then 1 else 0) + claims_of j es) e ∙ (let z : 0 + claims_of j es ≡ claims_of j es = omega arith in z) in
          record { gone = λ h. none ∙ o.gone (same ∙ h); once = omega (arith, none, o.once) }

  quiet : (j : ℕ) (r s : Replay) (e : Event) (es : List Event) → claims_of j (e ∷ es) ≡ 0 + claims_of j es → is_free (slice_get s.stages j) ≡ is_free (slice_get r.stages j) → Once j s es → Once j r (e ∷ es)
  quiet j r s e es none same o =
      let n : 0 + claims_of j es ≡ claims_of j es = omega arith in
      record { gone = λ h. none ∙ n ∙ o.gone (same ∙ h); once = omega (arith, none, n, o.once) }

  settled_stage : (r : Replay) (k : ℕ) → (slice_get r.stages k ≡ Some stage.Claimed) ⊎ (slice_get r.stages k ≡ Some stage.Ended) → (j : ℕ)
      → is_free (slice_get (set r.stages k stage.Settled) j) ≡ is_free (slice_get r.stages j)
  settled_stage r k (inl at) j = at_set is_free r.stages k stage.Claimed stage.Settled at refl j
  settled_stage r k (inr at) j = at_set is_free r.stages k stage.Ended stage.Settled at refl j

  once_from : (j : ℕ) (r : Replay) (es : List Event) → IsLegal start waits r es → Once j r es
  once_from j r [] legal = record { gone = λ h. refl; once = omega arith }
  once_from j r (event.Claim k ∷ es) legal = claimed j k r es legal.0.0 (once_from j (after r (event.Claim k)) es legal.1)
  once_from j r (event.Ask k e ∷ es) legal = quiet j r r (event.Ask k e) es refl refl (once_from j r es legal.1)
  once_from j r (event.Publish k d o ∷ es) legal =
      quiet j r (after r (event.Publish k d o)) (event.Publish k d o) es refl (at_set is_free r.stages k stage.Claimed stage.Ended legal.0 refl j) (once_from j (after r (event.Publish k d o)) es legal.1)
  once_from j r (event.GiveUp k ∷ es) legal =
      quiet j r (after r (event.GiveUp k)) (event.GiveUp k) es refl (at_set is_free r.stages k stage.Claimed stage.Ended legal.0 refl j) (once_from j (after r (event.GiveUp k)) es legal.1)
  once_from j r (event.Settle k d o ∷ es) legal =
      quiet j r (after r (event.Settle k d o)) (event.Settle k d o) es refl (settled_stage r k legal.0.1 j) (once_from j (after r (event.Settle k d o)) es legal.1)
  once_from j r (event.Stop ∷ es) legal = quiet j r (after r event.Stop) event.Stop es refl refl (once_from j (after r event.Stop) es legal.1)

  pub claimed_once : (j : ℕ) (es : List Event) → IsLegal start waits (first (length waits)) es → claims_of j es ≤ 1
  claimed_once j es legal = (once_from j (first (length waits)) es legal).once

  -- ---- jobs are settled in order

  in_order_from : (r : Replay) (es : List Event) → IsLegal start waits r es → (i : ℕ) → IfSome (slice_get (settled_in es) i) (λ j. j ≡ r.settled + i)
  in_order_from r [] legal i = tt
  in_order_from r (event.Claim k ∷ es) legal i = in_order_from (after r (event.Claim k)) es legal.1 i
  in_order_from r (event.Ask k e ∷ es) legal i = in_order_from r es legal.1 i
  in_order_from r (event.Publish k d o ∷ es) legal i = in_order_from (after r (event.Publish k d o)) es legal.1 i
  in_order_from r (event.GiveUp k ∷ es) legal i = in_order_from (after r (event.GiveUp k)) es legal.1 i
  in_order_from r (event.Settle k d o ∷ es) legal zero = let z : k ≡ r.settled = legal.0.0 in omega (arith, z)
  in_order_from r (event.Settle k d o ∷ es) legal (suc i) =
      let n : r.settled + 1 + i ≡ r.settled + suc i = omega arith in
      subst (λ (n : ℕ). IfSome (slice_get (settled_in es) i) (λ j. j ≡ n)) n (in_order_from (after r (event.Settle k d o)) es legal.1 i)
  in_order_from r (event.Stop ∷ es) legal i = in_order_from (after r event.Stop) es legal.1 i

  pub settled_in_order : (es : List Event) → IsLegal start waits (first (length waits)) es → (i : ℕ) → IfSome (slice_get (settled_in es) i) (λ j. j ≡ i)
  settled_in_order es legal i =
      let n : 0 + i ≡ i = omega arith in
      subst (λ (n : ℕ). IfSome (slice_get (settled_in es) i) (λ j. j ≡ n)) n (in_order_from (first (length waits)) es legal i)

  -- ---- answers are those that the posts give

  posts_after : (r : Replay) (es : List Event) → (replay r es).posts ≡ posts_in r.posts es
  posts_after r [] = refl
  posts_after r (event.Claim k ∷ es) = posts_after (after r (event.Claim k)) es
  posts_after r (event.Ask k e ∷ es) = posts_after r es
  posts_after r (event.Publish k d o ∷ es) = posts_after (after r (event.Publish k d o)) es
  posts_after r (event.GiveUp k ∷ es) = posts_after (after r (event.GiveUp k)) es
  posts_after r (event.Settle k d o ∷ es) = posts_after (after r (event.Settle k d o)) es
  posts_after r (event.Stop ∷ es) = posts_after (after r event.Stop) es

  pub may_there : (r : Replay) (es : List Event) (e : Event) (fs : List Event) → IsLegal start waits r (es ++ e ∷ fs) → May start waits (replay r es) e
  may_there r [] e fs legal = legal.0
  may_there r (x ∷ es) e fs legal = may_there (after r x) es e fs legal.1

  pub answered : (es fs : List Event) (j : ℕ) (e : Entry) → IsLegal start waits (first (length waits)) (es ++ event.Ask j e ∷ fs)
      → e.answer ≡ looked (record { start = start; posts = posts_in empty es }) j e.question
  answered es fs j e legal =
      (may_there (first (length waits)) es (event.Ask j e) fs legal).1
      ∙ ap (λ (ps : Posts). looked (record { start = start; posts = ps }) j e.question) (posts_after (first (length waits)) es)
