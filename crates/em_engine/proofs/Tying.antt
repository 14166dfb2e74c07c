-- Runs that were posted stay tied to what is posted, whatever happens on a board.
use Rattle.std.proofs.Common.{◌≡◌, ℕ, zero, suc, ◌+◌, ◌<◌, List, [], ◌∷◌, ◌++◌, Bool, true, false, Some, length, set, refl, sym, ap, subst, ◌∙◌, arith, slice_get, replicate, cond}
use Rattle.std.specs.Prelude.{Option, ◌==◌}
use Rattle.std.specs.FinMap.{get, insert, get-insert}
use Rattle.std.specs.Cmp.{nat_cmp_total, unsigned_tied}
use Rattle.std.proofs.lemmas.Bool.{eqb-true, eq-eqb}
use Rattle.std.proofs.lemmas.Option.{slice_get_within, same_Some}
use Rattle.std.proofs.Math.ListN.{length-set}
use Rattle.em_tree.specs.declared.outcome.Outcome.{Outcome}
use Rattle.em_tree.specs.Trees.{Changes}
use Rattle.em_chain.specs.declared.post.Post.{Post}
use Rattle.em_chain.specs.Posts.{Posts}
use Rattle.em_run.specs.declared.run.Parts.{Parts}
use Rattle.em_engine.specs.declared.event.Event.{Event}
use Rattle.em_engine.specs.declared.event.Event.TheVariants as event
use Rattle.em_engine.specs.declared.event.Phase.{Phase}
use Rattle.em_engine.specs.declared.event.Phase.TheVariants as phase
use Rattle.em_engine.specs.declared.ready.JobStage.TheVariants as stage
use Rattle.em_engine.specs.Journal.{Replay, first, after, replay}
use Rattle.em_engine.specs.Boards.{IsTied, AreTied, stage_of}
use Rattle.em_engine.proofs.Places.{slice_get-set_other, slice_get-set_same}
use Rattle.em_engine.proofs.Steps.{replay-append}

put_same : (ps : Posts) (j : ℕ) (p : Post) → get (insert ps j p) j ≡ Some p
put_same ps j p = get-insert nat_cmp_total ps j p j ∙ ap (λ (b : Bool). cond b (Some p) (get ps j)) (unsigned_tied j j ∙ eq-eqb j j refl)

put_other : (ps : Posts) (j k : ℕ) (p : Post) → (k == j) ≡ false → get (insert ps j p) k ≡ get ps k
put_other ps j k p e = get-insert nat_cmp_total ps j p k ∙ ap (λ (b : Bool). cond b (Some p) (get ps k)) (unsigned_tied k j ∙ e)

module _ {S : Type 0} (job_of : S → ℕ) where
  -- a phase is written, and what is posted of other jobs stays
  tied_set : (xs : List (Phase S)) (ps next : Posts) (j : ℕ) (q : Phase S) → AreTied job_of xs ps → ((k : ℕ) → (k == j) ≡ false → get next k ≡ get ps k)
      → ((r : Parts S) → q ≡ phase.Posted r → IsTied job_of next j r) → AreTied job_of (set xs j q) next
  tied_set xs ps next j q tied others is k r at = by_test (k == j) refl
    where
      by_test : (b : Bool) → (k == j) ≡ b → IsTied job_of next k r
      by_test true e =
          let same : j ≡ k = sym (eqb-true k j e) in
          let here : slice_get (set xs j q) j ≡ Some (phase.Posted r) = ap (slice_get (set xs j q)) same ∙ at in
          let lt : j < length xs = subst (λ (n : ℕ). j < n) (length-set xs j q) (slice_get_within (set xs j q) j _ here) in
          subst (λ (i : ℕ). IsTied job_of next i r) same (is r (same_Some q (phase.Posted r) (sym (slice_get-set_same xs j q lt) ∙ here)))
      by_test false e =
          let ne : j ≡ k → ⊥ = (λ same. let t : (k == j) ≡ true = eq-eqb k j (sym same) in absurd (cc)) in
          let was = tied k r (sym (slice_get-set_other xs j k q ne) ∙ at) in
          record { job = was.job; post = others k e ∙ was.post }

  abbrev Posted : ℕ → List Event → Posts
  Posted n es = (replay (first n) es).posts

  -- an event that posts nothing
  quiet : (n : ℕ) (es : List Event) (e : Event) → (after (replay (first n) es) e).posts ≡ Posted n es → Posted n (es ++ e ∷ []) ≡ Posted n es
  quiet n es e same = ap (λ (r : Replay). r.posts) (replay-append (first n) es e) ∙ same

  -- with no run in the job's phase
  pub tied_moves : (xs : List (Phase S)) (n : ℕ) (es : List Event) (e : Event) (j : ℕ) (q : Phase S) → AreTied job_of xs (Posted n es) → ((r : Parts S) → q ≡ phase.Posted r → ⊥)
      → ((k : ℕ) → (k == j) ≡ false → get (after (replay (first n) es) e).posts k ≡ get (Posted n es) k) → AreTied job_of (set xs j q) (Posted n (es ++ e ∷ []))
  tied_moves xs n es e j q tied none others =
      tied_set xs (Posted n es) (Posted n (es ++ e ∷ [])) j q tied (λ k ne. ap (λ (r : Replay). get r.posts k) (replay-append (first n) es e) ∙ others k ne) (λ r is. absurd (none r is))

  pub tied_claims : (xs : List (Phase S)) (n : ℕ) (es : List Event) (j : ℕ) (q : Phase S) → AreTied job_of xs (Posted n es) → stage_of q ≡ stage.Claimed → AreTied job_of (set xs j q) (Posted n (es ++ event.Claim j ∷ []))
  tied_claims xs n es j q tied is = tied_moves xs n es (event.Claim j) j q tied (λ r e. let no : stage.Ended ≡ stage.Claimed = sym (ap stage_of e) ∙ is in absurd (cc)) (λ k ne. refl)

  pub tied_gives_up : (xs : List (Phase S)) (n : ℕ) (es : List Event) (j : ℕ) → AreTied job_of xs (Posted n es) → AreTied job_of (set xs j phase.GivenUp) (Posted n (es ++ event.GiveUp j ∷ []))
  tied_gives_up xs n es j tied = tied_moves xs n es (event.GiveUp j) j phase.GivenUp tied (λ r e. absurd (cc)) (λ k ne. refl)

  pub tied_settles : (xs : List (Phase S)) (n : ℕ) (es : List Event) (j : ℕ) (d : Changes) (o : Outcome) → AreTied job_of xs (Posted n es) → AreTied job_of (set xs j phase.Settled) (Posted n (es ++ event.Settle j d o ∷ []))
  tied_settles xs n es j d o tied = tied_moves xs n es (event.Settle j d o) j phase.Settled tied (λ r e. absurd (cc)) (λ k ne. put_other (Posted n es) j k (record { delta = d; outcome = o }) ne)

  -- a run of this job is posted
  pub tied_publishes : (xs : List (Phase S)) (n : ℕ) (es : List Event) (j : ℕ) (r : Parts S) → AreTied job_of xs (Posted n es) → job_of r.spec ≡ j
      → AreTied job_of (set xs j (phase.Posted r)) (Posted n (es ++ event.Publish j r.delta r.outcome ∷ []))
  tied_publishes xs n es j r tied is =
      let post : Post = record { delta = r.delta; outcome = r.outcome } in
      let comes : Posted n (es ++ event.Publish j r.delta r.outcome ∷ []) ≡ insert (Posted n es) j post = ap (λ (t : Replay). t.posts) (replay-append (first n) es (event.Publish j r.delta r.outcome)) in
      tied_set xs (Posted n es) _ j (phase.Posted r) tied (λ k ne. ap (λ (ps : Posts). get ps k) comes ∙ put_other (Posted n es) j k post ne)
      (λ s e. same_run s r (sym e) (record { job = is; post = ap (λ (ps : Posts). get ps j) comes ∙ put_same (Posted n es) j post }))
    where
      run_in : Parts S → Phase S → Parts S
      run_in r (phase.Posted t) = t
      run_in r _ = r

      same_run : {ps : Posts} (s r : Parts S) → phase.Posted s ≡ phase.Posted r → IsTied job_of ps j r → IsTied job_of ps j s
      same_run {ps} s r e t = subst (λ (x : Parts S). IsTied job_of ps j x) (sym (ap (run_in r) e)) t

  -- an event that changes neither phases nor posts
  pub tied_noted : (xs : List (Phase S)) (n : ℕ) (es : List Event) (e : Event) → AreTied job_of xs (Posted n es) → (after (replay (first n) es) e).posts ≡ Posted n es → AreTied job_of xs (Posted n (es ++ e ∷ []))
  tied_noted xs n es e tied same = subst (AreTied job_of xs) (sym (quiet n es e same)) tied

  -- what was left of a job is taken
  pub tied_takes : (xs : List (Phase S)) (ps : Posts) (j : ℕ) → AreTied job_of xs ps → AreTied job_of (set xs j phase.Taken) ps
  tied_takes xs ps j tied = tied_set xs ps ps j phase.Taken tied (λ k ne. refl) (λ r e. absurd (cc))

  free_at : (n j : ℕ) (r : Parts S) → slice_get (replicate {A = Phase S} n phase.Free) j ≡ Some (phase.Posted r) → ⊥
  free_at zero j r at = absurd (cc)
  free_at (suc n) zero r at = absurd (cc)
  free_at (suc n) (suc j) r at = free_at n j r at

  pub tied_free : (n : ℕ) (ps : Posts) → AreTied job_of (replicate n phase.Free) ps
  tied_free n ps j r at = absurd (free_at n j r at)
