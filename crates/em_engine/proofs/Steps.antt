-- What one event more does to the fields of a board.
use Rattle.std.proofs.Common.{inl, inr, ℕ, zero, suc, ◌+◌, ◌-◌, ◌*◌, ◌≡◌, ◌≢◌, ◌<◌, ◌≤◌, ◌^◌, List, [], ◌∷◌, ◌++◌, Bool, true, false, map, length, set, get_or, refl, sym, ap, ◌∙◌, arith, subst, append_assoc, append-nil, All}
use Rattle.std.specs.Prelude.{Option, Some, None, IsTrue, slice_get, slice_index_or, if◌then◌else◌, ◌==◌, ◌⊎◌}
use Rattle.std.specs.Option.{option_map}
use Rattle.std.specs.List.{sum_by}
use Rattle.std.specs.FinMap.{insert, empty}
use Rattle.std.proofs.lemmas.List.{set-get_or, map-set, get_or-set_same, get_or-set_other}
use Rattle.std.proofs.lemmas.Bool.{eqb-true, eq-eqb}
use Rattle.std.proofs.lemmas.Option.{slice_get-map, slice_get_within, get_or_from_slice_get, slice_get_read, same_Some}
use Rattle.std.proofs.lemmas.List.Sums.{sum_by-set}
use Rattle.std.proofs.lemmas.List.Folds.{sum_by-replicate}
use Rattle.std.proofs.Math.Seq.{map-set_same}
use Rattle.std.proofs.Math.ListN.{length-replicate, replicate, length-set}
use Rattle.em_tree.specs.declared.state.State.{State}
use Rattle.em_tree.specs.declared.question.Entry.{Entry}
use Rattle.em_tree.specs.declared.outcome.Outcome.{Outcome}
use Rattle.em_tree.specs.Trees.{Changes}
use Rattle.em_run.specs.declared.run.Parts.{Parts}
use Rattle.em_tree.specs.declared.question.Question.{Question}
use Rattle.em_chain.specs.Posts.{Posts, Floored}
use Rattle.em_chain.specs.Looking.{looked}
use Rattle.em_chain.specs.Floors.{IsAt, IsRaised, looked_over}
use Rattle.em_chain.proofs.Raising.{at_first, at_post, at_raise, at_look}
use Rattle.std.specs.declared.cmp.Ordering.{Ordering}
use Rattle.std.specs.declared.cmp.Ordering.TheVariants.{Less, Equal, Greater}
use Rattle.std.specs.Ordering.{nat_cmp}
use Rattle.std.specs.Cmp.{ranked}
use Rattle.em_engine.specs.declared.event.Event.{Event}
use Rattle.em_engine.specs.declared.event.Event.TheVariants as event
use Rattle.em_engine.specs.declared.event.Phase.{Phase}
use Rattle.em_engine.specs.declared.event.Phase.TheVariants as phase
use Rattle.em_engine.specs.declared.ready.JobStage.{JobStage}
use Rattle.em_engine.specs.declared.ready.JobStage.TheVariants as stage
use Rattle.em_engine.specs.declared.ready.Claim.{Claim}
use Rattle.em_engine.specs.declared.ready.Claim.TheVariants as claim
use Rattle.em_engine.specs.Stages.{CanClaim, is_over, Finds}
use Rattle.em_engine.specs.Journal.{Replay, first, after, May, replay, IsLegal, asked_in, asked_of, weight_of, stop_weight}
use Rattle.em_engine.specs.Boards.{Seen, Held, IsBoard, posted, now, told, stages, stage_of, is_kept}
use Rattle.em_engine.specs.Calls.{can_settle, can_take, left_by, put, Takes, Claims}
use Rattle.em_engine.proofs.Places.{slice_get-set_other, slice_get-set_same, get_or_any}

-- ---- journals

pub replay-append : (r : Replay) (es : List Event) (e : Event) → replay r (es ++ e ∷ []) ≡ after (replay r es) e
replay-append r [] e = refl
replay-append r (x ∷ es) e = replay-append (after r x) es e

pub legal-append : (start : State) (waits : List (List ℕ)) (r : Replay) (es : List Event) (e : Event) → IsLegal start waits r es → May start waits (replay r es) e → IsLegal start waits r (es ++ e ∷ [])
legal-append start waits r [] e legal may = (may, tt)
legal-append start waits r (x ∷ es) e legal may = (legal.0, legal-append start waits (after r x) es e legal.1 may)

pub asked_of-append : (j : ℕ) (es : List Event) (e : Event) → asked_of j (es ++ e ∷ []) ≡ asked_of j es ++ asked_in j e
asked_of-append j [] e = append-nil (asked_in j e)
asked_of-append j (x ∷ es) e = ap (λ (ys : List Entry). asked_in j x ++ ys) (asked_of-append j es e) ∙ sym (append_assoc (asked_in j x) (asked_of j es) (asked_in j e))

-- what is kept after a phase was written was kept before
kept_before : {S : _} (xs : List (Phase S)) (j k : ℕ) (p q : Phase S) → slice_get xs j ≡ Some p → (is_kept (Some q) ≡ true → is_kept (Some p) ≡ true) → is_kept (slice_get (set xs j q) k) ≡ true → is_kept (slice_get xs k) ≡ true
kept_before [] j k p q at kept h = h
kept_before (y ∷ xs) zero zero p q at kept h = let e : y ≡ p = same_Some y p at in rw e (kept h)
kept_before (y ∷ xs) zero (suc k) p q at kept h = h
kept_before (y ∷ xs) (suc j) zero p q at kept h = h
kept_before (y ∷ xs) (suc j) (suc k) p q at kept h = kept_before xs j k p q at kept h

pub stage_at : {S : _} (xs : List (Phase S)) (j : ℕ) (p : Phase S) → slice_get xs j ≡ Some p → slice_get (map stage_of xs) j ≡ Some (stage_of p)
stage_at xs j p at = slice_get-map stage_of xs j ∙ ap (option_map stage_of) at

weighs : {S : _} (xs : List (Phase S)) (j : ℕ) (p q : Phase S) → slice_get xs j ≡ Some p → sum_by weight_of (map stage_of (set xs j q)) + weight_of (stage_of p) ≡ sum_by weight_of (map stage_of xs) + weight_of (stage_of q)
weighs xs j p q at =
    let here = stage_at xs j p at in
    let lt = slice_get_within (map stage_of xs) j (stage_of p) here in
    let was = get_or_from_slice_get (map stage_of xs) j (stage_of p) (stage_of p) here in
    ap (λ (ys : List JobStage). sum_by weight_of ys + weight_of (stage_of p)) (map-set stage_of xs j q)
    ∙ ap (λ (d : JobStage). sum_by weight_of (set (map stage_of xs) j (stage_of q)) + weight_of d) (sym was)
    ∙ sum_by-set weight_of (map stage_of xs) j (stage_of q) (stage_of p) lt

-- what the journal says of a job, the phase says too
pub found : {S : _} (xs : List (Phase S)) (j : ℕ) (s : JobStage) → slice_get (map stage_of xs) j ≡ Some s → (p : Phase S) × (slice_get xs j ≡ Some p) × (stage_of p ≡ s)
found [] j s h = absurd (cc)
found (x ∷ xs) zero s h = (x, refl, same_Some (stage_of x) s h)
found (x ∷ xs) (suc j) s h = found xs j s h

-- a replay, with its own posts
pub replayed_now : (r : Replay) (es : List Event) (ss : List JobStage) (ps : Posts) (n : ℕ) (b : Bool) → replay r es ≡ record { stages = ss; posts = ps; settled = n; stopped = b }
    → replay r es ≡ record { stages = ss; posts = (replay r es).posts; settled = n; stopped = b }
replayed_now r es ss ps n b e = e ∙ ap (λ (qs : Posts). record { stages = ss; posts = qs; settled = n; stopped = b }) (sym (ap (λ (t : Replay). t.posts) e))

-- ---- one event more, for a job whose phase changes with it

pub moves : {S : _} (h : Held S) (e : Event) (j : ℕ) (p q : Phase S) (s : JobStage) (posts' : Posts) (v : Floored) (settled' owed' len' : ℕ)
    → IsBoard h
    → IsAt (record { start = h.start; posts = posts' }) settled' v
    → slice_get h.phases j ≡ Some p
    → May h.start h.waits (now h) e
    → after (now h) e ≡ record { stages = set (map stage_of h.phases) j s; posts = posts'; settled = settled'; stopped = h.stopped }
    → stage_of q ≡ s
    → (is_kept (Some q) ≡ true → is_kept (Some p) ≡ true)
    → ((k : ℕ) → asked_in k e ≡ [])
    → ((k : ℕ) → k < settled' → slice_get (set h.phases j q) k ≡ Some phase.Settled)
    → owed' + weight_of (stage_of p) ≡ h.owed + weight_of s
    → len' ≡ h.len + 1
    → owed' + 1 ≤ h.owed
    → IsBoard (record h { versions = v; stages = set h.stages j s; phases = set h.phases j q; settled = settled'; owed = owed'; journal = h.journal ++ e ∷ []; len = len' })
moves h e j p q s posts' v settled' owed' len' b there at may goes is kept quiet below weights one less =
    let r : Replay = first (length h.waits) in
    let P : Replay → Type 0 = λ t. May h.start h.waits t e in
    let with_stages : List JobStage → Replay = λ x. record { stages = x; posts = posts'; settled = settled'; stopped = h.stopped } in
    let put : set (map stage_of h.phases) j s ≡ map stage_of (set h.phases j q) = ap (set (map stage_of h.phases) j) (sym is) ∙ sym (map-set stage_of h.phases j q) in
    let wq : weight_of (stage_of q) ≡ weight_of s = ap weight_of is in
    let comes = replay-append r h.journal e ∙ ap (λ t. after t e) b.replayed ∙ goes ∙ ap with_stages put in
    record {
      replayed = replayed_now r (h.journal ++ e ∷ []) (map stage_of (set h.phases j q)) posts' settled' h.stopped comes;
      versions = subst (λ (ps : Posts). IsAt (record { start = h.start; posts = ps }) settled' v) (sym (ap (λ (t : Replay). t.posts) comes)) there;
      legal = legal-append h.start h.waits r h.journal e b.legal (subst P (sym b.replayed) may);
      staged = ap (λ (ss : List JobStage). set ss j s) b.staged ∙ put;
      owed_is = omega (arith, weighs h.phases j p q at, b.owed_is, wq, weights);
      room = omega (arith, b.room, one, less);
      small = b.small;
      phases_len = length-set h.phases j q ∙ b.phases_len;
      asked_len = b.asked_len;
      asked_is = λ k keeps. b.asked_is k (kept_before h.phases j k p q at kept keeps) ∙ sym (asked_of-append k h.journal e ∙ ap (λ (ys : List Entry). asked_of k h.journal ++ ys) (quiet k) ∙ append-nil (asked_of k h.journal));
      below = below;
      lower = b.lower;
    }

-- what a job still owes is owed
pub owes : {S : _} (h : Held S) → IsBoard h → (j : ℕ) (p : Phase S) → slice_get h.phases j ≡ Some p → weight_of (stage_of p) ≤ h.owed
owes h b j p at = let w = weighs h.phases j p phase.Settled at in omega (arith, w, b.owed_is)

-- a job that isn't settled is no job below the next
pub still_below : {S : _} (h : Held S) → IsBoard h → (j : ℕ) (p q : Phase S) → slice_get h.phases j ≡ Some p → (stage_of p ≡ stage.Settled → ⊥) → (k : ℕ) → k < h.settled → slice_get (set h.phases j q) k ≡ Some phase.Settled
still_below h b j p q at not k lt =
    slice_get-set_other h.phases j k q (λ e. not (ap stage_of (same_Some p phase.Settled (sym at ∙ ap (slice_get h.phases) e ∙ b.below k lt)))) ∙ b.below k lt

within : {S : _} (h : Held S) (j : ℕ) (p : Phase S) → slice_get h.phases j ≡ Some p → j < length h.phases
within h j p at = slice_get_within h.phases j p at

pub staged_within : {S : _} (h : Held S) → IsBoard h → (j : ℕ) (p : Phase S) → slice_get h.phases j ≡ Some p → j < length h.stages
staged_within h b j p at = subst (λ (ss : List JobStage). j < length ss) (sym b.staged) (slice_get_within (map stage_of h.phases) j (stage_of p) (stage_at h.phases j p at))

-- what the stage of a job is, by its phase
pub staged_at : {S : _} (h : Held S) → IsBoard h → (j : ℕ) (p : Phase S) (s : JobStage) → slice_get h.phases j ≡ Some p → stage_of p ≡ s → slice_get h.stages j ≡ Some s
staged_at h b j p s at is = ap (λ (ss : List JobStage). slice_get ss j) b.staged ∙ stage_at h.phases j p at ∙ ap (λ (x : JobStage). Some x) is

kept_free : {S : _} (p : Phase S) → stage_of p ≡ stage.Free → is_kept (Some p) ≡ true
kept_free phase.Free _ = refl
kept_free phase.Claimed h = refl
kept_free phase.Fronted h = refl
kept_free (phase.Posted r) h = refl
kept_free phase.GivenUp h = refl
kept_free phase.Taken h = absurd (cc)
kept_free phase.Settled h = absurd (cc)

-- ---- each event

pub claims : {S : _} (h : Held S) (j : ℕ) (q : Phase S) (len' : ℕ)
    → IsBoard h → CanClaim h.waits (map stage_of h.phases) j → stage_of q ≡ stage.Claimed → len' ≡ h.len + 1
    → IsBoard (record h { stages = set h.stages j stage.Claimed; phases = set h.phases j q; owed = h.owed - 1; journal = h.journal ++ event.Claim j ∷ []; len = len' })
claims h j q len' b can is one =
    let f = found h.phases j stage.Free can.0 in
    let wp : weight_of (stage_of f.0) ≡ 3 = ap weight_of f.2 in
    let o : weight_of (stage_of f.0) ≤ h.owed = owes h b j f.0 f.1 in
    moves h (event.Claim j) j f.0 q stage.Claimed (posted h) h.versions h.settled (h.owed - 1) len' b b.versions f.1 can refl is (λ _. kept_free f.0 f.2) (λ k. refl) (still_below h b j f.0 q f.1 (λ e. let z : stage.Free ≡ stage.Settled = sym f.2 ∙ e in absurd (cc))) (omega (arith, o, wp)) one (omega (arith, o, wp))

-- a job that isn't settled isn't below the floor
pub not_below : {S : _} (h : Held S) → IsBoard h → (j : ℕ) (p : Phase S) → slice_get h.phases j ≡ Some p → (stage_of p ≡ stage.Settled → ⊥) → h.settled ≤ j
not_below h b j p at not = by_rank (nat_cmp j h.settled) refl
  where
    by_rank : (o : Ordering) → o ≡ nat_cmp j h.settled → h.settled ≤ j
    by_rank Less e = absurd (not (ap stage_of (same_Some p phase.Settled (sym at ∙ b.below j (ranked j h.settled Less e)))))
    by_rank Equal e = let is : j ≡ h.settled = ranked j h.settled Equal e in omega (arith, is)
    by_rank Greater e = let lt : h.settled < j = ranked j h.settled Greater e in omega (arith, lt)

pub publishes : {S : _} (h : Held S) (j : ℕ) (r : Parts S) (d : Changes) (o : Outcome) (len' : ℕ)
    → IsBoard h → slice_get h.phases j ≡ Some phase.Claimed → len' ≡ h.len + 1
    → IsBoard (record h { versions = record h.versions { posts = insert h.versions.posts j (record { delta = d; outcome = o }) }; stages = set h.stages j stage.Ended; phases = set h.phases j (phase.Posted r); owed = h.owed - 1; journal = h.journal ++ event.Publish j d o ∷ []; len = len' })
publishes {S} h j r d o len' b at one =
    let owed : 2 ≤ h.owed = owes h b j phase.Claimed at in
    moves h (event.Publish j d o) j phase.Claimed (phase.Posted r) stage.Ended (insert (posted h) j (record { delta = d; outcome = o })) (record h.versions { posts = insert h.versions.posts j (record { delta = d; outcome = o }) }) h.settled (h.owed - 1) len' b
    (at_post (record { start = h.start; posts = posted h }) h.versions h.settled j (record { delta = d; outcome = o }) (not_below h b j phase.Claimed at (λ e. absurd (cc))) b.versions) at (stage_at h.phases j phase.Claimed at) refl refl (λ _. refl) (λ k. refl)
    (still_below h b j phase.Claimed (phase.Posted r) at (λ e. absurd (cc))) (omega (arith, owed)) one (omega (arith, owed))

pub gives_up : {S : _} (h : Held S) (j : ℕ) (len' : ℕ)
    → IsBoard h → slice_get h.phases j ≡ Some phase.Claimed → len' ≡ h.len + 1
    → IsBoard (record h { stages = set h.stages j stage.Ended; phases = set h.phases j phase.GivenUp; owed = h.owed - 1; journal = h.journal ++ event.GiveUp j ∷ []; len = len' })
gives_up h j len' b at one =
    let owed : 2 ≤ h.owed = owes h b j phase.Claimed at in
    moves h (event.GiveUp j) j phase.Claimed phase.GivenUp stage.Ended (posted h) h.versions h.settled (h.owed - 1) len' b b.versions at (stage_at h.phases j phase.Claimed at) refl refl (λ _. refl) (λ k. refl)
    (still_below h b j phase.Claimed phase.GivenUp at (λ e. absurd (cc))) (omega (arith, owed)) one (omega (arith, owed))

-- a job that the committer has
pub record Fronts {S : _} (xs : List (Phase S)) (j : ℕ) : Type 0 where
  pub phase : Phase S
  pub at : slice_get xs j ≡ Some phase
  pub stage : (stage_of phase ≡ stage.Claimed) ⊎ (stage_of phase ≡ stage.Ended)
  pub weight : 1 ≤ weight_of (stage_of phase)

fronts_by : {S : _} (xs : List (Phase S)) (j : ℕ) (o : Option (Phase S)) → slice_get xs j ≡ o → can_settle o ≡ true → Fronts xs j
fronts_by xs j None at h = absurd (cc)
fronts_by xs j (Some phase.Free) at h = absurd (cc)
fronts_by xs j (Some phase.Claimed) at h = absurd (cc)
fronts_by xs j (Some phase.Fronted) at h = record { phase = phase.Fronted; at = at; stage = inl refl; weight = omega arith }
fronts_by xs j (Some (phase.Posted r)) at h = absurd (cc)
fronts_by xs j (Some phase.GivenUp) at h = absurd (cc)
fronts_by xs j (Some phase.Taken) at h = record { phase = phase.Taken; at = at; stage = inr refl; weight = omega arith }
fronts_by xs j (Some phase.Settled) at h = absurd (cc)

pub fronts : {S : _} (xs : List (Phase S)) (j : ℕ) → can_settle (slice_get xs j) ≡ true → Fronts xs j
fronts xs j h = fronts_by xs j (slice_get xs j) refl h

fronts_stage : {S : _} (xs : List (Phase S)) (j : ℕ) (f : Fronts xs j) → (slice_get (map stage_of xs) j ≡ Some stage.Claimed) ⊎ (slice_get (map stage_of xs) j ≡ Some stage.Ended)
fronts_stage xs j f = by_stage f.stage
  where
    by_stage : (stage_of f.phase ≡ stage.Claimed) ⊎ (stage_of f.phase ≡ stage.Ended) → (slice_get (map stage_of xs) j ≡ Some stage.Claimed) ⊎ (slice_get (map stage_of xs) j ≡ Some stage.Ended)
    by_stage (inl e) = inl (stage_at xs j f.phase f.at ∙ ap (λ (x : JobStage). Some x) e)
    by_stage (inr e) = inr (stage_at xs j f.phase f.at ∙ ap (λ (x : JobStage). Some x) e)

pub fronts_staged : {S : _} (h : Held S) → IsBoard h → (j : ℕ) → Fronts h.phases j → (slice_get h.stages j ≡ Some stage.Claimed) ⊎ (slice_get h.stages j ≡ Some stage.Ended)
fronts_staged h b j f = subst (λ (ss : List JobStage). (slice_get ss j ≡ Some stage.Claimed) ⊎ (slice_get ss j ≡ Some stage.Ended)) (sym b.staged) (fronts_stage h.phases j f)

one_more : {S : _} (xs : List (Phase S)) (n : ℕ) → n < length xs → ((k : ℕ) → k < n → slice_get xs k ≡ Some phase.Settled) → (k : ℕ) → k < n + 1 → slice_get (set xs n phase.Settled) k ≡ Some phase.Settled
one_more xs n lt below k less = by_test (k == n) refl
  where
    by_test : (b : Bool) → (k == n) ≡ b → slice_get (set xs n phase.Settled) k ≡ Some phase.Settled
    by_test true e = ap (slice_get (set xs n phase.Settled)) (eqb-true k n e) ∙ slice_get-set_same xs n phase.Settled lt
    by_test false e =
        let apart : n ≡ k → ⊥ = λ z. (let t : (k == n) ≡ true = eq-eqb k n (sym z) in absurd (cc)) in
        slice_get-set_other xs n k phase.Settled apart ∙ below k (let ne : k ≢ n = (λ z. apart (sym z)) in omega arith)

pub settles : {S : _} (h : Held S) (j : ℕ) (p : Phase S) (d : Changes) (o : Outcome) (v : Floored) (left len' : ℕ)
    → IsBoard h → IsRaised (record h.versions { posts = insert h.versions.posts j (record { delta = d; outcome = o }) }) (j + 1) v → j ≡ h.settled → can_settle (slice_get h.phases j) ≡ true → slice_get h.phases j ≡ Some p → left ≡ weight_of (stage_of p) → len' ≡ h.len + 1
    → IsBoard (record h { start = v.start; versions = v; stages = set h.stages j stage.Settled; phases = set h.phases j phase.Settled; settled = h.settled + 1; owed = h.owed - left; journal = h.journal ++ event.Settle j d o ∷ []; len = len' })
settles h j p d o v left len' b raised next can at weighed one =
    let f = fronts h.phases j can in
    let same : f.phase ≡ p = same_Some f.phase p (sym f.at ∙ at) in
    let w : weight_of (stage_of f.phase) ≡ weight_of (stage_of p) = ap (λ (x : Phase _). weight_of (stage_of x)) same in
    let owed : weight_of (stage_of p) ≤ h.owed = owes h b j p at in
    let fw = f.weight in
    let posted_at = at_post (record { start = h.start; posts = posted h }) h.versions h.settled j (record { delta = d; outcome = o }) (omega (arith, next)) b.versions in
    let there = at_raise (record { start = h.start; posts = insert (posted h) j (record { delta = d; outcome = o }) }) (record h.versions { posts = insert h.versions.posts j (record { delta = d; outcome = o }) }) v h.settled (j + 1) (omega (arith, next)) posted_at raised in
    subst (λ (s : State). IsBoard (record h { start = s; versions = v; stages = set h.stages j stage.Settled; phases = set h.phases j phase.Settled; settled = h.settled + 1; owed = h.owed - left; journal = h.journal ++ event.Settle j d o ∷ []; len = len' }))
    (sym (raised.start ∙ b.versions.start))
    (moves h (event.Settle j d o) j p phase.Settled stage.Settled (insert (posted h) j (record { delta = d; outcome = o })) v (h.settled + 1) (h.owed - left) len' b
    (subst (λ (n : ℕ). IsAt (record { start = h.start; posts = insert (posted h) j (record { delta = d; outcome = o }) }) (n + 1) v) next there) at
    (next, fronts_stage h.phases j f) refl refl (λ e. absurd (cc)) (λ k. refl)
    (subst (λ (i : ℕ). (k : ℕ) → k < h.settled + 1 → slice_get (set h.phases i phase.Settled) k ≡ Some phase.Settled) (sym next) (one_more h.phases h.settled (subst (λ (i : ℕ). i < length h.phases) next (within h j p at)) b.below))
    (omega (arith, owed, weighed)) one (omega (arith, owed, weighed, w, fw)))

pub stops : {S : _} (h : Held S) (len' : ℕ)
    → IsBoard h → h.stopped ≡ false → len' ≡ h.len + 1
    → IsBoard (record h { stopped = true; owed = h.owed - 1; journal = h.journal ++ event.Stop ∷ []; len = len' })
stops h len' b not_yet one =
    let r : Replay = first (length h.waits) in
    let P : Replay → Type 0 = λ t. May h.start h.waits t event.Stop in
    let w : stop_weight h.stopped ≡ 1 = ap stop_weight not_yet in
    record {
      replayed = replayed_now r (h.journal ++ event.Stop ∷ []) (map stage_of h.phases) (posted h) h.settled true (replay-append r h.journal event.Stop ∙ ap (λ t. after t event.Stop) b.replayed);
      versions = subst (λ (ps : Posts). IsAt (record { start = h.start; posts = ps }) h.settled h.versions) (sym (ap (λ (t : Replay). t.posts) (replay-append r h.journal event.Stop))) b.versions;
      legal = legal-append h.start h.waits r h.journal event.Stop b.legal (subst P (sym b.replayed) not_yet);
      staged = b.staged;
      owed_is = omega (arith, b.owed_is, w);
      room = omega (arith, b.room, b.owed_is, w, one);
      small = b.small;
      phases_len = b.phases_len;
      asked_len = b.asked_len;
      asked_is = λ k keeps. b.asked_is k keeps ∙ sym (asked_of-append k h.journal event.Stop ∙ append-nil (asked_of k h.journal));
      below = b.below;
      lower = b.lower;
    }

asked_test : (xs : List (List Entry)) (j k : ℕ) (old : List Entry) (e : Entry) → j < length xs → get_or xs k [] ≡ old → (b : Bool) → (j == k) ≡ b → get_or (set xs j (get_or xs j [] ++ e ∷ [])) k [] ≡ old ++ (if b then e ∷ [] else [])
asked_test xs j k old e lt is true q =
    let same : j ≡ k = eqb-true j k q in
    let P : ℕ → Type 0 = λ i. get_or xs i [] ≡ old in
    let Q : ℕ → Type 0 = λ i. get_or (set xs j (get_or xs j [] ++ e ∷ [])) i [] ≡ old ++ e ∷ [] in
    let here : get_or xs j [] ≡ old = subst P (sym same) is in
    subst Q same (get_or-set_same xs j (get_or xs j [] ++ e ∷ []) [] lt ∙ ap (λ (ys : List Entry). ys ++ e ∷ []) here)
asked_test xs j k old e lt is false q =
    get_or-set_other xs j k (get_or xs j [] ++ e ∷ []) [] (λ h. let t : (j == k) ≡ true = eq-eqb j k (sym h) in absurd (cc)) ∙ is ∙ sym (append-nil old)

-- the list at a place that may have been written
asked_set : (xs : List (List Entry)) (j k : ℕ) (old : List Entry) (e : Entry) → j < length xs → get_or xs k [] ≡ old → get_or (set xs j (get_or xs j [] ++ e ∷ [])) k [] ≡ old ++ (if j == k then e ∷ [] else [])
asked_set xs j k old e lt is = asked_test xs j k old e lt is (j == k) refl

-- what is merged answers as all the posts do
pub asked_now : {S : _} (h : Held S) → IsBoard h → (j : ℕ) (q : Question) → slice_get h.phases j ≡ Some phase.Claimed → looked_over h.versions j q ≡ looked (record { start = h.start; posts = posted h }) j q
asked_now h b j q runs = at_look (record { start = h.start; posts = posted h }) h.versions h.settled j (not_below h b j phase.Claimed runs (λ e. absurd (cc))) b.versions q

pub asks : {S : _} (h : Held S) (j : ℕ) (e : Entry) (was more : List Entry) (len' cap' : ℕ)
    → IsBoard h → slice_get h.phases j ≡ Some phase.Claimed → e.answer ≡ looked_over h.versions j e.question
    → was ≡ get_or h.asked j was → more ≡ was ++ e ∷ [] → len' + h.owed ≤ cap'
    → IsBoard (record h { asked = set h.asked j more; journal = h.journal ++ event.Ask j e ∷ []; len = len'; cap = cap' })
asks h j e was more len' cap' b runs right at put room =
    let r : Replay = first (length h.waits) in
    let P : Replay → Type 0 = λ t. May h.start h.waits t (event.Ask j e) in
    let lt : j < length h.phases = within h j phase.Claimed runs in
    let lt' : j < length h.asked = omega (arith, b.phases_len, b.asked_len) in
    let goes : more ≡ get_or h.asked j [] ++ e ∷ [] = put ∙ ap (λ (ys : List Entry). ys ++ e ∷ []) (at ∙ get_or_any h.asked j was [] lt') in
    record {
      replayed = replayed_now r (h.journal ++ event.Ask j e ∷ []) (map stage_of h.phases) (posted h) h.settled h.stopped (replay-append r h.journal (event.Ask j e) ∙ b.replayed);
      versions = subst (λ (ps : Posts). IsAt (record { start = h.start; posts = ps }) h.settled h.versions) (sym (ap (λ (t : Replay). t.posts) (replay-append r h.journal (event.Ask j e)))) b.versions;
      legal = legal-append h.start h.waits r h.journal (event.Ask j e) b.legal (subst P (sym b.replayed) (stage_at h.phases j phase.Claimed runs, right ∙ asked_now h b j e.question runs));
      staged = b.staged;
      owed_is = b.owed_is;
      room = room;
      small = b.small;
      phases_len = b.phases_len;
      asked_len = length-set h.asked j more ∙ b.asked_len;
      asked_is = λ k keeps.
          ap (λ (ys : List Entry). get_or (set h.asked j ys) k []) goes
          ∙ asked_set h.asked j k (asked_of k h.journal) e lt' (b.asked_is k keeps)
          ∙ sym (asked_of-append k h.journal (event.Ask j e));
      below = b.below;
      lower = b.lower;
    }

-- where an ask fails, what was asked stays
-- only the room for the journal is another
pub reserved : {S : _} (h : Held S) (len' cap' : ℕ) → IsBoard h → len' + h.owed ≤ cap' → IsBoard (record h { len = len'; cap = cap' })
reserved h len' cap' b room = record {
  replayed = b.replayed;
  versions = b.versions;
  legal = b.legal;
  staged = b.staged;
  owed_is = b.owed_is;
  room = room;
  small = b.small;
  phases_len = b.phases_len;
  asked_len = b.asked_len;
  asked_is = b.asked_is;
  below = b.below;
  lower = b.lower;
}

pub unasked : {S : _} (h : Held S) (j : ℕ) (was new : List Entry) (len' cap' : ℕ) → IsBoard h → was ≡ get_or h.asked j was → new ≡ was → len' + h.owed ≤ cap'
    → IsBoard (record h { asked = set h.asked j new; len = len'; cap = cap' })
unasked h j was new len' cap' b at is room =
    let same : set h.asked j new ≡ h.asked = ap (set h.asked j) (is ∙ at) ∙ set-get_or h.asked j was in
    record {
      replayed = b.replayed;
      versions = b.versions;
      legal = b.legal;
      staged = b.staged;
      owed_is = b.owed_is;
      room = room;
      small = b.small;
      phases_len = b.phases_len;
      asked_len = ap length same ∙ b.asked_len;
      asked_is = λ k keeps. ap (λ (xs : List (List Entry)). get_or xs k []) same ∙ b.asked_is k keeps;
      below = b.below;
      lower = b.lower;
    }

map-replicate : {A B : Type 0} (f : A → B) (n : ℕ) (x : A) → map f (replicate n x) ≡ replicate n (f x)
map-replicate f zero x = refl
map-replicate f (suc n) x = ap (λ (ys : List _). f x ∷ ys) (map-replicate f n x)

abbrev no_entries : List Entry
no_entries = []

no_usage : (n k : ℕ) → get_or (replicate n []) k [] ≡ no_entries
no_usage zero k = refl
no_usage (suc n) zero = refl
no_usage (suc n) (suc k) = no_usage n k

pub starts : {S : _} (start : State) (versions : Floored) (waits : List (List ℕ)) (stages : List JobStage) (phases : List (Phase S)) (asked : List (List Entry)) (n cap : ℕ)
    → versions ≡ record { start = start; floor = 0; merged = empty; posts = empty } → stages ≡ replicate (length waits) stage.Free → phases ≡ replicate n phase.Free → asked ≡ replicate n [] → n ≡ length waits → n < 2 ^ 32 → ((j : ℕ) → All (λ k. k < j) (slice_index_or waits j [])) → 3 * n + 1 ≤ cap
    → IsBoard (record { start = start; versions = versions; waits = waits; stages = stages; phases = phases; asked = asked; settled = 0; stopped = false; owed = 3 * n + 1; journal = []; len = 0; cap = cap })
starts start versions waits ss phases asked n cap none free is empty_lists len small lower room =
    let all_free : map stage_of phases ≡ replicate n stage.Free = ap (map stage_of) is ∙ map-replicate stage_of n phase.Free in
    let at : List JobStage → Posts → Replay = λ x y. record { stages = x; posts = y; settled = 0; stopped = false } in
    record {
      replayed = ap first (sym len) ∙ ap (λ (x : List JobStage). at x empty) (sym all_free);
      versions = subst (λ (v : Floored). IsAt (record { start = start; posts = empty }) 0 v) (sym none) (at_first start);
      legal = tt;
      staged = free ∙ ap (λ (k : ℕ). replicate k stage.Free) (sym len) ∙ sym all_free;
      owed_is = omega (arith, ap (sum_by weight_of) all_free, sum_by-replicate weight_of n stage.Free);
      room = omega (arith, room);
      small = omega (arith, len, small);
      phases_len = ap length is ∙ length-replicate n _ ∙ len;
      asked_len = ap length empty_lists ∙ length-replicate n _ ∙ len;
      asked_is = λ k keeps. ap (λ (xs : List (List Entry)). get_or xs k []) empty_lists ∙ no_usage n k;
      below = λ k less. absurd (omega (arith, less));
      lower = lower;
    }

asked_left : {S : _} (phases : List (Phase S)) (asked : List (List Entry)) (journal : List Event) (j : ℕ) (p : Phase S)
    → slice_get phases j ≡ Some p
    → ((k : ℕ) → is_kept (slice_get phases k) ≡ true → slice_index_or asked k [] ≡ asked_of k journal)
    → (k : ℕ) → is_kept (slice_get (set phases j phase.Taken) k) ≡ true
    → (b : Bool) → (j == k) ≡ b
    → get_or (set asked j []) k [] ≡ asked_of k journal
asked_left phases asked journal j p at before k h true q =
    let same : j ≡ k = eqb-true j k q in
    let P : ℕ → Type 0 = λ i. is_kept (slice_get (set phases j phase.Taken) i) ≡ true in
    let here : is_kept (slice_get (set phases j phase.Taken) j) ≡ true = subst P (sym same) h in
    let gone : is_kept (slice_get (set phases j phase.Taken) j) ≡ false = ap is_kept (slice_get-set_same phases j phase.Taken (slice_get_within phases j p at)) in
    absurd (cc)
asked_left phases asked journal j p at before k h false q =
    get_or-set_other asked j k [] [] (λ e. let t : (j == k) ≡ true = eq-eqb j k (sym e) in absurd (cc)) ∙ before k (kept_before phases j k p phase.Taken at (λ e. absurd (cc)) h)

-- what a worker has left is taken away, with what it asked
pub takes : {S : _} (h : Held S) (j : ℕ) (p : Phase S)
    → IsBoard h → slice_get h.phases j ≡ Some p → stage_of p ≡ stage.Ended
    → IsBoard (record h { phases = set h.phases j phase.Taken; asked = set h.asked j [] })
takes h j p b is ends =
    let was : get_or h.phases j p ≡ p = get_or_from_slice_get h.phases j p p is in
    let same : map stage_of (set h.phases j phase.Taken) ≡ map stage_of h.phases = map-set_same stage_of h.phases j phase.Taken p (sym ends ∙ ap stage_of (sym was)) in
    let at : List JobStage → Replay = λ x. record { stages = x; posts = posted h; settled = h.settled; stopped = h.stopped } in
    record {
      replayed = b.replayed ∙ ap at (sym same);
      versions = b.versions;
      legal = b.legal;
      staged = b.staged ∙ sym same;
      owed_is = omega (arith, b.owed_is, ap (sum_by weight_of) same);
      room = b.room;
      small = b.small;
      phases_len = length-set h.phases j phase.Taken ∙ b.phases_len;
      asked_len = length-set h.asked j [] ∙ b.asked_len;
      asked_is = λ k keeps. asked_left h.phases h.asked h.journal j p is b.asked_is k keeps (j == k) refl;
      below = still_below h b j p phase.Taken is (λ e. let z : stage.Ended ≡ stage.Settled = sym ends ∙ e in absurd (cc));
      lower = b.lower;
    }

-- what is kept is what was asked
pub took : {S : _} (h : Held S) → IsBoard h → (j : ℕ) (p : Phase S) (was : List Entry) → slice_get h.phases j ≡ Some p → is_kept (Some p) ≡ true → was ≡ get_or h.asked j was → was ≡ asked_of j h.journal
took h b j p was is keeps at =
    at ∙ get_or_any h.asked j was [] (let lt = within h j p is in omega (arith, lt, b.phases_len, b.asked_len)) ∙ b.asked_is j (ap is_kept is ∙ keeps)

-- ---- the next job may be claimed where it is free

over_below : {S : _} (h : Held S) → IsBoard h → (k : ℕ) → k < h.settled → IsTrue (is_over (slice_get (map stage_of h.phases) k))
over_below h b k lt = ap is_over (stage_at h.phases k phase.Settled (b.below k lt))

pub front_can : {S : _} (h : Held S) → IsBoard h → (j : ℕ) → j ≡ h.settled → slice_get h.phases j ≡ Some phase.Free → CanClaim h.waits (map stage_of h.phases) j
front_can h b j next at = (stage_at h.phases j phase.Free at, λ i d lt. over_below h b (get_or (get_or h.waits j []) i d) (let less = b.lower j i d lt in omega (arith, less, next)))

-- ---- what may be taken

pub left_ended : {S : _} (p : Phase S) → can_take (Some p) ≡ true → (p ≡ phase.Claimed → ⊥) → stage_of p ≡ stage.Ended
left_ended phase.Free h not = absurd (cc)
left_ended phase.Claimed h not = absurd (not refl)
left_ended phase.Fronted h not = absurd (cc)
left_ended (phase.Posted r) h not = refl
left_ended phase.GivenUp h not = refl
left_ended phase.Taken h not = absurd (cc)
left_ended phase.Settled h not = absurd (cc)

-- what is left of a job that has ended, with what it asked
pub takes_it : {S : _} (old : Seen S) (j : ℕ) (p : Phase S) (asked : List Entry) → slice_get old.phases j ≡ Some p → can_take (Some p) ≡ true → (p ≡ phase.Claimed → ⊥)
    → (is_kept (Some p) ≡ true → asked ≡ asked_of j old.journal) → Takes old (put old j phase.Taken) j (left_by p asked)
takes_it old j phase.Free asked at can not is = absurd (cc)
takes_it old j phase.Claimed asked at can not is = absurd (not refl)
takes_it old j phase.Fronted asked at can not is = absurd (cc)
takes_it old j (phase.Posted r) asked at can not is = (at, is refl, refl)
takes_it old j phase.GivenUp asked at can not is = (at, refl)
takes_it old j phase.Taken asked at can not is = absurd (cc)
takes_it old j phase.Settled asked at can not is = absurd (cc)

pub taken_within : {S : _} (xs : List (Phase S)) (j : ℕ) → can_take (slice_get xs j) ≡ true → j < length xs
taken_within [] j h = absurd (cc)
taken_within (x ∷ xs) zero h = omega arith
taken_within (x ∷ xs) (suc j) h = let r = taken_within xs j h in omega arith

pub read_at : {S : _} (xs : List (Phase S)) (j : ℕ) (p : Phase S) → j < length xs → p ≡ get_or xs j p → slice_get xs j ≡ Some p
read_at xs j p lt is = slice_get_read xs (length xs) j p refl lt is

-- ---- what a worker is told, where it gets no job

pub claims_none : {S : _} (old : Seen S) (found : Claim) → (told old).stopped ≡ false → Finds (record { waits = old.waits; stages = stages old }) found → ((j : ℕ) → found ≡ claim.Job j → ⊥) → Claims old old found
claims_none old (claim.Job j) going is not = absurd (not j refl)
claims_none old claim.Done going is not = (inr is, refl)
claims_none old claim.NotYet going is not = (going, is, refl)

-- ---- what the conditions of calls, which speak of what is seen, say of the fields

abbrev pub seen : {S : _} → Held S → Seen S
seen h = record { start = h.start; waits = h.waits; journal = h.journal; phases = h.phases }

-- a job that may be claimed
pub record Startable {S : _} (h : Held S) (j : ℕ) : Type 0 where
  pub can : CanClaim h.waits (map stage_of h.phases) j
  pub staged : slice_get h.stages j ≡ Some stage.Free
  pub within : j < length h.phases
  pub owed : 3 ≤ h.owed

pub startable : {S : _} (h : Held S) → IsBoard h → (v : Seen S) → seen h ≡ v → (j : ℕ) → CanClaim v.waits (stages v) j → Startable h j
startable {S} h b v is j can =
    let P : Seen S → Type 0 = λ u. CanClaim u.waits (stages u) j in
    let here = subst P (sym is) can in
    let f = found h.phases j stage.Free here.0 in
    let w : weight_of (stage_of f.0) ≡ 3 = ap weight_of f.2 in
    record {
      can = here;
      staged = staged_at h b j f.0 stage.Free f.1 f.2;
      within = within h j f.0 f.1;
      owed = (let o = owes h b j f.0 f.1 in omega (arith, o, w));
    }

-- a job that a worker has
pub record Running {S : _} (h : Held S) (j : ℕ) : Type 0 where
  pub at : slice_get h.phases j ≡ Some phase.Claimed
  pub staged : slice_get h.stages j ≡ Some stage.Claimed
  pub within : j < length h.phases
  pub owed : 2 ≤ h.owed

pub running : {S : _} (h : Held S) → IsBoard h → (v : Seen S) → seen h ≡ v → (j : ℕ) → slice_get v.phases j ≡ Some phase.Claimed → Running h j
running {S} h b v is j at =
    let P : Seen S → Type 0 = λ u. slice_get u.phases j ≡ Some phase.Claimed in
    let here = subst P (sym is) at in
    record { at = here; staged = staged_at h b j phase.Claimed stage.Claimed here refl; within = within h j phase.Claimed here; owed = owes h b j phase.Claimed here }

-- the next job to be settled, which the committer has
pub record Settling {S : _} (h : Held S) (j : ℕ) : Type 0 where
  pub next : j ≡ h.settled
  pub can : can_settle (slice_get h.phases j) ≡ true
  pub staged : (slice_get h.stages j ≡ Some stage.Claimed) ⊎ (slice_get h.stages j ≡ Some stage.Ended)
  pub within : j < length h.phases
  pub small : h.settled < 2 ^ 32
  pub owed : 1 ≤ h.owed

pub settling : {S : _} (h : Held S) → IsBoard h → (v : Seen S) → seen h ≡ v → (j : ℕ) → j ≡ (told v).settled → can_settle (slice_get v.phases j) ≡ true → Settling h j
settling {S} h b v is j next can =
    let P : Seen S → Type 0 = λ u. can_settle (slice_get u.phases j) ≡ true in
    let Q : Seen S → Type 0 = λ u. j ≡ (told u).settled in
    let here = subst P (sym is) can in
    let now : j ≡ h.settled = subst Q (sym is) next ∙ ap (λ (r : Replay). r.settled) b.replayed in
    let f = fronts h.phases j here in
    let lt : j < length h.phases = within h j f.phase f.at in
    record {
      next = now;
      can = here;
      staged = fronts_staged h b j f;
      within = lt;
      small = omega (arith, lt, now, b.phases_len, b.small);
      owed = (let o = owes h b j f.phase f.at in let w = f.weight in omega (arith, o, w));
    }

-- what is left of a job is owed
pub left_owed : {S : _} (h : Held S) → IsBoard h → (j : ℕ) (p : Phase S) (left : ℕ) → p ≡ get_or h.phases j p → j < length h.phases → left ≡ weight_of (stage_of p) → left ≤ h.owed
left_owed h b j p left at lt is = let o = owes h b j p (read_at h.phases j p lt at) in omega (arith, o, is)
