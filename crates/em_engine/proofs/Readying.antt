-- What is kept beside the stages, as jobs are claimed, end and are settled.
use Rattle.std.proofs.Common.{ℕ, zero, suc, ◌+◌, ◌-◌, ◌≡◌, ◌≢◌, ◌<◌, ◌≤◌, ◌^◌, List, [], ◌∷◌, Bool, true, false, cond, map, length, set, get_or, replicate, refl, sym, ap, ◌∙◌, subst, inl, inr, take, lt-ltb, arith}
use Rattle.std.specs.Prelude.{Option, Some, All, slice_get, not, nat_lt, ◌==◌, ◌&&◌}
use Rattle.std.specs.List.{count_by}
use Rattle.std.proofs.lemmas.Bool.{eqb-true, eq-eqb, cases_lt}
use Rattle.std.proofs.lemmas.Bool.Decides.{nat_tests}
use Rattle.std.proofs.lemmas.Option.{slice_get_within, get_or_from_slice_get}
use Rattle.std.proofs.lemmas.List.{length-map, get_or-set_same, get_or-set_other, get_or_past}
use Rattle.std.proofs.lemmas.List.Sums.{sum_by-set}
use Rattle.std.proofs.lemmas.List.Folds.{sum_by-replicate}
use Rattle.std.proofs.Math.ListN.{length-set, length-replicate}
use Rattle.em_engine.specs.declared.ready.JobStage.{JobStage}
use Rattle.em_engine.specs.declared.ready.JobStage.TheVariants as stage
use Rattle.em_engine.specs.Stages.{is_over, is_free}
use Rattle.em_engine.specs.Waits.{times, pending, flag, IsMarked, Kept, IsReady}
use Rattle.em_engine.proofs.Places.{slice_get-set_other, slice_get-set_same, get_or_any}
use Rattle.em_engine.proofs.Counts.{times_left, times_more, pending-cons, at_set, pending_same, pending_less}

-- 1 for a free job
abbrev free_one : JobStage → ℕ
free_one s = cond (is_free (Some s)) 1 0

frees : (stages : List JobStage) (j : ℕ) (was is : JobStage) → slice_get stages j ≡ Some was
    → count_by (λ s. is_free (Some s)) (set stages j is) + free_one was ≡ count_by (λ s. is_free (Some s)) stages + free_one is
frees stages j was is at =
    ap (λ (s : JobStage). count_by (λ s. is_free (Some s)) (set stages j is) + free_one s) (sym (get_or_from_slice_get stages j was was at))
    ∙ sum_by-set free_one stages j is was (slice_get_within stages j was at)

pub over_not_free : (s : JobStage) → is_over (Some s) ≡ true → is_free (Some s) ≡ false
over_not_free stage.Free h = absurd (cc)
over_not_free stage.Claimed h = absurd (cc)
over_not_free stage.Ended h = refl
over_not_free stage.Settled h = refl

-- a job's flag is lowered when it is claimed
lowered : (stages : List JobStage) (left : List ℕ) (fs : List Bool) (j : ℕ) → j < length stages → j < length fs → IsMarked stages left fs
    → IsMarked (set stages j stage.Claimed) left (set fs j false)
lowered stages left fs j lt room marked k = by_test (k == j) refl
  where
    by_test : (b : Bool) → (k == j) ≡ b → flag (set fs j false) k ≡ (is_free (slice_get (set stages j stage.Claimed) k) && (get_or left k 0 == 0))
    by_test true e =
        let same : k ≡ j = eqb-true k j e in
        ap (flag (set fs j false)) same ∙ get_or-set_same fs j false false room
        ∙ ap (λ (o : Option JobStage). is_free o && (get_or left k 0 == 0)) (sym (ap (slice_get (set stages j stage.Claimed)) same ∙ slice_get-set_same stages j stage.Claimed lt))
    by_test false e =
        let ne : k ≢ j = (λ h. let t : (k == j) ≡ true = eq-eqb k j h in absurd (cc)) in
        get_or-set_other fs j k false false ne ∙ marked k
        ∙ ap (λ (o : Option JobStage). is_free o && (get_or left k 0 == 0)) (sym (slice_get-set_other stages j k stage.Claimed (λ h. ne (sym h))))

pub some_are_free : (r : Kept) (j : ℕ) → IsReady r → slice_get r.stages j ≡ Some stage.Free → 1 ≤ r.free
some_are_free r j k at = let f = frees r.stages j stage.Free stage.Claimed at in omega (arith, f, k.free_is)

pub claimed : (r : Kept) (j : ℕ) → IsReady r → slice_get r.stages j ≡ Some stage.Free
    → IsReady (record r { stages = set r.stages j stage.Claimed; flagged = set r.flagged j false; free = r.free - 1 })
claimed r j k at =
    let lt : j < length r.stages = slice_get_within r.stages j stage.Free at in
    let f = frees r.stages j stage.Free stage.Claimed at in
    record {
      small = k.small;
      stages_len = length-set r.stages j _ ∙ k.stages_len;
      left_len = k.left_len;
      waiters_len = k.waiters_len;
      room = omega (arith, k.room, length-set r.flagged j false);
      left_is = λ i. k.left_is i ∙ sym (pending_same r.stages (set r.stages j stage.Claimed) (at_set is_over r.stages j stage.Free stage.Claimed at refl) (get_or r.waits i []));
      waiters_are = k.waiters_are;
      flagged_is = lowered r.stages r.left r.flagged j lt (omega (arith, lt, k.stages_len, k.room)) k.flagged_is;
      free_is = omega (arith, f, k.free_is);
    }

pub settled : (r : Kept) (j : ℕ) → IsReady r → slice_get r.stages j ≡ Some stage.Ended → IsReady (record r { stages = set r.stages j stage.Settled })
settled r j k at =
    let f = frees r.stages j stage.Ended stage.Settled at in
    record {
      small = k.small;
      stages_len = length-set r.stages j _ ∙ k.stages_len;
      left_len = k.left_len;
      waiters_len = k.waiters_len;
      room = k.room;
      left_is = λ i. k.left_is i ∙ sym (pending_same r.stages (set r.stages j stage.Settled) (at_set is_over r.stages j stage.Ended stage.Settled at refl) (get_or r.waits i []));
      waiters_are = k.waiters_are;
      flagged_is = λ i. k.flagged_is i ∙ ap (λ (b : Bool). b && (get_or r.left i 0 == 0)) (sym (at_set is_free r.stages j stage.Ended stage.Settled at refl i));
      free_is = omega (arith, f, k.free_is);
    }

-- ---- a claimed job ends

pub still_marked : (r : Kept) (j : ℕ) (end : JobStage) → IsReady r → slice_get r.stages j ≡ Some stage.Claimed → is_over (Some end) ≡ true → IsMarked (set r.stages j end) r.left r.flagged
still_marked r j end k at over i = k.flagged_is i ∙ ap (λ (b : Bool). b && (get_or r.left i 0 == 0)) (sym (at_set is_free r.stages j stage.Claimed end at (over_not_free end over) i))

pub enough : (r : Kept) (j : ℕ) (end : JobStage) → IsReady r → slice_get r.stages j ≡ Some stage.Claimed → is_over (Some end) ≡ true
    → (i : ℕ) → times i (get_or r.waiters j []) ≤ get_or r.left i 0
enough r j end k at over i =
    let less = pending_less r.stages j end at over (get_or r.waits i []) in
    omega (arith, less, k.waiters_are i j, k.left_is i)

waits_there : (waits : List (List ℕ)) (j k : ℕ) → 1 ≤ times k (get_or waits j []) → j < length waits
waits_there [] j k some = absurd (omega (arith, some))
waits_there (w ∷ waits) zero k some = omega arith
waits_there (w ∷ waits) (suc j) k some = let r = waits_there waits j k some in omega (arith, r)

pub waiters_within : (r : Kept) (j : ℕ) → IsReady r → All (λ i. i < length r.left) (get_or r.waiters j [])
waiters_within r j k i d lt =
    let x : ℕ = get_or (get_or r.waiters j []) i d in
    let there : times x (get_or r.waiters j []) ≡ times j (get_or r.waits x []) = k.waiters_are x j in
    let once = times_left (get_or r.waiters j []) i x lt (get_or_any (get_or r.waiters j []) i d x lt) in
    let within = waits_there r.waits x j (omega (arith, there, once)) in
    omega (arith, within, k.left_len)

pub finished : (r : Kept) (j : ℕ) (end : JobStage) (left' : List ℕ) (flagged' : List Bool) → IsReady r → slice_get r.stages j ≡ Some stage.Claimed → is_over (Some end) ≡ true
    → ((i : ℕ) → get_or left' i 0 + times i (get_or r.waiters j []) ≡ get_or r.left i 0) → length left' ≡ length r.left → length flagged' ≡ length r.flagged
    → IsMarked (set r.stages j end) left' flagged'
    → IsReady (record r { stages = set r.stages j end; left = left'; flagged = flagged' })
finished r j end left' flagged' k at over less left_len flagged_len marked =
    let f = frees r.stages j stage.Claimed end at in
    let none : ◌≡◌ {A = ℕ} (free_one end) 0 = ap (λ (b : Bool). cond b 1 0) (over_not_free end over) in
    record {
      small = k.small;
      stages_len = length-set r.stages j _ ∙ k.stages_len;
      left_len = left_len ∙ k.left_len;
      waiters_len = k.waiters_len;
      room = omega (arith, k.room, flagged_len);
      left_is = λ i. (let p = pending_less r.stages j end at over (get_or r.waits i []) in omega (arith, p, less i, k.left_is i, k.waiters_are i j));
      waiters_are = k.waiters_are;
      flagged_is = marked;
      free_is = omega (arith, f, none, k.free_is);
    }

-- ---- one waits for one less

pub released : (init left : List ℕ) (jobs : List ℕ) (i d : ℕ) → i < length jobs → get_or jobs i d < length left → 1 ≤ get_or left (get_or jobs i d) 0
    → ((j : ℕ) → get_or left j 0 + times j (take i jobs) ≡ get_or init j 0)
    → (j : ℕ) → get_or (set left (get_or jobs i d) (get_or left (get_or jobs i d) 0 - 1)) j 0 + times j (take (i + 1) jobs) ≡ get_or init j 0
released init left jobs i d lt within some less j = by_test (get_or jobs i d == j) refl
  where
    at : ℕ
    at = get_or jobs i d

    by_test : (b : Bool) → (get_or jobs i d == j) ≡ b → get_or (set left (get_or jobs i d) (get_or left (get_or jobs i d) 0 - 1)) j 0 + times j (take (i + 1) jobs) ≡ get_or init j 0
    by_test true e =
        let same : get_or jobs i d ≡ j = eqb-true (get_or jobs i d) j e in
        let one : ◌≡◌ {A = ℕ} (cond (get_or jobs i d == j) 1 0) 1 = ap (λ (b : Bool). cond b 1 0) e in
        let more = times_more j jobs i d lt in
        let now : get_or (set left (get_or jobs i d) (get_or left (get_or jobs i d) 0 - 1)) j 0 ≡ get_or left (get_or jobs i d) 0 - 1 =
        ap (λ (k : ℕ). get_or (set left (get_or jobs i d) (get_or left (get_or jobs i d) 0 - 1)) k 0) (sym same) ∙ get_or-set_same left (get_or jobs i d) _ 0 within in
        let was : get_or left (get_or jobs i d) 0 ≡ get_or left j 0 = ap (λ (k : ℕ). get_or left k 0) same in
        omega (arith, less j, one, more, now, was, some)
    by_test false e =
        let none : ◌≡◌ {A = ℕ} (cond (get_or jobs i d == j) 1 0) 0 = ap (λ (b : Bool). cond b 1 0) e in
        let more = times_more j jobs i d lt in
        let now : get_or (set left (get_or jobs i d) (get_or left (get_or jobs i d) 0 - 1)) j 0 ≡ get_or left j 0 =
        get_or-set_other left (get_or jobs i d) j _ 0 (λ h. let t : (get_or jobs i d == j) ≡ true = eq-eqb (get_or jobs i d) j (sym h) in absurd (cc)) in
        omega (arith, less j, none, more, now)

-- a job's flag is put by what is left now
pub reflagged : (stages : List JobStage) (left : List ℕ) (fs : List Bool) (j n : ℕ) (b : Bool) → j < length left → j < length fs → IsMarked stages left fs
    → b ≡ (is_free (slice_get stages j) && (get_or (set left j n) j 0 == 0)) → IsMarked stages (set left j n) (set fs j b)
reflagged stages left fs j n b lt room marked is k = by_test (k == j) refl
  where
    by_test : (t : Bool) → (k == j) ≡ t → flag (set fs j b) k ≡ (is_free (slice_get stages k) && (get_or (set left j n) k 0 == 0))
    by_test true e =
        let same : k ≡ j = eqb-true k j e in
        ap (flag (set fs j b)) same ∙ get_or-set_same fs j b false room ∙ is ∙ ap (λ (i : ℕ). is_free (slice_get stages i) && (get_or (set left j n) i 0 == 0)) (sym same)
    by_test false e =
        let ne : k ≢ j = (λ h. let t : (k == j) ≡ true = eq-eqb k j h in absurd (cc)) in
        get_or-set_other fs j k b false ne ∙ marked k ∙ ap (λ (m : ℕ). is_free (slice_get stages k) && (m == 0)) (sym (get_or-set_other left j k n 0 ne))

-- ---- the start

-- the waiters of one job more
pub one_more : (waits : List (List ℕ)) (old new : List (List ℕ)) (job : ℕ)
    → ((j k : ℕ) → times j (get_or old k []) ≡ cond (nat_lt j job) (times k (get_or waits j [])) 0)
    → ((j k : ℕ) → times j (get_or new k []) ≡ times j (get_or old k []) + cond (job == j) (times k (get_or waits job [])) 0)
    → (j k : ℕ) → times j (get_or new k []) ≡ cond (nat_lt j (job + 1)) (times k (get_or waits j [])) 0
one_more waits old new job each more j k = grind (arith, nat_tests, each j k, more j k)

pub all_noted : (waits : List (List ℕ)) (ws : List (List ℕ)) (job : ℕ) → length waits ≤ job
    → ((j k : ℕ) → times j (get_or ws k []) ≡ cond (nat_lt j job) (times k (get_or waits j [])) 0)
    → (j k : ℕ) → times j (get_or ws k []) ≡ times k (get_or waits j [])
all_noted waits ws job past each j k = elim (cases_lt j job) as (λ _. times j (get_or ws k []) ≡ times k (get_or waits j [])) [
  | inl lt ↦ each j k ∙ ap (λ (b : Bool). cond b (times k (get_or waits j [])) 0) (lt-ltb j job lt)
  | inr ge ↦ each j k ∙ cond_none (nat_lt j job) (times k (get_or waits j [])) (ap (times k) (get_or_past waits j [] (omega (arith, past, ge))))
]
  where
    cond_none : (b : Bool) (n : ℕ) → n ≡ 0 → cond b n 0 ≡ n
    cond_none true n e = refl
    cond_none false n e = sym e

pub lowered_flag : (fs : List Bool) (j : ℕ) → slice_get fs j ≢ Some true → flag fs j ≡ false
lowered_flag [] j h = refl
lowered_flag (true ∷ fs) zero h = absurd (h refl)
lowered_flag (false ∷ fs) zero h = refl
lowered_flag (b ∷ fs) (suc j) h = lowered_flag fs j h

pub not_begun : (n : ℕ) (ks : List ℕ) → pending (replicate n stage.Free) ks ≡ length ks
not_begun n [] = refl
not_begun n (k ∷ ks) =
    let here : ◌≡◌ {A = ℕ} (cond (not (is_over (slice_get (replicate n stage.Free) k))) 1 0) 1 = ap (λ (b : Bool). cond (not b) 1 0) (free_at n k) in
    let rest = not_begun n ks in
    omega (arith, here, rest, pending-cons (replicate n stage.Free) k ks)
  where
    free_at : (n k : ℕ) → is_over (slice_get (replicate n stage.Free) k) ≡ false
    free_at zero k = refl
    free_at (suc n) zero = refl
    free_at (suc n) (suc k) = free_at n k

free_within : (n j : ℕ) → j < n → is_free (slice_get (replicate n stage.Free) j) ≡ true
free_within zero j lt = absurd (omega arith)
free_within (suc n) zero lt = refl
free_within (suc n) (suc j) lt = free_within n j (omega arith)

free_past : (n j : ℕ) → n ≤ j → is_free (slice_get (replicate n stage.Free) j) ≡ false
free_past zero j le = refl
free_past (suc n) zero le = absurd (omega arith)
free_past (suc n) (suc j) le = free_past n j (omega arith)

first_marked : (n : ℕ) (left : List ℕ) (fs : List Bool) → length left ≡ n → ((j : ℕ) → flag fs j ≡ (get_or left j 1 == 0)) → IsMarked (replicate n stage.Free) left fs
first_marked n left fs len flags j = elim (cases_lt j n) as (λ _. flag fs j ≡ (is_free (slice_get (replicate n stage.Free) j) && (get_or left j 0 == 0))) [
  | inl lt ↦ flags j ∙ ap (λ (k : ℕ). k == 0) (get_or_any left j 1 0 (omega (arith, lt, len))) ∙ ap (λ (b : Bool). b && (get_or left j 0 == 0)) (sym (free_within n j lt))
  | inr ge ↦ flags j ∙ ap (λ (k : ℕ). k == 0) (get_or_past left j 1 (omega (arith, ge, len))) ∙ ap (λ (b : Bool). b && (get_or left j 0 == 0)) (sym (free_past n j ge))
]

pub begins : (waits : List (List ℕ)) (stages : List JobStage) (left : List ℕ) (waiters : List (List ℕ)) (fs : List Bool) → length waits < 2 ^ 32
    → stages ≡ replicate (length waits) stage.Free → left ≡ map length waits → length waiters ≡ length waits
    → ((j k : ℕ) → times j (get_or waiters k []) ≡ times k (get_or waits j [])) → length waits ≤ length fs
    → ((j : ℕ) → flag fs j ≡ (get_or left j 1 == 0))
    → IsReady (record { waits = waits; stages = stages; left = left; waiters = waiters; flagged = fs; free = length waits })
begins waits stages left waiters fs small free is count each room flags =
    let len : length left ≡ length waits = ap length is ∙ length-map waits length in
    record {
      small = small;
      stages_len = ap length free ∙ length-replicate (length waits) _;
      left_len = len;
      waiters_len = count;
      room = room;
      left_is = λ j. ap (λ (ns : List ℕ). get_or ns j 0) is ∙ get_or-map_lengths waits j ∙ sym (ap (λ (ss : List JobStage). pending ss (get_or waits j [])) free ∙ not_begun (length waits) (get_or waits j []));
      waiters_are = each;
      flagged_is = subst (λ (ss : List JobStage). IsMarked ss left fs) (sym free) (first_marked (length waits) left fs len flags);
      free_is = sym (ap (count_by (λ s. is_free (Some s))) free ∙ all_free (length waits));
    }
  where
    get_or-map_lengths : (ws : List (List ℕ)) (j : ℕ) → get_or (map length ws) j 0 ≡ length (get_or ws j [])
    get_or-map_lengths [] j = refl
    get_or-map_lengths (w ∷ ws) zero = refl
    get_or-map_lengths (w ∷ ws) (suc j) = get_or-map_lengths ws j

    all_free : (n : ℕ) → count_by (λ s. is_free (Some s)) (replicate n stage.Free) ≡ n
    all_free n = let e = sum_by-replicate free_one n stage.Free in omega (arith, e)
