-- How many waits are left, and which jobs can be claimed.
use Rattle.std.proofs.Common.{ℕ, zero, suc, ◌+◌, ◌≡◌, ◌≢◌, ◌<◌, ◌≤◌, List, [], ◌∷◌, ◌++◌, Bool, true, false, cond, length, set, get_or, take, refl, sym, ap, ◌∙◌, arith}
use Rattle.std.specs.Prelude.{Option, Some, None, IsTrue, All, slice_get, not, ◌==◌, ◌&&◌}
use Rattle.std.specs.List.{count_by}
use Rattle.std.proofs.lemmas.Bool.{eqb-true, eq-eqb, and_parts}
use Rattle.std.proofs.lemmas.Option.{slice_get_within}
use Rattle.std.proofs.lemmas.List.Sums.{sum_by-cons, sum_by_push, sum_by_more, sum_by_more_le}
use Rattle.em_engine.specs.declared.ready.JobStage.{JobStage}
use Rattle.em_engine.specs.declared.ready.JobStage.TheVariants as stage
use Rattle.em_engine.specs.Stages.{CanClaim, is_over, is_free}
use Rattle.em_engine.specs.Waits.{times, pending, flag, IsMarked}
use Rattle.em_engine.proofs.Places.{slice_get-set_other, slice_get-set_same}

-- ---- how often a number stands in a list

pub times-push : (j : ℕ) (xs : List ℕ) (x : ℕ) → times j (xs ++ x ∷ []) ≡ times j xs + cond (x == j) 1 0
times-push j xs x = sum_by_push (λ i. cond (i == j) 1 0) xs x

pub times_more : (j : ℕ) (xs : List ℕ) (i d : ℕ) → i < length xs → times j (take (i + 1) xs) ≡ times j (take i xs) + cond (get_or xs i d == j) 1 0
times_more j xs i d lt = sum_by_more (λ i. cond (i == j) 1 0) xs i d lt

pub times_left : (xs : List ℕ) (i at : ℕ) → i < length xs → at ≡ get_or xs i at → times at (take i xs) + 1 ≤ times at xs
times_left xs i at lt is =
    let t : (get_or xs i at == at) ≡ true = eq-eqb (get_or xs i at) at (sym is) in
    let here : ◌≡◌ {A = ℕ} (cond (get_or xs i at == at) 1 0) 1 = ap (λ (b : Bool). cond b 1 0) t in
    let most : times at (take i xs) + cond (get_or xs i at == at) 1 0 ≤ times at xs = sum_by_more_le (λ y. cond (y == at) 1 0) xs i at lt in
    omega (arith, here, most)

-- ---- one stage written

-- a test that both stages pass alike passes as before at each job
pub at_set : {B : Type 0} (f : Option JobStage → B) (stages : List JobStage) (job : ℕ) (was is : JobStage) → slice_get stages job ≡ Some was → f (Some is) ≡ f (Some was)
    → (k : ℕ) → f (slice_get (set stages job is) k) ≡ f (slice_get stages k)
at_set f [] job was is at alike k = refl
at_set f (s ∷ stages) zero was is at alike zero = alike ∙ ap f (sym at)
at_set f (s ∷ stages) zero was is at alike (suc k) = refl
at_set f (s ∷ stages) (suc job) was is at alike zero = refl
at_set f (s ∷ stages) (suc job) was is at alike (suc k) = at_set f stages job was is at alike k

-- 1 for a job that hasn't ended
abbrev pub one : List JobStage → ℕ → ℕ
one stages k = cond (not (is_over (slice_get stages k))) 1 0

pub pending-cons : (stages : List JobStage) (k : ℕ) (ks : List ℕ) → pending stages (k ∷ ks) ≡ one stages k + pending stages ks
pending-cons stages k ks = sum_by-cons (one stages) k ks

times-cons : (j k : ℕ) (ks : List ℕ) → times j (k ∷ ks) ≡ cond (k == j) 1 0 + times j ks
times-cons j k ks = sum_by-cons (λ i. cond (i == j) 1 0) k ks

pub pending_same : (old new : List JobStage) → ((k : ℕ) → is_over (slice_get new k) ≡ is_over (slice_get old k)) → (ks : List ℕ) → pending new ks ≡ pending old ks
pending_same old new same [] = refl
pending_same old new same (k ∷ ks) =
    let here : one new k ≡ one old k = ap (λ (b : Bool). cond (not b) 1 0) (same k) in
    let rest = pending_same old new same ks in
    omega (arith, here, rest, pending-cons old k ks, pending-cons new k ks)

one_ends : (stages : List JobStage) (job : ℕ) (is : JobStage) → slice_get stages job ≡ Some stage.Claimed → is_over (Some is) ≡ true
    → (k : ℕ) → (b : Bool) → (k == job) ≡ b → one (set stages job is) k + cond b 1 0 ≡ one stages k
one_ends stages job is at over k true e =
    let same : k ≡ job = eqb-true k job e in
    let was : one stages k ≡ 1 = ap (one stages) same ∙ ap (λ (o : Option JobStage). cond (not (is_over o)) 1 0) at in
    let now : one (set stages job is) k ≡ 0 = ap (one (set stages job is)) same ∙ ap (λ (o : Option JobStage). cond (not (is_over o)) 1 0) (slice_get-set_same stages job is (slice_get_within stages job _ at)) ∙ ap (λ (b : Bool). cond (not b) 1 0) over in
    omega (arith, was, now)
one_ends stages job is at over k false e =
    let same : one (set stages job is) k ≡ one stages k = ap (λ (o : Option JobStage). cond (not (is_over o)) 1 0) (slice_get-set_other stages job k is (λ h. let t : (k == job) ≡ true = eq-eqb k job (sym h) in absurd (cc))) in
    omega (arith, same)

-- what waits for a job that ends waits for one less
pub pending_less : (stages : List JobStage) (job : ℕ) (is : JobStage) → slice_get stages job ≡ Some stage.Claimed → is_over (Some is) ≡ true
    → (ks : List ℕ) → pending (set stages job is) ks + times job ks ≡ pending stages ks
pending_less stages job is at over [] = refl
pending_less stages job is at over (k ∷ ks) =
    let here = one_ends stages job is at over k (k == job) refl in
    let rest = pending_less stages job is at over ks in
    omega (arith, here, rest, pending-cons stages k ks, pending-cons (set stages job is) k ks, times-cons job k ks)

-- ---- which jobs can be claimed

pub is_Free : (s : Option JobStage) → is_free s ≡ true → s ≡ Some stage.Free
is_Free None h = absurd (cc)
is_Free (Some stage.Free) h = refl
is_Free (Some stage.Claimed) h = absurd (cc)
is_Free (Some stage.Ended) h = absurd (cc)
is_Free (Some stage.Settled) h = absurd (cc)

first_over : (stages : List JobStage) (k : ℕ) → one stages k ≡ 0 → is_over (slice_get stages k) ≡ true
first_over stages k none = by_case (is_over (slice_get stages k)) refl
  where
    by_case : (b : Bool) → is_over (slice_get stages k) ≡ b → is_over (slice_get stages k) ≡ true
    by_case true e = e
    by_case false e = let more : one stages k ≡ 1 = ap (λ (b : Bool). cond (not b) 1 0) e in absurd (omega (arith, none, more))

none_pending : (stages : List JobStage) (ks : List ℕ) → pending stages ks ≡ 0 → All (λ k. IsTrue (is_over (slice_get stages k))) ks
none_pending stages [] none i d lt = absurd (omega (arith, lt))
none_pending stages (k ∷ ks) none zero d lt = first_over stages k (let e = pending-cons stages k ks in omega (arith, e, none))
none_pending stages (k ∷ ks) none (suc i) d lt = none_pending stages ks (let e = pending-cons stages k ks in omega (arith, e, none)) i d (omega (arith, lt))

all_over : (stages : List JobStage) (ks : List ℕ) → All (λ k. IsTrue (is_over (slice_get stages k))) ks → pending stages ks ≡ 0
all_over stages [] over = refl
all_over stages (k ∷ ks) over =
    let here : is_over (slice_get stages k) ≡ true = over 0 k (omega arith) in
    let none : one stages k ≡ 0 = ap (λ (b : Bool). cond (not b) 1 0) here in
    let rest = all_over stages ks (λ i d lt. over (suc i) d (omega (arith, lt))) in
    omega (arith, none, rest, pending-cons stages k ks)

pub flag_can : (waits : List (List ℕ)) (stages : List JobStage) (left : List ℕ) (fs : List Bool) (j : ℕ) → IsMarked stages left fs → get_or left j 0 ≡ pending stages (get_or waits j [])
    → flag fs j ≡ true → CanClaim waits stages j
flag_can waits stages left fs j marked is up =
    let both = and_parts _ _ (sym (marked j) ∙ up) in
    (is_Free _ both.0, none_pending stages (get_or waits j []) (sym is ∙ eqb-true _ 0 both.1))

pub can_flag : (waits : List (List ℕ)) (stages : List JobStage) (left : List ℕ) (fs : List Bool) (j : ℕ) → IsMarked stages left fs → get_or left j 0 ≡ pending stages (get_or waits j [])
    → CanClaim waits stages j → flag fs j ≡ true
can_flag waits stages left fs j marked is can =
    let none : (get_or left j 0 == 0) ≡ true = eq-eqb _ 0 (is ∙ all_over stages (get_or waits j []) can.1) in
    marked j ∙ ap (λ (s : Option JobStage). is_free s && (get_or left j 0 == 0)) can.0 ∙ none

-- 1 for a free job
abbrev fresh : JobStage → ℕ
fresh s = cond (is_free (Some s)) 1 0

pub no_free : (stages : List JobStage) → count_by (λ s. is_free (Some s)) stages ≡ 0 → (k : ℕ) → slice_get stages k ≢ Some stage.Free
no_free [] none k at = absurd (cc)
no_free (s ∷ stages) none zero at =
    let free : fresh s ≡ 1 = ap (λ (o : Option JobStage). cond (is_free o) 1 0) at in
    let e = sum_by-cons fresh s stages in
    absurd (omega (arith, none, free, e))
no_free (s ∷ stages) none (suc k) at = no_free stages (let e = sum_by-cons fresh s stages in omega (arith, none, e)) k at

pub some_free : (stages : List JobStage) → 0 < count_by (λ s. is_free (Some s)) stages → (k : ℕ) × (slice_get stages k ≡ Some stage.Free)
some_free [] some = absurd (omega (arith, some))
some_free (s ∷ stages) some = by_case (is_free (Some s)) refl (λ less. some_free stages less)
  where
    by_case : (b : Bool) → is_free (Some s) ≡ b → (0 < count_by (λ s. is_free (Some s)) stages → (k : ℕ) × (slice_get stages k ≡ Some stage.Free))
        → (k : ℕ) × (slice_get (s ∷ stages) k ≡ Some stage.Free)
    by_case true e rest = (0, is_Free (Some s) e)
    by_case false e rest =
        let none : fresh s ≡ 0 = ap (λ (b : Bool). cond b 1 0) e in
        let sum = sum_by-cons fresh s stages in
        let later = rest (omega (arith, some, none, sum)) in
        (suc later.0, later.1)
