-- Chains: pairs in rising order of job.
--     rising                    a later job is greater
--     open_right, open_left     a step of the search, with its count
--     put_gap, put_over, without_at, without_absent      what a change at the found place makes
--     last_none, last_some      the last pair whose job is below
use Rattle.std.proofs.Common.{◌≡◌, ◌<◌, ◌≤◌, ℕ, zero, suc, ◌+◌, ◌-◌, ◌*◌, ◌^◌, Bool, true, false, cond, not, ◌&&◌, List, [], ◌∷◌, Option, Some, None, length, get_or, set, drop, max, lit<, nat_eq, refl, sym, ap, subst, ◌∙◌, arith, add-one, slice_get}
use Rattle.std.specs.Prelude.{T, IsSome, OnSome, is_some, nat_lt, ◌==◌}
use Rattle.std.specs.List.{insert, remove}
use Rattle.std.specs.declared.cmp.Ordering.{Ordering}
use Rattle.std.specs.declared.cmp.Ordering.TheVariants.{Less, Equal, Greater}
use Rattle.std.specs.Ordering.{nat_cmp, is_lt, is_eq, eq_by_cmp}
use Rattle.std.specs.Cmp.{nat_cmp_is, nat_cmp_total, ranked}
use Rattle.std.specs.FinMap.{find, put, is_sorted}
use Rattle.std.specs.FinMap.Entries.{below_all, by_order, is_sorted-put, is_sorted-where_key}
use Rattle.std.proofs.lemmas.Bool.{lt-ltb, le-ltb}
use Rattle.std.proofs.lemmas.Bool.Decides.{nat_tests}
use Rattle.std.proofs.lemmas.List.Edits.{length-remove}
use Rattle.std.proofs.Math.Nat.{pow-suc, pow-le-pow_right}
use Rattle.em_tree.specs.declared.node.Node.{Node}
use Rattle.em_chain.specs.Pairs.{Pairs}
use Rattle.em_chain.specs.Chains.{IsOpen, from_job, job_in, job_before, last_from, last_below, roomed, without, counted}

-- ---- numbers

less : (x y : ℕ) → x < y → nat_cmp x y ≡ Less
less x y h = sym (nat_cmp_is x y Less h)

same : (x y : ℕ) → x ≡ y → nat_cmp x y ≡ Equal
same x y h = sym (nat_cmp_is x y Equal h)

pub more : (x y : ℕ) → y < x → nat_cmp x y ≡ Greater
more x y h = sym (nat_cmp_is x y Greater h)

pub apart : (x y : ℕ) → y < x → eq_by_cmp nat_cmp x y ≡ false
apart x y h = ap is_eq (more x y h)

lower : (x y : ℕ) → T (is_lt (nat_cmp x y)) → x < y
lower x y = by_rank (nat_cmp x y) refl
  where
    by_rank : (r : Ordering) → r ≡ nat_cmp x y → T (is_lt r) → x < y
    by_rank Less e h = ranked x y Less e
    by_rank Equal e h = absurd h
    by_rank Greater e h = absurd h

pub tied : (x y : ℕ) → eq_by_cmp nat_cmp x y ≡ true → x ≡ y
tied x y = by_rank (nat_cmp x y) refl
  where
    by_rank : (r : Ordering) → r ≡ nat_cmp x y → is_eq r ≡ true → x ≡ y
    by_rank Less e h = absurd (cc)
    by_rank Equal e h = ranked x y Equal e
    by_rank Greater e h = absurd (cc)

upto : (P : ℕ → Type 0) (m k : ℕ) → k < m + 1 → P m → (k < m → P k) → P k
upto P m k lt here below = by_rank (nat_cmp k m) refl
  where
    by_rank : (r : Ordering) → r ≡ nat_cmp k m → P k
    by_rank Less e = below (ranked k m Less e)
    by_rank Equal e = subst P (sym (ranked k m Equal e)) here
    by_rank Greater e = let z : m < k = ranked k m Greater e in absurd (omega arith)

upfrom : (P : ℕ → Type 0) (m k : ℕ) → m ≤ k → P m → (m < k → P k) → P k
upfrom P m k le here above = by_rank (nat_cmp k m) refl
  where
    by_rank : (r : Ordering) → r ≡ nat_cmp k m → P k
    by_rank Less e = let z : k < m = ranked k m Less e in absurd (omega arith)
    by_rank Equal e = subst P (sym (ranked k m Equal e)) here
    by_rank Greater e = above (ranked k m Greater e)

-- ---- in order

first_T : (a b : Bool) → T (a && b) → T a
first_T true b h = tt
first_T false b h = absurd h

second_T : (a b : Bool) → T (a && b) → T b
second_T true b h = h
second_T false b h = absurd h

head_below : (e : ℕ × Option Node) (c : Pairs) → T (is_sorted nat_cmp (e ∷ c)) → T (below_all nat_cmp e.0 c)
head_below e c h = first_T (below_all nat_cmp e.0 c) (is_sorted nat_cmp c) h

tail_sorted : (e : ℕ × Option Node) (c : Pairs) → T (is_sorted nat_cmp (e ∷ c)) → T (is_sorted nat_cmp c)
tail_sorted e c h = second_T (below_all nat_cmp e.0 c) (is_sorted nat_cmp c) h

all_above : (x : ℕ) (c : Pairs) (k : ℕ) → T (below_all nat_cmp x c) → k < length c → x < job_in c k
all_above x [] k h lt = absurd (omega arith)
all_above x (e ∷ c) zero h lt = lower x e.0 (first_T (is_lt (nat_cmp x e.0)) (below_all nat_cmp x c) h)
all_above x (e ∷ c) (suc k) h lt = all_above x c k (second_T (is_lt (nat_cmp x e.0)) (below_all nat_cmp x c) h) (omega arith)

pub rising : (c : Pairs) (i k : ℕ) → T (is_sorted nat_cmp c) → i < k → k < length c → job_in c i < job_in c k
rising [] i k h lt l = absurd (omega arith)
rising (e ∷ c) zero zero h lt l = absurd (omega arith)
rising (e ∷ c) zero (suc k) h lt l = all_above e.0 c k (head_below e c h) (omega arith)
rising (e ∷ c) (suc i) zero h lt l = absurd (omega arith)
rising (e ∷ c) (suc i) (suc k) h lt l = rising c i k (tail_sorted e c h) (omega arith) (omega arith)

-- ---- the search

module _ (j : ℕ) (c : Pairs) (a b m : ℕ) (s : T (is_sorted nat_cmp c)) (o : IsOpen j c a b) (low : a ≤ m) (high : m < b) where
  pub open_right : job_in c m < j → IsOpen j c (m + 1) b
  open_right lt = record {
    ordered = omega arith;
    within = o.within;
    below = λ k h. upto (λ i. job_in c i < j) m k h lt (λ less_m. let r = rising c k m s less_m (let w = o.within in omega arith) in omega (arith, r, lt));
    above = o.above;
  }

  pub open_left : j ≤ job_in c m → IsOpen j c a m
  open_left le = record {
    ordered = low;
    within = (let w = o.within in omega arith);
    below = o.below;
    above = λ k h l. upfrom (λ i. j ≤ job_in c i) m k h le (λ more_m. let r = rising c m k s more_m l in omega (arith, r, le));
  }

pub before_next : (c : Pairs) (m : ℕ) → job_before c (m + 1) ≡ Some (job_in c m)
before_next c m = ap (job_before c) (add-one m)

pub few_next : (s t u v w : ℕ) → s ≤ t → t ≤ s + 1 → t ≤ u → 2 * v ≤ w → 1 ≤ w → 2 ^ (u - t) ≤ max 1 (2 * v) → 2 ^ (u - s) ≤ max 1 (2 * w)
few_next s t u v w up one on half some few =
    let less_steps : u - s ≤ suc (u - t) = omega arith in
    let bigger = pow-le-pow_right {n = 2} (lit< tt) {i = u - s} {j = suc (u - t)} less_steps in
    omega (arith, bigger, pow-suc 2 (u - t), few)

-- ---- a pair's place

open_tail : (j : ℕ) (e : ℕ × Option Node) (c : Pairs) (i : ℕ) → IsOpen j (e ∷ c) (suc i) (suc i) → IsOpen j c i i
open_tail j e c i o = record {
  ordered = omega arith;
  within = (let w = o.within in omega arith);
  below = λ k h. o.below (suc k) (omega arith);
  above = λ k h l. o.above (suc k) (omega arith) (omega arith);
}

open_rest : (j : ℕ) (e : ℕ × Option Node) (c : Pairs) → IsOpen j (e ∷ c) 0 0 → IsOpen j c 0 0
open_rest j e c o = record {
  ordered = omega arith;
  within = omega arith;
  below = λ k h. absurd (omega arith);
  above = λ k h l. o.above (suc k) (omega arith) (omega arith);
}

pub put_gap : (j : ℕ) (v : Option Node) (c : Pairs) (i : ℕ) → IsOpen j c i i → (i < length c → j < job_in c i) → put nat_cmp j v c ≡ insert c i (j, v)
put_gap j v [] zero o g = refl
put_gap j v [] (suc i) o g = (let w = o.within in absurd (omega arith))
put_gap j v (e ∷ c) zero o g = ap (λ r. by_order r ((j, v) ∷ e ∷ c) ((e.0, v) ∷ c) (e ∷ put nat_cmp j v c)) (less j e.0 (g (omega arith)))
put_gap j v (e ∷ c) (suc i) o g =
    ap (λ r. by_order r ((j, v) ∷ e ∷ c) ((e.0, v) ∷ c) (e ∷ put nat_cmp j v c)) (more j e.0 (o.below zero (omega arith)))
    ∙ ap (λ (es : Pairs). e ∷ es) (put_gap j v c i (open_tail j e c i o) (λ l. g (omega arith)))

pub put_over : (j : ℕ) (v : Option Node) (c : Pairs) (i : ℕ) → IsOpen j c i i → i < length c → job_in c i ≡ j → put nat_cmp j v c ≡ set c i (j, v)
put_over j v [] i o l at = absurd (omega arith)
put_over j v (e ∷ c) zero o l at = ap (λ r. by_order r ((j, v) ∷ e ∷ c) ((e.0, v) ∷ c) (e ∷ put nat_cmp j v c)) (same j e.0 (sym at)) ∙ ap (λ (k : ℕ). (k, v) ∷ c) at
put_over j v (e ∷ c) (suc i) o l at =
    ap (λ r. by_order r ((j, v) ∷ e ∷ c) ((e.0, v) ∷ c) (e ∷ put nat_cmp j v c)) (more j e.0 (o.below zero (omega arith)))
    ∙ ap (λ (es : Pairs). e ∷ es) (put_over j v c i (open_tail j e c i o) (omega arith) at)

pub find_none : (j : ℕ) (c : Pairs) → ((k : ℕ) → k < length c → job_in c k ≡ j → ⊥) → find nat_cmp j c ≡ None
find_none j [] h = refl
find_none j (e ∷ c) h = by_case (eq_by_cmp nat_cmp j e.0) refl (find_none j c (λ k l. h (suc k) (omega arith)))
  where
    by_case : (b : Bool) → eq_by_cmp nat_cmp j e.0 ≡ b → find nat_cmp j c ≡ None → cond b (Some e.1) (find nat_cmp j c) ≡ None
    by_case true t r = absurd (h zero (omega arith) (sym (tied j e.0 t)))
    by_case false t r = r

pub find_gap : (j : ℕ) (c : Pairs) (i : ℕ) → T (is_sorted nat_cmp c) → IsOpen j c i i → (i < length c → j < job_in c i) → find nat_cmp j c ≡ None
find_gap j c i s o g = find_none j c (λ k l at. by_rank k l at (nat_cmp k i) refl)
  where
    by_rank : (k : ℕ) → k < length c → job_in c k ≡ j → (r : Ordering) → r ≡ nat_cmp k i → ⊥
    by_rank k l at Less e = let z = o.below k (ranked k i Less e) in omega (arith, z, at)
    by_rank k l at Equal e = let is : k ≡ i = ranked k i Equal e in let z = g (omega arith) in let y : job_in c k ≡ job_in c i = ap (job_in c) is in omega (arith, z, y, at)
    by_rank k l at Greater e = let up = rising c i k s (ranked k i Greater e) l in let z = g (let m : i < k = ranked k i Greater e in omega arith) in omega (arith, up, z, at)

pub find_here : (j : ℕ) (c : Pairs) (i : ℕ) → i < length c → job_in c i ≡ j → IsSome (find nat_cmp j c)
find_here j [] i l at = absurd (omega arith)
find_here j (e ∷ c) zero l at = ap (λ r. is_some (cond (is_eq r) (Some e.1) (find nat_cmp j c))) (same j e.0 (sym at))
find_here j (e ∷ c) (suc i) l at = by_case (eq_by_cmp nat_cmp j e.0) (find_here j c i (omega arith) at)
  where
    by_case : (b : Bool) → IsSome (find nat_cmp j c) → IsSome (cond b (Some e.1) (find nat_cmp j c))
    by_case true r = refl
    by_case false r = r

pub without_absent : (j : ℕ) (c : Pairs) → find nat_cmp j c ≡ None → without j c ≡ c
without_absent j [] h = refl
without_absent j (e ∷ c) h = by_case (eq_by_cmp nat_cmp j e.0) h (without_absent j c)
  where
    by_case : (b : Bool) → cond b (Some e.1) (find nat_cmp j c) ≡ None → (find nat_cmp j c ≡ None → without j c ≡ c) → cond (not b) (e ∷ without j c) (without j c) ≡ e ∷ c
    by_case true h rest = absurd (cc)
    by_case false h rest = ap (λ (es : Pairs). e ∷ es) (rest h)

pub above_absent : (j : ℕ) (c : Pairs) → T (below_all nat_cmp j c) → find nat_cmp j c ≡ None
above_absent j c h = find_none j c (λ k l at. let z = all_above j c k h l in omega (arith, z, at))

pub without_at : (j : ℕ) (c : Pairs) (i : ℕ) → T (is_sorted nat_cmp c) → IsOpen j c i i → i < length c → job_in c i ≡ j → without j c ≡ remove c i
without_at j [] i s o l at = absurd (omega arith)
without_at j (e ∷ c) zero s o l at =
    ap (λ r. cond (not (is_eq r)) (e ∷ without j c) (without j c)) (same j e.0 (sym at))
    ∙ without_absent j c (above_absent j c (subst (λ (k : ℕ). T (below_all nat_cmp k c)) at (head_below e c s)))
without_at j (e ∷ c) (suc i) s o l at =
    ap (λ r. cond (not (is_eq r)) (e ∷ without j c) (without j c)) (more j e.0 (o.below zero (omega arith)))
    ∙ ap (λ (es : Pairs). e ∷ es) (without_at j c i (tail_sorted e c s) (open_tail j e c i o) (omega arith) at)

pub roomed_here : (j : ℕ) (c : Pairs) → IsSome (find nat_cmp j c) → c ≡ roomed j c
roomed_here j c h = ap (λ b. cond b c (put nat_cmp j None c)) (sym h)

pub roomed_new : (j : ℕ) (c : Pairs) → find nat_cmp j c ≡ None → put nat_cmp j None c ≡ roomed j c
roomed_new j c h = ap (λ (o : Option (Option Node)). cond (is_some o) c (put nat_cmp j None c)) (sym h)

-- ---- the last pair below a job

pub last_none : (j : ℕ) (c : Pairs) (found : Option (ℕ × Option Node)) → IsOpen j c 0 0 → last_from found j c ≡ found
last_none j [] found o = refl
last_none j (e ∷ c) found o =
    ap (λ b. last_from (cond b (Some e) found) j c) (le-ltb e.0 j (o.above zero (omega arith) (omega arith))) ∙ last_none j c found (open_rest j e c o)

pub last_some : (j : ℕ) (c : Pairs) (found : Option (ℕ × Option Node)) (i : ℕ) → IsOpen j c (suc i) (suc i) → last_from found j c ≡ slice_get c i
last_some j [] found i o = (let w = o.within in absurd (omega arith))
last_some j (e ∷ c) found zero o =
    ap (λ b. last_from (cond b (Some e) found) j c) (lt-ltb e.0 j (o.below zero (omega arith))) ∙ last_none j c (Some e) (open_tail j e c zero o)
last_some j (e ∷ c) found (suc i) o =
    ap (λ b. last_from (cond b (Some e) found) j c) (lt-ltb e.0 j (o.below zero (omega arith))) ∙ last_some j c (Some e) i (open_tail j e c (suc i) o)

pub counted_bounds : (s : ℕ) → (s ≤ counted s) × (counted s ≤ s + 1)
counted_bounds s = by_case (s == 2 ^ 64 - 1)
  where
    by_case : (b : Bool) → (s ≤ cond b s (s + 1)) × (cond b s (s + 1) ≤ s + 1)
    by_case true = (omega arith, omega arith)
    by_case false = (omega arith, omega arith)

at_get : (c : Pairs) (i : ℕ) (x : ℕ × Option Node) → i < length c → x ≡ get_or c i x → (slice_get c i ≡ Some x) × (job_in c i ≡ x.0)
at_get [] i x l e = absurd (omega arith)
at_get (y ∷ c) zero x l e = (ap (λ (z : ℕ × Option Node). Some z) (sym e), ap (λ (z : ℕ × Option Node). z.0) (sym e))
at_get (y ∷ c) (suc i) x l e = at_get c i x (omega arith) e

pub last_is : (j : ℕ) (c : Pairs) (i b : ℕ) (x : ℕ × Option Node) → IsOpen j c i i → job_before c i ≡ Some b → x ≡ get_or c (i - 1) x → Some (b, x.1) ≡ last_below j c
last_is j c zero b x o before e = absurd (cc)
last_is j c (suc i) b x o before e =
    let w = o.within in
    let at = at_get c i x (omega arith) (e ∙ ap (λ (k : ℕ). get_or c k x) (let k : suc i - 1 ≡ i = omega arith in k)) in
    let first : b ≡ x.0 = (let z : job_in c i ≡ b = (let y : Some (job_in c i) ≡ Some b = before in cc) in sym z ∙ at.1) in
    ap (λ (k : ℕ). Some (k, x.1)) first ∙ sym at.0 ∙ sym (last_some j c None i o)

pub last_nothing : (j : ℕ) (c : Pairs) (i : ℕ) → IsOpen j c i i → job_before c i ≡ None → None ≡ last_below j c
last_nothing j c zero o before = sym (last_none j c None o)
last_nothing j c (suc i) o before = absurd (cc)

-- ---- what the calls leave

module _ (j : ℕ) (h n : Pairs) (is : h ≡ n) where
  pub still_sorted : T (is_sorted nat_cmp h) → T (is_sorted nat_cmp n)
  still_sorted s = subst (λ (c : Pairs). T (is_sorted nat_cmp c)) is s

  pub put_sorted : (v : Option Node) (m : Pairs) → T (is_sorted nat_cmp h) → m ≡ put nat_cmp j v n → T (is_sorted nat_cmp m)
  put_sorted v m s e = subst (λ (c : Pairs). T (is_sorted nat_cmp c)) (sym e) (is_sorted-put nat_cmp nat_cmp_total j v n (still_sorted s))

  pub left_sorted : (m : Pairs) → T (is_sorted nat_cmp h) → m ≡ without j n → T (is_sorted nat_cmp m)
  left_sorted m s e = subst (λ (c : Pairs). T (is_sorted nat_cmp c)) (sym e) (is_sorted-where_key nat_cmp (λ k. not (eq_by_cmp nat_cmp j k)) n (still_sorted s))

  pub erased : (i : ℕ) (m : Pairs) → T (is_sorted nat_cmp h) → IsOpen j n i i × (i < length n) × (job_in n i ≡ j) → m ≡ remove h i → m ≡ without j n
  erased i m s o e = e ∙ ap (λ (c : Pairs). remove c i) is ∙ sym (without_at j n i (still_sorted s) o.0 o.1 o.2)

  pub written : (v : Option Node) (i : ℕ) (m : Pairs) (x : ℕ × Option Node) → IsOpen j n i i × (i < length n) × (job_in n i ≡ j) → x ≡ (j, v) → m ≡ set h i x → m ≡ put nat_cmp j v n
  written v i m x o at e = e ∙ ap (λ (y : ℕ × Option Node). set h i y) at ∙ ap (λ (c : Pairs). set c i (j, v)) is ∙ sym (put_over j v n i o.0 o.1 o.2)

  pub placed : (i : ℕ) (m : Pairs) → T (is_sorted nat_cmp h) → IsOpen j n i i × (i < length n → j < job_in n i) → m ≡ insert h i (j, None) → m ≡ put nat_cmp j None n
  placed i m s o e = e ∙ ap (λ (c : Pairs). insert c i (j, None)) is ∙ sym (put_gap j None n i o.0 o.1)

  pub no_pair : (i : ℕ) → T (is_sorted nat_cmp h) → IsOpen j n i i × (i < length n → j < job_in n i) → find nat_cmp j n ≡ None
  no_pair i s o = find_gap j n i (still_sorted s) o.0 o.1

pub none_some : {A : Type 0} (o : Option A) → o ≡ None → IsSome o → ⊥
none_some None e h = absurd (cc)
none_some (Some x) e h = absurd (cc)

pub some_then : {A : Type 0} (o : Option A) {P : Type 0} → IsSome o → OnSome o P → P
some_then None h p = absurd (cc)
some_then (Some x) h p = p

one_less : (k l n : ℕ) → k + 1 ≡ l → n ≡ l → nat_eq n 1 ≡ nat_eq k 0
one_less zero l n e f = ap (λ (m : ℕ). nat_eq m 1) (let m : n ≡ 1 = omega (arith, e, f) in m)
one_less (suc k) l n e f = grind (arith, nat_tests)

pub only_pair : (j : ℕ) (h m : Pairs) (i n : ℕ) → h ≡ m → T (is_sorted nat_cmp h) → IsOpen j m i i × (i < length m) × (job_in m i ≡ j) → n ≡ length h → nat_eq n 1 ≡ nat_eq (length (without j m)) 0
only_pair j h m i n is s o e =
    let left : without j m ≡ remove m i = without_at j m i (still_sorted j h m is s) o.0 o.1 o.2 in
    one_less (length (without j m)) (length m) n (ap (λ (c : Pairs). length c + 1) left ∙ length-remove m i o.1) (e ∙ ap length is)

-- ---- a chain from a job on

pub from_is : (j : ℕ) (c : Pairs) (i : ℕ) → IsOpen j c i i → from_job j c ≡ drop i c
from_is j [] i o = (let w : i ≡ 0 = (let z = o.within in omega (arith, z)) in sym (ap (λ (k : ℕ). drop k []) w))
from_is j (e ∷ c) zero o = ap (λ b. cond (not b) (e ∷ from_job j c) (from_job j c)) (le-ltb e.0 j (o.above zero (omega arith) (omega arith))) ∙ ap (λ (es : Pairs). e ∷ es) (from_is j c zero (open_rest j e c o))
from_is j (e ∷ c) (suc i) o = ap (λ b. cond (not b) (e ∷ from_job j c) (from_job j c)) (lt-ltb e.0 j (o.below zero (omega arith))) ∙ from_is j c i (open_tail j e c i o)

pub from_sorted : (j : ℕ) (c : Pairs) → T (is_sorted nat_cmp c) → T (is_sorted nat_cmp (from_job j c))
from_sorted j c = is_sorted-where_key nat_cmp (λ k. not (nat_lt k j)) c

pub cut_here : (j : ℕ) (h n : Pairs) (i : ℕ) (m : Pairs) → h ≡ n → IsOpen j n i i → m ≡ drop i h → m ≡ from_job j n
cut_here j h n i m is o e = e ∙ ap (drop i) is ∙ sym (from_is j n i o)

abbrev nil : {A : Type 0} → List A
nil = []

pub drop_more : {A : Type 0} (k : ℕ) (xs : List A) → drop 1 (drop k xs) ≡ drop (k + 1) xs
drop_more zero xs = refl
drop_more {A = A} (suc k) [] = ap (λ (n : ℕ). drop n (nil {A = A})) (sym (add-one (suc k)))
drop_more (suc k) (x ∷ xs) = drop_more k xs ∙ ap (λ (n : ℕ). drop n (x ∷ xs)) (let e : suc (k + 1) ≡ suc k + 1 = omega arith in e)
