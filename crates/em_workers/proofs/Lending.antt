-- The lender's side of several jobs.
--     Both-then, Both-weaken, Both-same      two calls, a call of which less is said, and no call at all
--     serves_none, serves_one, serves_then   no job, one, and some jobs behind others
--     serves_lost      a job was asked for and not committed
--     serves_err, serves_ok        the same, as another error or another value says
--     delivers, delivers_not, delivers_never, delivers_lost      one job, as its settlement was answered, or where nothing was settled
use Rattle.std.proofs.Common.{◌≡◌, ◌+◌, ℕ, zero, suc, inl, inr, List, [], ◌∷◌, ◌++◌, length, map, take, drop, Option, Some, None, Result, Ok, Err, refl, sym, ap, ◌∙◌, append-nil, append_assoc, length-append, arith}
use Rattle.std.specs.Prelude.{All, OnOk, IsErr, ◌⊎◌}
use Rattle.std.proofs.lemmas.List.{drop-drop, map-append}
use Rattle.em_run.specs.Serial.{Made}
use Rattle.em_engine.specs.declared.event.Taken.{Taken}
use Rattle.em_workers.specs.declared.no.BuildNo.{BuildNo}
use Rattle.em_workers.specs.declared.settled.Settled.{Settled}
use Rattle.em_shared.specs.declared.no.SettleNo.TheVariants as refused
use Rattle.em_workers.specs.Lending.{Lending, Asked, asked_then, asked_all, Both, first_of, Lends, Settles, Stops}
use Rattle.em_workers.specs.Commits.{given, settled_by, Delivers, Serves}

module _ {S : Type 0} {P Q R : Lending S → Lending S → Type 0} where
  pub Both-then : (a b c : Option (Lending S)) → ((x y z : Lending S) → P x y → Q y z → R x z) → Both P a b → Both Q b c → Both R a c
  Both-then None None None both p q = tt
  Both-then None None (Some z) both p q = q
  Both-then None (Some y) c both p q = absurd p
  Both-then (Some x) None c both p q = absurd p
  Both-then (Some x) (Some y) None both p q = q
  Both-then (Some x) (Some y) (Some z) both p q = both x y z p q

module _ {S : Type 0} {P R : Lending S → Lending S → Type 0} where
  pub Both-weaken : (a b : Option (Lending S)) → ((x y : Lending S) → P x y → R x y) → Both P a b → Both R a b
  Both-weaken None None less p = tt
  Both-weaken None (Some y) less p = p
  Both-weaken (Some x) None less p = p
  Both-weaken (Some x) (Some y) less p = less x y p

pub Both-same : {S : Type 0} (R : Lending S → Lending S → Type 0) (a : Option (Lending S)) → ((x : Lending S) → R x x) → Both R a a
Both-same R None same = tt
Both-same R (Some x) same = same x

pub on_ok : {A E P Q : Type 0} (r : Result A E) → (P → Q) → OnOk r P → OnOk r Q
on_ok (Ok a) f p = f p
on_ok (Err e) f p = tt

drop-nil : {A : Type 0} (n : ℕ) → drop {A = A} n [] ≡ []
drop-nil zero = refl
drop-nil (suc n) = refl

given-add : {A : Type 0} (n m : ℕ) (ls : List (Option A)) → given (n + m) ls ≡ given n ls ++ given m (drop n ls)
given-add zero m ls = ap (λ (k : ℕ). given k ls) (let e : 0 + m ≡ m = omega arith in e)
given-add (suc n) m [] =
    ap (λ (k : ℕ). given k []) (let e : suc n + m ≡ suc (n + m) = omega arith in e)
    ∙ ap (λ (ks : List (Option _)). None ∷ ks) (given-add n m [] ∙ ap (λ (ks : List (Option _)). given n [] ++ given m ks) (drop-nil n))
given-add (suc n) m (l ∷ ls) = ap (λ (k : ℕ). given k (l ∷ ls)) (let e : suc n + m ≡ suc (n + m) = omega arith in e) ∙ ap (λ (ks : List (Option _)). l ∷ ks) (given-add n m ls)

given-one : {A : Type 0} (ls : List (Option A)) → first_of ls ∷ [] ≡ given 1 ls
given-one [] = refl
given-one (l ∷ ls) = refl

take-nil : {A : Type 0} (n : ℕ) → take {A = A} n [] ≡ []
take-nil zero = refl
take-nil (suc n) = refl

take-sum : {A : Type 0} (n m : ℕ) (xs : List A) → take (n + m) xs ≡ take n xs ++ take m (drop n xs)
take-sum zero m xs = ap (λ (k : ℕ). take k xs) (let e : 0 + m ≡ m = omega arith in e)
take-sum (suc n) m [] = take-nil (suc n + m) ∙ sym (take-nil m)
take-sum (suc n) m (x ∷ xs) = ap (λ (k : ℕ). take k (x ∷ xs)) (let e : suc n + m ≡ suc (n + m) = omega arith in e) ∙ ap (λ (ys : List _). x ∷ ys) (take-sum n m xs)

-- jobs asked for behind others
asked_both : (js ks : List ℕ) (a : Asked) → asked_all (js ++ ks) a ≡ asked_all ks (asked_all js a)
asked_both [] ks a = refl
asked_both (j ∷ js) ks a = asked_both js ks (asked_then j a)

ok_is : {A : Type 0} (r : Result A BuildNo) → OnOk r (Unit {0})
ok_is (Ok a) = tt
ok_is (Err e) = tt

module _ {S : Type 0} (job_of : S → ℕ) where
  asked_one : (js : List S) (j : S) (rest : List S) (a : Asked) → js ≡ j ∷ rest → asked_all (map job_of (take 1 js)) a ≡ asked_then (job_of j) a
  asked_one js j rest a is = ap (λ (ks : List S). asked_all (map job_of (take 1 ks)) a) is

  -- some jobs behind others
  asked_some : (js : List S) (n m : ℕ) (a : Asked) → asked_all (map job_of (take (n + m) js)) a ≡ asked_all (map job_of (take m (drop n js))) (asked_all (map job_of (take n js)) a)
  asked_some js n m a =
      ap (λ (ks : List ℕ). asked_all ks a) (ap (map job_of) (take-sum n m js) ∙ map-append job_of (take n js) (take m (drop n js)))
      ∙ asked_both (map job_of (take n js)) (map job_of (take m (drop n js))) a

  settled-nil : (os : List Made) → settled_by job_of [] os ≡ []
  settled-nil [] = refl
  settled-nil (o ∷ os) = refl

  settled_then : (js : List S) (ms os : List Made) → settled_by job_of js (ms ++ os) ≡ settled_by job_of js ms ++ settled_by job_of (drop (length ms) js) os
  settled_then js [] os = refl
  settled_then [] (m ∷ ms) os = sym (settled-nil os)
  settled_then (j ∷ js) (m ∷ ms) os = ap (λ (ss : List Settled). record { job = job_of j; delta = m.effect.changes; outcome = m.effect.outcome } ∷ ss) (settled_then js ms os)

  module _ {A : Type 0} (js : List S) where
    pub serves_none : (end : Result A BuildNo) (x : Lending S) → Serves job_of js [] [] end x x
    serves_none end x = record {
      lent_is = refl;
      asks = 0;
      few = inl refl;
      exact = on_ok {P = Unit {0}} end (λ u. refl) (ok_is end);
      left = refl;
      asked = refl;
      more = [];
      unsettled = [];
      all = refl;
      settled = sym (append-nil x.settled);
      whole = on_ok {P = Unit {0}} end (λ u. refl) (ok_is end);
    }

    pub serves_lost : (e : BuildNo) (j : S) (rest : List S) (job : ℕ) (lent : Option (Taken S)) (x y : Lending S) → js ≡ j ∷ rest → job ≡ job_of j → Lends job lent x y
        → Serves job_of {A = A} js [] [] (Err e) x y
    serves_lost e j rest job lent x y is same p = record {
      lent_is = refl;
      asks = 1;
      few = inr (omega arith);
      exact = tt;
      left = ap (λ (l : Lending S). l.lends) p.left;
      asked = ap (λ (l : Lending S). l.asked) p.left ∙ ap (λ (k : ℕ). asked_then k x.asked) same ∙ sym (asked_one js j rest x.asked is);
      more = [];
      unsettled = [];
      all = refl;
      settled = ap (λ (l : Lending S). l.settled) p.left ∙ sym (append-nil x.settled);
      whole = tt;
    }

    pub serves_one : (j : S) (rest : List S) (m : Made) (end : Result A BuildNo) (job : ℕ) (lent : Option (Taken S)) (x y z : Lending S) → js ≡ j ∷ rest → job ≡ job_of j → Lends job lent x y
        → Delivers {A = A} (record { job = job_of j; delta = m.effect.changes; outcome = m.effect.outcome }) end y z → Serves job_of js (lent ∷ []) (m ∷ []) end x z
    serves_one j rest m end job lent x y z is same p q = record {
      lent_is = ap (λ (l : Option (Taken S)). l ∷ []) p.lent_is ∙ given-one x.lends;
      asks = 1;
      few = inl refl;
      exact = on_ok {P = Unit {0}} end (λ u. refl) (ok_is end);
      left = q.lends ∙ ap (λ (l : Lending S). l.lends) p.left;
      asked = q.asked ∙ ap (λ (l : Lending S). l.asked) p.left ∙ ap (λ (k : ℕ). asked_then k x.asked) same ∙ sym (asked_one js j rest x.asked is);
      more = q.more;
      unsettled = q.unsettled;
      all = ap (λ (ks : List S). settled_by job_of ks (m ∷ [])) is ∙ q.all;
      settled = q.settled ∙ ap (λ (l : Lending S). l.settled ++ q.more) p.left;
      whole = q.whole;
    }

  module _ {A B : Type 0} (js : List S) (ls : List (Option (Taken S))) (ms : List Made) (x y : Lending S) where
    pub serves_err : (r : Result A BuildNo) (e : BuildNo) → Serves job_of js ls ms r x y → Serves job_of {A = B} js ls ms (Err e) x y
    serves_err r e f = record { lent_is = f.lent_is; asks = f.asks; few = f.few; exact = tt; left = f.left; asked = f.asked; more = f.more; unsettled = f.unsettled; all = f.all; settled = f.settled; whole = tt }

    pub serves_ok : (a : A) (b : B) → Serves job_of js ls ms (Ok a) x y → Serves job_of js ls ms (Ok b) x y
    serves_ok a b f = record { lent_is = f.lent_is; asks = f.asks; few = f.few; exact = f.exact; left = f.left; asked = f.asked; more = f.more; unsettled = f.unsettled; all = f.all; settled = f.settled; whole = f.whole }

  -- stopped behind them
  pub serves_stopped : {A : Type 0} (end : Result A BuildNo) (js : List S) (ls : List (Option (Taken S))) (ms : List Made) (x y z : Lending S) → Serves job_of js ls ms end x y → Stops y z → Serves job_of js ls ms end x z
  serves_stopped end js ls ms x y z f g = record {
    lent_is = f.lent_is;
    asks = f.asks;
    few = f.few;
    exact = f.exact;
    left = ap (λ (k : Lending S). k.lends) g ∙ f.left;
    asked = ap (λ (k : Lending S). k.asked) g ∙ f.asked;
    more = f.more;
    unsettled = f.unsettled;
    all = f.all;
    settled = ap (λ (k : Lending S). k.settled) g ∙ f.settled;
    whole = f.whole;
  }

  pub serves_then : {A B : Type 0} (a : B) (js : List S) (ls ks : List (Option (Taken S))) (ms os : List Made) (end : Result A BuildNo) (x y z : Lending S)
      → Serves job_of {A = B} js ls ms (Ok a) x y → Serves job_of (drop (length ms) js) ks os end y z → Serves job_of js (ls ++ ks) (ms ++ os) end x z
  serves_then a js ls ks ms os end x y z p q = record {
    lent_is =
        ap (λ (l : List (Option (Taken S))). l ++ ks) p.lent_is
        ∙ ap (λ (l : List (Option (Taken S))). given (length ms) x.lends ++ l) (q.lent_is ∙ ap (given (length os)) left)
        ∙ sym (given-add (length ms) (length os) x.lends)
        ∙ ap (λ (n : ℕ). given n x.lends) (sym (length-append ms os));
    asks = length ms + q.asks;
    few = by_few q.few;
    exact = on_ok end (λ (h : q.asks ≡ length os). ap (λ (n : ℕ). length ms + n) h ∙ sym (length-append ms os)) q.exact;
    left = q.left ∙ ap (drop q.asks) left ∙ drop-drop q.asks (length ms) x.lends;
    asked =
        q.asked
        ∙ ap (λ (a : Asked). asked_all (map job_of (take q.asks (drop (length ms) js))) a) (p.asked ∙ ap (λ (n : ℕ). asked_all (map job_of (take n js)) x.asked) p.exact)
        ∙ sym (asked_some js (length ms) q.asks x.asked);
    more = p.more ++ q.more;
    unsettled = q.unsettled;
    all =
        settled_then js ms os
        ∙ ap (λ (ss : List Settled). ss ++ settled_by job_of (drop (length ms) js) os) (p.all ∙ ap (λ (ss : List Settled). p.more ++ ss) p.whole ∙ append-nil p.more)
        ∙ ap (λ (ss : List Settled). p.more ++ ss) q.all
        ∙ sym (append_assoc p.more q.more q.unsettled);
    settled = q.settled ∙ ap (λ (ss : List Settled). ss ++ q.more) p.settled ∙ append_assoc x.settled p.more q.more;
    whole = q.whole;
  }
    where
      left : y.lends ≡ drop (length ms) x.lends
      left = p.left ∙ ap (λ (n : ℕ). drop n x.lends) p.exact

      by_few : (q.asks ≡ length os) ⊎ (q.asks ≡ length os + 1) → (length ms + q.asks ≡ length (ms ++ os)) ⊎ (length ms + q.asks ≡ length (ms ++ os) + 1)
      by_few (inl e) = inl (omega (arith, e, length-append ms os))
      by_few (inr e) = inr (omega (arith, e, length-append ms os))

-- ---- one job

module _ {S : Type 0} (done : Settled) where
  pub delivers_not : {A : Type 0} (r : Result A BuildNo) (a : Option (Lending S)) → IsErr r → Both (Delivers done r) a a
  delivers_not (Ok o) a is = absurd (cc)
  delivers_not {A} (Err e) a is = Both-same (Delivers {A = A} done (Err e)) a
      (λ x. record { lends = refl; asked = refl; more = []; unsettled = done ∷ []; all = refl; settled = sym (append-nil x.settled); whole = tt })

  module _ (a b : Option (Lending S)) where
    pub delivers : (u v : Unit {0}) → Both (Settles done (Ok u)) a b → Both (Delivers {A = Unit {0}} done (Ok v)) a b
    delivers u v p = Both-weaken a b
        (λ x y f. record {
          lends = ap (λ (l : Lending S). l.lends) f.settled;
          asked = ap (λ (l : Lending S). l.asked) f.settled;
          more = done ∷ [];
          unsettled = [];
          all = refl;
          settled = ap (λ (l : Lending S). l.settled) f.settled;
          whole = refl;
        })
        p

    pub delivers_never : {A : Type 0} (r : Result A BuildNo) → Both (Settles done (Err refused.Phase)) a b → Both (Delivers done r) a b
    delivers_never r p = Both-weaken a b (λ x y f. absurd (f.may refl)) p

    pub delivers_lost : (A : Type 0) (e : BuildNo) → Both (Settles done (Err refused.NoMemory)) a b → Both (Delivers {A = A} done (Err e)) a b
    delivers_lost A e p = Both-weaken a b
        (λ x y f. record {
          lends = ap (λ (l : Lending S). l.lends) f.settled;
          asked = ap (λ (l : Lending S). l.asked) f.settled;
          more = [];
          unsettled = done ∷ [];
          all = refl;
          settled = ap (λ (l : Lending S). l.settled) f.settled ∙ sym (append-nil x.settled);
          whole = tt;
        })
        p

-- ---- a list of what is lent

pub first_lent : {X : Type 0} (P : Option X → Type 0) (ls : List (Option X)) → P None → All P ls → P (first_of ls)
first_lent P [] none all = none
first_lent P (l ∷ ls) none all = all 0 l (omega arith)

pub settles : {S : Type 0} (done : Settled) (a b : Lending S) → b ≡ record a { settled = a.settled ++ done ∷ [] } → Settles {S = S} done (Ok (tt {0})) a b
settles done a b is = record { settled = is; may = λ e. absurd (cc) }
