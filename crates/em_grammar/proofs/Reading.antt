-- What the machine reads is what the grammar means.
use Rattle.std.proofs.lemmas.Bool.{eq-eqb}
use Rattle.std.proofs.lemmas.List.{append_assoc, append-nil}
use Rattle.em_grammar.specs.Faults.{Stops, IsFirstFault}
use Rattle.std.proofs.Common.{◌≡◌, ◌⊎◌, inl, inr, ℕ, zero, suc, ◌==◌, Bool, true, false, ◌||◌, ◌&&◌, not, cond, IsTrue, List, [], ◌∷◌, ◌++◌, refl, sym, ap, ◌∙◌, arith}
use Rattle.em_grammar.specs.Production.{Production, empty, one, this, ◌⨾◌, ◌∣◌, many, more, nested, inner, last, balanced, refused, is_among, Lang, Reads, opens, Times, Closes, Balance, Ending, nothing, Opened, Front, Below, Ends, IsWith}
use Rattle.em_grammar.specs.Machine.{Grammar, first_set, nullable, Stack, Next, goes, stops, opened, closed, step, step_below, steps, may_end, Outcome, done, fault, after, run}
use Rattle.em_grammar.specs.Checks.{apart, within, without, lookahead, decided, clears, lives, stays}

-- tests
pub both : (a b : Bool) → (a && b) ≡ true → (a ≡ true) × (b ≡ true)
both true true e = (refl, refl)
both true false e = absurd cc
both false b e = absurd cc

pub one_of : (a b : Bool) → (a || b) ≡ true → (a ≡ true) ⊎ (b ≡ true)
one_of true b e = inl refl
one_of false b e = inr e

pub or_left : (a b : Bool) → a ≡ true → (a || b) ≡ true
or_left true b e = refl
or_left false b e = absurd cc

pub or_right : (a b : Bool) → b ≡ true → (a || b) ≡ true
or_right true b e = refl
or_right false b e = e

pub no : (a : Bool) → not a ≡ true → a ≡ false
no true e = absurd cc
no false e = refl

pub among-append : (n : ℕ) (xs ys : List ℕ) → is_among n (xs ++ ys) ≡ (is_among n xs || is_among n ys)
among-append n [] ys = refl
among-append n (x ∷ xs) ys = elim (n == x) as (λ b. (b || is_among n (xs ++ ys)) ≡ ((b || is_among n xs) || is_among n ys)) [ true ↦ refl | false ↦ among-append n xs ys ]

pub same_among : (n x : ℕ) (ys : List ℕ) → (n == x) ≡ true → is_among x ys ≡ is_among n ys
same_among n x ys e = grind arith

pub apart_at : (n : ℕ) (xs ys : List ℕ) → apart xs ys ≡ true → is_among n ys ≡ true → is_among n xs ≡ false
apart_at n [] ys h m = refl
apart_at n (x ∷ xs) ys h m =
    let p = both (not (is_among x ys)) (apart xs ys) h in
    elim (n == x) as (λ b. (n == x) ≡ b → (b || is_among n xs) ≡ false) [
      | true ↦ λ e. absurd (let k : is_among x ys ≡ false = no _ p.0 in let q = same_among n x ys e in cc)
      | false ↦ λ e. apart_at n xs ys p.1 m
    ] refl

pub within_at : (n : ℕ) (xs ys : List ℕ) → within xs ys ≡ true → is_among n xs ≡ true → is_among n ys ≡ true
within_at n [] ys h m = absurd cc
within_at n (x ∷ xs) ys h m =
    let p = both (is_among x ys) (within xs ys) h in
    elim (n == x) as (λ b. (n == x) ≡ b → (b || is_among n xs) ≡ true → is_among n ys ≡ true) [
      | true ↦ λ e _. sym (same_among n x ys e) ∙ p.0
      | false ↦ λ e k. within_at n xs ys p.1 k
    ] refl m

pub among_without : (n : ℕ) (xs s : List ℕ) → is_among n xs ≡ true → is_among n s ≡ false → is_among n (without xs s) ≡ true
among_without n [] s m k = absurd cc
among_without n (x ∷ xs) s m k =
    elim (is_among x s) as (λ b. is_among x s ≡ b → is_among n (cond b (without xs s) (x ∷ without xs s)) ≡ true) [
      | true ↦ λ e. elim (n == x) as (λ c. (n == x) ≡ c → (c || is_among n xs) ≡ true → is_among n (without xs s) ≡ true) [
        | true ↦ λ f _. absurd (let q = same_among n x s f in cc)
        | false ↦ λ f r. among_without n xs s r k
      ] refl m
      | false ↦ λ e. elim (n == x) as (λ c. (c || is_among n xs) ≡ true → (c || is_among n (without xs s)) ≡ true) [
        | true ↦ λ _. refl
        | false ↦ λ r. among_without n xs s r k
      ] m
    ] refl

pub in_first : (n : ℕ) (xs ys : List ℕ) → is_among n xs ≡ true → is_among n (xs ++ ys) ≡ true
in_first n xs ys m = among-append n xs ys ∙ or_left _ _ m

pub in_second : (n : ℕ) (xs ys : List ℕ) → is_among n ys ≡ true → is_among n (xs ++ ys) ≡ true
in_second n xs ys m = among-append n xs ys ∙ or_right (is_among n xs) (is_among n ys) m

-- more at the end, or in the middle
wider_end : (n : ℕ) (xs ys zs : List ℕ) → is_among n (xs ++ ys) ≡ true → is_among n (xs ++ (ys ++ zs)) ≡ true
wider_end n xs ys zs m = ap (λ l. is_among n l) (sym (append_assoc xs ys zs)) ∙ in_first n (xs ++ ys) zs m

wider_middle : (n : ℕ) (xs ys zs : List ℕ) → is_among n (xs ++ zs) ≡ true → is_among n (xs ++ (ys ++ zs)) ≡ true
wider_middle n xs ys zs m = split (one_of (is_among n xs) (is_among n zs) (sym (among-append n xs zs) ∙ m))
  where
    split : (is_among n xs ≡ true) ⊎ (is_among n zs ≡ true) → is_among n (xs ++ (ys ++ zs)) ≡ true
    split (inl k) = in_first n xs (ys ++ zs) k
    split (inr k) = in_second n xs (ys ++ zs) (in_second n ys zs k)

-- what a front is, wherever it stands: what is left behind it, and that it is one in front of any
-- other language too; or the line has ended with a construct
pub data Behind {T : Type 0} (f : Lang T → Lang T) (K : Lang T) (ts : List T) : Type 1 where
  left_over : (rest : List T) → K rest → ((L : Lang T) → L rest → f L ts) → Behind f K ts
  ended : ((L : Lang T) → f L ts) → Behind f K ts

-- the same front before another language
pub before_other : {T : Type 0} (f : Lang T → Lang T) (K L : Lang T) (ts : List T) → Behind f K ts → ((rest : List T) → K rest → L rest) → f L ts
before_other f K L ts (left_over rest k x) m = x L (m rest k)
before_other f K L ts (ended x) m = x L

chained : {T : Type 0} (f g : Lang T → Lang T) (K : Lang T) (ts : List T) → Behind f (g K) ts → ((us : List T) → g K us → Behind g K us) → Behind (λ L. f (g L)) K ts
chained f g K ts (ended x) k = ended (λ L. x (g L))
chained f g K ts (left_over us h x) k = second (k us h)
  where
    second : Behind g K us → Behind (λ L. f (g L)) K ts
    second (left_over rest l y) = left_over rest l (λ L m. x (g L) (y L m))
    second (ended y) = ended (λ L. x (g L) (y L))

module _ {T : Type 0} (class : T → ℕ) (ending : Ending T) (left : ℕ) (D : Lang T → Lang T) where
  abbrev pub Fr : Production T → Lang T → Lang T
  Fr = Front class ending left D

  reads_behind : (P : T → Type 0) (K : Lang T) (ts : List T) → Reads P K ts → Behind (Reads P) K ts
  reads_behind P K [] h = absurd h
  reads_behind P K (t ∷ ts) h = left_over ts h.1 (λ L l. (h.0, l))

  opened_behind : (n : ℕ) (s : List ℕ) (f : Lang T → Lang T) → ((K : Lang T) (ts : List T) → f K ts → Behind f K ts) → (K : Lang T) (ts : List T) → Opened class ending n s (f K) ts → Behind (λ L. Opened class ending n s (f L)) K ts
  opened_behind zero s f hf K ts h = ended (λ L. h)
  opened_behind (suc n) s f hf K ts h = chained (Reads (λ t. IsTrue (is_among (class t) s))) f K ts (reads_behind (λ t. IsTrue (is_among (class t) s)) (f K) ts h) (hf K)

  pub times_behind : (f : Lang T → Lang T) → ((K : Lang T) (ts : List T) → f K ts → Behind f K ts) → (n : ℕ) (K : Lang T) (ts : List T) → Times n f K ts → Behind (Times n f) K ts
  times_behind f hf zero K ts h = left_over ts h (λ L l. l)
  times_behind f hf (suc n) K ts h = chained f (Times n f) K ts (hf (Times n f K) ts h) (times_behind f hf n K)

  either_behind : (f g : Lang T → Lang T) (K : Lang T) (ts : List T) → (f K ts → Behind f K ts) → (g K ts → Behind g K ts) → f K ts ⊎ g K ts → Behind (λ L us. f L us ⊎ g L us) K ts
  either_behind f g K ts hf hg (inl h) = first (hf h)
    where
      first : Behind f K ts → Behind (λ L us. f L us ⊎ g L us) K ts
      first (left_over r k x) = left_over r k (λ L l. inl (x L l))
      first (ended x) = ended (λ L. inl (x L))
  either_behind f g K ts hf hg (inr h) = second (hg h)
    where
      second : Behind g K ts → Behind (λ L us. f L us ⊎ g L us) K ts
      second (left_over r k x) = left_over r k (λ L l. inr (x L l))
      second (ended x) = ended (λ L. inr (x L))

  last_behind : (s : Production T) (K : Lang T) (ts : List T) → (Fr s K ts → Behind (Fr s) K ts) → K ts ⊎ Fr s K ts → Behind (λ L us. L us ⊎ Fr s L us) K ts
  last_behind s K ts hs (inl h) = left_over ts h (λ L l. inl l)
  last_behind s K ts hs (inr h) = second (hs h)
    where
      second : Behind (Fr s) K ts → Behind (λ L us. L us ⊎ Fr s L us) K ts
      second (left_over r k x) = left_over r k (λ L l. inr (x L l))
      second (ended x) = ended (λ L. inr (x L))

  closes_behind : (k : ℕ) (c : List ℕ) (f : ℕ → Lang T → Lang T) (K : Lang T) (ts : List T) → ((j : ℕ) (us : List T) → f j K us → Behind (f j) K us) → Closes class k c (λ j. f j K) ts → Behind (λ L. Closes class k c (λ j. f j L)) K ts
  closes_behind zero c f K ts hf h = absurd h
  closes_behind (suc k) c f K ts hf h = chained (Reads (λ t. IsTrue (is_among (class t) c))) (f k) K ts (reads_behind (λ t. IsTrue (is_among (class t) c)) (f k K) ts h) (hf k)

  balance_behind : (o : List ℕ) (f : Lang T → Lang T) (c : List ℕ) → ((K : Lang T) (ts : List T) → f K ts → Behind f K ts) → (n k : ℕ) (K : Lang T) (ts : List T) → Balance class n k o f c K ts → Behind (Balance class n k o f c) K ts
  balance_behind o f c hf zero zero K ts h = left_over ts h (λ L l. l)
  balance_behind o f c hf zero (suc k) K ts h = absurd h
  balance_behind o f c hf (suc n) k K ts h =
      either_behind (λ L. f (Balance class n k o f c L)) (λ L us. Reads (λ t. IsTrue (is_among (class t) o)) (Balance class n (suc k) o f c L) us ⊎ Closes class k c (λ j. Balance class n j o f c L) us) K ts
      (λ l. chained f (Balance class n k o f c) K ts (hf (Balance class n k o f c K) ts l) (balance_behind o f c hf n k K))
      (λ l. either_behind (λ L. Reads (λ t. IsTrue (is_among (class t) o)) (Balance class n (suc k) o f c L)) (λ L. Closes class k c (λ j. Balance class n j o f c L)) K ts
      (λ m. chained (Reads (λ t. IsTrue (is_among (class t) o))) (Balance class n (suc k) o f c) K ts (reads_behind (λ t. IsTrue (is_among (class t) o)) (Balance class n (suc k) o f c K) ts m) (balance_behind o f c hf n (suc k) K))
      (λ m. closes_behind k c (λ j. Balance class n j o f c) K ts (λ j. balance_behind o f c hf n j K) m) l) h

  with_count : (n : ℕ) (f : ℕ → Lang T → Lang T) (K : Lang T) (ts : List T) → Behind (f n) K ts → Behind (λ L us. (m : ℕ) × f m L us) K ts
  with_count n f K ts (left_over r k x) = left_over r k (λ L l. (n, x L l))
  with_count n f K ts (ended x) = ended (λ L. (n, x L))

  pub behind : ((K : Lang T) (ts : List T) → D K ts → Behind D K ts) → (e : Production T) (K : Lang T) (ts : List T) → Fr e K ts → Behind (Fr e) K ts
  behind hD empty K ts h = left_over ts h (λ L l. l)
  behind hD (one s) K ts h = reads_behind (λ t. IsTrue (is_among (class t) s)) K ts h
  behind hD (this c u) K ts h = reads_behind (λ t. IsTrue (is_among (class t) c) × (t ≡ u)) K ts h
  behind hD (e ⨾ f) K ts h = chained (Fr e) (Fr f) K ts (behind hD e (Fr f K) ts h) (behind hD f K)
  behind hD (e ∣ f) K ts h = either_behind (Fr e) (Fr f) K ts (behind hD e K ts) (behind hD f K ts) h
  behind hD (many e) K ts h = with_count h.0 (λ n. Times n (Fr e)) K ts (times_behind (Fr e) (behind hD e) h.0 K ts h.1)
  behind hD (more a s) K ts h =
      with_count h.0 (λ n L. Times n (λ M. Fr s (Fr a M)) (λ us. L us ⊎ Fr s L us)) K ts
      (chained (Times h.0 (λ M. Fr s (Fr a M))) (λ L us. L us ⊎ Fr s L us) K ts
      (times_behind (λ M. Fr s (Fr a M)) (λ L us l. chained (Fr s) (Fr a) L us (behind hD s (Fr a L) us l) (behind hD a L)) h.0 (λ us. K us ⊎ Fr s K us) ts h.1)
      (λ us. last_behind s K us (behind hD s K us)))
  behind hD (nested s e) K ts h = opened_behind left s (Fr e) (behind hD e) K ts h
  behind hD inner K ts h = hD K ts h
  behind hD (last s) K ts h = left_over ts h.1 (λ L l. (h.0, l))
  behind hD (balanced k o e c) K ts h = with_count h.0 (λ n. Balance class n k o (Fr e) c) K ts (balance_behind o (Fr e) c (behind hD e) h.0 k K ts h.1)
  behind hD (refused s c) K ts h = ended (λ L. h)

below_behind : {T : Type 0} (class : T → ℕ) (ending : Ending T) (list : Production T) (n : ℕ) (K : Lang T) (ts : List T) → Below class ending list n K ts → Behind (Below class ending list n) K ts
unfolding Below
below_behind class ending list zero K ts h = absurd h
below_behind class ending list (suc n) K ts h = behind class ending n (Below class ending list n) (below_behind class ending list n) list K ts h

module _ {T : Type 0} (class : T → ℕ) (ending : Ending T) (left : ℕ) (D : Lang T → Lang T) (hD : (K : Lang T) (ts : List T) → D K ts → Behind D K ts) where
  abbrev Here : Production T → Lang T → Lang T
  Here = Front class ending left D

  -- what follows in a row: nothing, or a separator and perhaps one more
  more_out : (a s : Production T) (K : Lang T) (ts : List T) → Here (more a s) K ts → K ts ⊎ Here s (Here ((a ⨾ more a s) ∣ empty) K) ts
  more_out a s K ts h = out h.0 h.1
    where
      out_last : K ts ⊎ Here s K ts → K ts ⊎ Here s (Here ((a ⨾ more a s) ∣ empty) K) ts
      out_last (inl k) = inl k
      out_last (inr k) = inr (before_other (Here s) K (Here ((a ⨾ more a s) ∣ empty) K) ts (behind class ending left D hD s K ts k) (λ us l. inr l))

      out : (n : ℕ) → Times n (λ L. Here s (Here a L)) (λ us. K us ⊎ Here s K us) ts → K ts ⊎ Here s (Here ((a ⨾ more a s) ∣ empty) K) ts
      out zero k = out_last k
      out (suc n) k =
          let R = Times n (λ L. Here s (Here a L)) (λ us. K us ⊎ Here s K us) in
          inr (before_other (Here s) (Here a R) (Here ((a ⨾ more a s) ∣ empty) K) ts (behind class ending left D hD s (Here a R) ts k)
          (λ us l. inl (before_other (Here a) R (Here (more a s) K) us (behind class ending left D hD a R us l) (λ vs m. (n, m)))))

  -- a count that stands behind the first
  count_out : (f : Lang T → Lang T) (g : ℕ → Lang T) (ts : List T) → Behind f (λ us. (n : ℕ) × g n us) ts → (n : ℕ) × f (g n) ts
  count_out f g ts (left_over r k x) = (k.0, x (g k.0) k.1)
  count_out f g ts (ended x) = (zero, x (g zero))

  many_in : (e : Production T) (K : Lang T) (ts : List T) → Here e (Here (many e) K) ts → Here (many e) K ts
  many_in e K ts h = let c = count_out (Here e) (λ n. Times n (Here e) K) ts (behind class ending left D hD e (Here (many e) K) ts h) in (suc c.0, c.1)

  -- brackets in balance: nothing, an e, or a bracket that opens or closes, and the rest
  abbrev pub Turn : ℕ → List ℕ → Production T → List ℕ → Lang T → Lang T
  Turn k o e c K ts = Here e (Here (balanced k o e c) K) ts ⊎ (Reads (λ t. IsTrue (is_among (class t) o)) (Here (balanced (suc k) o e c) K) ts ⊎ Closes class k c (λ j. Here (balanced j o e c) K) ts)

  balanced_out : (k : ℕ) (o : List ℕ) (e : Production T) (c : List ℕ) (K : Lang T) (ts : List T) → Here (balanced k o e c) K ts → ((k ≡ 0) × K ts) ⊎ Turn k o e c K ts
  balanced_out k o e c K ts h = out k h.0 h.1
    where
      reads_on : (P : T → Type 0) (A B : Lang T) (ts : List T) → ((us : List T) → A us → B us) → Reads P A ts → Reads P B ts
      reads_on P A B [] m h = h
      reads_on P A B (t ∷ ts) m h = (h.0, m ts h.1)

      closes_on : (k n : ℕ) → Closes class k c (λ j. Balance class n j o (Here e) c K) ts → Closes class k c (λ j. Here (balanced j o e c) K) ts
      closes_on zero n h = h
      closes_on (suc k) n h = reads_on (λ t. IsTrue (is_among (class t) c)) (Balance class n k o (Here e) c K) (Here (balanced k o e c) K) ts (λ us l. (n, l)) h

      turns : (k n : ℕ) → Here e (Balance class n k o (Here e) c K) ts ⊎ (Reads (λ t. IsTrue (is_among (class t) o)) (Balance class n (suc k) o (Here e) c K) ts ⊎ Closes class k c (λ j. Balance class n j o (Here e) c K) ts) → Turn k o e c K ts
      turns k n (inl h) = inl (before_other (Here e) (Balance class n k o (Here e) c K) (Here (balanced k o e c) K) ts (behind class ending left D hD e (Balance class n k o (Here e) c K) ts h) (λ us l. (n, l)))
      turns k n (inr (inl h)) = inr (inl (reads_on (λ t. IsTrue (is_among (class t) o)) (Balance class n (suc k) o (Here e) c K) (Here (balanced (suc k) o e c) K) ts (λ us l. (n, l)) h))
      turns k n (inr (inr h)) = inr (inr (closes_on k n h))

      out : (k n : ℕ) → Balance class n k o (Here e) c K ts → ((k ≡ 0) × K ts) ⊎ Turn k o e c K ts
      out zero zero h = inl (refl, h)
      out (suc k) zero h = absurd h
      out zero (suc n) h = inr (turns zero n h)
      out (suc k) (suc n) h = inr (turns (suc k) n h)

  balanced_item : (k : ℕ) (o : List ℕ) (e : Production T) (c : List ℕ) (K : Lang T) (ts : List T) → Here e (Here (balanced k o e c) K) ts → Here (balanced k o e c) K ts
  balanced_item k o e c K ts h = let x = count_out (Here e) (λ n. Balance class n k o (Here e) c K) ts (behind class ending left D hD e (Here (balanced k o e c) K) ts h) in (suc x.0, inl x.1)

  more_in : (a s : Production T) (K : Lang T) (ts : List T) → Here s (Here ((a ⨾ more a s) ∣ empty) K) ts → Here (more a s) K ts
  more_in a s K ts h = tail (behind class ending left D hD s (Here ((a ⨾ more a s) ∣ empty) K) ts h)
    where
      tail : Behind (Here s) (Here ((a ⨾ more a s) ∣ empty) K) ts → Here (more a s) K ts
      tail (ended x) = (zero, inr (x K))
      tail (left_over us k x) = item k
        where
          item : Here a (Here (more a s) K) us ⊎ K us → Here (more a s) K ts
          item (inr k) = (zero, inr (x K k))
          item (inl k) =
              let R : ℕ → Lang T = λ n. Times n (λ L. Here s (Here a L)) (λ us. K us ⊎ Here s K us) in
              let c = count_out (Here a) R us (behind class ending left D hD a (Here (more a s) K) us k) in
              (suc c.0, x (Here a (R c.0)) c.1)

module _ {T : Type 0} (G : Grammar T) where
  record RowDecided (a s : Production T) (F : List ℕ) : Type 0 where
    sep : decided G s (first_set G.list_first a ++ F) ≡ true
    item : decided G a (first_set G.list_first s ++ F) ≡ true
    some_sep : nullable s ≡ false
    some_item : nullable a ≡ false
    apart_sep : apart (first_set G.list_first s) F ≡ true
    apart_item : apart (first_set G.list_first a) F ≡ true

  row_decided : (a s : Production T) (F : List ℕ) → decided G (more a s) F ≡ true → RowDecided a s F
  row_decided a s F d =
      let p = both (decided G s (first_set G.list_first a ++ F)) (decided G a (first_set G.list_first s ++ F) && (not (nullable s) && (not (nullable a) && (apart (first_set G.list_first s) F && apart (first_set G.list_first a) F)))) d in
      let q = both (decided G a (first_set G.list_first s ++ F)) (not (nullable s) && (not (nullable a) && (apart (first_set G.list_first s) F && apart (first_set G.list_first a) F))) p.1 in
      let r = both (not (nullable s)) (not (nullable a) && (apart (first_set G.list_first s) F && apart (first_set G.list_first a) F)) q.1 in
      let u = both (not (nullable a)) (apart (first_set G.list_first s) F && apart (first_set G.list_first a) F) r.1 in
      let v = both (apart (first_set G.list_first s) F) (apart (first_set G.list_first a) F) u.1 in
      record { sep = p.0; item = q.0; some_sep = no _ r.0; some_item = no _ u.0; apart_sep = v.0; apart_item = v.1 }

  record BalancedDecided (o : List ℕ) (e : Production T) (c F : List ℕ) : Type 0 where
    item : decided G e (o ++ (first_set G.list_first e ++ (c ++ F))) ≡ true
    some : nullable e ≡ false
    apart_begin : apart o (first_set G.list_first e ++ (c ++ F)) ≡ true
    apart_item : apart (first_set G.list_first e) (c ++ F) ≡ true

  balanced_decided : (o : List ℕ) (e : Production T) (c F : List ℕ) → decided G (balanced 0 o e c) F ≡ true → BalancedDecided o e c F
  balanced_decided o e c F d =
      let p = both (decided G e (o ++ (first_set G.list_first e ++ (c ++ F)))) (not (nullable e) && (apart o (first_set G.list_first e ++ (c ++ F)) && apart (first_set G.list_first e) (c ++ F))) d in
      let q = both (not (nullable e)) (apart o (first_set G.list_first e ++ (c ++ F)) && apart (first_set G.list_first e) (c ++ F)) p.1 in
      let r = both (apart o (first_set G.list_first e ++ (c ++ F))) (apart (first_set G.list_first e) (c ++ F)) q.1 in
      record { item = p.0; some = no _ q.0; apart_begin = r.0; apart_item = r.1 }

  wide_balanced : (k : ℕ) (o : List ℕ) (e : Production T) (c F : List ℕ) (t : T) → is_among (G.class t) (lookahead G.list_first (balanced k o e c) F) ≡ true → is_among (G.class t) (o ++ (first_set G.list_first e ++ (c ++ F))) ≡ true
  wide_balanced zero o e c F t m =
      let A = first_set G.list_first e in
      ap (λ l. is_among (G.class t) l) (sym (append_assoc o A (c ++ F))) ∙ wider_middle (G.class t) (o ++ A) c F (ap (λ l. is_among (G.class t) l) (append_assoc o A F) ∙ m)
  wide_balanced (suc k) o e c F t m =
      let A = first_set G.list_first e in
      ap (λ l. is_among (G.class t) (o ++ l)) (sym (append_assoc A c F)) ∙ wider_end (G.class t) o (A ++ c) F m

  -- what stands behind a separator
  tail_decided : (a s : Production T) (F : List ℕ) → decided G (more a s) F ≡ true → decided G ((a ⨾ more a s) ∣ empty) F ≡ true
  tail_decided a s F d =
      let r = row_decided a s F d in
      rw (r.item, r.some_item, r.sep, r.some_sep, r.apart_sep, append-nil (first_set G.list_first a), r.apart_item) refl

  -- the list is decided, isn't empty and begins as it says
  pub record Decided : Type 0 where
    pub list : decided G G.list G.list_follow ≡ true
    pub some : nullable G.list ≡ false
    pub begin : within (first_set G.list_first G.list) G.list_first ≡ true

  abbrev pub Among : T → List ℕ → Type 0
  Among t s = is_among (G.class t) s ≡ true

  module _ (ending : Ending T) where
    -- with so many levels left
    abbrev pub At : ℕ → Production T → Lang T → Lang T
    At left = Front G.class ending left (Below G.class ending G.list left)

    -- what a stack is still to come: each in turn, and the end
    abbrev pub Awaits : Stack T → Lang T
    Awaits [] = Ends
    Awaits ((left, e) ∷ S) = At left e (Awaits S)

    -- where a token leads, with what follows it
    abbrev pub Leads : Next T → T → List T → Type 0
    Leads (goes S) t ts = Awaits S ts
    Leads (stops c) t ts = ending c (t ∷ ts) ≡ true

    -- what a front begins with
    module _ (left : ℕ) (hD : (K : Lang T) (t : T) (ts : List T) → Below G.class ending G.list left K (t ∷ ts) → Among t G.list_first) where
      Starts : Production T → Lang T → T → List T → Type 0
      Starts e K t ts = Among t (first_set G.list_first e) ⊎ ((nullable e ≡ true) × K (t ∷ ts))

      starts_then : (e f : Production T) (K : Lang T) (t : T) (ts : List T) → Starts e (At left f K) t ts → (At left f K (t ∷ ts) → Starts f K t ts) → Starts (e ⨾ f) K t ts
      unfolding Starts
      starts_then e f K t ts (inl m) k = inl (among-append (G.class t) (first_set G.list_first e) (cond (nullable e) (first_set G.list_first f) []) ∙ or_left _ _ m)
      starts_then e f K t ts (inr h) k = starts_second e f K t ts h.0 (k h.1)
        where
          starts_second : (e f : Production T) (K : Lang T) (t : T) (ts : List T) → nullable e ≡ true → Among t (first_set G.list_first f) ⊎ ((nullable f ≡ true) × K (t ∷ ts)) → Among t (first_set G.list_first e ++ cond (nullable e) (first_set G.list_first f) []) ⊎ (((nullable e && nullable f) ≡ true) × K (t ∷ ts))
          starts_second e f K t ts m (inl n) = inl (among-append (G.class t) (first_set G.list_first e) (cond (nullable e) (first_set G.list_first f) []) ∙ or_right (is_among (G.class t) (first_set G.list_first e)) (is_among (G.class t) (cond (nullable e) (first_set G.list_first f) [])) (rw m n))
          starts_second e f K t ts m (inr n) = inr (rw m n.0, n.1)

      starts_either : (e f : Production T) (K : Lang T) (t : T) (ts : List T) → (At left e K (t ∷ ts) → Starts e K t ts) → (At left f K (t ∷ ts) → Starts f K t ts) → At left e K (t ∷ ts) ⊎ At left f K (t ∷ ts) → Starts (e ∣ f) K t ts
      unfolding Starts
      starts_either e f K t ts he hf (inl h) = first (he h)
        where
          first : Among t (first_set G.list_first e) ⊎ ((nullable e ≡ true) × K (t ∷ ts)) → Among t (first_set G.list_first e ++ first_set G.list_first f) ⊎ (((nullable e || nullable f) ≡ true) × K (t ∷ ts))
          first (inl m) = inl (among-append (G.class t) (first_set G.list_first e) (first_set G.list_first f) ∙ or_left _ _ m)
          first (inr m) = inr (or_left _ _ m.0, m.1)
      starts_either e f K t ts he hf (inr h) = second (hf h)
        where
          second : Among t (first_set G.list_first f) ⊎ ((nullable f ≡ true) × K (t ∷ ts)) → Among t (first_set G.list_first e ++ first_set G.list_first f) ⊎ (((nullable e || nullable f) ≡ true) × K (t ∷ ts))
          second (inl m) = inl (among-append (G.class t) (first_set G.list_first e) (first_set G.list_first f) ∙ or_right _ _ m)
          second (inr m) = inr (or_right _ _ m.0, m.1)

      starts_many : (e : Production T) (K : Lang T) (t : T) (ts : List T) → nullable e ≡ false → ((L : Lang T) → At left e L (t ∷ ts) → Starts e L t ts) → (n : ℕ) → Times n (At left e) K (t ∷ ts) → Starts (many e) K t ts
      unfolding Starts
      starts_many e K t ts ne he zero h = inr (refl, h)
      starts_many e K t ts ne he (suc n) h = first (he (Times n (At left e) K) h)
        where
          first : Among t (first_set G.list_first e) ⊎ ((nullable e ≡ true) × Times n (At left e) K (t ∷ ts)) → Among t (first_set G.list_first e) ⊎ ((true ≡ true) × K (t ∷ ts))
          first (inl m) = inl m
          first (inr m) = absurd (let k = m.0 in cc)

      starts_opened : (s : List ℕ) (L : Lang T) (t : T) (ts : List T) → (n : ℕ) → Opened G.class ending n s L (t ∷ ts) → Among t s
      starts_opened s L t ts zero h = h.0
      starts_opened s L t ts (suc n) h = h.0

      abbrev Turned : ℕ → List ℕ → Production T → List ℕ → Lang T → Lang T
      Turned k o e c K = Turn G.class ending left (Below G.class ending G.list left) (below_behind G.class ending G.list left) k o e c K

      starts_balanced : (k : ℕ) (o : List ℕ) (e : Production T) (c : List ℕ) (K : Lang T) (t : T) (ts : List T) → nullable e ≡ false → (At left e (At left (balanced k o e c) K) (t ∷ ts) → Starts e (At left (balanced k o e c) K) t ts) →
          ((k ≡ 0) × K (t ∷ ts)) ⊎ Turned k o e c K (t ∷ ts) → Starts (balanced k o e c) K t ts
      unfolding Starts
      starts_balanced k o e c K t ts ne he (inl h) = rw h.0 (inr (refl, h.1))
      starts_balanced k o e c K t ts ne he (inr (inl h)) = item k (he h)
        where
          item : (k : ℕ) → Among t (first_set G.list_first e) ⊎ ((nullable e ≡ true) × At left (balanced k o e c) K (t ∷ ts)) → Among t (first_set G.list_first (balanced k o e c)) ⊎ ((nullable (balanced k o e c) ≡ true) × K (t ∷ ts))
          item zero (inl m) = inl (among-append (G.class t) o (first_set G.list_first e) ∙ or_right (is_among (G.class t) o) (is_among (G.class t) (first_set G.list_first e)) m)
          item (suc k) (inl m) = inl (among-append (G.class t) o (first_set G.list_first e ++ c) ∙ or_right (is_among (G.class t) o) (is_among (G.class t) (first_set G.list_first e ++ c)) (among-append (G.class t) (first_set G.list_first e) c ∙ or_left _ _ m))
          item zero (inr m) = absurd (let u = m.0 in cc)
          item (suc k) (inr m) = absurd (let u = m.0 in cc)
      starts_balanced k o e c K t ts ne he (inr (inr (inl h))) = inl (begun k)
        where
          begun : (k : ℕ) → Among t (first_set G.list_first (balanced k o e c))
          begun zero = among-append (G.class t) o (first_set G.list_first e) ∙ or_left _ _ h.0
          begun (suc k) = among-append (G.class t) o (first_set G.list_first e ++ c) ∙ or_left _ _ h.0
      starts_balanced zero o e c K t ts ne he (inr (inr (inr h))) = absurd h
      starts_balanced (suc k) o e c K t ts ne he (inr (inr (inr h))) = inl (among-append (G.class t) o (first_set G.list_first e ++ c) ∙ or_right (is_among (G.class t) o) (is_among (G.class t) (first_set G.list_first e ++ c)) (among-append (G.class t) (first_set G.list_first e) c ∙ or_right (is_among (G.class t) (first_set G.list_first e)) (is_among (G.class t) c) h.0))

      starts : (e : Production T) (F : List ℕ) → decided G e F ≡ true → (K : Lang T) (t : T) (ts : List T) → At left e K (t ∷ ts) → Starts e K t ts
      unfolding Starts
      starts empty F d K t ts h = inr (refl, h)
      starts (one s) F d K t ts h = inl h.0
      starts (this c u) F d K t ts h = absurd cc
      starts (e ⨾ f) F d K t ts h =
          let p = both (decided G e (lookahead G.list_first f F)) (decided G f F) d in
          starts_then e f K t ts (starts e (lookahead G.list_first f F) p.0 (At left f K) t ts h) (λ l. starts f F p.1 K t ts l)
      starts (e ∣ f) F d K t ts h =
          let p = both (decided G e F) (decided G f F && (not (nullable e) && apart (first_set G.list_first e) (lookahead G.list_first f F))) d in
          let q = both (decided G f F) (not (nullable e) && apart (first_set G.list_first e) (lookahead G.list_first f F)) p.1 in
          starts_either e f K t ts (λ l. starts e F p.0 K t ts l) (λ l. starts f F q.0 K t ts l) h
      starts (many e) F d K t ts h =
          let p = both (decided G e (first_set G.list_first e ++ F)) (not (nullable e) && apart (first_set G.list_first e) F) d in
          let q = both (not (nullable e)) (apart (first_set G.list_first e) F) p.1 in
          starts_many e K t ts (no _ q.0) (λ L l. starts e (first_set G.list_first e ++ F) p.0 L t ts l) h.0 h.1
      starts (more a s) F d K t ts h =
          let r = row_decided a s F d in
          starts_more (more_out G.class ending left (Below G.class ending G.list left) (below_behind G.class ending G.list left) a s K (t ∷ ts) h)
          (λ l. starts s (first_set G.list_first a ++ F) r.sep (At left ((a ⨾ more a s) ∣ empty) K) t ts l)
        where
          again : nullable s ≡ false → Among t (first_set G.list_first s) ⊎ ((nullable s ≡ true) × At left ((a ⨾ more a s) ∣ empty) K (t ∷ ts)) → Among t (first_set G.list_first s) ⊎ ((true ≡ true) × K (t ∷ ts))
          again ne (inl m) = inl m
          again ne (inr m) = absurd (let k = m.0 in cc)

          starts_more : K (t ∷ ts) ⊎ At left s (At left ((a ⨾ more a s) ∣ empty) K) (t ∷ ts) → (At left s (At left ((a ⨾ more a s) ∣ empty) K) (t ∷ ts) → Starts s (At left ((a ⨾ more a s) ∣ empty) K) t ts) → Among t (first_set G.list_first s) ⊎ ((true ≡ true) × K (t ∷ ts))
          starts_more (inl k) x = inr (refl, k)
          starts_more (inr k) x = again (row_decided a s F d).some_sep (x k)
      starts (nested s e) F d K t ts h = inl (starts_opened s (At left e K) t ts left h)
      starts inner F d K t ts h = inl (hD K t ts h)
      starts (last s) F d K t ts h = inr (refl, h.1)
      starts (balanced k o e c) F d K t ts h =
          let p = both (decided G e (o ++ (first_set G.list_first e ++ (c ++ F)))) (not (nullable e) && (apart o (first_set G.list_first e ++ (c ++ F)) && apart (first_set G.list_first e) (c ++ F))) d in
          let q = both (not (nullable e)) (apart o (first_set G.list_first e ++ (c ++ F)) && apart (first_set G.list_first e) (c ++ F)) p.1 in
          starts_balanced k o e c K t ts (no _ q.0) (λ l. starts e (o ++ (first_set G.list_first e ++ (c ++ F))) p.0 (At left (balanced k o e c) K) t ts l)
          (balanced_out G.class ending left (Below G.class ending G.list left) (below_behind G.class ending G.list left) k o e c K (t ∷ ts) h)
      starts (refused s c) F d K t ts h = inl h.0

      ahead_or : (e : Production T) (F : List ℕ) (K : Lang T) (t : T) (ts : List T) → (K (t ∷ ts) → Among t F) → Among t (first_set G.list_first e) ⊎ ((true ≡ true) × K (t ∷ ts)) → Among t (first_set G.list_first e ++ F)
      ahead_or e F K t ts fol (inl m) = among-append (G.class t) (first_set G.list_first e) F ∙ or_left _ _ m
      ahead_or e F K t ts fol (inr m) = among-append (G.class t) (first_set G.list_first e) F ∙ or_right (is_among (G.class t) (first_set G.list_first e)) (is_among (G.class t) F) (fol m.1)

      -- what stands in front of what follows
      aheads : (e : Production T) (F : List ℕ) → decided G e F ≡ true → (K : Lang T) (t : T) (ts : List T) → (K (t ∷ ts) → Among t F) → At left e K (t ∷ ts) → Among t (lookahead G.list_first e F)
      unfolding Starts
      aheads empty F d K t ts fol h = fol h
      aheads (one s) F d K t ts fol h = h.0
      aheads (this c u) F d K t ts fol h = absurd cc
      aheads (e ⨾ f) F d K t ts fol h =
          let p = both (decided G e (lookahead G.list_first f F)) (decided G f F) d in
          aheads e (lookahead G.list_first f F) p.0 (At left f K) t ts (λ l. aheads f F p.1 K t ts fol l) h
      aheads (e ∣ f) F d K t ts fol h =
          let p = both (decided G e F) (decided G f F && (not (nullable e) && apart (first_set G.list_first e) (lookahead G.list_first f F))) d in
          let q = both (decided G f F) (not (nullable e) && apart (first_set G.list_first e) (lookahead G.list_first f F)) p.1 in
          chosen (λ l. aheads e F p.0 K t ts fol l) (λ l. aheads f F q.0 K t ts fol l) h
        where
          chosen : (At left e K (t ∷ ts) → Among t (lookahead G.list_first e F)) → (At left f K (t ∷ ts) → Among t (lookahead G.list_first f F)) → At left e K (t ∷ ts) ⊎ At left f K (t ∷ ts) → Among t (lookahead G.list_first e F ++ lookahead G.list_first f F)
          chosen x y (inl l) = among-append (G.class t) (lookahead G.list_first e F) (lookahead G.list_first f F) ∙ or_left _ _ (x l)
          chosen x y (inr l) = among-append (G.class t) (lookahead G.list_first e F) (lookahead G.list_first f F) ∙ or_right (is_among (G.class t) (lookahead G.list_first e F)) (is_among (G.class t) (lookahead G.list_first f F)) (y l)
      aheads (many e) F d K t ts fol h = ahead_or e F K t ts fol (starts (many e) F d K t ts h)
      aheads (more a s) F d K t ts fol h = ahead_or s F K t ts fol (starts (more a s) F d K t ts h)
      aheads (nested s e) F d K t ts fol h = starts_opened s (At left e K) t ts left h
      aheads inner F d K t ts fol h = hD K t ts h
      aheads (last s) F d K t ts fol h = among_without (G.class t) F s (fol h.1) h.0
      aheads (balanced zero o e c) F d K t ts fol h = wide (starts (balanced zero o e c) F d K t ts h)
        where
          wide : Among t (o ++ first_set G.list_first e) ⊎ ((true ≡ true) × K (t ∷ ts)) → Among t (o ++ (first_set G.list_first e ++ F))
          wide (inl m) = ap (λ l. is_among (G.class t) l) (sym (append_assoc o (first_set G.list_first e) F)) ∙ among-append (G.class t) (o ++ first_set G.list_first e) F ∙ or_left _ _ m
          wide (inr m) = ap (λ l. is_among (G.class t) l) (sym (append_assoc o (first_set G.list_first e) F)) ∙ among-append (G.class t) (o ++ first_set G.list_first e) F ∙ or_right (is_among (G.class t) (o ++ first_set G.list_first e)) (is_among (G.class t) F) (fol m.1)
      aheads (balanced (suc k) o e c) F d K t ts fol h = only (starts (balanced (suc k) o e c) F d K t ts h)
        where
          only : Among t (o ++ (first_set G.list_first e ++ c)) ⊎ ((false ≡ true) × K (t ∷ ts)) → Among t (o ++ (first_set G.list_first e ++ c))
          only (inl m) = m
          only (inr m) = absurd (let u = m.0 in cc)
      aheads (refused s c) F d K t ts fol h = h.0

    below_begins : Decided → (n : ℕ) (K : Lang T) (t : T) (ts : List T) → Below G.class ending G.list n K (t ∷ ts) → Among t G.list_first
    unfolding Below Starts
    below_begins d zero K t ts h = absurd h
    below_begins d (suc n) K t ts h = first (starts n (below_begins d n) G.list G.list_follow d.list K t ts h)
      where
        first : Among t (first_set G.list_first G.list) ⊎ ((nullable G.list ≡ true) × K (t ∷ ts)) → Among t G.list_first
        first (inl m) = within_at (G.class t) (first_set G.list_first G.list) G.list_first d.begin m
        first (inr m) = absurd (let k = m.0 in let q = d.some in cc)

    -- what stands behind an e in front of S
    module _ (d : Decided) (real : (us : List T) → ending 0 us ≡ false) (t : T) (ts : List T) where
      abbrev pub Goes : Next T → List T → Type 0
      Goes next us = Leads next t us

      unreal : ending 0 (t ∷ ts) ≡ true → ⊥
      unreal h = let k = real (t ∷ ts) in cc

      Fits : Stack T → List ℕ → Type 0
      Fits S F = Awaits S (t ∷ ts) → Among t F

      begins_with : (left : ℕ) (e : Production T) (F : List ℕ) (S : Stack T) → decided G e F ≡ true → At left e (Awaits S) (t ∷ ts) → Starts left (below_begins d left) e (Awaits S) t ts
      begins_with left e F S g h = starts left (below_begins d left) e F g (Awaits S) t ts h

      goes_opened : (n : ℕ) (s : List ℕ) (e : Production T) (S : Stack T) → Opened G.class ending n s (At n e (Awaits S)) (t ∷ ts) → Goes (cond (is_among (G.class t) s) (opened n e S) (stops 0)) ts
      goes_opened zero s e S h = rw h.0 h.1
      goes_opened (suc n) s e S h = rw h.0 h.1

      Complete : ℕ → Production T → (T → Stack T → Next T → Next T) → Type 0
      Complete left e deeper = (F : List ℕ) (S : Stack T) (next : Next T) → decided G e F ≡ true → Fits S F → (nullable e ≡ true → Awaits S (t ∷ ts) → Goes next ts) →
          At left e (Awaits S) (t ∷ ts) → Goes (step G left deeper e t S next) ts

      InnerComplete : ℕ → Type 0
      InnerComplete left = (F : List ℕ) (S : Stack T) (next : Next T) → within F G.list_follow ≡ true → Fits S F → Below G.class ending G.list left (Awaits S) (t ∷ ts) → Goes (step_below G left t S next) ts

      abbrev EitherWay : ℕ → Production T → Production T → Stack T → Next T → Bool → Type 0
      EitherWay left e f S next b = Goes (cond b (step G left (step_below G left) e t S next) (step G left (step_below G left) f t S next)) ts

      abbrev ManyWay : ℕ → Production T → Stack T → Next T → Bool → Type 0
      ManyWay left e S next b = Goes (cond b (step G left (step_below G left) e t ((left, many e) ∷ S) (stops 0)) next) ts

      abbrev RowWay : ℕ → Production T → Production T → Stack T → Next T → Bool → Type 0
      RowWay left a s S next b = Goes (cond b (step G left (step_below G left) s t ((left, (a ⨾ more a s) ∣ empty) ∷ S) (stops 0)) next) ts

      complete : (left : ℕ) → InnerComplete left → (e : Production T) → Complete left e (step_below G left)
      unfolding Complete InnerComplete Fits Starts
      complete left hI empty F S next g fol k h = k refl h
      complete left hI (one s) F S next g fol k h = rw h.0 h.1
      complete left hI (this c u) F S next g fol k h = absurd cc
      complete left hI (e ⨾ f) F S next g fol k h =
          let M = lookahead G.list_first f F in
          let p = both (decided G e M) (decided G f F) g in
          complete left hI e M ((left, f) ∷ S) (step G left (step_below G left) f t S next) p.0
          (λ l. aheads left (below_begins d left) f F p.1 (Awaits S) t ts fol l)
          (λ ne l. complete left hI f F S next p.1 fol (λ nf l. k (rw (ne, nf) refl) l) l) h
      complete left hI (e ∣ f) F S next g fol k h =
          let M = lookahead G.list_first f F in
          let p = both (decided G e F) (decided G f F && (not (nullable e) && apart (first_set G.list_first e) M)) g in
          let q = both (decided G f F) (not (nullable e) && apart (first_set G.list_first e) M) p.1 in
          let r = both (not (nullable e)) (apart (first_set G.list_first e) M) q.1 in
          chosen r.0 r.1
          (λ l. complete left hI e F S next p.0 fol (λ ne l. k (or_left _ _ ne) l) l)
          (λ l. complete left hI f F S next q.0 fol (λ nf l. k (or_right _ _ nf) l) l)
          (λ l. begins_with left e F S p.0 l) (λ l. aheads left (below_begins d left) f F q.0 (Awaits S) t ts fol l) h
        where
          first : not (nullable e) ≡ true → Goes (step G left (step_below G left) e t S next) ts → Among t (first_set G.list_first e) ⊎ ((nullable e ≡ true) × Awaits S (t ∷ ts)) → EitherWay left e f S next (is_among (G.class t) (first_set G.list_first e))
          first ne x (inl m) = rw m x
          first ne x (inr m) = absurd (let u = no _ ne in let v = m.0 in cc)

          second : apart (first_set G.list_first e) (lookahead G.list_first f F) ≡ true → Goes (step G left (step_below G left) f t S next) ts → Among t (lookahead G.list_first f F) → EitherWay left e f S next (is_among (G.class t) (first_set G.list_first e))
          second a x m = rw (apart_at (G.class t) (first_set G.list_first e) (lookahead G.list_first f F) a m) x

          chosen : not (nullable e) ≡ true → apart (first_set G.list_first e) (lookahead G.list_first f F) ≡ true →
              (At left e (Awaits S) (t ∷ ts) → Goes (step G left (step_below G left) e t S next) ts) → (At left f (Awaits S) (t ∷ ts) → Goes (step G left (step_below G left) f t S next) ts) →
              (At left e (Awaits S) (t ∷ ts) → Among t (first_set G.list_first e) ⊎ ((nullable e ≡ true) × Awaits S (t ∷ ts))) →
              (At left f (Awaits S) (t ∷ ts) → Among t (lookahead G.list_first f F)) →
              At left e (Awaits S) (t ∷ ts) ⊎ At left f (Awaits S) (t ∷ ts) → EitherWay left e f S next (is_among (G.class t) (first_set G.list_first e))
          chosen ne a x y sx sy (inl l) = first ne (x l) (sx l)
          chosen ne a x y sx sy (inr l) = second a (y l) (sy l)
      complete left hI (many e) F S next g fol k h =
          let p = both (decided G e (first_set G.list_first e ++ F)) (not (nullable e) && apart (first_set G.list_first e) F) g in
          let q = both (not (nullable e)) (apart (first_set G.list_first e) F) p.1 in
          turned q.0 q.1 (λ l. complete left hI e (first_set G.list_first e ++ F) ((left, many e) ∷ S) (stops 0) p.0 (λ l. follows (begins_with left (many e) F S g l)) (λ ne l. absurd (let u = no _ q.0 in cc)) l)
          (λ L l. starts left (below_begins d left) e (first_set G.list_first e ++ F) p.0 L t ts l) h.0 h.1
        where
          follows : Among t (first_set G.list_first e) ⊎ ((true ≡ true) × Awaits S (t ∷ ts)) → Among t (first_set G.list_first e ++ F)
          follows (inl m) = among-append (G.class t) (first_set G.list_first e) F ∙ or_left _ _ m
          follows (inr m) = among-append (G.class t) (first_set G.list_first e) F ∙ or_right (is_among (G.class t) (first_set G.list_first e)) (is_among (G.class t) F) (fol m.1)

          first : not (nullable e) ≡ true → (L : Lang T) → Goes (step G left (step_below G left) e t ((left, many e) ∷ S) (stops 0)) ts → Among t (first_set G.list_first e) ⊎ ((nullable e ≡ true) × L (t ∷ ts)) → ManyWay left e S next (is_among (G.class t) (first_set G.list_first e))
          first ne L x (inl m) = rw m x
          first ne L x (inr m) = absurd (let u = no _ ne in let v = m.0 in cc)

          turned : not (nullable e) ≡ true → apart (first_set G.list_first e) F ≡ true → (At left e (Awaits ((left, many e) ∷ S)) (t ∷ ts) → Goes (step G left (step_below G left) e t ((left, many e) ∷ S) (stops 0)) ts) →
              ((L : Lang T) → At left e L (t ∷ ts) → Among t (first_set G.list_first e) ⊎ ((nullable e ≡ true) × L (t ∷ ts))) →
              (n : ℕ) → Times n (At left e) (Awaits S) (t ∷ ts) → ManyWay left e S next (is_among (G.class t) (first_set G.list_first e))
          turned ne a x sx zero h = rw (apart_at (G.class t) (first_set G.list_first e) F a (fol h)) (k refl h)
          turned ne a x sx (suc n) h =
              let b = behind G.class ending left (Below G.class ending G.list left) (below_behind G.class ending G.list left) e (Times n (At left e) (Awaits S)) (t ∷ ts) h in
              first ne (Times n (At left e) (Awaits S)) (x (before_other (At left e) (Times n (At left e) (Awaits S)) (Awaits ((left, many e) ∷ S)) (t ∷ ts) b (λ us l. (n, l)))) (sx (Times n (At left e) (Awaits S)) h)
      complete left hI (more a s) F S next g fol k h =
          let r = row_decided a s F g in
          let X = (left, (a ⨾ more a s) ∣ empty) ∷ S in
          rowed (λ l. complete left hI s (first_set G.list_first a ++ F) X (stops 0) r.sep (λ l. follows (begins_with left ((a ⨾ more a s) ∣ empty) F S (tail_decided a s F g) l)) (λ ne l. absurd (let u = r.some_sep in cc)) l)
          (λ l. begins_with left s (first_set G.list_first a ++ F) X r.sep l)
          (more_out G.class ending left (Below G.class ending G.list left) (below_behind G.class ending G.list left) a s (Awaits S) (t ∷ ts) h)
        where
          follows : Among t (first_set G.list_first ((a ⨾ more a s) ∣ empty)) ⊎ ((nullable ((a ⨾ more a s) ∣ empty) ≡ true) × Awaits S (t ∷ ts)) → Among t (first_set G.list_first a ++ F)
          follows (inl m) = among-append (G.class t) (first_set G.list_first a) F ∙ or_left (is_among (G.class t) (first_set G.list_first a)) (is_among (G.class t) F)
              (ap (λ l. is_among (G.class t) l) (sym (append-nil (first_set G.list_first a))) ∙ ap (λ l. is_among (G.class t) l) (sym (append-nil (first_set G.list_first a ++ []))) ∙ ap (λ b. is_among (G.class t) ((first_set G.list_first a ++ cond b (first_set G.list_first s) []) ++ [])) (sym (row_decided a s F g).some_item) ∙ m)
          follows (inr m) = among-append (G.class t) (first_set G.list_first a) F ∙ or_right (is_among (G.class t) (first_set G.list_first a)) (is_among (G.class t) F) (fol m.1)

          first : Goes (step G left (step_below G left) s t ((left, (a ⨾ more a s) ∣ empty) ∷ S) (stops 0)) ts → Among t (first_set G.list_first s) ⊎ ((nullable s ≡ true) × At left ((a ⨾ more a s) ∣ empty) (Awaits S) (t ∷ ts)) → RowWay left a s S next (is_among (G.class t) (first_set G.list_first s))
          first x (inl m) = rw m x
          first x (inr m) = absurd (let u = (row_decided a s F g).some_sep in let v = m.0 in cc)

          rowed : (At left s (Awaits ((left, (a ⨾ more a s) ∣ empty) ∷ S)) (t ∷ ts) → Goes (step G left (step_below G left) s t ((left, (a ⨾ more a s) ∣ empty) ∷ S) (stops 0)) ts) →
              (At left s (Awaits ((left, (a ⨾ more a s) ∣ empty) ∷ S)) (t ∷ ts) → Among t (first_set G.list_first s) ⊎ ((nullable s ≡ true) × At left ((a ⨾ more a s) ∣ empty) (Awaits S) (t ∷ ts))) →
              Awaits S (t ∷ ts) ⊎ At left s (At left ((a ⨾ more a s) ∣ empty) (Awaits S)) (t ∷ ts) → RowWay left a s S next (is_among (G.class t) (first_set G.list_first s))
          rowed x sx (inl l) = rw (apart_at (G.class t) (first_set G.list_first s) F (row_decided a s F g).apart_sep (fol l)) (k refl l)
          rowed x sx (inr l) = first (x l) (sx l)
      complete left hI (nested s e) F S next g fol k h = goes_opened left s e S h
      complete left hI inner F S next g fol k h = hI F S next g fol h
      complete left hI (last s) F S next g fol k h = rw h.0 (k refl h.1)
      complete left hI (balanced j o e c) F S next g fol k h =
          let M = o ++ (first_set G.list_first e ++ (c ++ F)) in
          let p = balanced_decided o e c F g in
          balanced_ways j o e c F S next p (λ l. fol l) k
          (λ l. complete left hI e M ((left, balanced j o e c) ∷ S) (stops 0) p.item (λ l. wide_balanced j o e c F t (aheads left (below_begins d left) (balanced j o e c) F g (Awaits S) t ts fol l)) (λ ne l. absurd (let u = p.some in cc)) l)
          (λ l. first_item e (p.some) (starts left (below_begins d left) e M p.item (At left (balanced j o e c) (Awaits S)) t ts l))
          (balanced_out G.class ending left (Below G.class ending G.list left) (below_behind G.class ending G.list left) j o e c (Awaits S) (t ∷ ts) h)
        where
          first_item : (e : Production T) → nullable e ≡ false → Among t (first_set G.list_first e) ⊎ ((nullable e ≡ true) × At left (balanced j o e c) (Awaits S) (t ∷ ts)) → Among t (first_set G.list_first e)
          first_item e ne (inl m) = m
          first_item e ne (inr m) = absurd (let u = m.0 in cc)

          balanced_ways : (j : ℕ) (o : List ℕ) (e : Production T) (c : List ℕ) (F : List ℕ) (S : Stack T) (next : Next T) → BalancedDecided o e c F → (Awaits S (t ∷ ts) → Among t F) → (nullable (balanced j o e c) ≡ true → Awaits S (t ∷ ts) → Goes next ts) →
              (At left e (At left (balanced j o e c) (Awaits S)) (t ∷ ts) → Goes (step G left (step_below G left) e t ((left, balanced j o e c) ∷ S) (stops 0)) ts) →
              (At left e (At left (balanced j o e c) (Awaits S)) (t ∷ ts) → Among t (first_set G.list_first e)) →
              ((j ≡ 0) × Awaits S (t ∷ ts)) ⊎ Turned left (below_begins d left) j o e c (Awaits S) (t ∷ ts) → Goes (step G left (step_below G left) (balanced j o e c) t S next) ts
          balanced_ways zero o e c F S next p fol k x sx (inl l) =
              let m = fol l.1 in
              rw (apart_at (G.class t) o (first_set G.list_first e ++ (c ++ F)) p.apart_begin (in_second (G.class t) (first_set G.list_first e) (c ++ F) (in_second (G.class t) c F m)), apart_at (G.class t) (first_set G.list_first e) (c ++ F) p.apart_item (in_second (G.class t) c F m)) (k refl l.1)
          balanced_ways (suc j) o e c F S next p fol k x sx (inl l) = absurd (let u = l.0 in cc)
          balanced_ways j o e c F S next p fol k x sx (inr (inl l)) =
              let m = sx l in
              rw (apart_at (G.class t) o (first_set G.list_first e ++ (c ++ F)) p.apart_begin (in_first (G.class t) (first_set G.list_first e) (c ++ F) m), m) (x l)
          balanced_ways j o e c F S next p fol k x sx (inr (inr (inl l))) = rw l.0 l.1
          balanced_ways zero o e c F S next p fol k x sx (inr (inr (inr l))) = absurd l
          balanced_ways (suc j) o e c F S next p fol k x sx (inr (inr (inr l))) =
              rw (apart_at (G.class t) o (first_set G.list_first e ++ (c ++ F)) p.apart_begin (in_second (G.class t) (first_set G.list_first e) (c ++ F) (in_first (G.class t) c F l.0)), apart_at (G.class t) (first_set G.list_first e) (c ++ F) p.apart_item (in_first (G.class t) c F l.0), l.0) l.1
      complete left hI (refused s c) F S next g fol k h = rw h.0 h.1

      inner_complete : (left : ℕ) → InnerComplete left
      unfolding InnerComplete Complete Fits Below step_below
      inner_complete zero F S next w fol h = absurd h
      inner_complete (suc n) F S next w fol h = complete n (inner_complete n) G.list G.list_follow S next d.list (λ l. within_at (G.class t) F G.list_follow w (fol l)) (λ ne l. absurd (let q = d.some in cc)) h

      -- where the machine goes, the grammar does
      sound_opened : (n : ℕ) (s : List ℕ) (e : Production T) (S : Stack T) (b : Bool) → is_among (G.class t) s ≡ b → Goes (cond b (opened n e S) (stops 0)) ts → Opened G.class ending n s (At n e (Awaits S)) (t ∷ ts)
      sound_opened zero s e S true m h = (m, h)
      sound_opened (suc n) s e S true m h = (m, h)
      sound_opened zero s e S false m h = absurd (unreal h)
      sound_opened (suc n) s e S false m h = absurd (unreal h)

      InnerSound : ℕ → Type 0
      InnerSound left = (S : Stack T) (next : Next T) → (Goes next ts → Awaits S (t ∷ ts)) → Goes (step_below G left t S next) ts → Below G.class ending G.list left (Awaits S) (t ∷ ts)

      sound : (left : ℕ) → InnerSound left → (e : Production T) (S : Stack T) (next : Next T) → (Goes next ts → Awaits S (t ∷ ts)) → Goes (step G left (step_below G left) e t S next) ts → At left e (Awaits S) (t ∷ ts)
      unfolding InnerSound
      sound left hI empty S next k h = k h
      sound left hI (one s) S next k h = taken (is_among (G.class t) s) refl h
        where
          taken : (b : Bool) → is_among (G.class t) s ≡ b → Goes (cond b (goes S) (stops 0)) ts → (is_among (G.class t) s ≡ true) × Awaits S ts
          taken true e h = (e, h)
          taken false e h = absurd (unreal h)
      sound left hI (this c u) S next k h = absurd (unreal h)
      sound left hI (e ⨾ f) S next k h = sound left hI e ((left, f) ∷ S) (step G left (step_below G left) f t S next) (λ g. sound left hI f S next k g) h
      sound left hI (e ∣ f) S next k h = chosen (is_among (G.class t) (first_set G.list_first e)) (λ g. sound left hI e S next k g) (λ g. sound left hI f S next k g) h
        where
          chosen : (b : Bool) → (Goes (step G left (step_below G left) e t S next) ts → At left e (Awaits S) (t ∷ ts)) → (Goes (step G left (step_below G left) f t S next) ts → At left f (Awaits S) (t ∷ ts)) →
              EitherWay left e f S next b → At left e (Awaits S) (t ∷ ts) ⊎ At left f (Awaits S) (t ∷ ts)
          chosen true x y h = inl (x h)
          chosen false x y h = inr (y h)
      sound left hI (many e) S next k h = turned (is_among (G.class t) (first_set G.list_first e)) (λ g. sound left hI e ((left, many e) ∷ S) (stops 0) (λ g. absurd (unreal g)) g) h
        where
          turned : (b : Bool) → (Goes (step G left (step_below G left) e t ((left, many e) ∷ S) (stops 0)) ts → At left e (Awaits ((left, many e) ∷ S)) (t ∷ ts)) → ManyWay left e S next b → At left (many e) (Awaits S) (t ∷ ts)
          turned true x h = many_in G.class ending left (Below G.class ending G.list left) (below_behind G.class ending G.list left) e (Awaits S) (t ∷ ts) (x h)
          turned false x h = (zero, k h)
      sound left hI (more a s) S next k h = rowed (is_among (G.class t) (first_set G.list_first s)) (λ g. sound left hI s ((left, (a ⨾ more a s) ∣ empty) ∷ S) (stops 0) (λ g. absurd (unreal g)) g) h
        where
          rowed : (b : Bool) → (Goes (step G left (step_below G left) s t ((left, (a ⨾ more a s) ∣ empty) ∷ S) (stops 0)) ts → At left s (Awaits ((left, (a ⨾ more a s) ∣ empty) ∷ S)) (t ∷ ts)) → RowWay left a s S next b → At left (more a s) (Awaits S) (t ∷ ts)
          rowed true x h = more_in G.class ending left (Below G.class ending G.list left) (below_behind G.class ending G.list left) a s (Awaits S) (t ∷ ts) (x h)
          rowed false x h = (zero, inl (k h))
      sound left hI (nested s e) S next k h = sound_opened left s e S (is_among (G.class t) s) refl h
      sound left hI inner S next k h = hI S next k h
      sound left hI (last s) S next k h = taken (is_among (G.class t) s) refl h
        where
          taken : (b : Bool) → is_among (G.class t) s ≡ b → Goes (cond b (stops 0) next) ts → (is_among (G.class t) s ≡ false) × Awaits S (t ∷ ts)
          taken true e h = absurd (unreal h)
          taken false e h = (e, k h)
      sound left hI (balanced j o e c) S next k h = begun j k (λ g. sound left hI e ((left, balanced j o e c) ∷ S) (stops 0) (λ g. absurd (unreal g)) g) (is_among (G.class t) o) refl h
        where
          ended : (j : ℕ) → (Goes next ts → Awaits S (t ∷ ts)) → (b : Bool) → is_among (G.class t) c ≡ b → Goes (closed j b (λ i. (left, balanced i o e c) ∷ S) next) ts → At left (balanced j o e c) (Awaits S) (t ∷ ts)
          ended zero k b m h = (zero, k h)
          ended (suc j) k true m h = (suc h.0, inr (inr (m, h.1)))
          ended (suc j) k false m h = absurd (unreal h)

          item : (j : ℕ) → (Goes next ts → Awaits S (t ∷ ts)) → (Goes (step G left (step_below G left) e t ((left, balanced j o e c) ∷ S) (stops 0)) ts → At left e (At left (balanced j o e c) (Awaits S)) (t ∷ ts)) → (b : Bool) → is_among (G.class t) (first_set G.list_first e) ≡ b →
              Goes (cond b (step G left (step_below G left) e t ((left, balanced j o e c) ∷ S) (stops 0)) (closed j (is_among (G.class t) c) (λ i. (left, balanced i o e c) ∷ S) next)) ts → At left (balanced j o e c) (Awaits S) (t ∷ ts)
          item j k x true m h = balanced_item G.class ending left (Below G.class ending G.list left) (below_behind G.class ending G.list left) j o e c (Awaits S) (t ∷ ts) (x h)
          item j k x false m h = ended j k (is_among (G.class t) c) refl h

          begun : (j : ℕ) → (Goes next ts → Awaits S (t ∷ ts)) → (Goes (step G left (step_below G left) e t ((left, balanced j o e c) ∷ S) (stops 0)) ts → At left e (At left (balanced j o e c) (Awaits S)) (t ∷ ts)) → (b : Bool) → is_among (G.class t) o ≡ b →
              Goes (cond b (goes ((left, balanced (suc j) o e c) ∷ S)) (cond (is_among (G.class t) (first_set G.list_first e)) (step G left (step_below G left) e t ((left, balanced j o e c) ∷ S) (stops 0)) (closed j (is_among (G.class t) c) (λ i. (left, balanced i o e c) ∷ S) next))) ts →
              At left (balanced j o e c) (Awaits S) (t ∷ ts)
          begun j k x true m h = (suc h.0, inr (inl (m, h.1)))
          begun j k x false m h = item j k x (is_among (G.class t) (first_set G.list_first e)) refl h
      sound left hI (refused s c) S next k h = taken (is_among (G.class t) s) refl h
        where
          taken : (b : Bool) → is_among (G.class t) s ≡ b → ending (cond b c 0) (t ∷ ts) ≡ true → (is_among (G.class t) s ≡ true) × (ending c (t ∷ ts) ≡ true)
          taken true e h = (e, h)
          taken false e h = absurd (unreal h)

      inner_sound : (left : ℕ) → InnerSound left
      unfolding InnerSound Below step_below
      inner_sound zero S next k h = absurd (unreal h)
      inner_sound (suc n) S next k h = sound n (inner_sound n) G.list S next k h

    -- the end
    module _ (d : Decided) where
      End : Production T → Lang T → Type 0
      End e K = (nullable e ≡ true) × K []

      end_opened : (n : ℕ) (s : List ℕ) (L : Lang T) → Opened G.class ending n s L [] → ⊥
      end_opened zero s L h = let u = h.0 in absurd cc
      end_opened (suc n) s L h = h

      end_many : (left n : ℕ) (e : Production T) (K : Lang T) → nullable e ≡ false → ((L : Lang T) → At left e L [] → End e L) → Times n (At left e) K [] → K []
      unfolding End
      end_many left zero e K ne k h = h
      end_many left (suc n) e K ne k h = let q = k (Times n (At left e) K) h in let u = q.0 in absurd cc

      ends : (left : ℕ) → ((K : Lang T) → Below G.class ending G.list left K [] → ⊥) → (e : Production T) (F : List ℕ) → decided G e F ≡ true → (K : Lang T) → At left e K [] → End e K
      unfolding End
      ends left hD empty F g K h = (refl, h)
      ends left hD (one s) F g K h = absurd h
      ends left hD (this c u) F g K h = absurd h
      ends left hD (e ⨾ f) F g K h =
          let M = lookahead G.list_first f F in
          let p = both (decided G e M) (decided G f F) g in
          let a = ends left hD e M p.0 (At left f K) h in
          let b = ends left hD f F p.1 K a.1 in
          (rw (a.0, b.0) refl, b.1)
      ends left hD (e ∣ f) F g K h =
          let M = lookahead G.list_first f F in
          let p = both (decided G e F) (decided G f F && (not (nullable e) && apart (first_set G.list_first e) M)) g in
          let q = both (decided G f F) (not (nullable e) && apart (first_set G.list_first e) M) p.1 in
          chosen (λ l. ends left hD e F p.0 K l) (λ l. ends left hD f F q.0 K l) h
        where
          chosen : (At left e K [] → End e K) → (At left f K [] → End f K) → At left e K [] ⊎ At left f K [] → End (e ∣ f) K
          chosen x y (inl l) = let a = x l in (or_left _ _ a.0, a.1)
          chosen x y (inr l) = let a = y l in (or_right _ _ a.0, a.1)
      ends left hD (many e) F g K h =
          let p = both (decided G e (first_set G.list_first e ++ F)) (not (nullable e) && apart (first_set G.list_first e) F) g in
          let q = both (not (nullable e)) (apart (first_set G.list_first e) F) p.1 in
          (refl, end_many left h.0 e K (no _ q.0) (λ L l. ends left hD e (first_set G.list_first e ++ F) p.0 L l) h.1)
      ends left hD (more a s) F g K h =
          let r = row_decided a s F g in
          (refl, ended r.some_sep (λ l. ends left hD s (first_set G.list_first a ++ F) r.sep (At left ((a ⨾ more a s) ∣ empty) K) l) (more_out G.class ending left (Below G.class ending G.list left) (below_behind G.class ending G.list left) a s K [] h))
        where
          ended : nullable s ≡ false → (At left s (At left ((a ⨾ more a s) ∣ empty) K) [] → End s (At left ((a ⨾ more a s) ∣ empty) K)) → K [] ⊎ At left s (At left ((a ⨾ more a s) ∣ empty) K) [] → K []
          ended ne x (inl k) = k
          ended ne x (inr k) = let q = x k in let u = q.0 in absurd cc
      ends left hD (nested s e) F g K h = absurd (end_opened left s (At left e K) h)
      ends left hD inner F g K h = absurd (hD K h)
      ends left hD (last s) F g K h = (refl, h.1)
      ends left hD (balanced j o e c) F g K h =
          let p = balanced_decided o e c F g in
          ended j p.some (λ l. ends left hD e (o ++ (first_set G.list_first e ++ (c ++ F))) p.item (At left (balanced j o e c) K) l) (balanced_out G.class ending left (Below G.class ending G.list left) (below_behind G.class ending G.list left) j o e c K [] h)
        where
          ended : (j : ℕ) → nullable e ≡ false → (At left e (At left (balanced j o e c) K) [] → End e (At left (balanced j o e c) K)) →
              ((j ≡ 0) × K []) ⊎ Turn G.class ending left (Below G.class ending G.list left) (below_behind G.class ending G.list left) j o e c K [] → (nullable (balanced j o e c) ≡ true) × K []
          ended zero ne x (inl k) = (refl, k.1)
          ended (suc j) ne x (inl k) = absurd (let u = k.0 in cc)
          ended j ne x (inr (inl k)) = absurd (let q = x k in let u = q.0 in cc)
          ended j ne x (inr (inr (inl k))) = absurd k
          ended zero ne x (inr (inr (inr k))) = absurd k
          ended (suc j) ne x (inr (inr (inr k))) = absurd k
      ends left hD (refused s c) F g K h = let u = h.0 in absurd cc

      below_ends : (n : ℕ) (K : Lang T) → Below G.class ending G.list n K [] → ⊥
      unfolding Below End
      below_ends zero K h = h
      below_ends (suc n) K h = let q = ends n (below_ends n) G.list G.list_follow d.list K h in let u = q.0 in let v = d.some in absurd cc

    may_ends : (left : ℕ) (e : Production T) (K : Lang T) → nullable e ≡ true → K [] → At left e K []
    may_ends left empty K m k = k
    may_ends left (one s) K m k = absurd cc
    may_ends left (this c u) K m k = absurd cc
    may_ends left (e ⨾ f) K m k = let p = both (nullable e) (nullable f) m in may_ends left e (At left f K) p.0 (may_ends left f K p.1 k)
    may_ends left (e ∣ f) K m k = chosen (λ n. may_ends left e K n k) (λ n. may_ends left f K n k) (one_of (nullable e) (nullable f) m)
      where
        chosen : (nullable e ≡ true → At left e K []) → (nullable f ≡ true → At left f K []) → (nullable e ≡ true) ⊎ (nullable f ≡ true) → At left e K [] ⊎ At left f K []
        chosen x y (inl n) = inl (x n)
        chosen x y (inr n) = inr (y n)
    may_ends left (many e) K m k = (zero, k)
    may_ends left (more a s) K m k = (zero, inl k)
    may_ends left (nested s e) K m k = absurd cc
    may_ends left inner K m k = absurd cc
    may_ends left (last s) K m k = (refl, k)
    may_ends left (balanced zero o e c) K m k = (zero, k)
    may_ends left (balanced (suc j) o e c) K m k = absurd cc
    may_ends left (refused s c) K m k = absurd cc

  -- what can always be completed
  abbrev pub deep : ℕ → Bool
  deep zero = false
  deep (suc n) = true

  pub record Spelled (classes words : List ℕ) : Type 0 where
    pub spell : (c : ℕ) → is_among c classes ≡ true → (t : T) × (G.class t ≡ c)
    pub lives_list : (b : Bool) → lives b classes words G.list false ≡ true
    pub stays_list : (b : Bool) → stays b classes words G.list false ≡ true

  module _ (d : Decided) (classes words : List ℕ) (w : Spelled classes words) where
    abbrev pub Clear : List T → Type 0
    Clear r = opens G.class r words ≡ false

    -- a completion in front of what completes the rest
    Made : ℕ → Production T → Bool → Lang T → List T → Type 0
    Made left e b K r = (pre : List T) × At nothing left e K (pre ++ r) × (clears (deep left) classes words e b ≡ true → Clear (pre ++ r))

    Makes : ℕ → Production T → Type 1
    Makes left e = (b : Bool) → lives (deep left) classes words e b ≡ true → (K : Lang T) (r : List T) → K r → (b ≡ true → Clear r) → Made left e b K r

    live_opened : (n : ℕ) (x : ℕ) (s : List ℕ) (e : Production T) (b : Bool) (K : Lang T) (r : List T) → (lives (deep n) classes words e b ≡ true → Made n e b K r) → lives (deep n) classes words (nested (x ∷ s) e) b ≡ true → Made n (nested (x ∷ s) e) b K r
    unfolding Made
    live_opened zero x s e b K r k m = absurd cc
    live_opened (suc n) x s e b K r k m =
        let p = both (is_among x classes) (lives true classes words e b) m in
        let y = w.spell x p.0 in
        let z = k p.1 in
        (y.0 ∷ z.0, (rw y.1 (or_left (x == x) (is_among (G.class y.0) s) (eq-eqb x x refl)), z.1), λ n. rw y.1 (no _ n))

    opens_within : (s : List ℕ) (r : List T) → within s words ≡ true → Clear r → opens G.class r s ≡ false
    opens_within s [] i k = refl
    opens_within s (t ∷ r) i k = none (is_among (G.class t) s) refl
      where
        none : (b : Bool) → is_among (G.class t) s ≡ b → b ≡ false
        none true e = absurd (let q = within_at (G.class t) s words i e in cc)
        none false e = refl

    live : (left : ℕ) → (deep left ≡ true → (K : Lang T) (r : List T) → K r → (pre : List T) × Below G.class nothing G.list left K (pre ++ r)) → (e : Production T) → Makes left e
    unfolding Makes Made
    live left hD empty b m K r k c = ([], k, c)
    live left hD (one []) b m K r k c = absurd cc
    live left hD (one (x ∷ s)) b m K r k c =
        let y = w.spell x m in
        (y.0 ∷ [], (rw y.1 (or_left (x == x) (is_among (G.class y.0) s) (eq-eqb x x refl)), k), λ n. rw y.1 (no _ n))
    live left hD (this s u) b m K r k c = absurd cc
    live left hD (e ⨾ f) b m K r k c =
        let cf = clears (deep left) classes words f b in
        let p = both (lives (deep left) classes words e cf) (lives (deep left) classes words f b) m in
        let y = live left hD f b p.1 K r k c in
        let x = live left hD e cf p.0 (At nothing left f K) (y.0 ++ r) y.1 y.2 in
        (x.0 ++ y.0, rw (append_assoc x.0 y.0 r) x.1, λ n. rw (append_assoc x.0 y.0 r) (x.2 n))
    live left hD (e ∣ f) b m K r k c = chosen (lives (deep left) classes words e b) refl (λ n. live left hD e b n K r k c) (λ n. live left hD f b n K r k c) m
      where
        chosen : (z : Bool) → lives (deep left) classes words e b ≡ z → (lives (deep left) classes words e b ≡ true → Made left e b K r) → (lives (deep left) classes words f b ≡ true → Made left f b K r) → (z || lives (deep left) classes words f b) ≡ true →
            (pre : List T) × (At nothing left e K (pre ++ r) ⊎ At nothing left f K (pre ++ r)) × (cond z (clears (deep left) classes words e b) (clears (deep left) classes words f b) ≡ true → Clear (pre ++ r))
        chosen true i x y n = let a = x i in (a.0, inl a.1, a.2)
        chosen false i x y n = let a = y n in (a.0, inr a.1, a.2)
    live left hD (many e) b m K r k c = ([], (zero, k), c)
    live left hD (more a s) b m K r k c = let x = live left hD s b m K r k c in (x.0, (zero, inr x.1), x.2)
    live left hD (nested [] e) b m K r k c = absurd cc
    live left hD (nested (x ∷ s) e) b m K r k c = live_opened left x s e b K r (λ n. live left hD e b n K r k c) m
    live left hD inner b m K r k c = let x = hD m K r k in (x.0, x.1, λ n. absurd cc)
    live left hD (last s) b m K r k c = let p = both b (within s words) m in ([], (opens_within s r p.1 (c p.0), k), c)
    live left hD (balanced j o e []) b m K r k c = absurd cc
    live left hD (balanced j o e (x ∷ s)) b m K r k c = closing j
      where
        closing : (j : ℕ) → (pre : List T) × ((n : ℕ) × Balance G.class n j o (At nothing left e) (x ∷ s) K (pre ++ r)) × ((b && not (is_among x words)) ≡ true → Clear (pre ++ r))
        closing zero = ([], (zero, k), λ n. let p = both b (not (is_among x words)) n in c p.0)
        closing (suc j) =
            let y = w.spell x m in
            let z = closing j in
            (y.0 ∷ z.0, (suc z.1.0, inr (inr (rw y.1 (or_left (x == x) (is_among (G.class y.0) s) (eq-eqb x x refl)), z.1.1))), λ n. let p = both b (not (is_among x words)) n in rw y.1 (no _ p.1))
    live left hD (refused s i) b m K r k c = absurd cc

    live_below : (left : ℕ) → deep left ≡ true → (K : Lang T) (r : List T) → K r → (pre : List T) × Below G.class nothing G.list left K (pre ++ r)
    unfolding Below Made Makes
    live_below zero m K r k = absurd cc
    live_below (suc n) m K r k = let x = live n (live_below n) G.list false (w.lives_list (deep n)) K r k (λ e. absurd cc) in (x.0, x.1)

    -- a stack that reads right and can be completed
    pub Ahead : Stack T → List ℕ → Type 0
    Ahead S F = (ending : Ending T) (t : T) (ts : List T) → Awaits ending S (t ∷ ts) → Among t F

    pub record GoodItem (left : ℕ) (e : Production T) (S : Stack T) (clear f : Bool) : Type 0 where
      pub follow : List ℕ
      pub decides : decided G e follow ≡ true
      pub ahead_is : Ahead S follow
      pub alive : lives (deep left) classes words e clear ≡ true
      pub stay : stays (deep left) classes words e clear ≡ true
      pub clear_is : f ≡ true → clears (deep left) classes words e clear ≡ true

    abbrev pub Good : Stack T → Bool → Type 0
    Good [] f = Unit {0}
    Good ((left, e) ∷ S) f = (clear : Bool) × GoodItem left e S clear f × Good S clear

    abbrev pub GoodNext : Next T → Type 0
    GoodNext (goes S) = (f : Bool) × Good S f
    GoodNext (stops c) = Unit {0}

    ahead_then : (left : ℕ) (f : Production T) (F : List ℕ) (S : Stack T) → decided G f F ≡ true → Ahead S F → Ahead ((left, f) ∷ S) (lookahead G.list_first f F)
    unfolding Ahead
    ahead_then left f F S g fol ending t ts l = aheads ending left (below_begins ending d left) f F g (Awaits ending S) t ts (fol ending t ts) l

    ahead_row : (left : ℕ) (a s : Production T) (F : List ℕ) (S : Stack T) → decided G (more a s) F ≡ true → Ahead S F → Ahead ((left, (a ⨾ more a s) ∣ empty) ∷ S) (first_set G.list_first a ++ F)
    unfolding Ahead Starts
    ahead_row left a s F S g fol ending t ts l = follows (starts ending left (below_begins ending d left) ((a ⨾ more a s) ∣ empty) F (tail_decided a s F g) (Awaits ending S) t ts l)
      where
        follows : Among t (first_set G.list_first ((a ⨾ more a s) ∣ empty)) ⊎ ((nullable ((a ⨾ more a s) ∣ empty) ≡ true) × Awaits ending S (t ∷ ts)) → Among t (first_set G.list_first a ++ F)
        follows (inl m) = among-append (G.class t) (first_set G.list_first a) F ∙ or_left (is_among (G.class t) (first_set G.list_first a)) (is_among (G.class t) F)
            (ap (λ l. is_among (G.class t) l) (sym (append-nil (first_set G.list_first a))) ∙ ap (λ l. is_among (G.class t) l) (sym (append-nil (first_set G.list_first a ++ []))) ∙ ap (λ b. is_among (G.class t) ((first_set G.list_first a ++ cond b (first_set G.list_first s) []) ++ [])) (sym (row_decided a s F g).some_item) ∙ m)
        follows (inr m) = among-append (G.class t) (first_set G.list_first a) F ∙ or_right (is_among (G.class t) (first_set G.list_first a)) (is_among (G.class t) F) (fol ending t ts m.1)

    ahead_balanced : (left k : ℕ) (o : List ℕ) (e : Production T) (c F : List ℕ) (S : Stack T) → decided G (balanced k o e c) F ≡ true → Ahead S F → Ahead ((left, balanced k o e c) ∷ S) (o ++ (first_set G.list_first e ++ (c ++ F)))
    unfolding Ahead
    ahead_balanced left k o e c F S g fol ending t ts l = wide_balanced k o e c F t (aheads ending left (below_begins ending d left) (balanced k o e c) F g (Awaits ending S) t ts (fol ending t ts) l)

    InnerKeeps : ℕ → Type 0
    InnerKeeps left = (F : List ℕ) (b : Bool) (t : T) (S : Stack T) (next : Next T) → within F G.list_follow ≡ true → Ahead S F → Good S b → GoodNext next → GoodNext (step_below G left t S next)

    keeps_cond : (b : Bool) (x y : Next T) → GoodNext x → GoodNext y → GoodNext (cond b x y)
    keeps_cond true x y p q = p
    keeps_cond false x y p q = q

    keeps_opened : (n : ℕ) (s : List ℕ) (e : Production T) (F : List ℕ) (b : Bool) (S : Stack T) → decided G e F ≡ true → Ahead S F → Good S b → stays (deep n) classes words (nested s e) b ≡ true → GoodNext (opened n e S)
    keeps_opened zero s e F b S g a k m = tt
    keeps_opened (suc n) s e F b S g a k m =
        let p = both (lives true classes words e b) (stays true classes words e b) m in
        let item : GoodItem (suc n) e S b (clears true classes words e b) = record { follow = F; decides = g; ahead_is = a; alive = p.0; stay = p.1; clear_is = λ z. z } in
        (clears true classes words e b, (b, item, k))

    weaker : (S : Stack T) (b : Bool) → Good S b → Good S false
    weaker [] b s = tt
    weaker ((left, e) ∷ S) b s = (s.0, record { follow = s.1.follow; decides = s.1.decides; ahead_is = s.1.ahead_is; alive = s.1.alive; stay = s.1.stay; clear_is = λ e. absurd cc }, s.2)

    stays_tail : (left : ℕ) (a s : Production T) (b : Bool) → stays (deep left) classes words (more a s) b ≡ true → stays (deep left) classes words a (clears (deep left) classes words s b) ≡ true → lives (deep left) classes words s b ≡ true → stays (deep left) classes words ((a ⨾ more a s) ∣ empty) b ≡ true
    stays_tail left a s b m p q =
        let cx = clears (deep left) classes words ((a ⨾ more a s) ∣ empty) b in
        let cs = clears (deep left) classes words s b in
        let z = both (stays (deep left) classes words s cx) (stays (deep left) classes words a cs && lives (deep left) classes words s b) m in
        tail _ _ _ p q z.0
      where
        tail : (x y z : Bool) → x ≡ true → y ≡ true → z ≡ true → ((x && (y && (z && (x && y)))) && true) ≡ true
        tail x y z i j k = rw (i, j, k) refl

    keeps : (left : ℕ) → InnerKeeps left → (e : Production T) (F : List ℕ) (b : Bool) (t : T) (S : Stack T) (next : Next T) → decided G e F ≡ true → Ahead S F → stays (deep left) classes words e b ≡ true → Good S b → GoodNext next → GoodNext (step G left (step_below G left) e t S next)
    unfolding InnerKeeps
    keeps left hI empty F b t S next g a m s n = n
    keeps left hI (one c) F b t S next g a m s n = keeps_cond (is_among (G.class t) c) (goes S) (stops 0) (b, s) tt
    keeps left hI (this c u) F b t S next g a m s n = tt
    keeps left hI (e ⨾ f) F b t S next g a m s n =
        let M = lookahead G.list_first f F in
        let cf = clears (deep left) classes words f b in
        let p = both (decided G e M) (decided G f F) g in
        let q = both (stays (deep left) classes words e cf) (lives (deep left) classes words f b && stays (deep left) classes words f b) m in
        let r = both (lives (deep left) classes words f b) (stays (deep left) classes words f b) q.1 in
        let item : GoodItem left f S b cf = record { follow = F; decides = p.1; ahead_is = a; alive = r.0; stay = r.1; clear_is = λ z. z } in
        keeps left hI e M cf t ((left, f) ∷ S) (step G left (step_below G left) f t S next) p.0 (ahead_then left f F S p.1 a) q.0 (b, item, s) (keeps left hI f F b t S next p.1 a r.1 s n)
    keeps left hI (e ∣ f) F b t S next g a m s n =
        let M = lookahead G.list_first f F in
        let p = both (decided G e F) (decided G f F && (not (nullable e) && apart (first_set G.list_first e) M)) g in
        let q = both (decided G f F) (not (nullable e) && apart (first_set G.list_first e) M) p.1 in
        let r = both (stays (deep left) classes words e b) (stays (deep left) classes words f b) m in
        keeps_cond (is_among (G.class t) (first_set G.list_first e)) (step G left (step_below G left) e t S next) (step G left (step_below G left) f t S next) (keeps left hI e F b t S next p.0 a r.0 s n) (keeps left hI f F b t S next q.0 a r.1 s n)
    keeps left hI (many e) F b t S next g a m s n =
        let p = both (decided G e (first_set G.list_first e ++ F)) (not (nullable e) && apart (first_set G.list_first e) F) g in
        let item : GoodItem left (many e) S b b = record { follow = F; decides = g; ahead_is = a; alive = refl; stay = m; clear_is = λ z. z } in
        keeps_cond (is_among (G.class t) (first_set G.list_first e)) (step G left (step_below G left) e t ((left, many e) ∷ S) (stops 0)) next
        (keeps left hI e (first_set G.list_first e ++ F) b t ((left, many e) ∷ S) (stops 0) p.0 (ahead_then left (many e) F S g a) m (b, item, s) tt) n
    keeps left hI (more e c) F b t S next g a m s n =
        let r = row_decided e c F g in
        let X = (e ⨾ more e c) ∣ empty in
        let cx = clears (deep left) classes words X b in
        let cs = clears (deep left) classes words c b in
        let q = both (stays (deep left) classes words c cx) (stays (deep left) classes words e cs && lives (deep left) classes words c b) m in
        let u = both (stays (deep left) classes words e cs) (lives (deep left) classes words c b) q.1 in
        let item : GoodItem left X S b cx = record { follow = F; decides = tail_decided e c F g; ahead_is = a; alive = or_right (lives (deep left) classes words (e ⨾ more e c) b) true refl; stay = stays_tail left e c b m u.0 u.1; clear_is = λ z. z } in
        keeps_cond (is_among (G.class t) (first_set G.list_first c)) (step G left (step_below G left) c t ((left, X) ∷ S) (stops 0)) next
        (keeps left hI c (first_set G.list_first e ++ F) cx t ((left, X) ∷ S) (stops 0) r.sep (ahead_row left e c F S g a) q.0 (b, item, s) tt) n
    keeps left hI (nested c e) F b t S next g a m s n = keeps_cond (is_among (G.class t) c) (opened left e S) (stops 0) (keeps_opened left c e F b S g a s m) tt
    keeps left hI inner F b t S next g a m s n = hI F b t S next g a s n
    keeps left hI (last c) F b t S next g a m s n = keeps_cond (is_among (G.class t) c) (stops 0) next tt n
    keeps left hI (balanced j o e []) F b t S next g a m s n = absurd cc
    keeps left hI (balanced j o e (x ∷ c)) F b t S next g a m s n =
        let p = balanced_decided o e (x ∷ c) F g in
        let cb = b && not (is_among x words) in
        let q = both (is_among x classes) (stays (deep left) classes words e cb) m in
        let item : (i : ℕ) → GoodItem left (balanced i o e (x ∷ c)) S b cb = λ i. record { follow = F; decides = g; ahead_is = a; alive = q.0; stay = m; clear_is = λ z. z } in
        keeps_cond (is_among (G.class t) o) (goes ((left, balanced (suc j) o e (x ∷ c)) ∷ S)) (cond (is_among (G.class t) (first_set G.list_first e)) (step G left (step_below G left) e t ((left, balanced j o e (x ∷ c)) ∷ S) (stops 0)) (closed j (is_among (G.class t) (x ∷ c)) (λ i. (left, balanced i o e (x ∷ c)) ∷ S) next))
        (cb, (b, item (suc j), s))
        (keeps_cond (is_among (G.class t) (first_set G.list_first e)) (step G left (step_below G left) e t ((left, balanced j o e (x ∷ c)) ∷ S) (stops 0)) (closed j (is_among (G.class t) (x ∷ c)) (λ i. (left, balanced i o e (x ∷ c)) ∷ S) next)
        (keeps left hI e (o ++ (first_set G.list_first e ++ ((x ∷ c) ++ F))) cb t ((left, balanced j o e (x ∷ c)) ∷ S) (stops 0) p.item (ahead_balanced left j o e (x ∷ c) F S g a) q.1 (b, item j, s) tt)
        (closing j (λ i. (cb, (b, item i, s)))))
      where
        closing : (j : ℕ) → ((i : ℕ) → GoodNext (goes ((left, balanced i o e (x ∷ c)) ∷ S))) → GoodNext (closed j (is_among (G.class t) (x ∷ c)) (λ i. (left, balanced i o e (x ∷ c)) ∷ S) next)
        closing zero k = n
        closing (suc i) k = keeps_cond (is_among (G.class t) (x ∷ c)) (goes ((left, balanced i o e (x ∷ c)) ∷ S)) (stops 0) (k i) tt
    keeps left hI (refused c k) F b t S next g a m s n = tt

    inner_keeps : (left : ℕ) → InnerKeeps left
    unfolding InnerKeeps step_below Ahead
    inner_keeps zero F b t S next g a s n = tt
    inner_keeps (suc k) F b t S next g a s n = keeps k (inner_keeps k) G.list G.list_follow false t S next d.list (λ ending u us l. within_at (G.class u) F G.list_follow g (a ending u us l)) (w.stays_list (deep k)) (weaker S b s) n

    -- stacks
    Real : Ending T → Type 0
    Real ending = (us : List T) → ending 0 us ≡ false

    sound_stack : (ending : Ending T) → Real ending → (S : Stack T) (t : T) (ts : List T) → Leads ending (steps G S t) t ts → Awaits ending S (t ∷ ts)
    unfolding Real
    sound_stack ending real [] t ts h = absurd (unreal ending d real t ts h)
    sound_stack ending real ((left, e) ∷ S) t ts h = sound ending d real t ts left (inner_sound ending d real t ts left) e S (steps G S t) (λ g. sound_stack ending real S t ts g) h

    complete_stack : (ending : Ending T) → Real ending → (S : Stack T) (f : Bool) → Good S f → (t : T) (ts : List T) → Awaits ending S (t ∷ ts) → Leads ending (steps G S t) t ts
    unfolding Complete Fits Ahead Real
    complete_stack ending real [] f s t ts h = absurd h
    complete_stack ending real ((left, e) ∷ S) f s t ts h = complete ending d real t ts left (inner_complete ending d real t ts left) e s.1.follow S (steps G S t) s.1.decides (s.1.ahead_is ending t ts) (λ ne l. complete_stack ending real S s.0 s.2 t ts l) h

    good_stack : (S : Stack T) (f : Bool) → Good S f → (t : T) → GoodNext (steps G S t)
    good_stack [] f s t = tt
    good_stack ((left, e) ∷ S) f s t = keeps left (inner_keeps left) e s.1.follow s.0 t S (steps G S t) s.1.decides s.1.ahead_is s.1.stay s.2 (good_stack S s.0 s.2 t)

    live_stack : (S : Stack T) (f : Bool) → Good S f → (more : List T) × Awaits nothing S more × (f ≡ true → Clear more)
    unfolding Makes Made
    live_stack [] f s = ([], tt, λ z. refl)
    live_stack ((left, e) ∷ S) f s =
        let y = live_stack S s.0 s.2 in
        let x = live left (live_below left) e s.0 s.1.alive (Awaits nothing S) y.0 y.1 y.2 in
        (x.0 ++ y.0, x.1, λ z. x.2 (s.1.clear_is z))

    goes_on_from : (S : Stack T) (f : Bool) → Good S f → (more : List T) × Awaits nothing S more
    goes_on_from S f s = let x = live_stack S f s in (x.0, x.1)

    end_stack : (ending : Ending T) (S : Stack T) (f : Bool) → Good S f → Awaits ending S [] → may_end S ≡ true
    unfolding End
    end_stack ending [] f s h = refl
    end_stack ending ((left, e) ∷ S) f s h =
        let q = ends ending d left (below_ends ending d left) e s.1.follow s.1.decides (Awaits ending S) h in
        rw q.0 (end_stack ending S s.0 s.2 q.1)

    ended_stack : (ending : Ending T) (S : Stack T) → may_end S ≡ true → Awaits ending S []
    ended_stack ending [] m = tt
    ended_stack ending ((left, e) ∷ S) m = let p = both (nullable e) (may_end S) m in may_ends ending left e (Awaits ending S) p.0 (ended_stack ending S p.1)

    none_real : Real nothing
    unfolding Real
    none_real us = refl

    -- the whole run
    abbrev pub Rightly : Stack T → List T → Outcome T → Type 0
    Rightly S ts done = Awaits nothing S ts
    Rightly S ts (fault c rest) = IsFirstFault (Awaits nothing S) ts rest

    right_end : (S : Stack T) (f : Bool) → Good S f → (b : Bool) → may_end S ≡ b → Rightly S [] (cond b done (fault 0 []))
    right_end S f s true e = ended_stack nothing S e
    right_end S f s false e = record { before = []; whole = refl; goes_on = goes_on_from S f s; stops = λ h. let m = end_stack nothing S f s h in absurd cc }

    stops_on : (S S' : Stack T) (f : Bool) (t : T) (before rest : List T) → Good S f → steps G S t ≡ goes S' → Stops (Awaits nothing S') before rest → Stops (Awaits nothing S) (t ∷ before) rest
    stops_on S S' f t before [] s e k = λ h. k (rw e at (complete_stack nothing none_real S f s t before h))
    stops_on S S' f t before (u ∷ us) s e k = λ more h. k more (rw e at (complete_stack nothing none_real S f s t (before ++ u ∷ more) h))

    right_on : (S S' : Stack T) (f : Bool) (t : T) (ts : List T) (o : Outcome T) → Good S f → steps G S t ≡ goes S' → Rightly S' ts o → Rightly S (t ∷ ts) o
    right_on S S' f t ts done s e h = sound_stack nothing none_real S t ts (rw e h)
    right_on S S' f t ts (fault c rest) s e h = record {
      before = t ∷ h.before;
      whole = ap (λ l. t ∷ l) h.whole;
      goes_on = (h.goes_on.0, sound_stack nothing none_real S t (h.before ++ h.goes_on.0) (rw e h.goes_on.1));
      stops = stops_on S S' f t h.before rest s e h.stops;
    }

    pub right : (ts : List T) (S : Stack T) (f : Bool) → Good S f → Rightly S ts (run G S ts)
    unfolding run
    right [] S f s = right_end S f s (may_end S) refl
    right (t ∷ ts) S f s = right_step S f s t ts (λ S' g s'. right ts S' g s') (steps G S t) refl (good_stack S f s t)
      where
        right_step : (S : Stack T) (f : Bool) → Good S f → (t : T) (ts : List T) → ((S' : Stack T) (g : Bool) → Good S' g → Rightly S' ts (run G S' ts)) → (n : Next T) → steps G S t ≡ n → GoodNext n → Rightly S (t ∷ ts) (after (λ S'. run G S' ts) n (t ∷ ts))
        right_step S f s t ts ih (goes S') e g = right_on S S' f t ts (run G S' ts) s e (ih S' g.0 g.1)
        right_step S f s t ts ih (stops c) e g = record { before = []; whole = refl; goes_on = goes_on_from S f s; stops = λ more h. let k : false ≡ true = rw e at (complete_stack nothing none_real S f s t more h) in absurd cc }

    nothing_ahead : Ahead [] []
    unfolding Ahead
    nothing_ahead ending t ts h = absurd h

    -- one e alone
    good_alone : (left : ℕ) (e : Production T) → decided G e [] ≡ true → lives (deep left) classes words e true ≡ true → stays (deep left) classes words e true ≡ true → Good ((left, e) ∷ []) false
    good_alone left e p q r = (true, record { follow = []; decides = p; ahead_is = nothing_ahead; alive = q; stay = r; clear_is = λ z. absurd cc }, tt)

    pub right_alone : (left : ℕ) (e : Production T) → decided G e [] ≡ true → lives (deep left) classes words e true ≡ true → stays (deep left) classes words e true ≡ true → (ts : List T) → Rightly ((left, e) ∷ []) ts (run G ((left, e) ∷ []) ts)
    right_alone left e p q r ts = right ts ((left, e) ∷ []) false (good_alone left e p q r)

    -- what a run says of the language in which some constructs may end a line
    abbrev pub Tells : Ending T → Outcome T → Type 0
    Tells ending done = Unit {0}
    Tells ending (fault c rest) = ending c rest ≡ true

    tells : (ending : Ending T) → Real ending → (ts : List T) (S : Stack T) (f : Bool) → Good S f → Awaits ending S ts → Tells ending (run G S ts)
    unfolding run
    tells ending real [] S f s h = let e = end_stack ending S f s h in rw e tt
    tells ending real (t ∷ ts) S f s h = at (λ S' g s' l. tells ending real ts S' g s' l) (steps G S t) (good_stack S f s t) (complete_stack ending real S f s t ts h)
      where
        at : ((S' : Stack T) (g : Bool) → Good S' g → Awaits ending S' ts → Tells ending (run G S' ts)) → (n : Next T) → GoodNext n → Leads ending n t ts → Tells ending (after (λ S'. run G S' ts) n (t ∷ ts))
        at ih (goes S') g h = ih S' g.0 g.1 h
        at ih (stops c) g h = h

    told : (ending : Ending T) → Real ending → (ts : List T) (S : Stack T) → Tells ending (run G S ts) → Awaits ending S ts
    unfolding run Real
    told ending real [] S h = at (may_end S) refl h
      where
        at : (b : Bool) → may_end S ≡ b → Tells ending (cond b done (fault 0 [])) → Awaits ending S []
        at true e h = ended_stack ending S e
        at false e h = absurd (let k = real [] in cc)
    told ending real (t ∷ ts) S h = sound_stack ending real S t ts (at (λ S' l. told ending real ts S' l) (steps G S t) h)
      where
        at : ((S' : Stack T) → Tells ending (run G S' ts) → Awaits ending S' ts) → (n : Next T) → Tells ending (after (λ S'. run G S' ts) n (t ∷ ts)) → Leads ending n t ts
        at ih (goes S') h = ih S' h
        at ih (stops c) h = h

    -- a construct that a fault names may end the line there, and no other
    pub named : (ending : Ending T) → ((us : List T) → ending 0 us ≡ false) → (left : ℕ) (e : Production T) (ts : List T) (c : ℕ) (rest : List T) → run G ((left, e) ∷ []) ts ≡ fault c rest → ending c rest ≡ true → IsWith G.class ending G.list left e ts
    unfolding Real
    named ending real left e ts c rest r m = told ending real ts ((left, e) ∷ []) (rw r m)

    pub names : (left : ℕ) (e : Production T) → decided G e [] ≡ true → lives (deep left) classes words e true ≡ true → stays (deep left) classes words e true ≡ true → (ending : Ending T) → ((us : List T) → ending 0 us ≡ false) →
        (ts : List T) (c : ℕ) (rest : List T) → run G ((left, e) ∷ []) ts ≡ fault c rest → IsWith G.class ending G.list left e ts → ending c rest ≡ true
    unfolding Real
    names left e p q r ending real ts c rest is h = rw is at (tells ending real ts ((left, e) ∷ []) false (good_alone left e p q r) h)
