-- The small parts: fixed bytes, blanks, runs, causes and names.
use Rattle.std.proofs.Common.{◌≡◌, ◌≢◌, ℕ, suc, ◌+◌, ◌<◌, ◌≤◌, ◌==◌, not, nat_lt, Bool, true, false, cond, ◌⊎◌, inl, inr, List, [], ◌∷◌, ◌++◌, length, take, drop, Option, Some, None, Result, Ok, Err, decimal, refl, sym, ap, subst, ◌∙◌, arith}
use Rattle.std.specs.List.{list_all}
use Rattle.std.proofs.lemmas.Bool.{and_parts, eqb-true, eqb-false, lt-ltb, ltb-true}
use Rattle.std.proofs.lemmas.List.{take-append-drop, length-take-le}
use Rattle.std.proofs.lemmas.Fmt.{decimal_digit}
use Rattle.em_history.specs.Names.{is_name, parts_names}
use Rattle.em_report.specs.declared.report.CauseWord.{CauseWord}
use Rattle.em_report.specs.declared.report.CauseWord.TheVariants as cause
use Rattle.em_report.specs.Reports.{word_of}
use Rattle.em_report.specs.Parts.{◌>>=◌, Here, here, skip, fixed_at, fixed_in, text_at, spaced, runs_at, runs_in, begun_by, cause_of, cause_in, cause_at, name_len, name_at, gap_in, gap_at}
use Rattle.em_report.specs.Reading.{next}
use Rattle.em_report.proofs.Languages.{Lang, Took, Reads, Where, then_reads, map_reads, narrow_reads, done, stuck_here, took_byte}
use Rattle.em_report.proofs.Digits.{span, passes_behind}

-- ---- fixed bytes

abbrev pub Fixed : List ℕ → Lang (Unit {0})
Fixed bs = record { valid = λ _. Unit {0}; text = λ _. bs; follow = λ _. true }

-- a test of the byte that stands there
by_test : {A : Type 0} (L : Lang A) (h : Here) (b : Bool) (x y : Result (A × Here) ℕ) → (b ≡ true → Reads L h x) → (b ≡ false → Reads L h y) → Reads L h (cond b x y)
by_test L h true x y f g = f refl
by_test L h false x y f g = g refl

pub fixed_reads : (b : ℕ) → 0 < b → (h : Here) → Reads (Fixed (b ∷ [])) h (fixed_at b h)
fixed_reads b some h = by h.at h.rest
  where
    by : (at : ℕ) (bs : List ℕ) → Reads (Fixed (b ∷ [])) (here at bs) (fixed_in b at bs)
    by at [] = stuck_here (Fixed (b ∷ [])) (here at []) tt tt (λ y v a w g e. let z : b ≡ 0 = cc in omega arith)
    by at (c ∷ cs) = by_test (Fixed (b ∷ [])) (here at (c ∷ cs)) (c == b) (Ok (tt, here (at + 1) cs)) (Err at)
        (λ e. let same : c ≡ b = eqb-true c b e in took_byte (Fixed (b ∷ [])) at c cs tt tt (ap (λ (z : ℕ). z ∷ []) (sym same)) (λ y v a w k. refl))
        (λ e. stuck_here (Fixed (b ∷ [])) (here at (c ∷ cs)) tt tt (λ y v a w g k. let same : c ≡ b = cc in eqb-false c b e same))

pub text_reads : (bs : List ℕ) → list_all (nat_lt 0) bs ≡ true → (h : Here) → Reads (Fixed bs) h (text_at bs h)
unfolding text_at
text_reads [] all h = done (Fixed []) tt h tt refl (λ y v. refl)
text_reads (b ∷ bs) all h =
    let parts = and_parts (nat_lt 0 b) (list_all (nat_lt 0) bs) all in
    then_reads (Fixed (b ∷ [])) (Fixed (b ∷ bs)) (λ _. Fixed bs) (record { split = λ y v. (tt, tt, tt); join = λ x y v s. (tt, refl); some = λ x v. (tt, tt); after = λ x y a v s g. (refl, refl) })
    h (fixed_at b h) (λ k. text_at bs k.1) (fixed_reads b (ltb-true 0 b parts.0) h) (λ x k t. text_reads bs parts.1 k)

-- ---- a part and a blank

abbrev pub Spaced : {A : Type 0} → Lang A → Lang A
Spaced L = record { valid = L.valid; text = λ x. L.text x ++ 32 ∷ []; follow = λ _. true }

-- a blank behind the value x
abbrev Blank : {A : Type 0} → Lang A → A → Lang A
Blank L x = record { valid = λ y. L.valid y × (y ≡ x); text = λ _. 32 ∷ []; follow = λ _. true }

pub spaced_reads : {A : Type 0} (L : Lang A) → L.follow 32 ≡ true → (h : Here) (r : Result (A × Here) ℕ) → Reads L h r → Reads (Spaced L) h (spaced r)
spaced_reads {A} L may h r reads = then_reads L (Spaced L) (Blank L) (record {
  split = λ y v. (y, v, (v, refl));
  join = λ x y v s. (s.0, ap (λ (z : A). L.text z ++ 32 ∷ []) s.1);
  some = λ x v. (x, (v, refl));
  after = λ x y a v s g. (refl, may);
}) h r (λ x. fixed_at 32 x.1 >>= λ b. Ok (x.0, b.1)) reads (λ x k t.
    map_reads (Fixed (32 ∷ [])) (Blank L x) (λ _. x) (record { from = λ y v. (tt, tt, v.1); to = λ u v. ((t.valid, refl), refl); follow = λ c g. refl }) k (fixed_at 32 k) (fixed_reads 32 (omega arith) k))

-- ---- one byte of two

abbrev pub Gap : Lang Bool
Gap = record { valid = λ _. Unit {0}; text = λ b. cond b (10 ∷ []) (32 ∷ []); follow = λ _. true }

pub gap_reads : (h : Here) → Reads Gap h (gap_at h)
gap_reads h = by h.at h.rest
  where
    first : (y : Bool) (c : ℕ) (a w : List ℕ) → cond y (10 ∷ []) (32 ∷ []) ++ a ≡ c ∷ w → cond y 10 32 ≡ c
    first true c a w e = cc
    first false c a w e = cc

    neither : (y : Bool) (c : ℕ) (a w : List ℕ) → c ≢ 32 → c ≢ 10 → cond y (10 ∷ []) (32 ∷ []) ++ a ≡ c ∷ w → ⊥
    neither true c a w f g e = g (sym (first true c a w e))
    neither false c a w f g e = f (sym (first false c a w e))

    only : (x y : Bool) (a w : List ℕ) → cond y (10 ∷ []) (32 ∷ []) ++ a ≡ cond x 10 32 ∷ w → y ≡ x
    only true true a w e = refl
    only true false a w e = absurd (omega (arith, first false 10 a w e))
    only false true a w e = absurd (omega (arith, first true 32 a w e))
    only false false a w e = refl

    by : (at : ℕ) (bs : List ℕ) → Reads Gap (here at bs) (gap_in at bs)
    by at [] = stuck_here Gap (here at []) true tt (λ y v a w g e. neither y 0 a w (λ z. omega arith) (λ z. omega arith) e)
    by at (c ∷ cs) =
        let h = here at (c ∷ cs) in
        by_test Gap h (c == 32) (Ok (false, here (at + 1) cs)) (cond (c == 10) (Ok (true, here (at + 1) cs)) (Err at))
        (λ e. let is : c ≡ 32 = eqb-true c 32 e in took_byte Gap at c cs false tt (ap (λ (z : ℕ). z ∷ []) (sym is)) (λ y v a w k. only false y a w (k ∙ ap (λ (z : ℕ). z ∷ w) is)))
        (λ e. by_test Gap h (c == 10) (Ok (true, here (at + 1) cs)) (Err at)
        (λ f. let is : c ≡ 10 = eqb-true c 10 f in took_byte Gap at c cs true tt (ap (λ (z : ℕ). z ∷ []) (sym is)) (λ y v a w k. only true y a w (k ∙ ap (λ (z : ℕ). z ∷ w) is)))
        (λ f. stuck_here Gap h true tt (λ y v a w g k. neither y c a w (eqb-false c 32 e) (eqb-false c 10 f) k)))

abbrev pub Runs : Lang ℕ
Runs = record { valid = λ r. (r ≡ 1) ⊎ (r ≡ 2); text = decimal; follow = λ _. true }

pub runs_reads : (h : Here) → Reads Runs h (runs_at h)
runs_reads h = by h.at h.rest
  where
    cell : (r : ℕ) → (r ≡ 1) ⊎ (r ≡ 2) → decimal r ≡ (48 + r) ∷ []
    cell r (inl e) = decimal_digit r (omega arith)
    cell r (inr e) = decimal_digit r (omega arith)

    first : (r c : ℕ) (a w : List ℕ) → (r ≡ 1) ⊎ (r ≡ 2) → decimal r ++ a ≡ c ∷ w → 48 + r ≡ c
    first r c a w v e = let k : (48 + r) ∷ a ≡ c ∷ w = ap (λ (t : List ℕ). t ++ a) (sym (cell r v)) ∙ e in cc

    neither : (r c : ℕ) (a w : List ℕ) → (r ≡ 1) ⊎ (r ≡ 2) → c ≢ 49 → c ≢ 50 → decimal r ++ a ≡ c ∷ w → ⊥
    neither r c a w (inl v) f g e = f (omega (arith, first r c a w (inl v) e))
    neither r c a w (inr v) f g e = g (omega (arith, first r c a w (inr v) e))

    takes : (at c r : ℕ) (cs : List ℕ) → (r ≡ 1) ⊎ (r ≡ 2) → c ≡ 48 + r → Took Runs (here at (c ∷ cs)) r (here (at + 1) cs)
    takes at c r cs v is = took_byte Runs at c cs r v (cell r v ∙ ap (λ (z : ℕ). z ∷ []) (sym is)) (λ y u a w k. omega (arith, first y c a w u k))

    by : (at : ℕ) (bs : List ℕ) → Reads Runs (here at bs) (runs_in at bs)
    by at [] = stuck_here Runs (here at []) 1 (inl refl) (λ y v a w g e. neither y 0 a w v (λ z. omega arith) (λ z. omega arith) e)
    by at (c ∷ cs) =
        let h = here at (c ∷ cs) in
        by_test Runs h (c == 49) (Ok (1, here (at + 1) cs)) (cond (c == 50) (Ok (2, here (at + 1) cs)) (Err at)) (λ e. takes at c 1 cs (inl refl) (eqb-true c 49 e))
        (λ e. by_test Runs h (c == 50) (Ok (2, here (at + 1) cs)) (Err at) (λ f. takes at c 2 cs (inr refl) (eqb-true c 50 f))
        (λ f. stuck_here Runs h 1 (inl refl) (λ y v a w g k. neither y c a w v (eqb-false c 49 e) (eqb-false c 50 f) k)))

-- ---- causes

abbrev pub Cause : Lang CauseWord
Cause = record { valid = λ _. Unit {0}; text = word_of; follow = λ _. true }

-- a word tells the cause by its first byte
begins : (y : CauseWord) (c : ℕ) (a w : List ℕ) → word_of y ++ a ≡ c ∷ w → begun_by c ≡ Some y
begins cause.Clean c a w e = let is : 45 ≡ c = cc in ap begun_by (sym is)
begins cause.Differ c a w e = let is : 100 ≡ c = cc in ap begun_by (sym is)
begins cause.Strange c a w e = let is : 115 ≡ c = cc in ap begun_by (sym is)
begins cause.Foreign c a w e = let is : 102 ≡ c = cc in ap begun_by (sym is)
begins cause.Memory c a w e = let is : 109 ≡ c = cc in ap begun_by (sym is)

filled_word : (y : CauseWord) → list_all (nat_lt 0) (word_of y) ≡ true
filled_word cause.Clean = refl
filled_word cause.Differ = refl
filled_word cause.Strange = refl
filled_word cause.Foreign = refl
filled_word cause.Memory = refl

pub cause_reads : (h : Here) → Reads Cause h (cause_at h)
cause_reads h = by h.at h.rest
  where
    some_is : (x y : CauseWord) → Some x ≡ Some y → x ≡ y
    some_is x y e = cc

    chosen : (at c : ℕ) (cs : List ℕ) (o : Option CauseWord) → begun_by c ≡ o → Reads Cause (here at (c ∷ cs)) (cause_of o (here at (c ∷ cs)))
    chosen at c cs None e = stuck_here Cause (here at (c ∷ cs)) cause.Clean tt (λ y v a w g k. let bad : None ≡ Some y = sym e ∙ begins y c a w k in cc)
    chosen at c cs (Some x) e =
        let h = here at (c ∷ cs) in
        narrow_reads Cause (λ y. y ≡ x) h (text_at (word_of x) h >>= λ k. Ok (x, k.1)) (λ y v a w g k. some_is y x (sym (begins y c a w k) ∙ e))
        (map_reads (Fixed (word_of x)) (Where Cause (λ y. y ≡ x)) (λ _. x) (record { from = λ y v. (tt, tt, v.1); to = λ u v. ((tt, refl), refl); follow = λ d g. refl }) h (text_at (word_of x) h) (text_reads (word_of x) (filled_word x) h))

    by : (at : ℕ) (bs : List ℕ) → Reads Cause (here at bs) (cause_in at bs)
    by at [] = stuck_here Cause (here at []) cause.Clean tt (λ y v a w g k. let bad : None ≡ Some y = begins y 0 a w k in cc)
    by at (c ∷ cs) = chosen at c cs (begun_by c) refl

-- ---- names

abbrev plain : ℕ → Bool
plain b = not (parts_names b)

abbrev pub Name : Lang (List ℕ)
Name = record { valid = λ t. is_name t ≡ true; text = λ t. t; follow = parts_names }

-- the front without a byte that parts names, and such a byte or the end
record Split (bs : List ℕ) (n : ℕ) : Type 0 where
  front : list_all plain (take n bs) ≡ true
  behind : plain (next (drop n bs)) ≡ false
  within : n ≤ length bs

split : (bs : List ℕ) → Split bs (name_len bs)
split [] = record { front = refl; behind = refl; within = omega arith }
split (b ∷ bs) =
    let k : 1 + name_len bs ≡ suc (name_len bs) = omega arith in
    let s = split bs in
    elim (plain b) as (λ p. plain b ≡ p → Split (b ∷ bs) (cond p (1 + name_len bs) 0)) [
      | true ↦ λ e. subst (λ n. Split (b ∷ bs) n) (sym k) (record { front = (let f : list_all plain (take (name_len bs) bs) ≡ true = s.front in rw (e, f) refl); behind = s.behind; within = omega (arith, s.within) })
      | false ↦ λ e. record { front = refl; behind = e; within = omega arith }
    ] refl

parting : (b : Bool) → b ≡ true → not b ≡ false
parting b e = rw e refl

pub name_reads : (h : Here) → Reads Name h (name_at h)
name_reads h = by_test Name h (name_len h.rest == 0) (Err h.at) (Ok (take (name_len h.rest) h.rest, skip (name_len h.rest) h)) lacks takes
  where
    lacks : (name_len h.rest == 0) ≡ true → Reads Name h (Err h.at)
    lacks e =
        let zero : name_len h.rest ≡ 0 = eqb-true _ 0 e in
        let ends : plain (next h.rest) ≡ false = subst (λ n. plain (next (drop n h.rest)) ≡ false) zero (split h.rest).behind in
        stuck_here Name h (97 ∷ []) refl (λ y v a w g k. none y a w v ends k)
      where
        none : (y a w : List ℕ) → is_name y ≡ true → plain (next h.rest) ≡ false → y ++ a ≡ next h.rest ∷ w → ⊥
        none [] a w v ends k = cc
        none (b ∷ y) a w v ends k =
            let same : b ≡ next h.rest = cc in
            let all = (and_parts (nat_lt 0 (length (b ∷ y))) (list_all plain (b ∷ y)) v).1 in
            let bad : true ≡ false = sym (and_parts (plain b) (list_all plain y) all).0 ∙ ap plain same ∙ ends in cc

    takes : (name_len h.rest == 0) ≡ false → Reads Name h (Ok (take (name_len h.rest) h.rest, skip (name_len h.rest) h))
    takes e =
        let n = name_len h.rest in
        let s = split h.rest in
        let long : length (take n h.rest) ≡ n = length-take-le n h.rest s.within in
        let some : nat_lt 0 (length (take n h.rest)) ≡ true = (let apart = eqb-false n 0 e in lt-ltb 0 (length (take n h.rest)) (omega (arith, long, apart))) in
        record {
          valid = (let f : list_all plain (take n h.rest) ≡ true = s.front in rw (some, f) refl);
          taken = sym (take-append-drop n h.rest);
          place = omega (arith, long);
          only = λ y v a w g k.
              elim (span plain y (take n h.rest) a (next (drop n h.rest)) w (and_parts (nat_lt 0 (length y)) (list_all plain y) v).1 s.front (parting (parts_names (next a)) g) k) [
                | inl same ↦ same
                | inr more ↦ let bad : true ≡ false = sym (passes_behind plain y (take n h.rest) more.0 (next (drop n h.rest)) (and_parts (nat_lt 0 (length y)) (list_all plain y) v).1 more.1) ∙ s.behind in cc
              ];
        }
