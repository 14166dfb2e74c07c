-- Lines: their order by names, and that a line tells the pair that fits.
--     ended               how texts compare that end in one byte
--     names_order, names_exact      the order by names, in which no two pairs tie
--     names_are           it is that of the lines, for pairs that fit
--     read_back           the pair of a line
use Rattle.std.proofs.Common.{◌≡◌, ◌⊎◌, inl, inr, ⊎_elim, ℕ, zero, suc, ◌+◌, ◌-◌, ◌<◌, ◌≤◌, min, Bool, true, false, cond, Some, None, Result, Ok, Err, rules, ◌&&◌, List, [], ◌∷◌, ◌++◌, length, take, drop, get_or, refl, sym, ap, subst, ◌∙◌, arith, append_assoc, length-append}
use Rattle.std.specs.Prelude.{not, ◌==◌, ltb, IfOk, IfErr, IsOk}
use Rattle.std.specs.declared.cmp.Ordering.{Ordering}
use Rattle.std.specs.declared.cmp.Ordering.TheVariants.{Less, Equal, Greater}
use Rattle.std.specs.Ordering.{ordering_then, ordering_reverse, ordering_index, is_lt, eq_by_cmp, nat_cmp}
use Rattle.std.specs.Cmp.{IsTotalOrder, IsEquivalence, Equal-is, nat_cmp_is}
use Rattle.std.specs.Cmp.Lexicographic.{slice_cmp}
use Rattle.std.specs.FinMap.{IsAntisymmetric, slice_cmp-IsAntisymmetric, nat_cmp-IsAntisymmetric}
use Rattle.std.specs.Bool.{Decides, one_answer}
use Rattle.std.specs.List.{AllByRecursion, Contains, dedup, insert, list_all, position, position_or_len}
use Rattle.std.specs.List.Sorted.{IsStrictlySortedBy, IsSorted, IsPermutation, IsPartitionPoint, IsNonDecreasingBy, IsSearchInRange, IsBinarySearchResult}
use Rattle.std.proofs.lemmas.Bool.Decides.{Decides-eqb}
use Rattle.std.proofs.lemmas.Cmp.{on_total, then_total, nat_list_cmp_total, ranked, by_ranked, tied_itself}
use Rattle.std.proofs.lemmas.Bool.{cases_lt, lt-ltb}
use Rattle.std.proofs.lemmas.List.{take-append-drop}
use Rattle.std.proofs.lemmas.List.Quantifiers.{position-Some}
use Rattle.std.proofs.lemmas.List.Kept.{IsStrictlySortedBy-dedup, Contains-dedup, Contains-from_dedup}
use Rattle.std.proofs.lemmas.List.Sorted.{IsPermutation-sym, Contains-permutation, searchable_from_sorted}
use Rattle.std.proofs.lemmas.Map.Keys.{Less-from_sorted}
use Rattle.std.proofs.Math.Seq.{take-append_seam, drop-append-add}
use Rattle.em_base.proofs.Lemmas.{by_cases, prefix_until, all_hold, all_pass, cell}
use Rattle.em_history.specs.Names.{parts_names}
use Rattle.em_history.specs.Histories.{Pair, IsHistory, fits, line_of, is_blank, by_line, by_names, pair_in, beside, placed, united}
use Rattle.em_history.proofs.Placing.{by_answer, AllFit, Rises, Among, all_fit, fit_among, among_from, among_to, all_united, kept_placed, kept_united, among_united, rises_united, rises_none, same, placed_at, placed_there}

-- ---- texts that end in one byte

then_last : (o s : Ordering) → ordering_then o s ≡ ordering_then (ordering_then o Equal) s
then_last Less s = refl
then_last Equal s = refl
then_last Greater s = refl

pub longer : (ys : List ℕ) (e : ℕ) → slice_cmp nat_cmp [] (ys ++ e ∷ []) ≡ Less
longer [] e = refl
longer (y ∷ ys) e = refl

shorter : (xs : List ℕ) (e : ℕ) → slice_cmp nat_cmp (xs ++ e ∷ []) [] ≡ Greater
shorter [] e = refl
shorter (x ∷ xs) e = refl

low_cmp : (n : ℕ) → nat_cmp 0 (suc n) ≡ Less
low_cmp n = sym (nat_cmp_is 0 (suc n) Less (omega arith))

high_cmp : (n : ℕ) → nat_cmp (suc n) 0 ≡ Greater
high_cmp n = sym (nat_cmp_is (suc n) 0 Greater (omega arith))

both_cmp : (m n : ℕ) → nat_cmp m n ≡ nat_cmp (suc m) (suc n)
both_cmp m n = by_ranked (m < n) (m ≡ n) (n < m) (nat_cmp m n) (ranked m n (nat_cmp m n) refl)
    (λ e h. e ∙ nat_cmp_is (suc m) (suc n) Less (omega arith))
    (λ e h. e ∙ nat_cmp_is (suc m) (suc n) Equal (omega arith))
    (λ e h. e ∙ nat_cmp_is (suc m) (suc n) Greater (omega arith))

-- n bytes of each, the byte behind these, or else e, and the lengths
pub ended : (e : ℕ) (a b : List ℕ) (n : ℕ) → n ≡ min (length a) (length b)
    → slice_cmp nat_cmp (a ++ e ∷ []) (b ++ e ∷ []) ≡ ordering_then (ordering_then (slice_cmp nat_cmp (take n a) (take n b)) (nat_cmp (get_or a n e) (get_or b n e))) (nat_cmp (length a) (length b))
ended e [] [] zero h = refl
ended e [] [] (suc n) h = absurd (omega arith)
ended e [] (y ∷ ys) zero h = ap (ordering_then (nat_cmp e y)) (longer ys e ∙ sym (low_cmp (length ys)))
ended e [] (y ∷ ys) (suc n) h = absurd (omega arith)
ended e (x ∷ xs) [] zero h = ap (ordering_then (nat_cmp x e)) (shorter xs e ∙ sym (high_cmp (length xs)))
ended e (x ∷ xs) [] (suc n) h = absurd (omega arith)
ended e (x ∷ xs) (y ∷ ys) zero h = absurd (omega arith)
ended e (x ∷ xs) (y ∷ ys) (suc n) h = by_answer (nat_cmp x y)
    (λ o. ordering_then o (slice_cmp nat_cmp (xs ++ e ∷ []) (ys ++ e ∷ [])) ≡ ordering_then (ordering_then (ordering_then o (slice_cmp nat_cmp (take n xs) (take n ys))) (nat_cmp (get_or xs n e) (get_or ys n e))) (nat_cmp (length xs) (length ys)))
    (λ _. refl) (λ _. ended e xs ys n (omega arith)) (λ _. refl)
    ∙ ap (ordering_then _) (both_cmp (length xs) (length ys))

abbrev pub Lacks : ℕ → List ℕ → Type 0
Lacks e = AllByRecursion (λ b. b ≡ e → ⊥)

exact : IsAntisymmetric (slice_cmp nat_cmp)
exact = slice_cmp-IsAntisymmetric nat_cmp-IsAntisymmetric

-- texts without the byte decide before what stands behind it
names_first : (e : ℕ) (a b x y : List ℕ) → Lacks e a → Lacks e b → slice_cmp nat_cmp (a ++ e ∷ x) (b ++ e ∷ y) ≡ ordering_then (slice_cmp nat_cmp (a ++ e ∷ []) (b ++ e ∷ [])) (slice_cmp nat_cmp x y)
names_first e [] [] x y f g = then_last (nat_cmp e e) (slice_cmp nat_cmp x y)
names_first e [] (c ∷ cs) x y f g = by_answer (nat_cmp e c)
    (λ o. ordering_then o (slice_cmp nat_cmp x (cs ++ e ∷ y)) ≡ ordering_then (ordering_then o (slice_cmp nat_cmp [] (cs ++ e ∷ []))) (slice_cmp nat_cmp x y))
    (λ _. refl) (λ tie. absurd (g.0 (sym (nat_cmp-IsAntisymmetric e c tie)))) (λ _. refl)
names_first e (c ∷ cs) [] x y f g = by_answer (nat_cmp c e)
    (λ o. ordering_then o (slice_cmp nat_cmp (cs ++ e ∷ x) y) ≡ ordering_then (ordering_then o (slice_cmp nat_cmp (cs ++ e ∷ []) [])) (slice_cmp nat_cmp x y))
    (λ _. refl) (λ tie. absurd (f.0 (nat_cmp-IsAntisymmetric c e tie))) (λ _. refl)
names_first e (c ∷ cs) (d ∷ ds) x y f g = by_answer (nat_cmp c d)
    (λ o. ordering_then o (slice_cmp nat_cmp (cs ++ e ∷ x) (ds ++ e ∷ y)) ≡ ordering_then (ordering_then o (slice_cmp nat_cmp (cs ++ e ∷ []) (ds ++ e ∷ []))) (slice_cmp nat_cmp x y))
    (λ _. refl) (λ _. names_first e cs ds x y f.1 g.1) (λ _. refl)

-- ---- names that fit

first_true : (a b : Bool) → (a && b) ≡ true → a ≡ true
first_true true b h = refl
first_true false b h = h

second_true : (a b : Bool) → (a && b) ≡ true → b ≡ true
second_true true b h = h
second_true false b h = absurd cc

both_true : (a b : Bool) → a ≡ true → b ≡ true → (a && b) ≡ true
both_true true b f g = g
both_true false b f g = absurd cc

pub record Fits (p : Pair) : Type 0 where
  pub target : list_all (λ b. not (parts_names b)) p.0 ≡ true
  pub needed : list_all (λ b. not (parts_names b)) p.1 ≡ true

pub fits_both : (p : Pair) → fits p ≡ true → Fits p
fits_both p h = record { target = second_true _ _ (first_true _ _ h); needed = second_true _ _ (second_true _ _ h) }

lacks : (e : ℕ) → parts_names e ≡ true → (a : List ℕ) → list_all (λ b. not (parts_names b)) a ≡ true → Lacks e a
lacks e parts a h = all_hold (λ b. not (parts_names b)) (λ b. b ≡ e → ⊥) (λ b pass is. let bad : not true ≡ true = subst (λ t. not t ≡ true) (ap parts_names is ∙ parts) pass in cc) a h

pub no_newline : (a : List ℕ) → list_all (λ b. not (parts_names b)) a ≡ true → Lacks 10 a
no_newline a h = lacks 10 refl a h

pub no_blank : (a : List ℕ) → list_all (λ b. not (parts_names b)) a ≡ true → Lacks 32 a
no_blank a h = lacks 32 refl a h

pub line_is : (p : Pair) → line_of p ≡ p.0 ++ 32 ∷ (p.1 ++ 10 ∷ [])
line_is p = simp append_assoc

-- ---- the order by names

pub names_order : IsTotalOrder by_names
names_order = then_total (on_total (λ (p : Pair). p.0 ++ 32 ∷ []) nat_list_cmp_total) (on_total (λ (p : Pair). p.1 ++ 10 ∷ []) nat_list_cmp_total)

then_equal : (o s : Ordering) → ordering_then o s ≡ Equal → (o ≡ Equal) × (s ≡ Equal)
then_equal Less s h = absurd cc
then_equal Equal s h = (refl, h)
then_equal Greater s h = absurd cc

pub unended : (a b e : List ℕ) → a ++ e ≡ b ++ e → a ≡ b
unended a b e h =
    let long : length a ≡ length b = omega (arith, ap length h, length-append a e, length-append b e) in
    sym (take-append_seam a e) ∙ ap (take (length a)) h ∙ ap (λ n. take n (b ++ e)) long ∙ take-append_seam b e

pub names_exact : (p q : Pair) → by_names p q ≡ Equal → p ≡ q
names_exact p q h =
    let (f, g) = then_equal (slice_cmp nat_cmp (p.0 ++ 32 ∷ []) (q.0 ++ 32 ∷ [])) (slice_cmp nat_cmp (p.1 ++ 10 ∷ []) (q.1 ++ 10 ∷ [])) h in
    let t = unended p.0 q.0 (32 ∷ []) (exact _ _ f) in
    let n = unended p.1 q.1 (10 ∷ []) (exact _ _ g) in
    λ i. (t i, n i)

pub names_are : (p q : Pair) → fits p ≡ true → fits q ≡ true → by_names p q ≡ by_line p q
names_are p q f g =
    let fp = fits_both p f in
    let fq = fits_both q g in
    sym (ap (λ (l : List ℕ). slice_cmp nat_cmp l (line_of q)) (line_is p) ∙ ap (slice_cmp nat_cmp (p.0 ++ 32 ∷ (p.1 ++ 10 ∷ []))) (line_is q)
    ∙ names_first 32 p.0 q.0 (p.1 ++ 10 ∷ []) (q.1 ++ 10 ∷ []) (no_blank p.0 fp.target) (no_blank q.0 fq.target))

-- ---- the pair of a line

no_32 : (b : ℕ) → (b ≡ 32 → ⊥) → not (b == 32) ≡ true
no_32 b h = by_cases (b == 32) (λ t. not t ≡ true) (λ is. absurd (h ((Decides-eqb b 32).0 is))) (λ _. refl)

pub read_back : (p : Pair) → fits p ≡ true → pair_in (line_of p) ≡ p
read_back p f =
    let ok = fits_both p f in
    let l = line_of p in
    let front = p.0 ++ 32 ∷ p.1 in
    let none : list_all (λ b. not (b == 32)) p.0 ≡ true = all_pass (λ b. not (b == 32)) (λ b. b ≡ 32 → ⊥) no_32 p.0 (no_blank p.0 ok.target) in
    let at : position_or_len (λ b. b == 32) l ≡ length p.0 = ap (position_or_len (λ b. b == 32)) (line_is p) ∙ prefix_until (λ b. not (b == 32)) p.0 32 (p.1 ++ 10 ∷ []) none refl in
    let whole : l ≡ front ++ 10 ∷ [] = line_is p ∙ sym (append_assoc p.0 (32 ∷ p.1) (10 ∷ [])) in
    let long : length l - 1 ≡ length front = omega (arith, ap length whole, length-append front (10 ∷ [])) in
    let target : take (position_or_len (λ b. b == 32) l) l ≡ p.0 = rw at (ap (take (length p.0)) (line_is p) ∙ take-append_seam p.0 (32 ∷ (p.1 ++ 10 ∷ []))) in
    let needed : drop (position_or_len (λ b. b == 32) l + 1) (take (length l - 1) l) ≡ p.1 =
    rw (at, long) (ap (λ (s : List ℕ). drop (length p.0 + 1) (take (length front) s)) whole ∙ ap (drop (length p.0 + 1)) (take-append_seam front (10 ∷ [])) ∙ drop-append-add p.0 (32 ∷ p.1) 1) in
    λ i. (target i, needed i)

pub same_line : (p q : Pair) → fits p ≡ true → fits q ≡ true → line_of p ≡ line_of q → p ≡ q
same_line p q f g e = sym (read_back p f) ∙ ap pair_in e ∙ read_back q g

-- the parts of what stands before the newline
pub parts_line : (front : List ℕ) (k : ℕ) → position is_blank front ≡ Some k → line_of (take k front, drop (k + 1) front) ≡ front ++ 10 ∷ []
parts_line front k at =
    let (low, blank, before) = position-Some is_blank front k 0 at in
    line_is (take k front, drop (k + 1) front) ∙ sym (append_assoc (take k front) (32 ∷ drop (k + 1) front) (10 ∷ []))
    ∙ ap (λ (t : List ℕ). (take k front ++ t) ++ 10 ∷ []) (sym (cell front k 32 low ((Decides-eqb (get_or front k 0) 32).0 blank)))
    ∙ ap (λ (t : List ℕ). t ++ 10 ∷ []) (take-append-drop k front)

-- and those of a pair's line are its names
pub record Parted (p : Pair) (front : List ℕ) : Type 0 where
  pub at : position is_blank front ≡ Some (length p.0)
  pub target : take (length p.0) front ≡ p.0
  pub needed : drop (length p.0 + 1) front ≡ p.1

pub parted : (p : Pair) (front : List ℕ) → fits p ≡ true → line_of p ≡ front ++ 10 ∷ [] → Parted p front
parted p front f is =
    let whole : p.0 ++ 32 ∷ p.1 ≡ front = unended (p.0 ++ 32 ∷ p.1) front (10 ∷ []) (append_assoc p.0 (32 ∷ p.1) (10 ∷ []) ∙ sym (line_is p) ∙ is) in
    let none : list_all (λ b. not (b == 32)) p.0 ≡ true = all_pass (λ b. not (b == 32)) (λ b. b ≡ 32 → ⊥) no_32 p.0 (no_blank p.0 (fits_both p f).target) in
    let n : position_or_len is_blank front ≡ length p.0 = ap (position_or_len is_blank) (sym whole) ∙ prefix_until (λ b. not (b == 32)) p.0 32 p.1 none refl in
    let long : length p.0 + length (32 ∷ p.1) ≡ length front = sym (length-append p.0 (32 ∷ p.1)) ∙ ap length whole in
    record {
      at = ap (λ m. cond (ltb m (length front)) (Some m) None) n ∙ ap (λ b. cond b (Some (length p.0)) None) (lt-ltb (length p.0) (length front) (omega arith));
      target = ap (take (length p.0)) (sym whole) ∙ take-append_seam p.0 (32 ∷ p.1);
      needed = ap (drop (length p.0 + 1)) (sym whole) ∙ drop-append-add p.0 (32 ∷ p.1) 1;
    }

pub no_parts : (p : Pair) (front : List ℕ) → fits p ≡ true → line_of p ≡ front ++ 10 ∷ [] → position is_blank front ≡ None → ⊥
no_parts p front f is none = let h = parted p front f is in let bad : Some (length p.0) ≡ None = sym h.at ∙ none in cc

pub parts_fit : (p : Pair) (front : List ℕ) (k : ℕ) → fits p ≡ true → line_of p ≡ front ++ 10 ∷ [] → position is_blank front ≡ Some k → fits (take k front, drop (k + 1) front) ≡ true
parts_fit p front k f is at =
    let h = parted p front f is in
    let here : Some (length p.0) ≡ Some k = sym h.at ∙ at in
    let n : length p.0 ≡ k = cc in
    subst (λ m. fits (take m front, drop (m + 1) front) ≡ true) n (ap fits (λ i. (h.target i, h.needed i)) ∙ f)

-- ---- pairs that fit are there once they are put there

own_placed : (p : Pair) (ps : List Pair) → fits p ≡ true → AllFit ps → Among p (placed p ps)
own_placed p [] f h = inl refl
own_placed p (q ∷ qs) f h = by_answer (by_line p q) (λ o. Among p (beside o p q qs (placed p qs)))
    (λ _. inl refl) (λ tie. inl (sym (same_line p q f h.0 (exact _ _ tie)))) (λ _. inr (own_placed p qs f h.1))

pub own_united : (ps qs : List Pair) (r : Pair) → AllFit ps → AllFit qs → Among r ps → Among r (united ps qs)
own_united [] qs r f g m = absurd m
own_united (p ∷ ps) qs r f g m = let all = all_united (λ p. fits p ≡ true) ps qs f.1 g in ⊎_elim
    (λ (e : p ≡ r). subst (λ x. Among x (placed p (united ps qs))) e (own_placed p (united ps qs) f.0 all))
    (λ n. kept_placed p r (united ps qs) (own_united ps qs r f.1 g n)) m

-- ---- sorted pairs, each once

rises_lines : (ps : List Pair) → AllFit ps → IsStrictlySortedBy by_names ps → Rises ps
unfolding IsStrictlySortedBy
rises_lines [] f h = tt
rises_lines (p ∷ ps) f h = (each p f.0 ps f.1 h.0, rises_lines ps f.1 h.1)
  where
    each : (p : Pair) → fits p ≡ true → (ps : List Pair) → AllFit ps → AllByRecursion (λ q. by_names p q ≡ Less) ps → AllByRecursion (λ q. by_line p q ≡ Less) ps
    each p f [] g h = tt
    each p f (q ∷ qs) g h = (sym (names_are p q f g.0) ∙ h.0, each p f qs g.1 h.1)

-- what a sort and the dropping of doubles leave: `E` tells equal pairs
pub gathered : (E : Pair → Pair → Bool) → ((p q : Pair) → Decides (E p q) (p ≡ q)) → (xs ss ds : List Pair) → AllFit xs → IsPermutation xs ss → IsSorted by_names ss → ds ≡ dedup E ss → ds ≡ united xs []
gathered E decides xs ss ds fit moved up is =
    let back : IsPermutation ss xs = IsPermutation-sym xs ss moved in
    let from : (r : Pair) → Among r ds → Among r xs = λ r m. among_from xs r (Contains-permutation ss xs r back (Contains-from_dedup E ss r (subst (λ ps. Contains ps r) is (among_to ds r m)))) in
    let to : (r : Pair) → Among r xs → Among r ds = λ r m. among_from ds r (subst (λ ps. Contains ps r) (sym is) (Contains-dedup equal (λ p q h. (decides p q).0 h) ss r (Contains-permutation xs ss r moved (among_to xs r m)))) in
    let rising : IsStrictlySortedBy by_names ds = subst (IsStrictlySortedBy by_names) (sym is) (IsStrictlySortedBy-dedup names_order ties ss up) in
    same ds (united xs []) (rises_lines ds (every ds (λ r m. fit_among xs r fit (from r m))) rising) (rises_united xs [] rises_none)
    (λ r m. own_united xs [] r fit tt (from r m))
    (λ r m. to r (⊎_elim (λ n. n) (λ n. absurd n) (among_united xs [] r m)))
  where
    every : (ps : List Pair) → ((r : Pair) → Among r ps → fits r ≡ true) → AllFit ps
    every [] f = tt
    every (p ∷ ps) f = (f p (inl refl), every ps (λ r m. f r (inr m)))

    ties : (p q : Pair) → E p q ≡ eq_by_cmp by_names p q
    ties p q = one_answer (E p q) (eq_by_cmp by_names p q) (decides p q)
        (λ h. names_exact p q ((Equal-is (by_names p q)).0 h), λ e. (Equal-is (by_names p q)).1 (ap (by_names p) (sym e) ∙ tied_itself names_order p))

    equal : IsEquivalence E
    equal = record {
      refl = λ p. (decides p p).1 refl;
      symm = λ p q. one_answer (E p q) (E q p) (decides p q) (λ h. sym ((decides q p).0 h), λ e. (decides q p).1 (sym e));
      congr = λ p q r h. ap (λ x. E x r) ((decides p q).0 h);
    }

pub all_append : {X : Type 0} (P : X → Type 0) (xs ys : List X) → AllByRecursion P xs → AllByRecursion P ys → AllByRecursion P (xs ++ ys)
all_append P [] ys f g = g
all_append P (x ∷ xs) ys f g = (f.0, all_append P xs ys f.1 g)

-- the pairs of one list behind those of another
pub joined : (ps qs : List Pair) → IsHistory ps → IsHistory qs → united (ps ++ qs) [] ≡ united qs ps
joined ps qs g h =
    let f = all_fit ps g in
    let k = all_fit qs h in
    same (united (ps ++ qs) []) (united qs ps) (rises_united (ps ++ qs) [] rises_none) (rises_united qs ps g.rising)
    (λ r m. ⊎_elim (λ n. ⊎_elim (λ a. kept_united qs ps r a) (λ b. own_united qs ps r k f b) (among_both ps qs r n)) (λ n. absurd n) (among_united (ps ++ qs) [] r m))
    (λ r m. own_united (ps ++ qs) [] r (all_append (λ p. fits p ≡ true) ps qs f k) tt (⊎_elim (λ b. among_right ps qs r b) (λ a. among_left ps qs r a) (among_united qs ps r m)))
  where
    among_both : (ps qs : List Pair) (r : Pair) → Among r (ps ++ qs) → Among r ps ⊎ Among r qs
    among_both [] qs r m = inr m
    among_both (p ∷ ps) qs r m = ⊎_elim (λ (e : p ≡ r). inl (inl e)) (λ n. ⊎_elim (λ k. inl (inr k)) (λ k. inr k) (among_both ps qs r n)) m

    among_left : (ps qs : List Pair) (r : Pair) → Among r ps → Among r (ps ++ qs)
    among_left [] qs r m = absurd m
    among_left (p ∷ ps) qs r m = ⊎_elim (λ (e : p ≡ r). inl e) (λ n. inr (among_left ps qs r n)) m

    among_right : (ps qs : List Pair) (r : Pair) → Among r qs → Among r (ps ++ qs)
    among_right [] qs r m = m
    among_right (p ∷ ps) qs r m = inr (among_right ps qs r m)

-- ---- a place that is found

-- all before the place are less by their names, and all from it on greater
put_at : (p : Pair) (ps : List Pair) (i : ℕ) → fits p ≡ true → IsHistory ps → i ≤ length ps → IsPartitionPoint (λ q. by_names q p ≡ Less) (λ q. by_names q p ≡ Greater) ps i → placed p ps ≡ insert ps i p
put_at p ps i f h within parts = placed_at p ps i within
    (λ k d low. sym (names_are (get_or ps k d) p (h.fit k d (omega arith)) f) ∙ parts.0 k d (omega arith) low)
    (λ k d low high. sym (names_are (get_or ps k d) p (h.fit k d high) f) ∙ parts.1 k d low high)

not_found : (p : Pair) (ps : List Pair) (i : ℕ) → IsPartitionPoint (λ q. by_names q p ≡ Less) (λ q. by_names q p ≡ Greater) ps i → Contains ps p → ⊥
not_found p ps i parts there =
    let (k, low, is) = there in
    let tie : by_names (get_or ps k p) p ≡ Equal = ap (λ q. by_names q p) is ∙ tied_itself names_order p in
    ⊎_elim
    (λ (b : k < i). let l : by_names (get_or ps k p) p ≡ Less = parts.0 k p (omega arith) b in absurd (let bad : Less ≡ Equal = sym l ∙ tie in cc))
    (λ (b : i ≤ k). let l : by_names (get_or ps k p) p ≡ Greater = parts.1 k p b low in absurd (let bad : Greater ≡ Equal = sym l ∙ tie in cc)) (cases_lt k i)

searchable : (p : Pair) (ps : List Pair) → IsHistory ps → IsNonDecreasingBy (λ q. ordering_index (by_names q p)) ps
searchable p ps h = searchable_from_sorted names_order (λ (q : Pair). q) ps p (λ k d _ low.
    let less : by_names (get_or ps k d) (get_or ps (k + 1) d) ≡ Less = names_are (get_or ps k d) (get_or ps (k + 1) d) (h.fit k d (omega arith)) (h.fit (k + 1) d (omega arith))
    ∙ Less-from_sorted by_line ps k (k + 1) d h.rising (omega arith) (omega arith) in
    ap is_lt (names_order.antisymm (get_or ps (k + 1) d) (get_or ps k d) ∙ ap ordering_reverse less))

-- what a binary search by the names answers
pub record Places (p : Pair) (ps : List Pair) (r : Result ℕ ℕ) : Type 0 where
  pub found : IfOk r (λ i. placed p ps ≡ ps)
  pub new : IfErr r (λ i. placed p ps ≡ insert ps i p)
  pub within : IfErr r (λ i. i ≤ length ps)
  pub there : Contains ps p → IsOk r

pub placed_by : (p : Pair) (ps : List Pair) (r : Result ℕ ℕ) → fits p ≡ true → IsHistory ps → IsSearchInRange r (length ps) → IsBinarySearchResult (λ q. by_names q p) ps r → Places p ps r
placed_by p ps (Ok i) f h low at = record {
  found = placed_there p ps h.rising (among_from ps p (i, low, names_exact (get_or ps i p) p (at p)));
  new = tt;
  within = tt;
  there = λ _. search rules;
}
placed_by p ps (Err i) f h within at = let parts = at (searchable p ps h) in record {
  found = tt;
  new = put_at p ps i f h within parts;
  within = within;
  there = λ there. absurd (not_found p ps i parts there);
}
