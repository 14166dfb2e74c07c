-- What posting does to the chain of one path.
--     found_chain, sorted_chain      the pair of a job in a chain is what its post makes of the path
--     undone, posted, withdrawn      what the chain is after a post that fails, one that doesn't, and a withdrawal
use Rattle.std.proofs.Common.{◌≡◌, ◌<◌, ◌≤◌, ℕ, zero, suc, length, get_or, take, take_all, arith, Bool, true, false, cond, not, ◌&&◌, ◌⊎◌, inl, inr, List, [], ◌∷◌, Option, Some, None, refl, sym, ap, subst, ◌∙◌, option_map}
use Rattle.std.specs.Prelude.{T, IsSome, is_some, nat_lt, filter_map}
use Rattle.std.proofs.lemmas.Bool.{le-ltb}
use Rattle.std.specs.List.{cons_option}
use Rattle.std.specs.declared.cmp.Ordering.{Ordering}
use Rattle.std.specs.declared.cmp.Ordering.TheVariants.{Less, Equal, Greater}
use Rattle.std.specs.Ordering.{nat_cmp, is_lt, is_eq, eq_by_cmp}
use Rattle.std.specs.Cmp.{nat_cmp_total, eq_by_cmp_equiv}
use Rattle.std.specs.Cmp.Lexicographic.{nat_list_cmp_total}
use Rattle.std.specs.FinMap.{get, insert, remove, entries, entries_sorted, get-entries, get-insert, get-remove, find, put, is_sorted, nat_cmp-IsAntisymmetric}
use Rattle.std.specs.FinMap.Entries.{below_all, is_sorted-put, is_sorted-where_key, find-put, find-where_key, same_entries}
use Rattle.em_tree.specs.declared.node.Node.{Node}
use Rattle.em_tree.specs.Trees.{Changes}
use Rattle.em_tree.proofs.Maps.{order}
use Rattle.em_tree.proofs.Tables.{same_key}
use Rattle.em_chain.specs.declared.post.Post.{Post}
use Rattle.em_chain.specs.Posts.{Posts}
use Rattle.em_chain.specs.Pairs.{Pairs}
use Rattle.em_chain.specs.Chains.{chain_of, from_job, roomed, without}
use Rattle.em_chain.specs.Marks.{ChangeList, names, keeps, written, dropped, dropped_by, cut_at, Roomed}
use Rattle.em_chain.proofs.Pairs.{tied, above_absent}

-- ---- lists in order

pub first_T : (a b : Bool) → T (a && b) → T a
first_T true b h = tt
first_T false b h = absurd h

pub second_T : (a b : Bool) → T (a && b) → T b
second_T true b h = h
second_T false b h = absurd h

pub both_T : (a b : Bool) → T a → T b → T (a && b)
both_T true b h g = g
both_T false b h g = absurd h

not_tied : (r : Ordering) → T (is_lt r) → is_eq r ≡ false
not_tied Less h = refl
not_tied Equal h = absurd h
not_tied Greater h = refl

pub missed : {X : Type 0} (p : List ℕ) (es : List (List ℕ × X)) → T (below_all order p es) → find order p es ≡ None
missed p [] h = refl
missed p (e ∷ es) h =
    ap (λ b. cond b (Some e.1) (find order p es)) (not_tied (order p e.0) (first_T (is_lt (order p e.0)) (below_all order p es) h))
    ∙ missed p es (second_T (is_lt (order p e.0)) (below_all order p es) h)

-- ---- a chain's pairs

abbrev pub change_in : Option Post → List ℕ → Option (Option Node)
change_in None p = None
change_in (Some post) p = get post.delta p

abbrev pairs_of : List (ℕ × Post) → List ℕ → Pairs
pairs_of es p = filter_map (λ e. option_map (λ c. (e.0, c)) (get e.1.delta p)) es

below_pairs : (x : ℕ) (p : List ℕ) (es : List (ℕ × Post)) → T (below_all nat_cmp x es) → T (below_all nat_cmp x (pairs_of es p))
below_pairs x p [] h = tt
below_pairs x p (e ∷ es) h = by_change (get e.1.delta p) (below_pairs x p es (second_T (is_lt (nat_cmp x e.0)) (below_all nat_cmp x es) h))
  where
    by_change : (o : Option (Option Node)) → T (below_all nat_cmp x (pairs_of es p)) → T (below_all nat_cmp x (cons_option (option_map (λ c. (e.0, c)) o) (pairs_of es p)))
    by_change None rest = rest
    by_change (Some c) rest = both_T (is_lt (nat_cmp x e.0)) (below_all nat_cmp x (pairs_of es p)) (first_T (is_lt (nat_cmp x e.0)) (below_all nat_cmp x es) h) rest

sorted_pairs : (p : List ℕ) (es : List (ℕ × Post)) → T (is_sorted nat_cmp es) → T (is_sorted nat_cmp (pairs_of es p))
sorted_pairs p [] h = tt
sorted_pairs p (e ∷ es) h =
    by_change (get e.1.delta p) (sorted_pairs p es (second_T (below_all nat_cmp e.0 es) (is_sorted nat_cmp es) h)) (below_pairs e.0 p es (first_T (below_all nat_cmp e.0 es) (is_sorted nat_cmp es) h))
  where
    by_change : (o : Option (Option Node)) → T (is_sorted nat_cmp (pairs_of es p)) → T (below_all nat_cmp e.0 (pairs_of es p))
        → T (is_sorted nat_cmp (cons_option (option_map (λ c. (e.0, c)) o) (pairs_of es p)))
    by_change None rest below = rest
    by_change (Some c) rest below = both_T (below_all nat_cmp e.0 (pairs_of es p)) (is_sorted nat_cmp (pairs_of es p)) below rest

find_pairs : (p : List ℕ) (k : ℕ) (es : List (ℕ × Post)) → T (is_sorted nat_cmp es) → find nat_cmp k (pairs_of es p) ≡ change_in (find nat_cmp k es) p
find_pairs p k [] h = refl
find_pairs p k (e ∷ es) h =
    by_case (get e.1.delta p) (eq_by_cmp nat_cmp k e.0) refl refl (find_pairs p k es (second_T (below_all nat_cmp e.0 es) (is_sorted nat_cmp es) h))
    (above_absent e.0 (pairs_of es p) (below_pairs e.0 p es (first_T (below_all nat_cmp e.0 es) (is_sorted nat_cmp es) h)))
  where
    by_case : (o : Option (Option Node)) (b : Bool) → get e.1.delta p ≡ o → eq_by_cmp nat_cmp k e.0 ≡ b → find nat_cmp k (pairs_of es p) ≡ change_in (find nat_cmp k es) p
        → find nat_cmp e.0 (pairs_of es p) ≡ None
        → find nat_cmp k (cons_option (option_map (λ c. (e.0, c)) o) (pairs_of es p)) ≡ change_in (cond b (Some e.1) (find nat_cmp k es)) p
    by_case None true f g rest none = ap (λ (j : ℕ). find nat_cmp j (pairs_of es p)) (tied k e.0 g) ∙ none ∙ sym f
    by_case None false f g rest none = rest
    by_case (Some c) true f g rest none = ap (λ b. cond b (Some c) (find nat_cmp k (pairs_of es p))) g ∙ sym f
    by_case (Some c) false f g rest none = ap (λ b. cond b (Some c) (find nat_cmp k (pairs_of es p))) g ∙ rest

pub sorted_chain : (ps : Posts) (p : List ℕ) → T (is_sorted nat_cmp (chain_of ps p))
sorted_chain ps p = sorted_pairs p (entries ps) (entries_sorted ps)

pub found_chain : (ps : Posts) (p : List ℕ) (k : ℕ) → find nat_cmp k (chain_of ps p) ≡ change_in (get ps k) p
found_chain ps p k = find_pairs p k (entries ps) (entries_sorted ps) ∙ ap (λ (o : Option Post). change_in o p) (sym (get-entries ps k))

pub same_pairs : (c d : Pairs) → T (is_sorted nat_cmp c) → T (is_sorted nat_cmp d) → ((k : ℕ) → find nat_cmp k c ≡ find nat_cmp k d) → c ≡ d
same_pairs = same_entries nat_cmp nat_cmp_total nat_cmp-IsAntisymmetric

-- ---- a chain without a job

flip : (j k : ℕ) → eq_by_cmp nat_cmp j k ≡ eq_by_cmp nat_cmp k j
flip = (eq_by_cmp_equiv nat_cmp_total).symm

find_without : (j k : ℕ) (c : Pairs) → find nat_cmp k (without j c) ≡ cond (eq_by_cmp nat_cmp k j) None (find nat_cmp k c)
find_without j k c =
    find-where_key nat_cmp (λ x. not (eq_by_cmp nat_cmp j x)) k (λ x t. ap (λ (y : ℕ). not (eq_by_cmp nat_cmp j y)) (sym (tied k x (ap is_eq t)))) c
    ∙ turned (eq_by_cmp nat_cmp j k) ∙ ap (λ b. cond b None (find nat_cmp k c)) (flip j k)
  where
    turned : (b : Bool) → cond (not b) (find nat_cmp k c) None ≡ cond b None (find nat_cmp k c)
    turned true = refl
    turned false = refl

sorted_without : (j : ℕ) (c : Pairs) → T (is_sorted nat_cmp c) → T (is_sorted nat_cmp (without j c))
sorted_without j c = is_sorted-where_key nat_cmp (λ k. not (eq_by_cmp nat_cmp j k)) c

without_twice : (j : ℕ) (c : Pairs) → without j (without j c) ≡ without j c
without_twice j [] = refl
without_twice j (e ∷ c) = by_case (eq_by_cmp nat_cmp j e.0) refl (without_twice j c)
  where
    by_case : (b : Bool) → eq_by_cmp nat_cmp j e.0 ≡ b → without j (without j c) ≡ without j c → without j (cond (not b) (e ∷ without j c) (without j c)) ≡ cond (not b) (e ∷ without j c) (without j c)
    by_case true f rest = rest
    by_case false f rest = ap (λ b. cond (not b) (e ∷ without j (without j c)) (without j (without j c))) f ∙ ap (λ (d : Pairs). e ∷ d) rest

-- ---- what is written and dropped

module _ (j : ℕ) (p : List ℕ) where
  written_other : (es : ChangeList) (c : Pairs) → names es p ≡ false → written j p es c ≡ c
  written_other [] c h = refl
  written_other (e ∷ es) c h = by_case (eq_by_cmp order p e.0) h (written_other es c)
    where
      by_case : (b : Bool) → is_some (cond b (Some e.1) (find order p es)) ≡ false → (names es p ≡ false → written j p es c ≡ c) → written j p es (cond b (put nat_cmp j e.1 c) c) ≡ c
      by_case true h rest = absurd (cc)
      by_case false h rest = rest h

  written_here : (es : ChangeList) (c : Pairs) (v : Option Node) → T (is_sorted order es) → find order p es ≡ Some v → written j p es c ≡ put nat_cmp j v c
  written_here [] c v s h = absurd (cc)
  written_here (e ∷ es) c v s h =
      by_case (eq_by_cmp order p e.0) refl h (written_here es c v (second_T (below_all order e.0 es) (is_sorted order es) s))
      (written_other es (put nat_cmp j e.1 c)) (missed e.0 es (first_T (below_all order e.0 es) (is_sorted order es) s))
    where
      by_case : (b : Bool) → eq_by_cmp order p e.0 ≡ b → cond b (Some e.1) (find order p es) ≡ Some v → (find order p es ≡ Some v → written j p es c ≡ put nat_cmp j v c)
          → (names es p ≡ false → written j p es (put nat_cmp j e.1 c) ≡ put nat_cmp j e.1 c) → find order e.0 es ≡ None → written j p es (cond b (put nat_cmp j e.1 c) c) ≡ put nat_cmp j v c
      by_case true k h rest other none =
          other (ap is_some (ap (λ (q : List ℕ). find order q es) (same_key p e.0 k) ∙ none)) ∙ ap (λ (x : Option Node). put nat_cmp j x c) (let y : e.1 ≡ v = cc in y)
      by_case false k h rest other none = rest h

  module _ (d : Option Changes) where
    dropped_other : (es : ChangeList) (c : Pairs) → names es p ≡ false → dropped j d p es c ≡ c
    dropped_other [] c h = refl
    dropped_other (e ∷ es) c h = by_case (eq_by_cmp order p e.0) h (dropped_other es c)
      where
        by_case : (b : Bool) → is_some (cond b (Some e.1) (find order p es)) ≡ false → (names es p ≡ false → dropped j d p es c ≡ c) → dropped j d p es (cond (b && not (keeps d e.0)) (without j c) c) ≡ c
        by_case true h rest = absurd (cc)
        by_case false h rest = rest h

    dropped_kept : (es : ChangeList) (c : Pairs) → keeps d p ≡ true → dropped j d p es c ≡ c
    dropped_kept [] c h = refl
    dropped_kept (e ∷ es) c h = by_case (eq_by_cmp order p e.0) refl (dropped_kept es c h)
      where
        by_case : (b : Bool) → eq_by_cmp order p e.0 ≡ b → dropped j d p es c ≡ c → dropped j d p es (cond (b && not (keeps d e.0)) (without j c) c) ≡ c
        by_case true k rest = ap (λ b. dropped j d p es (cond (not b) (without j c) c)) (ap (keeps d) (sym (same_key p e.0 k)) ∙ h) ∙ rest
        by_case false k rest = rest

    dropped_again : (es : ChangeList) (c : Pairs) → dropped j d p es (without j c) ≡ without j c
    dropped_again [] c = refl
    dropped_again (e ∷ es) c = by_case (eq_by_cmp order p e.0 && not (keeps d e.0)) (dropped_again es c)
      where
        by_case : (b : Bool) → dropped j d p es (without j c) ≡ without j c → dropped j d p es (cond b (without j (without j c)) (without j c)) ≡ without j c
        by_case true rest = ap (dropped j d p es) (without_twice j c) ∙ rest
        by_case false rest = rest

    dropped_here : (es : ChangeList) (c : Pairs) → names es p ≡ true → keeps d p ≡ false → dropped j d p es c ≡ without j c
    dropped_here [] c h none = absurd (cc)
    dropped_here (e ∷ es) c h none = by_case (eq_by_cmp order p e.0) refl h (dropped_here es c) (dropped_again es c)
      where
        by_case : (b : Bool) → eq_by_cmp order p e.0 ≡ b → is_some (cond b (Some e.1) (find order p es)) ≡ true → (names es p ≡ true → keeps d p ≡ false → dropped j d p es c ≡ without j c)
            → dropped j d p es (without j c) ≡ without j c → dropped j d p es (cond (b && not (keeps d e.0)) (without j c) c) ≡ without j c
        by_case true k h rest again = ap (λ b. dropped j d p es (cond (not b) (without j c) c)) (ap (keeps d) (sym (same_key p e.0 k)) ∙ none) ∙ again
        by_case false k h rest again = rest h none

-- ---- room

absent : {A : Type 0} (o : Option A) → is_some o ≡ false → o ≡ None
absent None h = refl
absent (Some x) h = absurd (cc)

module _ (j : ℕ) (c : Pairs) where
  roomed_had : IsSome (find nat_cmp j c) → roomed j c ≡ c
  roomed_had h = ap (λ b. cond b c (put nat_cmp j None c)) h

  roomed_new : find nat_cmp j c ≡ None → roomed j c ≡ put nat_cmp j None c
  roomed_new h = ap (λ (o : Option (Option Node)). cond (is_some o) c (put nat_cmp j None c)) h

  pub room_made : IsSome (find nat_cmp j (roomed j c))
  room_made = by_case (is_some (find nat_cmp j c)) refl
    where
      by_case : (b : Bool) → is_some (find nat_cmp j c) ≡ b → IsSome (find nat_cmp j (cond b c (put nat_cmp j None c)))
      by_case true h = h
      by_case false h = ap is_some (find-put nat_cmp nat_cmp_total j j None c) ∙ ap (λ b. is_some (cond b (Some None) (find nat_cmp j c))) ((eq_by_cmp_equiv nat_cmp_total).refl j)

  sorted_roomed : T (is_sorted nat_cmp c) → T (is_sorted nat_cmp (roomed j c))
  sorted_roomed s = by_case (is_some (find nat_cmp j c))
    where
      by_case : (b : Bool) → T (is_sorted nat_cmp (cond b c (put nat_cmp j None c)))
      by_case true = s
      by_case false = is_sorted-put nat_cmp nat_cmp_total j None c s

  find_roomed : (k : ℕ) → eq_by_cmp nat_cmp k j ≡ false → find nat_cmp k (roomed j c) ≡ find nat_cmp k c
  find_roomed k apart = by_case (is_some (find nat_cmp j c))
    where
      by_case : (b : Bool) → find nat_cmp k (cond b c (put nat_cmp j None c)) ≡ find nat_cmp k c
      by_case true = refl
      by_case false = find-put nat_cmp nat_cmp_total k j None c ∙ ap (λ b. cond b (Some None) (find nat_cmp k c)) apart

  module _ (d : Pairs) where
    had : Roomed j c d → IsSome (find nat_cmp j c) → d ≡ c
    had (inl e) h = e
    had (inr e) h = e ∙ roomed_had h

    sorted_either : Roomed j c d → T (is_sorted nat_cmp c) → T (is_sorted nat_cmp d)
    sorted_either (inl e) s = subst (λ (x : Pairs). T (is_sorted nat_cmp x)) (sym e) s
    sorted_either (inr e) s = subst (λ (x : Pairs). T (is_sorted nat_cmp x)) (sym e) (sorted_roomed s)

    find_either : Roomed j c d → (k : ℕ) → eq_by_cmp nat_cmp k j ≡ false → find nat_cmp k d ≡ find nat_cmp k c
    find_either (inl e) k apart = ap (find nat_cmp k) e
    find_either (inr e) k apart = ap (find nat_cmp k) e ∙ find_roomed k apart

    -- without the job it is as before
    left_as_was : Roomed j c d → T (is_sorted nat_cmp c) → find nat_cmp j c ≡ None → without j d ≡ c
    left_as_was r s none = same_pairs (without j d) c (sorted_without j d (sorted_either r s)) s (λ k. find_without j k d ∙ by_case k (eq_by_cmp nat_cmp k j) refl)
      where
        by_case : (k : ℕ) (b : Bool) → eq_by_cmp nat_cmp k j ≡ b → cond b None (find nat_cmp k d) ≡ find nat_cmp k c
        by_case k true e = sym (ap (λ (i : ℕ). find nat_cmp i c) (tied k j e) ∙ none)
        by_case k false e = find_either r k e

-- ---- the three calls

pub undone : (j : ℕ) (old : Option Changes) (q : List ℕ) (es : ChangeList) (c d : Pairs) → T (is_sorted nat_cmp c) → Roomed j c d → (names es q ≡ false → d ≡ c)
    → is_some (find nat_cmp j c) ≡ keeps old q → dropped j old q es d ≡ c
undone j old q es c d s r others posted = by_case (keeps old q) (names es q) refl refl
  where
    by_case : (a b : Bool) → keeps old q ≡ a → names es q ≡ b → dropped j old q es d ≡ c
    by_case true b e f = dropped_kept j q old es d e ∙ had j c d r (posted ∙ e)
    by_case false true e f = dropped_here j q old es d f e ∙ left_as_was j c d r s (absent (find nat_cmp j c) (posted ∙ e))
    by_case false false e f = dropped_other j q old es d f ∙ others f

-- what is left of the chain of q where the job is taken out
module _ (ps : Posts) (j : ℕ) (q : List ℕ) (d : Option Changes) (gone : keeps d q ≡ false) where
  left : Pairs
  left = dropped_by j d q (get ps j) (chain_of ps q)

  record Left (c : Pairs) : Type 0 where
    sorted : T (is_sorted nat_cmp c)
    finds : (k : ℕ) → find nat_cmp k c ≡ cond (eq_by_cmp nat_cmp k j) None (find nat_cmp k (chain_of ps q))

  left_same : find nat_cmp j (chain_of ps q) ≡ None → Left (chain_of ps q)
  left_same none = record { sorted = sorted_chain ps q; finds = λ k. by_case k (eq_by_cmp nat_cmp k j) refl }
    where
      by_case : (k : ℕ) (b : Bool) → eq_by_cmp nat_cmp k j ≡ b → find nat_cmp k (chain_of ps q) ≡ cond b None (find nat_cmp k (chain_of ps q))
      by_case k true e = ap (λ (i : ℕ). find nat_cmp i (chain_of ps q)) (tied k j e) ∙ none
      by_case k false e = refl

  left_without : Left (without j (chain_of ps q))
  left_without = record { sorted = sorted_without j (chain_of ps q) (sorted_chain ps q); finds = λ k. find_without j k (chain_of ps q) }

  left_is : (o : Option Post) → get ps j ≡ o → Left (dropped_by j d q o (chain_of ps q))
  left_is None e = left_same (found_chain ps q j ∙ ap (λ (o : Option Post). change_in o q) e)
  left_is (Some post) e = by_case (names (entries post.delta) q) refl
    where
      by_case : (b : Bool) → names (entries post.delta) q ≡ b → Left (dropped j d q (entries post.delta) (chain_of ps q))
      by_case true f = subst Left (sym (dropped_here j q d (entries post.delta) (chain_of ps q) f gone)) left_without
      by_case false f = subst Left (sym (dropped_other j q d (entries post.delta) (chain_of ps q) f))
          (left_same (found_chain ps q j ∙ ap (λ (o : Option Post). change_in o q) e ∙ get-entries post.delta q ∙ absent (find order q (entries post.delta)) f))

  -- a map of posts that has the others', and at the job one that doesn't name q
  left_chain : (new : Posts) (o : Option Post) → ((k : ℕ) → get new k ≡ cond (eq_by_cmp nat_cmp k j) o (get ps k)) → change_in o q ≡ None → dropped_by j d q (get ps j) (chain_of ps q) ≡ chain_of new q
  left_chain new o at none =
      let l = left_is (get ps j) refl in
      same_pairs (dropped_by j d q (get ps j) (chain_of ps q)) (chain_of new q) l.sorted (sorted_chain new q) (λ k.
      l.finds k ∙ by_case k (eq_by_cmp nat_cmp k j) ∙ sym (found_chain new q k ∙ ap (λ (x : Option Post). change_in x q) (at k)))
    where
      by_case : (k : ℕ) (b : Bool) → cond b None (find nat_cmp k (chain_of ps q)) ≡ change_in (cond b o (get ps k)) q
      by_case k true = sym none
      by_case k false = found_chain ps q k

pub withdrawn : (ps : Posts) (j : ℕ) (q : List ℕ) → dropped_by j None q (get ps j) (chain_of ps q) ≡ chain_of (remove ps j) q
withdrawn ps j q = left_chain ps j q None refl (remove ps j) None (λ k. get-remove nat_cmp_total ps j k) refl

pub posted : (ps : Posts) (j : ℕ) (post : Post) (q : List ℕ) (m : Pairs) → Roomed j (chain_of ps q) m → (names (entries post.delta) q ≡ false → m ≡ chain_of ps q)
    → dropped_by j (Some post.delta) q (get ps j) (written j q (entries post.delta) m) ≡ chain_of (insert ps j post) q
posted ps j post q m r others = by_change (get post.delta q) refl
  where
    kept : (o : Option Post) (c : Pairs) → keeps (Some post.delta) q ≡ true → dropped_by j (Some post.delta) q o c ≡ c
    kept None c h = refl
    kept (Some old) c h = dropped_kept j q (Some post.delta) (entries old.delta) c h

    by_case : (v : Option Node) → get post.delta q ≡ Some v → (k : ℕ) (b : Bool) → eq_by_cmp nat_cmp k j ≡ b → cond b (Some v) (find nat_cmp k m) ≡ change_in (cond b (Some post) (get ps k)) q
    by_case v e k true f = sym e
    by_case v e k false f = find_either j (chain_of ps q) m r k f ∙ found_chain ps q k

    by_change : (o : Option (Option Node)) → get post.delta q ≡ o → dropped_by j (Some post.delta) q (get ps j) (written j q (entries post.delta) m) ≡ chain_of (insert ps j post) q
    by_change (Some v) e =
        kept (get ps j) (written j q (entries post.delta) m) (ap is_some e)
        ∙ written_here j q (entries post.delta) m v (entries_sorted post.delta) (sym (get-entries post.delta q) ∙ e)
        ∙ same_pairs (put nat_cmp j v m) (chain_of (insert ps j post) q) (is_sorted-put nat_cmp nat_cmp_total j v m (sorted_either j (chain_of ps q) m r (sorted_chain ps q))) (sorted_chain (insert ps j post) q)
        (λ k. find-put nat_cmp nat_cmp_total k j v m ∙ by_case v e k (eq_by_cmp nat_cmp k j) refl
        ∙ sym (found_chain (insert ps j post) q k ∙ ap (λ (x : Option Post). change_in x q) (get-insert nat_cmp_total ps j post k)))
    by_change None e =
        let none : names (entries post.delta) q ≡ false = ap is_some (sym (get-entries post.delta q) ∙ e) in
        ap (dropped_by j (Some post.delta) q (get ps j)) (written_other j q (entries post.delta) m none ∙ others none)
        ∙ left_chain ps j q (Some post.delta) (ap is_some e) (insert ps j post) (Some post) (λ k. get-insert nat_cmp_total ps j post k) e

-- ---- on the way through the changes

module _ (j : ℕ) (c m n : Pairs) (b : Bool) (is : n ≡ cond b (roomed j m) m) where
  pub roomed_step : Roomed j c m → Roomed j c n
  roomed_step = by_case b is
    where
      by_case : (b : Bool) → n ≡ cond b (roomed j m) m → Roomed j c m → Roomed j c n
      by_case true e (inl f) = inr (e ∙ ap (roomed j) f)
      by_case true e (inr f) = inr (e ∙ ap (roomed j) f ∙ roomed_had j (roomed j c) (room_made j c))
      by_case false e (inl f) = inl (e ∙ f)
      by_case false e (inr f) = inr (e ∙ f)

  pub room_step : b ≡ true → IsSome (find nat_cmp j n)
  room_step h = ap (λ (d : Pairs). is_some (find nat_cmp j d)) (is ∙ ap (λ e. cond e (roomed j m) m) h) ∙ room_made j m

  pub room_stays : IsSome (find nat_cmp j m) → IsSome (find nat_cmp j n)
  room_stays h = ap (λ (d : Pairs). is_some (find nat_cmp j d)) is ∙ by_case b
    where
      by_case : (b : Bool) → IsSome (find nat_cmp j (cond b (roomed j m) m))
      by_case true = room_made j m
      by_case false = h

pub names_other : (es : ChangeList) (i : ℕ) (x : List ℕ × Option Node) (q : List ℕ) → i < length es → x ≡ get_or es i x → names es q ≡ false → eq_by_cmp order q x.0 ≡ false
names_other [] i x q l e h = absurd (omega arith)
names_other (y ∷ es) zero x q l e h = ap (λ (z : List ℕ × Option Node). eq_by_cmp order q z.0) e ∙ by_case (eq_by_cmp order q y.0) h
  where
    by_case : (b : Bool) → is_some (cond b (Some y.1) (find order q es)) ≡ false → b ≡ false
    by_case true h = absurd (cc)
    by_case false h = refl
names_other (y ∷ es) (suc i) x q l e h = names_other es i x q (omega arith) e (by_case (eq_by_cmp order q y.0) h)
  where
    by_case : (b : Bool) → is_some (cond b (Some y.1) (find order q es)) ≡ false → names es q ≡ false
    by_case true h = absurd (cc)
    by_case false h = h

pub names_more : (es : ChangeList) (i : ℕ) (x : List ℕ × Option Node) (q : List ℕ) → i < length es → x ≡ get_or es i x → names (take (suc i) es) q ≡ true
    → (names (take i es) q ≡ true) ⊎ (eq_by_cmp order q x.0 ≡ true)
names_more [] i x q l e h = absurd (omega arith)
names_more (y ∷ es) zero x q l e h = inr (ap (λ (z : List ℕ × Option Node). eq_by_cmp order q z.0) e ∙ first (eq_by_cmp order q y.0) h)
  where
    first : (b : Bool) → is_some (cond b (Some y.1) None) ≡ true → b ≡ true
    first true h = refl
    first false h = absurd (cc)
names_more (y ∷ es) (suc i) x q l e h = by_case (eq_by_cmp order q y.0) h (names_more es i x q (omega arith) e)
  where
    by_case : (b : Bool) → is_some (cond b (Some y.1) (find order q (take (suc i) es))) ≡ true → (names (take (suc i) es) q ≡ true → (names (take i es) q ≡ true) ⊎ (eq_by_cmp order q x.0 ≡ true))
        → (is_some (cond b (Some y.1) (find order q (take i es))) ≡ true) ⊎ (eq_by_cmp order q x.0 ≡ true)
    by_case true h rest = inl refl
    by_case false h rest = rest h

pub all_taken : (es : ChangeList) (i : ℕ) → length es ≤ i → take i es ≡ es
all_taken es i h = take_all i es h

-- the first of the changes, and what is left of them
pub names_first : (e : List ℕ × Option Node) (es : ChangeList) → names (e ∷ es) e.0 ≡ true
names_first e es = ap (λ b. is_some (cond b (Some e.1) (find order e.0 es))) ((eq_by_cmp_equiv nat_list_cmp_total).refl e.0)

pub names_rest : (e : List ℕ × Option Node) (es : ChangeList) (q : List ℕ) → names es q ≡ true → names (e ∷ es) q ≡ true
names_rest e es q h = by_case (eq_by_cmp order q e.0)
  where
    by_case : (b : Bool) → is_some (cond b (Some e.1) (find order q es)) ≡ true
    by_case true = refl
    by_case false = h

pub write_stays : (j : ℕ) (v : Option Node) (m n : Pairs) (b : Bool) → n ≡ cond b (put nat_cmp j v m) m → IsSome (find nat_cmp j m) → IsSome (find nat_cmp j n)
write_stays j v m n b is h = ap (λ (d : Pairs). is_some (find nat_cmp j d)) is ∙ by_case b
  where
    by_case : (b : Bool) → IsSome (find nat_cmp j (cond b (put nat_cmp j v m) m))
    by_case true = ap is_some (find-put nat_cmp nat_cmp_total j j v m) ∙ ap (λ c. is_some (cond c (Some v) (find nat_cmp j m))) ((eq_by_cmp_equiv nat_cmp_total).refl j)
    by_case false = h

-- ---- a chain that is cut

from_self : (j : ℕ) (c : Pairs) → find nat_cmp j (from_job j c) ≡ find nat_cmp j c
from_self j c =
    find-where_key nat_cmp (λ k. not (nat_lt k j)) j (λ x t. ap (λ (y : ℕ). not (nat_lt y j)) (sym (tied j x (ap is_eq t)))) c
    ∙ ap (λ b. cond (not b) (find nat_cmp j c) None) (le-ltb j j (omega arith))

from_twice : (j : ℕ) (c : Pairs) → from_job j (from_job j c) ≡ from_job j c
from_twice j [] = refl
from_twice j (e ∷ c) = by_case (nat_lt e.0 j) refl (from_twice j c)
  where
    by_case : (b : Bool) → nat_lt e.0 j ≡ b → from_job j (from_job j c) ≡ from_job j c → from_job j (cond (not b) (e ∷ from_job j c) (from_job j c)) ≡ cond (not b) (e ∷ from_job j c) (from_job j c)
    by_case true h rest = rest
    by_case false h rest = ap (λ b. cond (not b) (e ∷ from_job j (from_job j c)) (from_job j (from_job j c))) h ∙ ap (λ (d : Pairs). e ∷ d) rest

pub cut_stays : (j : ℕ) (m n : Pairs) (b : Bool) → n ≡ cond b (from_job j m) m → IsSome (find nat_cmp j m) → IsSome (find nat_cmp j n)
cut_stays j m n b is h = ap (λ (d : Pairs). is_some (find nat_cmp j d)) is ∙ by_case b
  where
    by_case : (b : Bool) → IsSome (find nat_cmp j (cond b (from_job j m) m))
    by_case true = ap is_some (from_self j m) ∙ h
    by_case false = h

pub cut_step : (j : ℕ) (q : List ℕ) (e : List ℕ × Option Node) (es : ChangeList) (m n : Pairs) → n ≡ cond (eq_by_cmp order q e.0) (from_job j m) m → cut_at j q es n ≡ cut_at j q (e ∷ es) m
cut_step j q e es m n is = ap (cut_at j q es) is ∙ by_case (eq_by_cmp order q e.0) (find order q es)
  where
    by_case : (b : Bool) (o : Option (Option Node)) → cond (is_some o) (from_job j (cond b (from_job j m) m)) (cond b (from_job j m) m) ≡ cond (is_some (cond b (Some e.1) o)) (from_job j m) m
    by_case true None = refl
    by_case true (Some x) = from_twice j m
    by_case false o = refl
