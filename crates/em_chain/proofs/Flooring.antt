-- Chains whose first pair may be merged below a floor.
--     lies_below h f         where there is a pair h, its job is below f
--     split_head, split_rest      a pair below the floor in front of pairs that aren't
--     posted_over, withdrawn_over, undone_over      the three calls on such a chain
--     live_insert, live_remove    the live posts with one more, and without one
use Rattle.std.proofs.Common.{◌≡◌, ◌<◌, ◌≤◌, ℕ, Bool, true, false, cond, not, ◌&&◌, inl, inr, List, [], ◌∷◌, Option, Some, None, refl, sym, ap, subst, ◌∙◌, option_map, arith}
use Rattle.std.specs.Prelude.{T, is_some, nat_lt, filter_map}
use Rattle.std.specs.List.{cons_option, filter}
use Rattle.std.specs.declared.cmp.Ordering.TheVariants.{Less}
use Rattle.std.specs.Ordering.{nat_cmp, is_lt, is_eq, eq_by_cmp}
use Rattle.std.specs.Cmp.{nat_cmp_is, nat_cmp_total}
use Rattle.std.specs.FinMap.{get, get-entries, insert, remove, entries, entries_sorted, get-retain_keys, get-insert, get-remove, same_map, find, put, is_sorted, nat_cmp-IsAntisymmetric}
use Rattle.std.specs.FinMap.Entries.{below_all, by_order, where_key, is_sorted-where_key, find-where_key, same_entries}
use Rattle.std.proofs.lemmas.Bool.{lt-ltb, le-ltb, ltb-true, ltb-false}
use Rattle.em_tree.specs.declared.node.Node.{Node}
use Rattle.em_tree.specs.Trees.{Changes}
use Rattle.em_tree.proofs.Maps.{order}
use Rattle.em_chain.specs.declared.post.Post.{Post}
use Rattle.em_chain.specs.Pairs.{Pairs}
use Rattle.em_chain.specs.Posts.{Posts}
use Rattle.em_chain.specs.Chains.{chain_of, head_below, from_job, roomed, without}
use Rattle.em_chain.specs.Floors.{is_live, live_from}
use Rattle.em_chain.specs.Marks.{ChangeList, names, keeps, written, dropped, dropped_by, Roomed}
use Rattle.em_chain.proofs.Pairs.{tied, more, apart}
use Rattle.em_chain.proofs.Marking.{change_in, found_chain, sorted_chain, posted, withdrawn, both_T}

abbrev pub lies_below : Option (ℕ × Option Node) → ℕ → Type 0
lies_below None f = Unit {0}
lies_below (Some e) f = e.0 < f

abbrev pub all_from : ℕ → Pairs → Type 0
all_from f [] = Unit {0}
all_from f (e ∷ c) = (f ≤ e.0) × all_from f c

pub head_lies : (f : ℕ) (c : Pairs) → lies_below (head_below f c) f
head_lies f [] = tt
head_lies f (e ∷ c) = by_case (nat_lt e.0 f) refl
  where
    by_case : (b : Bool) → nat_lt e.0 f ≡ b → lies_below (cond b (Some e) None) f
    by_case true h = ltb-true e.0 f h
    by_case false h = tt

-- ---- a pair in front

pub split_head : (f : ℕ) (h : Option (ℕ × Option Node)) (r : Pairs) → lies_below h f → all_from f r → head_below f (cons_option h r) ≡ h
split_head f None [] l a = refl
split_head f None (e ∷ r) l a = ap (λ b. cond b (Some e) None) (le-ltb e.0 f a.0)
split_head f (Some e) r l a = ap (λ b. cond b (Some e) None) (lt-ltb e.0 f l)

pub from_all : (f : ℕ) (r : Pairs) → all_from f r → from_job f r ≡ r
from_all f [] a = refl
from_all f (e ∷ r) a = ap (λ b. cond (not b) (e ∷ from_job f r) (from_job f r)) (le-ltb e.0 f a.0) ∙ ap (λ (c : Pairs). e ∷ c) (from_all f r a.1)

pub split_rest : (f : ℕ) (h : Option (ℕ × Option Node)) (r : Pairs) → lies_below h f → all_from f r → from_job f (cons_option h r) ≡ r
split_rest f None r l a = from_all f r a
split_rest f (Some e) r l a = ap (λ b. cond (not b) (e ∷ from_job f r) (from_job f r)) (lt-ltb e.0 f l) ∙ from_all f r a

below_from : (x f : ℕ) (r : Pairs) → x < f → all_from f r → T (below_all nat_cmp x r)
below_from x f [] l a = tt
below_from x f (e ∷ r) l a = both_T (is_lt (nat_cmp x e.0)) (below_all nat_cmp x r) (subst (λ o. T (is_lt o)) (nat_cmp_is x e.0 Less (omega (arith, l, a.0))) tt) (below_from x f r l a.1)

pub split_sorted : (f : ℕ) (h : Option (ℕ × Option Node)) (r : Pairs) → lies_below h f → all_from f r → T (is_sorted nat_cmp r) → T (is_sorted nat_cmp (cons_option h r))
split_sorted f None r l a s = s
split_sorted f (Some e) r l a s = both_T (below_all nat_cmp e.0 r) (is_sorted nat_cmp r) (below_from e.0 f r l a) s

pub lower : (h : Option (ℕ × Option Node)) (f j : ℕ) → f ≤ j → lies_below h f → lies_below h j
lower None f j le l = tt
lower (Some e) f j le l = omega (arith, le, l)

-- ---- a job that isn't below, on a chain with a pair in front

module _ (j : ℕ) where
  pub find_behind : (h : Option (ℕ × Option Node)) (r : Pairs) → lies_below h j → find nat_cmp j (cons_option h r) ≡ find nat_cmp j r
  find_behind None r l = refl
  find_behind (Some e) r l = ap (λ b. cond b (Some e.1) (find nat_cmp j r)) (apart j e.0 l)

  put_behind : (v : Option Node) (h : Option (ℕ × Option Node)) (r : Pairs) → lies_below h j → put nat_cmp j v (cons_option h r) ≡ cons_option h (put nat_cmp j v r)
  put_behind v None r l = refl
  put_behind v (Some e) r l = ap (λ o. by_order o ((j, v) ∷ e ∷ r) ((e.0, v) ∷ r) (e ∷ put nat_cmp j v r)) (more j e.0 l)

  without_behind : (h : Option (ℕ × Option Node)) (r : Pairs) → lies_below h j → without j (cons_option h r) ≡ cons_option h (without j r)
  without_behind None r l = refl
  without_behind (Some e) r l = ap (λ b. cond (not b) (e ∷ without j r) (without j r)) (apart j e.0 l)

  roomed_behind : (h : Option (ℕ × Option Node)) (r : Pairs) → lies_below h j → roomed j (cons_option h r) ≡ cons_option h (roomed j r)
  roomed_behind h r l =
      ap (λ (o : Option (Option Node)). cond (is_some o) (cons_option h r) (put nat_cmp j None (cons_option h r))) (find_behind h r l)
      ∙ ap (λ (c : Pairs). cond (is_some (find nat_cmp j r)) (cons_option h r) c) (put_behind None h r l) ∙ by_case (is_some (find nat_cmp j r))
    where
      by_case : (b : Bool) → cond b (cons_option h r) (cons_option h (put nat_cmp j None r)) ≡ cons_option h (cond b r (put nat_cmp j None r))
      by_case true = refl
      by_case false = refl

  written_behind : (p : List ℕ) (es : ChangeList) (h : Option (ℕ × Option Node)) (r : Pairs) → lies_below h j → written j p es (cons_option h r) ≡ cons_option h (written j p es r)
  written_behind p [] h r l = refl
  written_behind p (e ∷ es) h r l =
      ap (λ (c : Pairs). written j p es (cond (eq_by_cmp order p e.0) c (cons_option h r))) (put_behind e.1 h r l)
      ∙ by_case (eq_by_cmp order p e.0) (λ c. written_behind p es h c l)
    where
      by_case : (b : Bool) → ((c : Pairs) → written j p es (cons_option h c) ≡ cons_option h (written j p es c))
          → written j p es (cond b (cons_option h (put nat_cmp j e.1 r)) (cons_option h r)) ≡ cons_option h (written j p es (cond b (put nat_cmp j e.1 r) r))
      by_case true rest = rest (put nat_cmp j e.1 r)
      by_case false rest = rest r

  dropped_behind : (d : Option Changes) (p : List ℕ) (es : ChangeList) (h : Option (ℕ × Option Node)) (r : Pairs) → lies_below h j → dropped j d p es (cons_option h r) ≡ cons_option h (dropped j d p es r)
  dropped_behind d p [] h r l = refl
  dropped_behind d p (e ∷ es) h r l =
      ap (λ (c : Pairs). dropped j d p es (cond (eq_by_cmp order p e.0 && not (keeps d e.0)) c (cons_option h r))) (without_behind h r l)
      ∙ by_case (eq_by_cmp order p e.0 && not (keeps d e.0)) (λ c. dropped_behind d p es h c l)
    where
      by_case : (b : Bool) → ((c : Pairs) → dropped j d p es (cons_option h c) ≡ cons_option h (dropped j d p es c))
          → dropped j d p es (cond b (cons_option h (without j r)) (cons_option h r)) ≡ cons_option h (dropped j d p es (cond b (without j r) r))
      by_case true rest = rest (without j r)
      by_case false rest = rest r

  dropped_by_behind : (d : Option Changes) (p : List ℕ) (o : Option Post) (h : Option (ℕ × Option Node)) (r : Pairs) → lies_below h j → dropped_by j d p o (cons_option h r) ≡ cons_option h (dropped_by j d p o r)
  dropped_by_behind d p None h r l = refl
  dropped_by_behind d p (Some post) h r l = dropped_behind d p (entries post.delta) h r l

  -- what room makes of the pairs behind
  room_behind : (h : Option (ℕ × Option Node)) (r d : Pairs) → lies_below h j → Roomed j (cons_option h r) d → (m : Pairs) × (d ≡ cons_option h m) × Roomed j r m × (d ≡ cons_option h r → m ≡ r)
  room_behind h r d l (inl e) = (r, e, inl refl, λ _. refl)
  room_behind h r d l (inr e) = (roomed j r, e ∙ roomed_behind h r l, inr refl, λ f. same_rest h (roomed j r) r (sym (e ∙ roomed_behind h r l) ∙ f))
    where
      rest : Pairs → Pairs
      rest [] = []
      rest (x ∷ xs) = xs

      same_rest : (h : Option (ℕ × Option Node)) (x y : Pairs) → cons_option h x ≡ cons_option h y → x ≡ y
      same_rest None x y e = e
      same_rest (Some z) x y e = ap rest e

-- ---- the posts from the floor on

pub get_live : (f : ℕ) (ps : Posts) (k : ℕ) → get (live_from f ps) k ≡ cond (is_live f k) (get ps k) None
get_live f ps k = get-retain_keys ps (is_live f) k (λ x t. ap (is_live f) (sym (tied k x (ap is_eq t))))

pub live_here : (f : ℕ) (ps : Posts) (j : ℕ) → f ≤ j → get (live_from f ps) j ≡ get ps j
live_here f ps j le = get_live f ps j ∙ ap (λ b. cond (not b) (get ps j) None) (le-ltb j f le)

pub same_posts : (m n : Posts) → ((k : ℕ) → get m k ≡ get n k) → m ≡ n
same_posts = same_map nat_cmp_total nat_cmp-IsAntisymmetric

pub live_insert : (f : ℕ) (ps : Posts) (j : ℕ) (x : Post) → f ≤ j → live_from f (insert ps j x) ≡ insert (live_from f ps) j x
live_insert f ps j x le = same_posts (live_from f (insert ps j x)) (insert (live_from f ps) j x) (λ k.
    get_live f (insert ps j x) k ∙ ap (λ (o : Option Post). cond (is_live f k) o None) (get-insert nat_cmp_total ps j x k)
    ∙ by_case k (eq_by_cmp nat_cmp k j) refl ∙ ap (λ (o : Option Post). cond (eq_by_cmp nat_cmp k j) (Some x) o) (sym (get_live f ps k)) ∙ sym (get-insert nat_cmp_total (live_from f ps) j x k))
  where
    by_case : (k : ℕ) (b : Bool) → eq_by_cmp nat_cmp k j ≡ b → cond (is_live f k) (cond b (Some x) (get ps k)) None ≡ cond b (Some x) (cond (is_live f k) (get ps k) None)
    by_case k true e = ap (λ b. cond (not b) (Some x) None) (le-ltb k f (subst (λ (i : ℕ). f ≤ i) (sym (tied k j e)) le))
    by_case k false e = refl

pub live_remove : (f : ℕ) (ps : Posts) (j : ℕ) → live_from f (remove ps j) ≡ remove (live_from f ps) j
live_remove f ps j = same_posts (live_from f (remove ps j)) (remove (live_from f ps) j) (λ k.
    get_live f (remove ps j) k ∙ ap (λ (o : Option Post). cond (is_live f k) o None) (get-remove nat_cmp_total ps j k)
    ∙ by_case k (eq_by_cmp nat_cmp k j) (is_live f k) ∙ ap (λ (o : Option Post). cond (eq_by_cmp nat_cmp k j) None o) (sym (get_live f ps k)) ∙ sym (get-remove nat_cmp_total (live_from f ps) j k))
  where
    by_case : (k : ℕ) (b c : Bool) → cond c (cond b None (get ps k)) None ≡ cond b None (cond c (get ps k) None)
    by_case k true true = refl
    by_case k true false = refl
    by_case k false c = refl

-- the live posts' chains begin at the floor
abbrev pairs_of : List (ℕ × Post) → List ℕ → Pairs
pairs_of es p = filter_map (λ e. option_map (λ c. (e.0, c)) (get e.1.delta p)) es

pub entries-live : (f : ℕ) (ps : Posts) → entries (live_from f ps) ≡ filter (λ e. is_live f e.0) (entries ps)
entries-live f ps =
    same_entries nat_cmp nat_cmp_total nat_cmp-IsAntisymmetric (entries (live_from f ps)) (where_key nat_cmp (is_live f) (entries ps)) (entries_sorted (live_from f ps)) (is_sorted-where_key nat_cmp (is_live f) (entries ps) (entries_sorted ps))
    (λ k. sym (get-entries (live_from f ps) k) ∙ get_live f ps k ∙ ap (λ (o : Option Post). cond (is_live f k) o None) (get-entries ps k)
    ∙ sym (find-where_key nat_cmp (is_live f) k (λ x t. ap (is_live f) (sym (tied k x (ap is_eq t)))) (entries ps)))

pairs_from : (f : ℕ) (p : List ℕ) (es : List (ℕ × Post)) → all_from f (pairs_of (filter (λ e. is_live f e.0) es) p)
pairs_from f p [] = tt
pairs_from f p (e ∷ es) = by_case (nat_lt e.0 f) refl (pairs_from f p es)
  where
    by_change : (o : Option (Option Node)) (c : Pairs) → f ≤ e.0 → all_from f c → all_from f (cons_option (option_map (λ c. (e.0, c)) o) c)
    by_change None c le a = a
    by_change (Some x) c le a = (le, a)

    by_case : (b : Bool) → nat_lt e.0 f ≡ b → all_from f (pairs_of (filter (λ e. is_live f e.0) es) p)
        → all_from f (pairs_of (cond (not b) (e ∷ filter (λ e. is_live f e.0) es) (filter (λ e. is_live f e.0) es)) p)
    by_case true h a = a
    by_case false h a = by_change (get e.1.delta p) (pairs_of (filter (λ e. is_live f e.0) es) p) (ltb-false e.0 f h) a

pub live_chain : (f : ℕ) (ps : Posts) (p : List ℕ) → all_from f (chain_of (live_from f ps) p)
live_chain f ps p = subst (λ (es : List (ℕ × Post)). all_from f (pairs_of es p)) (sym (entries-live f ps)) (pairs_from f p (entries ps))

-- ---- the three calls

module _ (f : ℕ) (ps : Posts) (j : ℕ) (q : List ℕ) (h : Option (ℕ × Option Node)) (le : f ≤ j) (l : lies_below h f) where
  abbrev rest_of : Posts → Pairs
  rest_of qs = chain_of (live_from f qs) q

  lj : lies_below h j
  lj = lower h f j le l

  pub over_sorted : T (is_sorted nat_cmp (cons_option h (rest_of ps)))
  over_sorted = split_sorted f h (rest_of ps) l (live_chain f ps q) (sorted_chain (live_from f ps) q)

  pub keeps_over : is_some (find nat_cmp j (cons_option h (rest_of ps))) ≡ keeps (option_map (λ (p : Post). p.delta) (get ps j)) q
  keeps_over = ap is_some (find_behind j h (rest_of ps) lj ∙ found_chain (live_from f ps) q j ∙ ap (λ (o : Option Post). change_in o q) (live_here f ps j le)) ∙ by_case (get ps j)
    where
      by_case : (x : Option Post) → is_some (change_in x q) ≡ keeps (option_map (λ (p : Post). p.delta) x) q
      by_case None = refl
      by_case (Some post) = refl

  pub withdrawn_over : dropped_by j None q (get ps j) (cons_option h (rest_of ps)) ≡ cons_option h (rest_of (remove ps j))
  withdrawn_over =
      dropped_by_behind j None q (get ps j) h (rest_of ps) lj
      ∙ ap (cons_option h) (ap (λ (o : Option Post). dropped_by j None q o (rest_of ps)) (sym (live_here f ps j le)) ∙ withdrawn (live_from f ps) j q ∙ ap (λ (qs : Posts). chain_of qs q) (sym (live_remove f ps j)))

  pub posted_over : (post : Post) (d : Pairs) → Roomed j (cons_option h (rest_of ps)) d → (names (entries post.delta) q ≡ false → d ≡ cons_option h (rest_of ps))
      → dropped_by j (Some post.delta) q (get ps j) (written j q (entries post.delta) d) ≡ cons_option h (rest_of (insert ps j post))
  posted_over post d room others =
      let r = room_behind j h (rest_of ps) d lj room in
      let m = r.0 in
      ap (λ (c : Pairs). dropped_by j (Some post.delta) q (get ps j) (written j q (entries post.delta) c)) r.1
      ∙ ap (dropped_by j (Some post.delta) q (get ps j)) (written_behind j q (entries post.delta) h m lj)
      ∙ dropped_by_behind j (Some post.delta) q (get ps j) h (written j q (entries post.delta) m) lj
      ∙ ap (cons_option h) (ap (λ (o : Option Post). dropped_by j (Some post.delta) q o (written j q (entries post.delta) m)) (sym (live_here f ps j le))
      ∙ posted (live_from f ps) j post q m r.2 (λ n. r.3 (others n)) ∙ ap (λ (qs : Posts). chain_of qs q) (sym (live_insert f ps j post le)))

-- ---- one pair, and what is from the floor on

pub refit : (f : ℕ) (ps : Posts) (q : List ℕ) (h : Option (ℕ × Option Node)) (c : Pairs) → lies_below h f → c ≡ cons_option h (chain_of (live_from f ps) q) → head_below f c ≡ h
refit f ps q h c l e = ap (head_below f) e ∙ split_head f h (chain_of (live_from f ps) q) l (live_chain f ps q)

pub refits : (f : ℕ) (ps : Posts) (q : List ℕ) (h : Option (ℕ × Option Node)) (c : Pairs) → lies_below h f → c ≡ cons_option h (chain_of (live_from f ps) q) → c ≡ cons_option (head_below f c) (chain_of (live_from f ps) q)
refits f ps q h c l e = e ∙ ap (λ (o : Option (ℕ × Option Node)). cons_option o (chain_of (live_from f ps) q)) (sym (refit f ps q h c l e))
