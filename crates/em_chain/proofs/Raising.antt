-- What raising the floor leaves.
--     thinned_fits, thinned_head      a chain whose pair in front is dropped where the job of the floor has one
--     raised_held, raised_is          the chains that are held, and what is seen of them, with the floor one higher
--     raised_none, raised_more        a floor that stays, and one after another
--     at_first, at_post, at_raise, at_look      posts with a floor, seen as all the posts: none, one more, a higher floor, an answer
use Rattle.std.proofs.Common.{◌≡◌, ◌<◌, ◌≤◌, ◌+◌, ℕ, Bool, true, false, cond, not, ◌⊎◌, inl, inr, List, [], ◌∷◌, Option, Some, None, refl, sym, ap, subst, ◌∙◌, option_map, arith}
use Rattle.std.specs.Prelude.{T, IsSome, is_some, nat_lt}
use Rattle.std.specs.List.{cons_option, filter}
use Rattle.std.specs.declared.cmp.Ordering.{Ordering}
use Rattle.std.specs.declared.cmp.Ordering.TheVariants.{Less, Equal, Greater}
use Rattle.std.specs.Ordering.{nat_cmp, is_lt, is_eq, eq_by_cmp}
use Rattle.std.specs.Cmp.{nat_cmp_is, nat_cmp_total, ranked}
use Rattle.std.specs.FinMap.{get, insert, empty, entries, find, is_sorted, get-empty, get-entries, get-insert}
use Rattle.std.specs.FinMap.Entries.{below_all, find-where_key, is_sorted-where_key}
use Rattle.std.proofs.lemmas.Bool.{lt-ltb, le-ltb, ltb-true, ltb-false}
use Rattle.em_tree.specs.declared.node.Node.{Node}
use Rattle.em_tree.specs.declared.state.State.{State}
use Rattle.em_tree.specs.declared.outcome.Outcome.{Outcome}
use Rattle.em_tree.specs.declared.question.Question.{Question}
use Rattle.em_tree.specs.Trees.{Table, Changes}
use Rattle.em_tree.specs.Answers.{answer_on}
use Rattle.em_tree.proofs.Laying.{over, same_table}
use Rattle.em_chain.specs.declared.post.Post.{Post}
use Rattle.em_chain.specs.Pairs.{Pairs}
use Rattle.em_chain.specs.Posts.{Posts, Posted, Floored}
use Rattle.em_chain.specs.Chains.{chain_of, head_below, from_job, last_from, last_below}
use Rattle.em_chain.specs.Looking.{table_below, outcome_below, looked}
use Rattle.em_chain.specs.Floors.{is_live, live, live_from, chain_over, change_over, table_over, outcome_over, looked_over, emptied, kept, IsMerged, IsRaised, IsAt}
use Rattle.em_chain.specs.Lines.{LineTable, IsHeld, chain_at, merged_in}
use Rattle.em_chain.specs.Marks.{names, cut_at}
use Rattle.em_chain.proofs.Pairs.{tied}
use Rattle.em_chain.proofs.Marking.{change_in, same_pairs, sorted_chain, found_chain, first_T, second_T}
use Rattle.em_chain.proofs.Flooring.{lies_below, all_from, head_lies, lower, find_behind, from_all, split_head, split_rest, split_sorted, get_live, same_posts, live_here, live_chain}
use Rattle.em_chain.proofs.Posting.{stands, stands_plain, get-merged, last_head}

-- ---- the live posts

above_both : (f g k : ℕ) → f ≤ g → {A : Type 0} (o : Option A) → cond (is_live g k) (cond (is_live f k) o None) None ≡ cond (is_live g k) o None
above_both f g k le o = by_case (nat_lt k g) refl
  where
    by_case : (b : Bool) → nat_lt k g ≡ b → cond (not b) (cond (is_live f k) o None) None ≡ cond (not b) o None
    by_case true e = refl
    by_case false e = ap (λ b. cond (not b) o None) (le-ltb k f (let h : g ≤ k = ltb-false k g e in omega (arith, h, le)))

pub live_more : (f g : ℕ) (ps : Posts) → f ≤ g → live_from g (live_from f ps) ≡ live_from g ps
live_more f g ps le = same_posts (live_from g (live_from f ps)) (live_from g ps) (λ k.
    get_live g (live_from f ps) k ∙ ap (λ (o : Option Post). cond (is_live g k) o None) (get_live f ps k) ∙ above_both f g k le (get ps k) ∙ sym (get_live g ps k))

-- posts that are the same from the floor on
pub live_same : (f : ℕ) (ps qs : Posts) → ((k : ℕ) → get qs k ≡ kept f k (get ps k)) → live_from f qs ≡ live_from f ps
live_same f ps qs e = same_posts (live_from f qs) (live_from f ps) (λ k.
    get_live f qs k ∙ ap (λ (o : Option Post). cond (is_live f k) o None) (e k) ∙ by_case (nat_lt k f) (get ps k) ∙ sym (get_live f ps k))
  where
    by_case : (b : Bool) (o : Option Post) → cond (not b) (cond b (option_map emptied o) o) None ≡ cond (not b) o None
    by_case true o = refl
    by_case false o = refl

find_from : (f k : ℕ) (c : Pairs) → find nat_cmp k (from_job f c) ≡ cond (is_live f k) (find nat_cmp k c) None
find_from f k c = find-where_key nat_cmp (is_live f) k (λ x t. ap (is_live f) (sym (tied k x (ap is_eq t)))) c

sorted_from : (f : ℕ) (c : Pairs) → T (is_sorted nat_cmp c) → T (is_sorted nat_cmp (from_job f c))
sorted_from f c = is_sorted-where_key nat_cmp (is_live f) c

-- the chain of the live posts is the chain's end
pub chain_from : (f : ℕ) (ps : Posts) (p : List ℕ) → from_job f (chain_of ps p) ≡ chain_of (live_from f ps) p
chain_from f ps p = same_pairs (from_job f (chain_of ps p)) (chain_of (live_from f ps) p) (sorted_from f (chain_of ps p) (sorted_chain ps p)) (sorted_chain (live_from f ps) p) (λ k.
    find_from f k (chain_of ps p) ∙ ap (λ (o : Option (Option Node)). cond (is_live f k) o None) (found_chain ps p k) ∙ by_case (is_live f k) (get ps k)
    ∙ ap (λ (o : Option Post). change_in o p) (sym (get_live f ps k)) ∙ sym (found_chain (live_from f ps) p k))
  where
    by_case : (b : Bool) (o : Option Post) → cond b (change_in o p) None ≡ change_in (cond b o None) p
    by_case true o = refl
    by_case false o = refl

-- ---- the last pair below a job

none_below : (n : ℕ) (x : Option (ℕ × Option Node)) (r : Pairs) → all_from n r → last_from x n r ≡ x
none_below n x [] a = refl
none_below n x (e ∷ r) a = ap (λ b. last_from (cond b (Some e) x) n r) (le-ltb e.0 n a.0) ∙ none_below n x r a.1

less_is : (x y : ℕ) → T (is_lt (nat_cmp x y)) → x < y
less_is x y = by_rank (nat_cmp x y) refl
  where
    by_rank : (r : Ordering) → r ≡ nat_cmp x y → T (is_lt r) → x < y
    by_rank Less e h = ranked x y Less e
    by_rank Equal e h = absurd h
    by_rank Greater e h = absurd h

all_behind : (m x : ℕ) (c : Pairs) → m ≤ x → T (below_all nat_cmp x c) → all_from m c
all_behind m x [] le h = tt
all_behind m x (e ∷ c) le h = (
  (let z : x < e.0 = less_is x e.0 (first_T (is_lt (nat_cmp x e.0)) (below_all nat_cmp x c) h) in omega (arith, z, le)),
  all_behind m x c le (second_T (is_lt (nat_cmp x e.0)) (below_all nat_cmp x c) h),
)

all_after : (x : ℕ) (c : Pairs) → T (below_all nat_cmp x c) → all_from (x + 1) c
all_after x [] h = tt
all_after x (e ∷ c) h = (
  (let z : x < e.0 = less_is x e.0 (first_T (is_lt (nat_cmp x e.0)) (below_all nat_cmp x c) h) in omega (arith, z)),
  all_after x c (second_T (is_lt (nat_cmp x e.0)) (below_all nat_cmp x c) h),
)

last_split : (m n : ℕ) (x : Option (ℕ × Option Node)) (c : Pairs) → m ≤ n → T (is_sorted nat_cmp c) → last_from x n c ≡ last_from (last_from x m c) n (from_job m c)
last_split m n x [] le s = refl
last_split m n x (e ∷ c) le s =
    by_case (nat_lt e.0 m) refl (λ y. last_split m n y c le (second_T (below_all nat_cmp e.0 c) (is_sorted nat_cmp c) s)) (first_T (below_all nat_cmp e.0 c) (is_sorted nat_cmp c) s)
  where
    by_case : (b : Bool) → nat_lt e.0 m ≡ b → ((y : Option (ℕ × Option Node)) → last_from y n c ≡ last_from (last_from y m c) n (from_job m c)) → T (below_all nat_cmp e.0 c)
        → last_from (cond (nat_lt e.0 n) (Some e) x) n c ≡ last_from (last_from (cond b (Some e) x) m c) n (cond (not b) (e ∷ from_job m c) (from_job m c))
    by_case true k rest below = ap (λ b. last_from (cond b (Some e) x) n c) (lt-ltb e.0 n (let z : e.0 < m = ltb-true e.0 m k in omega (arith, z, le))) ∙ rest (Some e)
    by_case false k rest below =
        let a : all_from m c = all_behind m e.0 c (ltb-false e.0 m k) below in
        ap (λ (d : Pairs). last_from (cond (nat_lt e.0 n) (Some e) x) n d) (sym (from_all m c a))
        ∙ ap (λ (y : Option (ℕ × Option Node)). last_from (cond (nat_lt e.0 n) (Some e) y) n (from_job m c)) (sym (none_below m x c a))

last_lies : (m : ℕ) (x : Option (ℕ × Option Node)) (c : Pairs) → lies_below x m → lies_below (last_from x m c) m
last_lies m x [] l = l
last_lies m x (e ∷ c) l = last_lies m (cond (nat_lt e.0 m) (Some e) x) c (by_case (nat_lt e.0 m) refl)
  where
    by_case : (b : Bool) → nat_lt e.0 m ≡ b → lies_below (cond b (Some e) x) m
    by_case true k = ltb-true e.0 m k
    by_case false k = l

-- the last pair below the floor, and the chain's end, tell the last pair below each job from there
-- on
last_joined : (m n : ℕ) (c : Pairs) → m ≤ n → T (is_sorted nat_cmp c) → last_below n (cons_option (last_below m c) (from_job m c)) ≡ last_below n c
last_joined m n c le s = last_head n (last_below m c) (from_job m c) (lower (last_below m c) m n le (last_lies m None c tt)) ∙ sym (last_split m n None c le s)

same_last : (c : List ℕ → Pairs) (ps : Posts) (f n : ℕ) (v : Floored) (p : List ℕ) → IsMerged c ps f v → f ≤ n → T (is_sorted nat_cmp (c p)) → from_job f (c p) ≡ chain_of (live_from f ps) p
    → last_below n (chain_over v p) ≡ last_below n (c p)
same_last c ps f n v p h le s e =
    let is : chain_of (live v) p ≡ from_job f (c p) = ap (λ (g : ℕ). chain_of (live_from g v.posts) p) h.floor ∙ ap (λ (qs : Posts). chain_of qs p) (live_same f ps v.posts h.posts) ∙ sym e in
    ap (λ (o : Option (ℕ × Option Node)). last_below n (cons_option o (chain_of (live v) p))) (h.merged p) ∙ ap (λ (r : Pairs). last_below n (cons_option (last_below f (c p)) r)) is
    ∙ last_joined f n (c p) le s

-- ---- one job more below the floor

-- the chain begins with the floor's job where that has a pair
abbrev pub thinned : ℕ → Pairs → Pairs
thinned j c = cond (is_some (find nat_cmp j c)) (from_job j c) c

-- the job's pair is the first, or there is none
first_or_none : (j : ℕ) (r : Pairs) → all_from j r → T (is_sorted nat_cmp r) → ((e : ℕ × Option Node) × (d : Pairs) × (r ≡ e ∷ d) × (e.0 ≡ j) × all_from (j + 1) d) ⊎ all_from (j + 1) r
first_or_none j [] a s = inr tt
first_or_none j (e ∷ d) a s = by_rank (nat_cmp j e.0) refl
  where
    by_rank : (o : Ordering) → o ≡ nat_cmp j e.0 → ((x : ℕ × Option Node) × (y : Pairs) × (e ∷ d ≡ x ∷ y) × (x.0 ≡ j) × all_from (j + 1) y) ⊎ all_from (j + 1) (e ∷ d)
    by_rank Less k =
        let lt : j < e.0 = ranked j e.0 Less k in
        inr (omega (arith, lt), all_behind (j + 1) e.0 d (omega (arith, lt)) (first_T (below_all nat_cmp e.0 d) (is_sorted nat_cmp d) s))
    by_rank Equal k =
        let is : j ≡ e.0 = ranked j e.0 Equal k in
        inl (e, d, refl, sym is, subst (λ (i : ℕ). all_from (i + 1) d) (sym is) (all_after e.0 d (first_T (below_all nat_cmp e.0 d) (is_sorted nat_cmp d) s)))
    by_rank Greater k = let gt : e.0 < j = ranked j e.0 Greater k in absurd (omega (arith, gt, a.0))

absent_from : (j : ℕ) (r : Pairs) → all_from (j + 1) r → find nat_cmp j r ≡ None
absent_from j [] a = refl
absent_from j (e ∷ r) a =
    let lt : j < e.0 = omega (arith, a.0) in
    ap (λ o. cond (is_eq o) (Some e.1) (find nat_cmp j r)) (sym (nat_cmp_is j e.0 Less lt)) ∙ absent_from j r a.1

module _ (j : ℕ) (h : Option (ℕ × Option Node)) (r : Pairs) (l : lies_below h j) (a : all_from j r) (s : T (is_sorted nat_cmp r)) where
  record Thin (c : Pairs) : Type 0 where
    fits : c ≡ cons_option (head_below (j + 1) c) (from_job (j + 1) r)
    heads : head_below (j + 1) c ≡ last_below (j + 1) (cons_option h r)

  up : lies_below h (j + 1)
  up = lower h j (j + 1) (omega arith) l

  thin : Thin (thinned j (cons_option h r))
  thin = by_case (first_or_none j r a s)
    where
      by_case : ((e : ℕ × Option Node) × (d : Pairs) × (r ≡ e ∷ d) × (e.0 ≡ j) × all_from (j + 1) d) ⊎ all_from (j + 1) r → Thin (thinned j (cons_option h r))
      by_case (inl (e, d, is, at, rest)) =
          let here : find nat_cmp j r ≡ Some e.1 = ap (find nat_cmp j) is ∙ ap (λ o. cond (is_eq o) (Some e.1) (find nat_cmp j d)) (sym (nat_cmp_is j e.0 Equal (sym at))) in
          let it : thinned j (cons_option h r) ≡ e ∷ d =
          ap (λ (o : Option (Option Node)). cond (is_some o) (from_job j (cons_option h r)) (cons_option h r)) (find_behind j h r l ∙ here) ∙ split_rest j h r l a ∙ is in
          let lt : e.0 < j + 1 = omega (arith, at) in
          let first : head_below (j + 1) (e ∷ d) ≡ Some e = ap (λ b. cond b (Some e) None) (lt-ltb e.0 (j + 1) lt) in
          let rest_is : from_job (j + 1) r ≡ d = ap (from_job (j + 1)) is ∙ ap (λ b. cond (not b) (e ∷ from_job (j + 1) d) (from_job (j + 1) d)) (lt-ltb e.0 (j + 1) lt) ∙ from_all (j + 1) d rest in
          let last : last_below (j + 1) (cons_option h r) ≡ Some e =
          last_head (j + 1) h r up ∙ ap (last_from h (j + 1)) is ∙ ap (λ b. last_from (cond b (Some e) h) (j + 1) d) (lt-ltb e.0 (j + 1) lt) ∙ none_below (j + 1) (Some e) d rest in
          subst Thin (sym it) record {
            fits = sym (ap (λ (o : Option (ℕ × Option Node)). cons_option o (from_job (j + 1) r)) first ∙ ap (λ (x : Pairs). e ∷ x) rest_is);
            heads = first ∙ sym last;
          }
      by_case (inr b) =
          let it : thinned j (cons_option h r) ≡ cons_option h r =
          ap (λ (o : Option (Option Node)). cond (is_some o) (from_job j (cons_option h r)) (cons_option h r)) (find_behind j h r l ∙ absent_from j r b) in
          let first : head_below (j + 1) (cons_option h r) ≡ h = split_head (j + 1) h r up b in
          subst Thin (sym it) record {
            fits = sym (ap (λ (o : Option (ℕ × Option Node)). cons_option o (from_job (j + 1) r)) first ∙ ap (cons_option h) (from_all (j + 1) r b));
            heads = first ∙ sym (last_head (j + 1) h r up ∙ none_below (j + 1) h r b);
          }

-- ---- the chains that are held

twice_emptied : (o : Option Post) → option_map emptied (option_map emptied o) ≡ option_map emptied o
twice_emptied None = refl
twice_emptied (Some x) = refl

module _ (start : State) (j : ℕ) (t u : LineTable) (ps qs : Posts) (held : IsHeld j t ps) (left : (k : ℕ) → get qs k ≡ cond (eq_by_cmp nat_cmp k j) (option_map emptied (get ps k)) (get ps k))
    (cut : (q : List ℕ) → chain_at u q ≡ cond (is_some (change_in (get ps j) q)) (from_job j (chain_at t q)) (chain_at t q)) where
  abbrev front : List ℕ → Option (ℕ × Option Node)
  front q = head_below j (chain_at t q)

  abbrev rest_at : List ℕ → Pairs
  rest_at q = chain_of (live_from j ps) q

  thin_at : (q : List ℕ) → Thin j (front q) (rest_at q) (head_lies j (chain_at t q)) (live_chain j ps q) (sorted_chain (live_from j ps) q) (thinned j (cons_option (front q) (rest_at q)))
  thin_at q = thin j (front q) (rest_at q) (head_lies j (chain_at t q)) (live_chain j ps q) (sorted_chain (live_from j ps) q)

  cut_is : (q : List ℕ) → chain_at u q ≡ thinned j (cons_option (front q) (rest_at q))
  cut_is q =
      cut q ∙ ap (λ b. cond b (from_job j (chain_at t q)) (chain_at t q)) (ap is_some (sym (find_behind j (front q) (rest_at q) (head_lies j (chain_at t q)) ∙ found_chain (live_from j ps) q j ∙ ap (λ (o : Option Post). change_in o q) (live_here j ps j (omega arith)))))
      ∙ ap (λ (c : Pairs). cond (is_some (find nat_cmp j (cons_option (front q) (rest_at q)))) (from_job j c) c) (held.fits q)

  kept_more : (k : ℕ) → get qs k ≡ kept (j + 1) k (get ps k)
  kept_more k = left k ∙ by_rank (nat_cmp k j) refl
    where
      by_rank : (o : Ordering) → o ≡ nat_cmp k j → cond (is_eq (nat_cmp k j)) (option_map emptied (get ps k)) (get ps k) ≡ cond (nat_lt k (j + 1)) (option_map emptied (get ps k)) (get ps k)
      by_rank Less e =
          let lt : k < j = ranked k j Less e in
          ap (λ o. cond (is_eq o) (option_map emptied (get ps k)) (get ps k)) (sym e) ∙ held.emptied k ∙ ap (λ b. cond b (option_map emptied (get ps k)) (get ps k)) (lt-ltb k j lt)
          ∙ ap (λ b. cond b (option_map emptied (get ps k)) (get ps k)) (sym (lt-ltb k (j + 1) (omega (arith, lt))))
      by_rank Equal e =
          let is : k ≡ j = ranked k j Equal e in
          ap (λ o. cond (is_eq o) (option_map emptied (get ps k)) (get ps k)) (sym e) ∙ ap (λ b. cond b (option_map emptied (get ps k)) (get ps k)) (sym (lt-ltb k (j + 1) (omega (arith, is))))
      by_rank Greater e =
          let gt : j < k = ranked k j Greater e in
          ap (λ o. cond (is_eq o) (option_map emptied (get ps k)) (get ps k)) (sym e) ∙ ap (λ b. cond b (option_map emptied (get ps k)) (get ps k)) (sym (le-ltb k (j + 1) (omega (arith, gt))))

  pub raised_held : IsHeld (j + 1) u qs
  raised_held = record {
    fits = λ q.
        let x = thin_at q in
        cut_is q ∙ x.fits ∙ ap (λ (c : Pairs). cons_option (head_below (j + 1) c) (from_job (j + 1) (rest_at q))) (sym (cut_is q))
        ∙ ap (cons_option (head_below (j + 1) (chain_at u q))) (chain_from (j + 1) (live_from j ps) q ∙ ap (λ (rs : Posts). chain_of rs q) (live_more j (j + 1) ps (omega arith) ∙ sym (live_same (j + 1) ps qs kept_more)));
    emptied = λ k. kept_more k ∙ twice (nat_lt k (j + 1)) (get ps k) ∙ ap (kept (j + 1) k) (sym (kept_more k));
  }
    where
      twice : (b : Bool) (o : Option Post) → cond b (option_map emptied o) o ≡ cond b (option_map emptied (cond b (option_map emptied o) o)) (cond b (option_map emptied o) o)
      twice true o = sym (twice_emptied o)
      twice false o = refl

  pub raised_is : IsRaised (record { start = start; floor = j; merged = merged_in j t; posts = ps }) (j + 1) (record { start = start; floor = j + 1; merged = merged_in (j + 1) u; posts = qs })
  raised_is = record {
    start = refl;
    rest = record {
      floor = refl;
      merged = λ q. get-merged (j + 1) u q ∙ ap (head_below (j + 1)) (cut_is q) ∙ (thin_at q).heads ∙ ap (λ (o : Option (ℕ × Option Node)). last_below (j + 1) (cons_option o (rest_at q))) (sym (get-merged j t q));
      posts = kept_more;
    };
  }

pub raise_step : (start : State) (f j : ℕ) (t u : LineTable) (ps qs : Posts) → f ≡ j → IsHeld f t ps → ((k : ℕ) → get qs k ≡ cond (eq_by_cmp nat_cmp k j) (option_map emptied (get ps k)) (get ps k))
    → ((q : List ℕ) → chain_at u q ≡ cond (is_some (change_in (get ps j) q)) (from_job j (chain_at t q)) (chain_at t q))
    → IsHeld (j + 1) u qs × IsRaised (record { start = start; floor = f; merged = merged_in f t; posts = ps }) (j + 1) (record { start = start; floor = j + 1; merged = merged_in (j + 1) u; posts = qs })
raise_step start f j t u ps qs e held left cut =
    let h : IsHeld j t ps = subst (λ (g : ℕ). IsHeld g t ps) e held in (
      raised_held start j t u ps qs h left cut,
      subst (λ (g : ℕ). IsRaised (record { start = start; floor = g; merged = merged_in g t; posts = ps }) (j + 1) (record { start = start; floor = j + 1; merged = merged_in (j + 1) u; posts = qs })) (sym e)
          (raised_is start j t u ps qs h left cut),
    )

pub raised_none : (start : State) (f : ℕ) (t : LineTable) (ps : Posts) → IsHeld f t ps
    → IsRaised (record { start = start; floor = f; merged = merged_in f t; posts = ps }) f (record { start = start; floor = f; merged = merged_in f t; posts = ps })
raised_none start f t ps held = record {
  start = refl;
  rest = record {
    floor = refl;
    merged = λ q.
        let l : lies_below (get (merged_in f t) q) f = subst (λ (o : Option (ℕ × Option Node)). lies_below o f) (sym (get-merged f t q)) (head_lies f (chain_at t q)) in
        sym (last_head f (get (merged_in f t) q) (chain_of (live_from f ps) q) l ∙ none_below f (get (merged_in f t) q) (chain_of (live_from f ps) q) (live_chain f ps q));
    posts = held.emptied;
  };
}

-- what a post's changes cut
names_found : (ps : Posts) (j : ℕ) (d : Changes) (q : List ℕ) → Some d ≡ option_map (λ (p : Post). p.delta) (get ps j) → names (entries d) q ≡ is_some (change_in (get ps j) q)
names_found ps j d q e = by_post (get ps j) e
  where
    by_post : (o : Option Post) → Some d ≡ option_map (λ (p : Post). p.delta) o → names (entries d) q ≡ is_some (change_in o q)
    by_post None e = absurd (cc)
    by_post (Some x) e =
        let same : d ≡ x.delta = (let f : Some d ≡ Some x.delta = e in cc) in
        ap is_some (sym (get-entries d q)) ∙ ap (λ (m : Changes). is_some (get m q)) same

pub cut_some : (ps : Posts) (j : ℕ) (d : Changes) (q : List ℕ) (c e : Pairs) → Some d ≡ option_map (λ (p : Post). p.delta) (get ps j) → e ≡ cut_at j q (entries d) c → e ≡ cond (is_some (change_in (get ps j) q)) (from_job j c) c
cut_some ps j d q c e is cut = cut ∙ ap (λ b. cond b (from_job j c) c) (names_found ps j d q is)

pub cut_none : (ps : Posts) (j : ℕ) (q : List ℕ) (c : Pairs) → None ≡ option_map (λ (p : Post). p.delta) (get ps j) → c ≡ cond (is_some (change_in (get ps j) q)) (from_job j c) c
cut_none ps j q c is = by_post (get ps j) is
  where
    by_post : (o : Option Post) → None ≡ option_map (λ (p : Post). p.delta) o → c ≡ cond (is_some (change_in o q)) (from_job j c) c
    by_post None e = refl
    by_post (Some x) e = absurd (cc)

pub floor_has : (t : LineTable) (ps : Posts) (j : ℕ) (d : Changes) (q : List ℕ) → IsHeld j t ps → Some d ≡ option_map (λ (p : Post). p.delta) (get ps j) → names (entries d) q ≡ true → IsSome (find nat_cmp j (chain_at t q))
floor_has t ps j d q held is h =
    ap (λ (c : Pairs). is_some (find nat_cmp j c)) (held.fits q)
    ∙ ap is_some (find_behind j (head_below j (chain_at t q)) (chain_of (live_from j ps) q) (head_lies j (chain_at t q)) ∙ found_chain (live_from j ps) q j ∙ ap (λ (o : Option Post). change_in o q) (live_here j ps j (omega arith)))
    ∙ sym (names_found ps j d q is) ∙ h

-- ---- a floor after another

kept_twice : (f g k : ℕ) → f ≤ g → (o : Option Post) → kept g k (kept f k o) ≡ kept g k o
kept_twice f g k le o = by_case (nat_lt k f) refl
  where
    by_case : (b : Bool) → nat_lt k f ≡ b → kept g k (cond b (option_map emptied o) o) ≡ kept g k o
    by_case true e =
        let lt : k < g = (let z : k < f = ltb-true k f e in omega (arith, z, le)) in
        ap (λ b. cond b (option_map emptied (option_map emptied o)) (option_map emptied o)) (lt-ltb k g lt) ∙ twice_emptied o ∙ ap (λ b. cond b (option_map emptied o) o) (sym (lt-ltb k g lt))
    by_case false e = refl

over_sorted_chain : (v : Floored) (p : List ℕ) → lies_below (get v.merged p) v.floor → T (is_sorted nat_cmp (chain_over v p))
over_sorted_chain v p l = split_sorted v.floor (get v.merged p) (chain_of (live v) p) l (live_chain v.floor v.posts p) (sorted_chain (live v) p)

-- the pair that is merged stands before the floor
over_rest : (v : Floored) (p : List ℕ) (g : ℕ) → v.floor ≤ g → lies_below (get v.merged p) v.floor → from_job g (chain_over v p) ≡ chain_of (live_from g v.posts) p
over_rest v p g le l = by_head (get v.merged p) (lower (get v.merged p) v.floor g le l) ∙ chain_from g (live v) p ∙ ap (λ (rs : Posts). chain_of rs p) (live_more v.floor g v.posts le)
  where
    by_head : (h : Option (ℕ × Option Node)) → lies_below h g → from_job g (cons_option h (chain_of (live v) p)) ≡ from_job g (chain_of (live v) p)
    by_head None l = refl
    by_head (Some e) l = ap (λ b. cond (not b) (e ∷ from_job g (chain_of (live v) p)) (from_job g (chain_of (live v) p))) (lt-ltb e.0 g l)

pub raised_more : (v u w : Floored) (f g : ℕ) → v.floor ≤ f → f ≤ g → ((p : List ℕ) → lies_below (get v.merged p) v.floor) → IsRaised v f u → IsRaised u g w → IsRaised v g w
raised_more v u w f g first le lies a b = record {
  start = b.start ∙ a.start;
  rest = record {
    floor = b.rest.floor;
    merged = λ p. b.rest.merged p ∙ same_last (chain_over v) v.posts f g u p a.rest le (over_sorted_chain v p (lies p)) (over_rest v p f first (lies p));
    posts = λ k. b.rest.posts k ∙ ap (kept g k) (a.rest.posts k) ∙ kept_twice f g k le (get v.posts k);
  };
}

-- ---- all the posts, and what is left of them above a floor

pub at_first : (start : State) → IsAt (record { start = start; posts = empty }) 0 (record { start = start; floor = 0; merged = empty; posts = empty })
at_first start = record {
  start = refl;
  rest = record {
    floor = refl;
    merged = λ p. get-empty _ p ∙ sym (none_below 0 None (chain_of empty p) (all_zero (chain_of empty p)));
    posts = λ k. sym (ap (kept 0 k) (get-empty nat_cmp k) ∙ none_kept (nat_lt k 0) ∙ sym (get-empty nat_cmp k));
  };
}
  where
    all_zero : (c : Pairs) → all_from 0 c
    all_zero [] = tt
    all_zero (e ∷ c) = (omega arith, all_zero c)

    none_kept : (b : Bool) → cond b (option_map emptied None) None ≡ None
    none_kept true = refl
    none_kept false = refl

pub at_raise : (b : Posted) (v w : Floored) (f g : ℕ) → f ≤ g → IsAt b f v → IsRaised v g w → IsAt b g w
at_raise b v w f g le a r = record {
  start = r.start ∙ a.start;
  rest = record {
    floor = r.rest.floor;
    merged = λ p. r.rest.merged p ∙ same_last (chain_of b.posts) b.posts f g v p a.rest le (sorted_chain b.posts p) (chain_from f b.posts p);
    posts = λ k. r.rest.posts k ∙ ap (kept g k) (a.rest.posts k) ∙ kept_twice f g k le (get b.posts k);
  };
}

-- the pairs below a job
before_job : ℕ → Pairs → Pairs
before_job f c = filter (λ e. nat_lt e.0 f) c

last_before : (f : ℕ) (x : Option (ℕ × Option Node)) (c : Pairs) → last_from x f c ≡ last_from x f (before_job f c)
unfolding before_job
last_before f x [] = refl
last_before f x (e ∷ c) = by_case (nat_lt e.0 f) refl (λ y. last_before f y c)
  where
    by_case : (b : Bool) → nat_lt e.0 f ≡ b → ((y : Option (ℕ × Option Node)) → last_from y f c ≡ last_from y f (before_job f c)) → last_from (cond b (Some e) x) f c ≡ last_from x f (cond b (e ∷ before_job f c) (before_job f c))
    by_case true k rest = rest (Some e) ∙ ap (λ b. last_from (cond b (Some e) x) f (before_job f c)) (sym k)
    by_case false k rest = rest x

find_before : (f k : ℕ) (c : Pairs) → find nat_cmp k (before_job f c) ≡ cond (nat_lt k f) (find nat_cmp k c) None
unfolding before_job
find_before f k c = find-where_key nat_cmp (λ x. nat_lt x f) k (λ x t. ap (λ y. nat_lt y f) (sym (tied k x (ap is_eq t)))) c

sorted_before : (f : ℕ) (c : Pairs) → T (is_sorted nat_cmp c) → T (is_sorted nat_cmp (before_job f c))
unfolding before_job
sorted_before f c = is_sorted-where_key nat_cmp (λ x. nat_lt x f) c

-- a post from the floor on changes nothing below it
last_kept : (f j : ℕ) (ps : Posts) (x : Post) (p : List ℕ) → f ≤ j → last_below f (chain_of (insert ps j x) p) ≡ last_below f (chain_of ps p)
last_kept f j ps x p le =
    last_before f None (chain_of (insert ps j x) p) ∙ ap (last_from None f) (same_pairs (before_job f (chain_of (insert ps j x) p)) (before_job f (chain_of ps p))
    (sorted_before f (chain_of (insert ps j x) p) (sorted_chain (insert ps j x) p)) (sorted_before f (chain_of ps p) (sorted_chain ps p)) (λ k.
    find_before f k (chain_of (insert ps j x) p) ∙ by_case k (nat_lt k f) refl ∙ sym (find_before f k (chain_of ps p)))) ∙ sym (last_before f None (chain_of ps p))
  where
    by_case : (k : ℕ) (b : Bool) → nat_lt k f ≡ b → cond b (find nat_cmp k (chain_of (insert ps j x) p)) None ≡ cond b (find nat_cmp k (chain_of ps p)) None
    by_case k true e =
        let lt : k < j = (let z : k < f = ltb-true k f e in omega (arith, z, le)) in
        found_chain (insert ps j x) p k ∙ ap (λ (o : Option Post). change_in o p) (get-insert nat_cmp_total ps j x k ∙ ap (λ r. cond (is_eq r) (Some x) (get ps k)) (sym (nat_cmp_is k j Less lt))) ∙ sym (found_chain ps p k)
    by_case k false e = refl

pub at_post : (b : Posted) (v : Floored) (f j : ℕ) (x : Post) → f ≤ j → IsAt b f v → IsAt (record b { posts = insert b.posts j x }) f (record v { posts = insert v.posts j x })
at_post b v f j x le a = record {
  start = a.start;
  rest = record {
    floor = a.rest.floor;
    merged = λ p. a.rest.merged p ∙ sym (last_kept f j b.posts x p le);
    posts = λ k. get-insert nat_cmp_total v.posts j x k ∙ ap (λ (o : Option Post). cond (eq_by_cmp nat_cmp k j) (Some x) o) (a.rest.posts k) ∙ by_case k (eq_by_cmp nat_cmp k j) refl
        ∙ ap (kept f k) (sym (get-insert nat_cmp_total b.posts j x k));
  };
}
  where
    by_case : (k : ℕ) (c : Bool) → eq_by_cmp nat_cmp k j ≡ c → cond c (Some x) (kept f k (get b.posts k)) ≡ kept f k (cond c (Some x) (get b.posts k))
    by_case k true e = ap (λ d. cond d (option_map emptied (Some x)) (Some x)) (sym (le-ltb k f (subst (λ (i : ℕ). f ≤ i) (sym (tied k j e)) le)))
    by_case k false e = refl

-- the answers are those of all the posts
module _ (b : Posted) (v : Floored) (f n : ℕ) (le : f ≤ n) (a : IsAt b f v) where
  change_same : (p : List ℕ) → change_over v n p ≡ option_map (λ e. e.1) (last_below n (chain_of b.posts p))
  change_same p = ap (option_map (λ e. e.1)) (same_last (chain_of b.posts) b.posts f n v p a.rest le (sorted_chain b.posts p) (chain_from f b.posts p))

  lies_at : (p : List ℕ) → lies_below (get v.merged p) n
  lies_at p = subst (λ (o : Option (ℕ × Option Node)). lies_below o n) (sym (a.rest.merged p)) (lower (last_below f (chain_of b.posts p)) f n le (last_lies f None (chain_of b.posts p) tt))

  table_same : table_over v n ≡ table_below b n
  table_same = same_table (table_over v n) (table_below b n) (λ p.
      stands v n p (lies_at p) ∙ ap (λ c. over c (get v.start.tree p)) (change_same p) ∙ ap (λ (s : State). over (option_map (λ e. e.1) (last_below n (chain_of b.posts p))) (get s.tree p)) a.start ∙ sym (stands_plain b n p))

  outcome_same : (k : ℕ) → outcome_over v n k ≡ outcome_below b n k
  outcome_same k = ap (λ (o : Option Outcome). cond (nat_lt k n) o None) (ap (option_map (λ (p : Post). p.outcome)) (a.rest.posts k) ∙ by_case (nat_lt k f) (get b.posts k))
    where
      by_case : (c : Bool) (o : Option Post) → option_map (λ (p : Post). p.outcome) (cond c (option_map emptied o) o) ≡ option_map (λ (p : Post). p.outcome) o
      by_case true None = refl
      by_case true (Some x) = refl
      by_case false o = refl

  pub at_look : (q : Question) → looked_over v n q ≡ looked b n q
  unfolding looked_over looked
  at_look q = ap (λ (t : Table). answer_on t (outcome_over v n) q) table_same ∙ ap (λ (o : ℕ → Option Outcome). answer_on (table_below b n) o q) (λ i k. outcome_same k i)
