-- A `BTreeMap` of posts seen as a finite map, and what is found through posts.
use Rattle.std.proofs.Common.{◌≡◌, ◌<◌, ◌≤◌, ℕ, map, length, Bool, true, false, cond, List, [], ◌∷◌, Option, Some, None, refl, sym, ap, subst, ◌∙◌, ◌+◌, arith, option_map}
use Rattle.std.specs.Prelude.{unwrap_or, nat_lt, filter_map, is_some, T}
use Rattle.std.specs.List.{cons_option}
use Rattle.std.specs.Ordering.{nat_cmp}
use Rattle.std.specs.Cmp.{nat_cmp_total}
use Rattle.std.proofs.lemmas.Bool.{lt-ltb, le-ltb}
use Rattle.std.specs.List.Sorted.{IsStrictlySortedBy}
use Rattle.std.specs.Map.{lookup, keys_of}
use Rattle.std.specs.BTreeMap.{BTreeMap, is_at, Updates}
use Rattle.std.specs.FinMap.{get, insert, remove, entries, entries_sorted, empty, len, get-empty, get-entries, get-insert, get-remove, get-from_sorted, entries-from_sorted, len-entries, same_map, find, is_sorted, from_entries, nat_cmp-IsAntisymmetric}
use Rattle.std.specs.FinMap.Entries.{below_all}
use Rattle.std.specs.Ordering.{eq_by_cmp, is_lt}
use Rattle.std.specs.Cmp.Lexicographic.{nat_list_cmp_total}
use Rattle.em_tree.specs.declared.node.Node.{Node}
use Rattle.em_tree.specs.Trees.{Table, Changes, laid_over}
use Rattle.em_chain.specs.declared.lines.PathChain.{PathChain}
use Rattle.em_chain.specs.Lines.{LineTable, IsHeld, chain_in, chain_at, merged_in}
use Rattle.em_chain.proofs.Pairs.{tied}
use Rattle.em_chain.proofs.Marking.{change_in, same_pairs, sorted_chain, found_chain, undone, missed, first_T, second_T, both_T}
use Rattle.em_chain.proofs.Flooring.{lies_below, head_lies, lower, get_live, over_sorted, keeps_over, withdrawn_over, posted_over, refit, refits}
use Rattle.em_chain.specs.Marks.{ChangeList, names, keeps, written, dropped, dropped_by, Roomed}
use Rattle.em_tree.specs.declared.state.State.{State}
use Rattle.em_tree.proofs.Tables.{same_key}
use Rattle.em_tree.proofs.Maps.{order, exact, found, entries_is, put_is, taken_is}
use Rattle.em_tree.proofs.Laying.{over, get-changed_all}
use Rattle.em_tree.proofs.Lawful.{get-laid_over}
use Rattle.em_chain.specs.declared.post.Post.{Post}
use Rattle.em_chain.specs.Posts.{Posts, Posted, Merged, Floored}
use Rattle.em_chain.specs.Looking.{below, laid_all, table_below, outcome_below}
use Rattle.em_chain.specs.Floors.{is_live, live, live_from, chain_over, change_over, merged_over, table_over, emptied, kept}
use Rattle.em_chain.specs.Pairs.{Pairs}
use Rattle.em_chain.specs.Chains.{chain_of, last_from, last_below, head_below}

-- ---- by the jobs' numbers

pub post_found : (es : List (ℕ × Post)) (k : ℕ) → lookup (is_at (nat_cmp k)) es ≡ get (from_entries {R = nat_cmp} es) k
post_found = found nat_cmp_total

pub post_entries : (es : List (ℕ × Post)) → IsStrictlySortedBy nat_cmp (keys_of es) → entries (from_entries {R = nat_cmp} es) ≡ es
post_entries = entries_is nat_cmp_total nat_cmp-IsAntisymmetric

pub post_put : (m n : BTreeMap ℕ Post) (k : ℕ) (v : Post) → Updates nat_cmp m n k (Some v) → from_entries {R = nat_cmp} n.entries ≡ insert (from_entries m.entries) k v
post_put = put_is nat_cmp_total nat_cmp-IsAntisymmetric

pub post_taken : (m n : BTreeMap ℕ Post) (k : ℕ) → Updates nat_cmp m n k None → from_entries {R = nat_cmp} n.entries ≡ remove (from_entries m.entries) k
post_taken = taken_is nat_cmp_total nat_cmp-IsAntisymmetric

-- what is left of a post
pub left_at : (ps : Posts) (j k : ℕ) (x : Post) → get ps j ≡ Some x → get (insert ps j (emptied x)) k ≡ cond (eq_by_cmp nat_cmp k j) (option_map emptied (get ps k)) (get ps k)
left_at ps j k x h = get-insert nat_cmp_total ps j (emptied x) k ∙ by_case (eq_by_cmp nat_cmp k j) refl
  where
    by_case : (b : Bool) → eq_by_cmp nat_cmp k j ≡ b → cond b (Some (emptied x)) (get ps k) ≡ cond b (option_map emptied (get ps k)) (get ps k)
    by_case true e = sym (ap (option_map emptied) (ap (get ps) (tied k j e) ∙ h))
    by_case false e = refl

pub left_none : (ps : Posts) (j k : ℕ) → None ≡ get ps j → get ps k ≡ cond (eq_by_cmp nat_cmp k j) (option_map emptied (get ps k)) (get ps k)
left_none ps j k h = by_case (eq_by_cmp nat_cmp k j) refl
  where
    by_case : (b : Bool) → eq_by_cmp nat_cmp k j ≡ b → get ps k ≡ cond b (option_map emptied (get ps k)) (get ps k)
    by_case true e =
        let none : get ps k ≡ None = ap (get ps) (tied k j e) ∙ sym h in
        none ∙ ap (option_map emptied) (sym none)
    by_case false e = refl

-- ---- outcomes

outcome_by : (b : Bool) (r : Option Post) (v : Posted) (k : ℕ) → b ≡ true → r ≡ get v.posts k → option_map (λ (p : Post). p.outcome) r ≡ cond b (option_map (λ (p : Post). p.outcome) (get v.posts k)) None
outcome_by true r v k e same = ap (option_map (λ (p : Post). p.outcome)) same
outcome_by false r v k e same = cc

pub outcome_at : (v : Posted) (j k : ℕ) (r : Option Post) → k < j → r ≡ get v.posts k → option_map (λ (p : Post). p.outcome) r ≡ outcome_below v j k
outcome_at v j k r lt same = outcome_by (nat_lt k j) r v k (lt-ltb k j lt) same

-- ---- what stands at a path

-- the last post below j that names the path says what stands there
abbrev pub found_in : ℕ → List ℕ → List (ℕ × Post) → Option Node → Option Node
found_in j p [] n = n
found_in j p (e ∷ es) n = found_in j p es (cond (nat_lt e.0 j) (unwrap_or (get e.1.delta p) n) n)

over_is : (c : Option (Option Node)) (n : Option Node) → unwrap_or c n ≡ over c n
over_is None n = refl
over_is (Some c) n = refl

pub found_in-is : (j : ℕ) (p : List ℕ) (es : List (ℕ × Post)) (t : Table) → found_in j p es (get t p) ≡ get (laid_all (below j es) t) p
found_in-is j p [] t = refl
found_in-is j p (e ∷ es) t = by_case (nat_lt e.0 j) (found_in-is j p es)
  where
    by_case : (b : Bool) → ((u : Table) → found_in j p es (get u p) ≡ get (laid_all (below j es) u) p)
        → found_in j p es (cond b (unwrap_or (get e.1.delta p) (get t p)) (get t p)) ≡ get (laid_all (cond b (e ∷ below j es) (below j es)) t) p
    by_case true more = ap (found_in j p es) (over_is (get e.1.delta p) (get t p) ∙ sym (get-laid_over e.1.delta t p)) ∙ more (laid_over e.1.delta t)
    by_case false more = more t

-- ---- through the chain of the path

abbrev node_over : Option (ℕ × Option Node) → Option Node → Option Node
node_over None n = n
node_over (Some e) n = e.1

abbrev pairs_of : List (ℕ × Post) → List ℕ → Pairs
pairs_of es p = filter_map (λ e. option_map (λ c. (e.0, c)) (get e.1.delta p)) es

found_last : (j : ℕ) (p : List ℕ) (es : List (ℕ × Post)) (found : Option (ℕ × Option Node)) (n : Option Node) → found_in j p es (node_over found n) ≡ node_over (last_from found j (pairs_of es p)) n
found_last j p [] found n = refl
found_last j p (e ∷ es) found n = by_case (get e.1.delta p) (nat_lt e.0 j) refl (found_last j p es)
  where
    by_case : (o : Option (Option Node)) (b : Bool) → nat_lt e.0 j ≡ b → ((f : Option (ℕ × Option Node)) (n : Option Node) → found_in j p es (node_over f n) ≡ node_over (last_from f j (pairs_of es p)) n)
        → found_in j p es (cond b (unwrap_or o (node_over found n)) (node_over found n))
        ≡ node_over (last_from found j (cons_option (option_map (λ c. (e.0, c)) o) (pairs_of es p))) n
    by_case None true lt rest = rest found n
    by_case None false lt rest = rest found n
    by_case (Some c) true lt rest = rest (Some (e.0, c)) n ∙ sym (ap (λ b. node_over (last_from (cond b (Some (e.0, c)) found) j (pairs_of es p)) n) lt)
    by_case (Some c) false lt rest = rest found n ∙ sym (ap (λ b. node_over (last_from (cond b (Some (e.0, c)) found) j (pairs_of es p)) n) lt)

over_last : (o : Option (ℕ × Option Node)) (n : Option Node) → node_over o n ≡ over (option_map (λ e. e.1) o) n
over_last None n = refl
over_last (Some e) n = refl

merged_found : (m : Merged) (t : Table) (p : List ℕ) → get (merged_over m t) p ≡ over (option_map (λ e. e.1) (get m p)) (get t p)
merged_found m t p = get-changed_all (map (λ e. (e.0, e.1.1)) (entries m)) t p ∙ ap (λ c. over c (get t p)) (find_map (entries m) ∙ ap (option_map (λ e. e.1)) (sym (get-entries m p)))
  where
    by_case : (b : Bool) (x : Option Node) (o : Option (Option Node)) (y : ℕ) (r : Option (ℕ × Option Node)) → o ≡ option_map (λ e. e.1) r → cond b (Some x) o ≡ option_map (λ e. e.1) (cond b (Some (y, x)) r)
    by_case true x o y r e = refl
    by_case false x o y r e = e

    find_map : (es : List (List ℕ × (ℕ × Option Node))) → find order p (map (λ e. (e.0, e.1.1)) es) ≡ option_map (λ e. e.1) (find order p es)
    find_map [] = refl
    find_map (e ∷ es) = by_case (eq_by_cmp order p e.0) e.1.1 (find order p (map (λ e. (e.0, e.1.1)) es)) e.1.0 (find order p es) (find_map es)

pub last_head : (j : ℕ) (h : Option (ℕ × Option Node)) (r : Pairs) → lies_below h j → last_below j (cons_option h r) ≡ last_from h j r
last_head j None r l = refl
last_head j (Some e) r l = ap (λ b. last_from (cond b (Some e) None) j r) (lt-ltb e.0 j l)

-- what stands at a path is what the last job below makes it
pub stands : (v : Floored) (j : ℕ) (p : List ℕ) → lies_below (get v.merged p) j → get (table_over v j) p ≡ over (change_over v j p) (get v.start.tree p)
stands v j p l =
    let n = get v.start.tree p in
    let es = entries (live v) in
    sym (found_in-is j p es (merged_over v.merged v.start.tree)) ∙ ap (found_in j p es) (merged_found v.merged v.start.tree p ∙ sym (over_last (get v.merged p) n))
    ∙ found_last j p es (get v.merged p) n ∙ over_last (last_from (get v.merged p) j (pairs_of es p)) n
    ∙ ap (λ o. over (option_map (λ e. e.1) o) n) (sym (last_head j (get v.merged p) (chain_of (live v) p) l))

-- and so it is where nothing is merged
pub stands_plain : (v : Posted) (j : ℕ) (p : List ℕ) → get (table_below v j) p ≡ over (option_map (λ e. e.1) (last_below j (chain_of v.posts p))) (get v.start.tree p)
stands_plain v j p = sym (found_in-is j p (entries v.posts) v.start.tree) ∙ found_last j p (entries v.posts) None (get v.start.tree p) ∙ over_last (last_below j (chain_of v.posts p)) (get v.start.tree p)

-- ---- what is merged

module _ (f : ℕ) where
  abbrev pub heads : List (List ℕ × PathChain) → List (List ℕ × (ℕ × Option Node))
  heads es = filter_map (λ e. option_map (λ x. (e.0, x)) (head_below f e.1.chain)) es

  below_heads : (p : List ℕ) (es : List (List ℕ × PathChain)) → T (below_all order p es) → T (below_all order p (heads es))
  below_heads p [] s = tt
  below_heads p (e ∷ es) s = by_head (head_below f e.1.chain) (below_heads p es (second_T (is_lt (order p e.0)) (below_all order p es) s))
    where
      by_head : (o : Option (ℕ × Option Node)) → T (below_all order p (heads es)) → T (below_all order p (cons_option (option_map (λ x. (e.0, x)) o) (heads es)))
      by_head None r = r
      by_head (Some x) r = both_T (is_lt (order p e.0)) (below_all order p (heads es)) (first_T (is_lt (order p e.0)) (below_all order p es) s) r

  sorted_heads : (es : List (List ℕ × PathChain)) → T (is_sorted order es) → T (is_sorted order (heads es))
  sorted_heads [] s = tt
  sorted_heads (e ∷ es) s =
      by_head (head_below f e.1.chain) (sorted_heads es (second_T (below_all order e.0 es) (is_sorted order es) s)) (below_heads e.0 es (first_T (below_all order e.0 es) (is_sorted order es) s))
    where
      by_head : (o : Option (ℕ × Option Node)) → T (is_sorted order (heads es)) → T (below_all order e.0 (heads es)) → T (is_sorted order (cons_option (option_map (λ x. (e.0, x)) o) (heads es)))
      by_head None r b = r
      by_head (Some x) r b = both_T (below_all order e.0 (heads es)) (is_sorted order (heads es)) b r

  abbrev head_in : Option PathChain → Option (ℕ × Option Node)
  head_in o = head_below f (chain_in o)

  find_heads : (p : List ℕ) (es : List (List ℕ × PathChain)) → T (is_sorted order es) → find order p (heads es) ≡ head_in (find order p es)
  find_heads p [] s = refl
  find_heads p (e ∷ es) s =
      by_head (head_below f e.1.chain) (eq_by_cmp order p e.0) refl refl (find_heads p es (second_T (below_all order e.0 es) (is_sorted order es) s))
      (missed e.0 (heads es) (below_heads e.0 es (first_T (below_all order e.0 es) (is_sorted order es) s)))
    where
      by_head : (o : Option (ℕ × Option Node)) (b : Bool) → head_below f e.1.chain ≡ o → eq_by_cmp order p e.0 ≡ b → find order p (heads es) ≡ head_in (find order p es) → find order e.0 (heads es) ≡ None
          → find order p (cons_option (option_map (λ x. (e.0, x)) o) (heads es)) ≡ head_in (cond b (Some e.1) (find order p es))
      by_head None true h k rest none = ap (λ (q : List ℕ). find order q (heads es)) (same_key p e.0 k) ∙ none ∙ sym h
      by_head None false h k rest none = rest
      by_head (Some x) true h k rest none = ap (λ b. cond b (Some x) (find order p (heads es))) k ∙ sym h
      by_head (Some x) false h k rest none = ap (λ b. cond b (Some x) (find order p (heads es))) k ∙ rest

  pub get-merged : (t : LineTable) (p : List ℕ) → get (merged_in f t) p ≡ head_below f (chain_at t p)
  get-merged t p =
      get-from_sorted order (heads (entries t)) p (sorted_heads (entries t) (entries_sorted t)) ∙ find_heads p (entries t) (entries_sorted t) ∙ ap head_in (sym (get-entries t p))

  pub same_merged : (t u : LineTable) → ((q : List ℕ) → head_below f (chain_at t q) ≡ head_below f (chain_at u q)) → merged_in f t ≡ merged_in f u
  same_merged t u e = same_map nat_list_cmp_total exact (merged_in f t) (merged_in f u) (λ q. get-merged t q ∙ e q ∙ sym (get-merged u q))

  pub len_merged : (t : LineTable) → len (merged_in f t) ≡ length (heads (entries t))
  len_merged t = len-entries (merged_in f t) ∙ ap length (entries-from_sorted order (heads (entries t)) (sorted_heads (entries t) (entries_sorted t)))

-- a line more, whose chain begins below the floor or doesn't
pub head_counted : (f : ℕ) (e : List ℕ × PathChain) (es all : List (List ℕ × PathChain)) → all ≡ e ∷ es → is_some (head_below f e.1.chain) ≡ true → length (heads f all) ≡ length (heads f es) + 1
head_counted f e es all is some = ap (λ (l : List (List ℕ × PathChain)). length (heads f l)) is ∙ by_head (head_below f e.1.chain) some
  where
    by_head : (o : Option (ℕ × Option Node)) → is_some o ≡ true → length (cons_option (option_map (λ x. (e.0, x)) o) (heads f es)) ≡ length (heads f es) + 1
    by_head None h = absurd (cc)
    by_head (Some x) h = omega arith

pub head_passed : (f : ℕ) (e : List ℕ × PathChain) (es all : List (List ℕ × PathChain)) → all ≡ e ∷ es → is_some (head_below f e.1.chain) ≡ false → length (heads f all) ≡ length (heads f es)
head_passed f e es all is none = ap (λ (l : List (List ℕ × PathChain)). length (heads f l)) is ∙ by_head (head_below f e.1.chain) none
  where
    by_head : (o : Option (ℕ × Option Node)) → is_some o ≡ false → length (cons_option (option_map (λ x. (e.0, x)) o) (heads f es)) ≡ length (heads f es)
    by_head None h = refl
    by_head (Some x) h = absurd (cc)

-- ---- what is seen of chains that are held

module _ (start : State) (f : ℕ) (t : LineTable) (ps : Posts) where
  abbrev seen : Floored
  seen = record { start = start; floor = f; merged = merged_in f t; posts = ps }

  pub lies_seen : (j : ℕ) (q : List ℕ) → f ≤ j → lies_below (get (merged_in f t) q) j
  lies_seen j q le = subst (λ (o : Option (ℕ × Option Node)). lies_below o j) (sym (get-merged f t q)) (lower (head_below f (chain_at t q)) f j le (head_lies f (chain_at t q)))

  pub held_chain : IsHeld f t ps → (q : List ℕ) → chain_at t q ≡ chain_over seen q
  held_chain h q = h.fits q ∙ ap (λ (o : Option (ℕ × Option Node)). cons_option o (chain_of (live_from f ps) q)) (sym (get-merged f t q))

  pub untouched : IsHeld f t ps → (j : ℕ) (k : List ℕ) → get t k ≡ None → change_over seen j k ≡ None
  untouched h j k none = ap (λ (c : Pairs). option_map (λ e. e.1) (last_below j c)) (sym (held_chain h k) ∙ ap chain_in none)

-- ---- nothing posted

no_chain : (ps : Posts) (q : List ℕ) → ((k : ℕ) → get ps k ≡ None) → [] ≡ chain_of ps q
no_chain ps q none = same_pairs [] (chain_of ps q) tt (sorted_chain ps q) (λ k. sym (found_chain ps q k ∙ ap (λ (o : Option Post). change_in o q) (none k)))

abbrev no_post : Option Post
no_post = None

nothing : (k : ℕ) → get (from_entries {K = ℕ} {X = Post} {R = nat_cmp} []) k ≡ None
nothing k = get-empty nat_cmp k

pub empty_held : (es : List (ℕ × Post)) (t : LineTable) → es ≡ [] → t ≡ empty → IsHeld 0 t (from_entries {R = nat_cmp} es)
empty_held es t e f = let base : IsHeld 0 t (from_entries {R = nat_cmp} []) = record {
  fits = λ q.
      let c : chain_at t q ≡ [] = ap (λ (u : LineTable). chain_at u q) f ∙ ap chain_in (get-empty order q) in
      c ∙ no_chain (live_from 0 (from_entries {R = nat_cmp} [])) q (λ k. get_live 0 (from_entries {R = nat_cmp} []) k ∙ ap (λ (o : Option Post). cond (is_live 0 k) o None) (nothing k) ∙ none_either (is_live 0 k))
      ∙ ap (λ (d : Pairs). cons_option (head_below 0 d) (chain_of (live_from 0 (from_entries {R = nat_cmp} [])) q)) (sym c);
  emptied = λ k. nothing k ∙ sym (ap (kept 0 k) (nothing k) ∙ none_kept (nat_lt k 0));
} in subst (λ (fs : List (ℕ × Post)). IsHeld 0 t (from_entries {R = nat_cmp} fs)) (sym e) base
  where
    none_either : (b : Bool) → cond b None None ≡ no_post
    none_either true = refl
    none_either false = refl

    none_kept : (b : Bool) → cond b (option_map emptied no_post) no_post ≡ no_post
    none_kept true = refl
    none_kept false = refl

pub no_merged : (t : LineTable) → t ≡ empty → merged_in 0 t ≡ empty
no_merged t e = same_map nat_list_cmp_total exact (merged_in 0 t) empty (λ q. get-merged 0 t q ∙ ap (λ (u : LineTable). head_below 0 (chain_at u q)) e ∙ ap (λ (o : Option PathChain). head_below 0 (chain_in o)) (get-empty order q) ∙ sym (get-empty order q))

-- the chains are as they were
pub same_held : (f : ℕ) (t u : LineTable) (ps : Posts) → IsHeld f t ps → ((q : List ℕ) → chain_at u q ≡ chain_at t q) → IsHeld f u ps
same_held f t u ps h e = record {
  fits = λ q. e q ∙ h.fits q ∙ ap (λ (c : Pairs). cons_option (head_below f c) (chain_of (live_from f ps) q)) (sym (e q));
  emptied = h.emptied;
}

-- ---- the chains after the calls

module _ (f : ℕ) (m : BTreeMap ℕ Post) (t : LineTable) (j : ℕ) (le : f ≤ j) (held : IsHeld f t (from_entries {R = nat_cmp} m.entries)) where
  abbrev was : Posts
  was = from_entries {R = nat_cmp} m.entries

  abbrev at_job : BTreeMap ℕ Post → Option Post
  at_job b = lookup (is_at (nat_cmp j)) b.entries

  abbrev front : List ℕ → Option (ℕ × Option Node)
  front q = head_below f (chain_at t q)

  lies : (q : List ℕ) → lies_below (front q) f
  lies q = head_lies f (chain_at t q)

  pub keeps_posted : (q : List ℕ) (o : Option Changes) → o ≡ option_map (λ (p : Post). p.delta) (at_job m) → is_some (find nat_cmp j (chain_at t q)) ≡ keeps o q
  keeps_posted q o is =
      ap (λ (d : Pairs). is_some (find nat_cmp j d)) (held.fits q) ∙ keeps_over f was j q (front q) le (lies q)
      ∙ ap (λ (x : Option Changes). keeps x q) (sym (is ∙ ap (option_map (λ (p : Post). p.delta)) (post_found m.entries j)))

  pub fit_sorted : (q : List ℕ) → T (is_sorted nat_cmp (chain_at t q))
  fit_sorted q = subst (λ (d : Pairs). T (is_sorted nat_cmp d)) (sym (held.fits q)) (over_sorted f was j q (front q) le (lies q))

  emptied_else : (ps : Posts) (o : Option Post) → ((k : ℕ) → get ps k ≡ cond (eq_by_cmp nat_cmp k j) o (get was k)) → (k : ℕ) → get ps k ≡ kept f k (get ps k)
  emptied_else ps o at k = by_case (eq_by_cmp nat_cmp k j) refl
    where
      by_case : (b : Bool) → eq_by_cmp nat_cmp k j ≡ b → get ps k ≡ kept f k (get ps k)
      by_case true e = ap (λ b. cond b (option_map emptied (get ps k)) (get ps k)) (sym (le-ltb k f (subst (λ (i : ℕ). f ≤ i) (sym (tied k j e)) le)))
      by_case false e =
          let s : get ps k ≡ get was k = at k ∙ ap (λ b. cond b o (get was k)) e in
          s ∙ held.emptied k ∙ ap (kept f k) (sym s)

  module _ (n : BTreeMap ℕ Post) (u : LineTable) where
    abbrev now : Posts
    now = from_entries {R = nat_cmp} n.entries

    withdraw_chain : (q : List ℕ) (old : Option Post) → old ≡ at_job m → chain_at u q ≡ dropped_by j None q old (chain_at t q) → Updates nat_cmp m n j None → chain_at u q ≡ cons_option (front q) (chain_of (live_from f now) q)
    withdraw_chain q old is e up =
        e ∙ ap (λ (o : Option Post). dropped_by j None q o (chain_at t q)) (is ∙ post_found m.entries j) ∙ ap (dropped_by j None q (get was j)) (held.fits q)
        ∙ withdrawn_over f was j q (front q) le (lies q) ∙ ap (λ (ps : Posts). cons_option (front q) (chain_of (live_from f ps) q)) (sym (post_taken m n j up))

    pub withdraw_held : (old : Option Post) → old ≡ at_job m → ((q : List ℕ) → chain_at u q ≡ dropped_by j None q old (chain_at t q)) → Updates nat_cmp m n j None → IsHeld f u now
    withdraw_held old is e up = record {
      fits = λ q. refits f now q (front q) (chain_at u q) (lies q) (withdraw_chain q old is (e q) up);
      emptied = emptied_else now None (λ k. ap (λ (ps : Posts). get ps k) (post_taken m n j up) ∙ get-remove nat_cmp_total was j k);
    }

    pub withdraw_merged : (old : Option Post) → old ≡ at_job m → ((q : List ℕ) → chain_at u q ≡ dropped_by j None q old (chain_at t q)) → Updates nat_cmp m n j None → merged_in f u ≡ merged_in f t
    withdraw_merged old is e up = same_merged f u t (λ q. refit f now q (front q) (chain_at u q) (lies q) (withdraw_chain q old is (e q) up))

    -- d has the chains once room is made
    module _ (d : LineTable) (es : ChangeList) (room : (q : List ℕ) → Roomed j (chain_at t q) (chain_at d q)) (others : (q : List ℕ) → names es q ≡ false → chain_at d q ≡ chain_at t q) where
      module _ (post : Post) (keep : Option Changes) (old : Option Post) (is : es ≡ entries post.delta) (kept_is : keep ≡ Some post.delta) (old_is : old ≡ at_job m)
          (e : (q : List ℕ) → chain_at u q ≡ dropped_by j keep q old (written j q es (chain_at d q))) (up : Updates nat_cmp m n j (Some post)) where
        post_chain : (q : List ℕ) → chain_at u q ≡ cons_option (front q) (chain_of (live_from f now) q)
        post_chain q =
            e q ∙ ap (λ (k : Option Changes). dropped_by j k q old (written j q es (chain_at d q))) kept_is
            ∙ ap (λ (o : Option Post). dropped_by j (Some post.delta) q o (written j q es (chain_at d q))) (old_is ∙ post_found m.entries j)
            ∙ ap (λ (fs : ChangeList). dropped_by j (Some post.delta) q (get was j) (written j q fs (chain_at d q))) is
            ∙ posted_over f was j q (front q) le (lies q) post (chain_at d q) (subst (λ (x : Pairs). Roomed j x (chain_at d q)) (held.fits q) (room q))
            (λ h. others q (ap (λ (fs : ChangeList). names fs q) is ∙ h) ∙ held.fits q)
            ∙ ap (λ (ps : Posts). cons_option (front q) (chain_of (live_from f ps) q)) (sym (post_put m n j post up))

        pub post_held : IsHeld f u now
        post_held = record {
          fits = λ q. refits f now q (front q) (chain_at u q) (lies q) (post_chain q);
          emptied = emptied_else now (Some post) (λ k. ap (λ (ps : Posts). get ps k) (post_put m n j post up) ∙ get-insert nat_cmp_total was j post k);
        }

        pub post_merged : merged_in f u ≡ merged_in f t
        post_merged = same_merged f u t (λ q. refit f now q (front q) (chain_at u q) (lies q) (post_chain q))

      module _ (keep : Option Changes) (kept_is : keep ≡ option_map (λ (p : Post). p.delta) (at_job n)) (same : n.entries ≡ m.entries)
          (e : (q : List ℕ) → chain_at u q ≡ dropped j keep q es (chain_at d q)) where
        fail_chain : (q : List ℕ) → chain_at u q ≡ chain_at t q
        fail_chain q =
            let is : keep ≡ option_map (λ (p : Post). p.delta) (at_job m) = kept_is ∙ ap (λ (fs : List (ℕ × Post)). option_map (λ (p : Post). p.delta) (lookup (is_at (nat_cmp j)) fs)) same in
            e q ∙ undone j keep q es (chain_at t q) (chain_at d q) (fit_sorted q) (room q) (others q) (keeps_posted q keep is)

        pub fail_held : IsHeld f u now
        fail_held = subst (λ (fs : List (ℕ × Post)). IsHeld f u (from_entries {R = nat_cmp} fs)) (sym same) (same_held f t u was held fail_chain)

        pub fail_merged : merged_in f u ≡ merged_in f t
        fail_merged = same_merged f u t (λ q. ap (head_below f) (fail_chain q))
