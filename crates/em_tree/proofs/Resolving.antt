-- Where paths lead.
--     no_links         a table without links leads each path to itself
--     led_few          at most 40 links are followed
--     level            one step of the walk up, from what was found above
--     led_end, led_more, led_onward      the ends of one turn
--     way_twice        a path behind the links leads to itself
use Rattle.std.proofs.Common.{◌≡◌, ℕ, zero, suc, ◌+◌, ◌-◌, ◌≤◌, ◌<◌, Bool, true, false, List, Option, Some, None, refl, sym, ap, subst, ◌∙◌, arith}
use Rattle.em_base.specs.declared.memory.NoMemory.{NoMemory}
use Rattle.std.specs.Prelude.{Result, Ok, Err, IfOk, is_some, IfSome, IsNone, ◌↔◌, ◌++◌, length, drop}
use Rattle.std.specs.Str.{bytes_eq}
use Rattle.std.specs.Option.{option_or}
use Rattle.std.specs.FinMap.{get}
use Rattle.em_path.specs.Paths.{IsPath, is_path, parent_text}
use Rattle.em_path.proofs.Lemmas.{path_pass, no_path}
use Rattle.em_tree.specs.declared.way.Met.{Met}
use Rattle.em_tree.specs.declared.way.Way.TheVariants.{To, TooMany}
use Rattle.em_tree.specs.declared.way.Led.{Led}
use Rattle.em_tree.specs.Trees.{Table, link_of}
use Rattle.em_tree.specs.Resolving.{Links, most, levels, met_by, first_under, first_link, above_only, on_way, onward, led_by, led_on, led_from, led, links_in, path_of, way_in, front_of, path_or_none, moved}

module _ (ls : Links) (none : (q : List ℕ) → ls q ≡ None) where
  no_under : (above : List ℕ → Option Met) → ((q : List ℕ) → above q ≡ None) → (p : List ℕ) (o : Option (List ℕ)) → first_under ls above p o ≡ None
  no_under above h p None = refl
  no_under above h p (Some dir) = rw (h dir, none p) refl

  pub no_link : (left : ℕ) (p : List ℕ) → first_link ls left p ≡ None
  no_link zero p = refl
  no_link (suc left) p = no_under (first_link ls left) (no_link left) p (parent_text p)

  no_above : (o : Option (List ℕ)) → above_only (first_link ls levels) o ≡ None
  no_above None = refl
  no_above (Some dir) = no_link levels dir

  no_way : (last : Bool) (p : List ℕ) → on_way ls last p ≡ None
  no_way true p = no_link levels p
  no_way false p = no_above (parent_text p)

  pub no_links : (last : Bool) (p : List ℕ) → led ls last p ≡ record { way = To p; followed = 0 }
  unfolding led
  no_links last p = rw (no_way last p) refl

module _ (ls : Links) (last : Bool) where
  few_by : (follow : Met → Led) (n m : ℕ) (p : List ℕ) → n ≤ m → ((x : Met) → (follow x).followed ≤ m) → (o : Option Met) → (led_by follow n p o).followed ≤ m
  few_by follow n m p less h None = less
  few_by follow n m p less h (Some x) = h x

  few_on : (next : List ℕ → Led) (n m : ℕ) → n ≤ m → ((q : List ℕ) → (next q).followed ≤ m) → (o : Option (List ℕ)) → (led_on next n o).followed ≤ m
  few_on next n m less h None = less
  few_on next n m less h (Some q) = h q

  few_from : (left n m : ℕ) → left + n ≤ m → (p : List ℕ) → (led_from ls last left n p).followed ≤ m
  few_from zero n m h p = few_by (λ x. record { way = TooMany; followed = n }) n m p (omega arith) (λ x. omega arith) (on_way ls last p)
  few_from (suc left) n m h p = few_by (λ x. led_on (led_from ls last left (suc n)) n (onward p x)) n m p (omega arith) (λ x.
      few_on (led_from ls last left (suc n)) n m (omega arith) (few_from left (suc n) m (omega arith)) (onward p x)) (on_way ls last p)

  pub led_few : (p : List ℕ) → (led ls last p).followed ≤ 40
  unfolding led
  led_few p = few_from most 0 40 (omega arith) p

-- ---- the walk up

pub link_level : (ls : Links) (left : ℕ) (p : List ℕ) → 0 < left → first_link ls left p ≡ first_under ls (first_link ls (left - 1)) p (parent_text p)
link_level ls zero p h = absurd (omega arith)
link_level ls (suc left) p h = let e : suc left - 1 ≡ left = omega arith in rw e refl

pub found_above : (ls : Links) (left : ℕ) (p dir : List ℕ) (x : Option Met) → 0 < left → parent_text p ≡ Some dir → x ≡ first_link ls (left - 1) dir → is_some x ≡ true → x ≡ first_link ls left p
found_above ls left p dir x h up e some = sym (link_level ls left p h ∙ rw (up, ← e) (first_some x some))
  where
    first_some : (y : Option Met) → is_some y ≡ true → option_or y (met_by dir p (ls p)) ≡ y
    first_some None f = cc
    first_some (Some m) f = refl

pub found_here : (ls : Links) (left : ℕ) (p dir : List ℕ) (x : Option Met) → 0 < left → parent_text p ≡ Some dir → x ≡ first_link ls (left - 1) dir → is_some x ≡ false → first_link ls left p ≡ met_by dir p (ls p)
found_here ls left p dir x h up e none = link_level ls left p h ∙ rw (up, ← e) (second_some x none)
  where
    second_some : (y : Option Met) → is_some y ≡ false → option_or y (met_by dir p (ls p)) ≡ met_by dir p (ls p)
    second_some None f = refl
    second_some (Some m) f = cc

-- ---- a turn

-- no link on the way, or no more may be followed
pub led_end : (ls : Links) (last : Bool) (left n : ℕ) (p : List ℕ) → on_way ls last p ≡ None → led_from ls last left n p ≡ record { way = To p; followed = n }
led_end ls last zero n p e = rw e refl
led_end ls last (suc left) n p e = rw e refl

pub led_more : (ls : Links) (last : Bool) (n : ℕ) (p : List ℕ) (m : Met) → on_way ls last p ≡ Some m → led_from ls last 0 n p ≡ record { way = TooMany; followed = n }
led_more ls last n p m e = rw e refl

pub led_onward : (ls : Links) (last : Bool) (left n : ℕ) (p : List ℕ) (m : Met) → 0 < left → on_way ls last p ≡ Some m
    → led_from ls last left n p ≡ led_on (led_from ls last (left - 1) (suc n)) n (onward p m)
led_onward ls last zero n p m h e = absurd (omega arith)
led_onward ls last (suc left) n p m h e = let f : suc left - 1 ≡ left = omega arith in rw (f, e) refl

-- ---- once more

-- where a path leads there is no link on the way
module _ (ls : Links) (q : List ℕ) where
  clear_by : (follow : Met → Led) (n : ℕ) (p : List ℕ) (o : Option Met) → on_way ls true p ≡ o → ((x : Met) → path_of (follow x).way ≡ Some q → on_way ls true q ≡ None)
      → path_of (led_by follow n p o).way ≡ Some q → on_way ls true q ≡ None
  clear_by follow n p None e h is = let same : p ≡ q = cc in subst (λ r. on_way ls true r ≡ None) same e
  clear_by follow n p (Some x) e h is = h x is

  clear_on : (next : List ℕ → Led) (n : ℕ) (o : Option (List ℕ)) → ((r : List ℕ) → path_of (next r).way ≡ Some q → on_way ls true q ≡ None)
      → path_of (led_on next n o).way ≡ Some q → on_way ls true q ≡ None
  clear_on next n None h is = cc
  clear_on next n (Some r) h is = h r is

  clear : (left n : ℕ) (p : List ℕ) → path_of (led_from ls true left n p).way ≡ Some q → on_way ls true q ≡ None
  clear zero n p = clear_by (λ m. record { way = TooMany; followed = n }) n p (on_way ls true p) refl (λ x is. cc)
  clear (suc left) n p = clear_by (λ m. led_on (led_from ls true left (suc n)) n (onward p m)) n p (on_way ls true p) refl
      (λ x. clear_on (led_from ls true left (suc n)) n (onward p x) (clear left (suc n)))

pub way_twice : (t : Table) (p q : List ℕ) → way_in t p ≡ Some q → way_in t q ≡ Some q
unfolding led
way_twice t p q e = ap (λ (l : Led). path_of l.way) (led_end (links_in t) true most 0 q (clear (links_in t) q most 0 p e))

pub no_way_in : (t : Table) → ((q : List ℕ) → link_of (get t q) ≡ None) → (p : List ℕ) → way_in t p ≡ Some p
no_way_in t none p = ap (λ (l : Led). path_of l.way) (no_links (links_in t) none true p)

-- ---- a text that may be a path

pub path_or_none_is : (r : Option (List ℕ)) (text : List ℕ) → IfSome r (λ p. p ≡ text) → (IsNone r ↔ (IsPath text → ⊥)) → r ≡ path_or_none text
path_or_none_is r text some none = by_case r some none (is_path text) refl
  where
    by_case : (r : Option (List ℕ)) → IfSome r (λ p. p ≡ text) → (IsNone r ↔ (IsPath text → ⊥)) → (b : Bool) → is_path text ≡ b → r ≡ path_or_none text
    by_case None some none true e = absurd (let z = sym e ∙ no_path text (none.0 refl) in cc)
    by_case None some none false e = rw e refl
    by_case (Some p) some none true e = rw (e, some) refl
    by_case (Some p) some none false e = let z = none.1 (λ (h : IsPath text). let y = sym e ∙ path_pass text h in cc) in cc

pub moved_else : (base link p text : List ℕ) (r : Option (List ℕ)) → bytes_eq p link ≡ false → text ≡ front_of base ++ drop (length link) p
    → IfSome r (λ q. q ≡ text) → (IsNone r ↔ (IsPath text → ⊥)) → r ≡ moved base link p
moved_else base link p text r e f some none = rw e (path_or_none_is r text some none ∙ ap path_or_none f)

-- the path behind the links, turn by turn
pub way_end : (ls : Links) (left : ℕ) (p : List ℕ) → first_link ls levels p ≡ None → (n : ℕ) → Some p ≡ path_of (led_from ls true left n p).way
way_end ls left p e n = sym (ap (λ (l : Led). path_of l.way) (led_end ls true left n p e))

pub way_many : (ls : Links) (left : ℕ) (p : List ℕ) (m : Met) → left ≡ 0 → first_link ls levels p ≡ Some m → (n : ℕ) → None ≡ path_of (led_from ls true left n p).way
way_many ls left p m none e n = rw none (sym (ap (λ (l : Led). path_of l.way) (led_more ls true n p m e)))

pub way_bad : (ls : Links) (left : ℕ) (p : List ℕ) (m : Met) → 0 < left → first_link ls levels p ≡ Some m → onward p m ≡ None → (n : ℕ) → None ≡ path_of (led_from ls true left n p).way
way_bad ls left p m h e f n = sym (ap (λ (l : Led). path_of l.way) (led_onward ls true left n p m h e ∙ ap (led_on (led_from ls true (left - 1) (suc n)) n) f))

pub way_next : (ls : Links) (left : ℕ) (p q : List ℕ) (m : Met) (r : Option (List ℕ)) → 0 < left → first_link ls levels p ≡ Some m → onward p m ≡ Some q
    → ((n : ℕ) → r ≡ path_of (led_from ls true (left - 1) n q).way) → (n : ℕ) → r ≡ path_of (led_from ls true left n p).way
way_next ls left p q m r h e f g n = g (suc n) ∙ sym (ap (λ (l : Led). path_of l.way) (led_onward ls true left n p m h e ∙ ap (led_on (led_from ls true (left - 1) (suc n)) n) f))

pub way_next_ok : (ls : Links) (left : ℕ) (p q : List ℕ) (m : Met) (r : Result (Option (List ℕ)) NoMemory) → 0 < left → first_link ls levels p ≡ Some m → onward p m ≡ Some q
    → IfOk r (λ o. (n : ℕ) → o ≡ path_of (led_from ls true (left - 1) n q).way) → IfOk r (λ o. (n : ℕ) → o ≡ path_of (led_from ls true left n p).way)
way_next_ok ls left p q m (Ok o) h e f g = way_next ls left p q m o h e f g
way_next_ok ls left p q m (Err x) h e f g = tt

pub way_here : (t : Table) (r : Result (Option (List ℕ)) NoMemory) (p q : List ℕ) → q ≡ p → IfOk r (λ o. (n : ℕ) → o ≡ path_of (led_from (links_in t) true most n q).way) → IfOk r (λ o. o ≡ way_in t p)
unfolding led
way_here t (Ok o) p q e h = h 0 ∙ ap (λ (x : List ℕ). path_of (led_from (links_in t) true most 0 x).way) e
way_here t (Err x) p q e h = tt
