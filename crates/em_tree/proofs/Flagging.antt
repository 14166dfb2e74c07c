-- The flag over what is put, taken out and laid.
use Rattle.std.proofs.Common.{◌≡◌, ℕ, Bool, true, false, cond, ◌||◌, List, Option, Some, None, refl, sym, ap, subst, ◌∙◌}
use Rattle.std.specs.Prelude.{is_some, Result, Ok, Err, OnOk, OnErr}
use Rattle.em_base.specs.declared.memory.NoMemory.{NoMemory}
use Rattle.std.specs.Ordering.{eq_by_cmp}
use Rattle.std.specs.Cmp.Lexicographic.{nat_list_cmp_total}
use Rattle.std.specs.FinMap.{get, insert, remove, empty, get-insert, get-remove, get-empty}
use Rattle.em_tree.specs.declared.node.Node.{Node}
use Rattle.em_tree.specs.declared.node.Node.TheVariants.{Dir}
use Rattle.em_path.specs.Paths.{root_text}
use Rattle.em_tree.specs.Trees.{Table, Changes, link_of, laid_over}
use Rattle.em_tree.specs.Flags.{link_made, IsFlag, IsMark}
use Rattle.em_tree.proofs.Maps.{order}
use Rattle.em_tree.proofs.Laying.{over}
use Rattle.em_tree.proofs.Lawful.{get-laid_over}

left_down : (a b : Bool) → (a || b) ≡ false → a ≡ false
left_down true b e = cc
left_down false b e = refl

right_down : (a b : Bool) → (a || b) ≡ false → b ≡ false
right_down true b e = cc
right_down false b e = e

no_text : (o : Option (List ℕ)) → is_some o ≡ false → o ≡ None
no_text None e = refl
no_text (Some x) e = cc

pub IsFlag-put : (linked : Bool) (t : Table) (p : List ℕ) (n : Node) → IsFlag linked t → IsFlag (linked || is_some (link_of (Some n))) (insert t p n)
IsFlag-put linked t p n h = record {
  none = λ e q. ap link_of (get-insert nat_list_cmp_total t p n q) ∙ by_case (eq_by_cmp order q p) q e;
}
  where
    by_case : (b : Bool) (q : List ℕ) → (linked || is_some (link_of (Some n))) ≡ false → link_of (cond b (Some n) (get t q)) ≡ None
    by_case true q e = no_text (link_of (Some n)) (right_down linked (is_some (link_of (Some n))) e)
    by_case false q e = h.none (left_down linked (is_some (link_of (Some n))) e) q

pub IsFlag-wide : (linked more : Bool) (t : Table) → IsFlag linked t → IsFlag (linked || more) t
IsFlag-wide linked more t h = record { none = λ e. h.none (left_down linked more e) }

pub IsFlag-root : (stamp : ℕ) → IsFlag false (insert empty root_text (Dir stamp))
IsFlag-root stamp = IsFlag-put false empty root_text (Dir stamp) (record { none = λ e q. ap link_of (get-empty order q) })

pub IsFlag-lay : (linked marked : Bool) (t : Table) (d : Changes) → IsFlag linked t → IsMark marked d → IsFlag (linked || marked) (laid_over d t)
IsFlag-lay linked marked t d h g = record {
  none = λ e q. ap link_of (get-laid_over d t q) ∙ by_case q (get d q) refl (left_down linked marked e) (right_down linked marked e);
}
  where
    by_case : (q : List ℕ) (c : Option (Option Node)) → get d q ≡ c → linked ≡ false → marked ≡ false → link_of (over c (get t q)) ≡ None
    by_case q None is e f = h.none e q
    by_case q (Some n) is e f = ap link_made (sym is) ∙ g.none f q

pub IsMark-empty : IsMark false empty
IsMark-empty = record { none = λ e q. ap link_made (get-empty order q) }

pub IsMark-put : (marked : Bool) (d : Changes) (p : List ℕ) (n : Option Node) → IsMark marked d → IsMark (marked || is_some (link_of n)) (insert d p n)
IsMark-put marked d p n h = record {
  none = λ e q. ap link_made (get-insert nat_list_cmp_total d p n q) ∙ by_case (eq_by_cmp order q p) q e;
}
  where
    by_case : (b : Bool) (q : List ℕ) → (marked || is_some (link_of n)) ≡ false → link_made (cond b (Some n) (get d q)) ≡ None
    by_case true q e = no_text (link_of n) (right_down marked (is_some (link_of n)) e)
    by_case false q e = h.none (left_down marked (is_some (link_of n)) e) q

pub IsMark-wide : (marked more : Bool) (d : Changes) → IsMark marked d → IsMark (marked || more) d
IsMark-wide marked more d h = record { none = λ e. h.none (left_down marked more e) }

pub IsMark-gone : (marked : Bool) (d : Changes) (p : List ℕ) → IsMark marked d → IsMark marked (remove d p)
IsMark-gone marked d p h = record {
  none = λ e q. ap link_made (get-remove nat_list_cmp_total d p q) ∙ by_case (eq_by_cmp order q p) q e;
}
  where
    by_case : (b : Bool) (q : List ℕ) → marked ≡ false → link_made (cond b None (get d q)) ≡ None
    by_case true q e = refl
    by_case false q e = h.none e q

-- what is left of a change that may have failed
pub settled : {X : Type 0} (P : X → Type 0) (r : Result (Unit {0}) NoMemory) (new old after : X) → OnOk r (new ≡ after) → OnErr r (new ≡ old) → P after → P old → P new
settled P (Ok u) new old after f g h k = subst P (sym f) h
settled P (Err e) new old after f g h k = subst P (sym g) k
