-- No stamp of a generated project is above 1.
use Rattle.std.proofs.Common.{◌≡◌, ℕ, ◌≤◌, List, [], ◌∷◌, length, map, subst, sym, ◌∙◌, arith}
use Rattle.std.specs.Prelude.{fold}
use Rattle.std.specs.List.{range_with_len}
use Rattle.std.specs.declared.cmp.Ordering.{Ordering}
use Rattle.std.specs.declared.cmp.Ordering.TheVariants.{Less, Equal, Greater}
use Rattle.std.specs.Ordering.{nat_cmp}
use Rattle.std.specs.Cmp.Lexicographic.{slice_cmp, nat_list_cmp_total}
use Rattle.std.specs.FinMap.{empty, insert, entries, entries-insert, len-entries, len-empty}
use Rattle.std.specs.FinMap.Entries.{put, by_order}
use Rattle.em_path.specs.Paths.{root_text}
use Rattle.em_tree.specs.declared.node.Node.{Node}
use Rattle.em_tree.specs.declared.node.Node.TheVariants.{File, Dir}
use Rattle.em_tree.specs.Trees.{Table, greatest, base_of, stamp_in}
use Rattle.em_gen.specs.Generated.{project, source, source_path, with_source}

abbrev Entries : Type 0
Entries = List (List ℕ × Node)

abbrev most : Entries → ℕ
most es = greatest (map (λ e. e.1) es)

most_put : (k : List ℕ) (v : Node) (es : Entries) → stamp_in v ≤ 1 → most es ≤ 1 → most (put (slice_cmp nat_cmp) k v es) ≤ 1
most_put k v [] small h = omega arith
most_put k v (e ∷ es) small h =
    let rest : most es ≤ 1 = omega arith in
    by (most_put k v es small rest) (slice_cmp nat_cmp k e.0)
  where
    by : most (put (slice_cmp nat_cmp) k v es) ≤ 1 → (o : Ordering) → most (by_order o ((k, v) ∷ e ∷ es) ((e.0, v) ∷ es) (e ∷ put (slice_cmp nat_cmp) k v es)) ≤ 1
    by more Less = omega arith
    by more Equal = omega arith
    by more Greater = omega arith

base_put : (t : Table) (k : List ℕ) (v : Node) → stamp_in v ≤ 1 → base_of t ≤ 1 → base_of (insert t k v) ≤ 1
base_put t k v small h = subst (λ (es : Entries). most es ≤ 1) (sym (entries-insert nat_list_cmp_total t k v)) (most_put k v (entries t) small h)

bare : (es : Entries) → length es ≡ 0 → most es ≤ 1
bare [] none = omega arith
bare (e ∷ es) none = absurd (omega arith)

base_sources : (is : List ℕ) (t : Table) → base_of t ≤ 1 → base_of (fold with_source t is) ≤ 1
base_sources [] t h = h
base_sources (i ∷ is) t h = base_sources is (with_source t i) (base_put t (source_path i) (File (source i) 1) (omega arith) h)

pub base_small : (n : ℕ) → base_of (project n) ≤ 1
base_small n =
    base_sources (range_with_len 0 n) _ (base_put _ _ (File _ 1) (omega arith) (base_put empty root_text (Dir 1) (omega arith) (bare (entries (empty {X = Node} {R = slice_cmp nat_cmp})) (sym (len-entries (empty {X = Node} {R = slice_cmp nat_cmp})) ∙ len-empty (slice_cmp nat_cmp) Node))))
