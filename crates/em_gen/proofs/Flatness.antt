-- Files right under the root keep the root the only directory.
use Rattle.std.proofs.Common.{◌≡◌, ◌≢◌, ℕ, ◌<◌, ◌^◌, Bool, true, false, cond, List, [], ◌∷◌, ◌++◌, Some, codes, decimal, refl, sym, ap, ◌∙◌}
use Rattle.std.specs.List.{list_all, AllByRecursion}
use Rattle.std.specs.Char.{is_ascii_digit}
use Rattle.std.specs.Ordering.{eq_by_cmp}
use Rattle.std.specs.Cmp.Lexicographic.{nat_list_cmp_total}
use Rattle.std.specs.FinMap.{get, insert, empty, get-insert, get-empty}
use Rattle.std.proofs.lemmas.Bool.{and_parts}
use Rattle.std.proofs.lemmas.List.Elements.{All-from_recursion}
use Rattle.em_base.proofs.Lemmas.{decimal_digits}
use Rattle.em_path.specs.Paths.{IsComponent, IsPath, root_text, parent_text}
use Rattle.em_path.proofs.Lemmas.{child_of_root, child_parent, root_is_path}
use Rattle.em_tree.specs.declared.node.Node.TheVariants.{File, Dir}
use Rattle.em_tree.specs.declared.node.Kind.TheVariants as kind
use Rattle.em_tree.specs.Trees.{Table, kind_of}
use Rattle.em_tree.proofs.Maps.{order}
use Rattle.em_tree.proofs.Tables.{same_key, IsTree-root}
use Rattle.em_tree.proofs.Lawful.{IsTree-put}
use Rattle.em_gen.specs.Flat.{IsFlat}

pub flat_root : IsFlat (insert empty root_text (Dir 1))
flat_root = record { tree = IsTree-root 1; only = λ p d. by p (eq_by_cmp order p root_text) refl (sym (ap kind_of (get-insert nat_list_cmp_total empty root_text (Dir 1) p)) ∙ d) }
  where
    by : (p : List ℕ) (b : Bool) → eq_by_cmp order p root_text ≡ b → kind_of (cond b (Some (Dir 1)) (get {R = order} empty p)) ≡ kind.Dir → p ≡ root_text
    by p true e d = same_key p root_text e
    by p false e d = let none : kind.Absent ≡ kind.Dir = sym (ap kind_of (get-empty order p)) ∙ d in absurd cc

pub flat_put : (t : Table) (name body : List ℕ) → IsFlat t → IsComponent name → IsPath (47 ∷ name) → IsFlat (insert t (47 ∷ name) (File body 1))
flat_put t name body h part path = record {
  tree = IsTree-put t (47 ∷ name) root_text (File body 1) h.tree path (sym (ap parent_text (child_of_root name)) ∙ child_parent root_text name root_is_path part) h.tree.root
      (λ d. let bare : 47 ∷ name ≡ root_text = h.only (47 ∷ name) d in let empty : name ≡ [] = cc in absurd (part.filled empty));
  only = λ p d. by p (eq_by_cmp order p (47 ∷ name)) (sym (ap kind_of (get-insert nat_list_cmp_total t (47 ∷ name) (File body 1) p)) ∙ d);
}
  where
    by : (p : List ℕ) (b : Bool) → kind_of (cond b (Some (File body 1)) (get {R = order} t p)) ≡ kind.Dir → p ≡ root_text
    by p true d = absurd cc
    by p false d = h.only p d

-- ---- names

other : (c d : ℕ) → is_ascii_digit c ≡ true → is_ascii_digit d ≡ false → c ≢ d
other c d is isnt e = let both : true ≡ false = sym is ∙ ap is_ascii_digit e ∙ isnt in absurd cc

abbrev IsPlain : ℕ → Type 0
IsPlain b = (b ≢ 47) × (b ≢ 0) × (b ≢ 10)

plain_digits : (ds : List ℕ) → list_all is_ascii_digit ds ≡ true → AllByRecursion IsPlain ds
plain_digits [] h = tt
plain_digits (d ∷ ds) h =
    let parts = and_parts (is_ascii_digit d) (list_all is_ascii_digit ds) h in
    ((other d 47 parts.0 refl, other d 0 parts.0 refl, other d 10 parts.0 refl), plain_digits ds parts.1)

pub source_name : (i : ℕ) → i < 2 ^ 64 → IsComponent (codes "s" ++ decimal i)
source_name i small = record {
  filled = λ e. absurd cc;
  not_here = λ e. absurd cc;
  not_above = λ e. absurd cc;
  plain = All-from_recursion IsPlain (codes "s" ++ decimal i) (let s : IsPlain 115 = (λ e. absurd cc, λ e. absurd cc, λ e. absurd cc) in (s, plain_digits (decimal i) (decimal_digits i small)));
}
