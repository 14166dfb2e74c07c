-- The tests is_component and is_path tell components and the texts of paths.
use Rattle.std.proofs.Common.{◌≡◌, ◌≢◌, ℕ, Bool, true, false, not, ◌&&◌, eqb, leb, List, [], length, codes, refl, ap}
use Rattle.std.specs.Prelude.{◌↔◌}
use Rattle.std.specs.Bool.{Decides}
use Rattle.std.specs.List.{list_all}
use Rattle.std.specs.Str.{bytes_eq}
use Rattle.std.proofs.lemmas.Bool.{and_parts, and_from, eqb-true, eq-eqb, leb-true, le-leb, false_from_ne_true}
use Rattle.std.proofs.lemmas.List.{nil_from_length}
use Rattle.std.proofs.lemmas.List.Elements.{All-from_recursion, recursion_from_All}
use Rattle.std.proofs.lemmas.Slice.Eq.{bytes_eq-Decides}
use Rattle.em_base.proofs.Lemmas.{all_hold, all_pass}
use Rattle.em_path.specs.Paths.{IsComponent, IsPath, components, path_text, is_component, is_path}

isnt : {P : Type 0} (b : Bool) → Decides b P → not b ≡ true → P → ⊥
isnt true d e p = absurd cc
isnt false d e p = let k : false ≡ true = d.1 p in absurd cc

not_is : {P : Type 0} (b : Bool) → Decides b P → (P → ⊥) → not b ≡ true
not_is true d n = absurd (n (d.0 refl))
not_is false d n = refl

number_is : (a b : ℕ) → Decides (eqb a b) (a ≡ b)
number_is a b = (eqb-true a b, eq-eqb a b)

is_empty : (xs : List ℕ) → Decides (eqb (length xs) 0) (xs ≡ [])
is_empty xs = (λ e. nil_from_length xs (eqb-true _ _ e), λ e. eq-eqb _ _ (ap length e))

abbrev is_plain : ℕ → Bool
is_plain b = not (eqb b 47) && not (eqb b 0) && not (eqb b 10)

abbrev IsPlain : ℕ → Type 0
IsPlain b = (b ≢ 47) × (b ≢ 0) × (b ≢ 10)

plain_hold : (b : ℕ) → is_plain b ≡ true → IsPlain b
plain_hold b e =
    let x = and_parts (not (eqb b 47) && not (eqb b 0)) (not (eqb b 10)) e in
    let y = and_parts (not (eqb b 47)) (not (eqb b 0)) x.0 in
    (isnt _ (number_is b 47) y.0, isnt _ (number_is b 0) y.1, isnt _ (number_is b 10) x.1)

plain_pass : (b : ℕ) → IsPlain b → is_plain b ≡ true
plain_pass b p = and_from _ _ (and_from _ _ (not_is _ (number_is b 47) p.0) (not_is _ (number_is b 0) p.1)) (not_is _ (number_is b 10) p.2)

pub component_hold : (c : List ℕ) → is_component c ≡ true → IsComponent c
component_hold c e =
    let x = and_parts (not (eqb (length c) 0) && not (bytes_eq c (codes ".")) && not (bytes_eq c (codes ".."))) (list_all is_plain c) e in
    let y = and_parts (not (eqb (length c) 0) && not (bytes_eq c (codes "."))) (not (bytes_eq c (codes ".."))) x.0 in
    let z = and_parts (not (eqb (length c) 0)) (not (bytes_eq c (codes "."))) y.0 in
    record {
      filled = isnt _ (is_empty c) z.0;
      not_here = isnt _ (bytes_eq-Decides c (codes ".")) z.1;
      not_above = isnt _ (bytes_eq-Decides c (codes "..")) y.1;
      plain = All-from_recursion IsPlain c (all_hold is_plain IsPlain plain_hold c x.1);
    }

pub component_pass : (c : List ℕ) → IsComponent c → is_component c ≡ true
component_pass c h =
    and_from _ _
    (and_from _ _ (and_from _ _ (not_is _ (is_empty c) h.filled) (not_is _ (bytes_eq-Decides c (codes ".")) h.not_here)) (not_is _ (bytes_eq-Decides c (codes "..")) h.not_above))
    (all_pass is_plain IsPlain plain_pass c (recursion_from_All IsPlain c h.plain))

pub path_hold : (t : List ℕ) → is_path t ≡ true → IsPath t
path_hold t e =
    let x = and_parts (bytes_eq t (path_text (components t)) && list_all is_component (components t) && leb (length (components t)) 64) (leb (length t) 1024) e in
    let y = and_parts (bytes_eq t (path_text (components t)) && list_all is_component (components t)) (leb (length (components t)) 64) x.0 in
    let z = and_parts (bytes_eq t (path_text (components t))) (list_all is_component (components t)) y.0 in
    record {
      spelled = (bytes_eq-Decides t (path_text (components t))).0 z.0;
      names = All-from_recursion IsComponent (components t) (all_hold is_component IsComponent component_hold (components t) z.1);
      deep = leb-true _ _ y.1;
      long = leb-true _ _ x.1;
    }

pub path_pass : (t : List ℕ) → IsPath t → is_path t ≡ true
path_pass t h =
    and_from _ _
    (and_from _ _
    (and_from _ _ ((bytes_eq-Decides t (path_text (components t))).1 h.spelled) (all_pass is_component IsComponent component_pass (components t) (recursion_from_All IsComponent (components t) h.names)))
    (le-leb _ _ h.deep))
    (le-leb _ _ h.long)

pub no_path : (t : List ℕ) → (IsPath t → ⊥) → is_path t ≡ false
no_path t none = false_from_ne_true (is_path t) (λ e. none (path_hold t e))

pub component_test : (c : List ℕ) → (is_component c ≡ true) ↔ IsComponent c
component_test c = (component_hold c, component_pass c)

pub path_test : (t : List ℕ) → (is_path t ≡ true) ↔ IsPath t
path_test t = (path_hold t, path_pass t)
