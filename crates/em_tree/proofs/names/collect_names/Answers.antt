use Rattle.std.proofs.Common.{◌≡◌, sym, subst, List, ℕ}
use Rattle.std.specs.Prelude.{IfSome, filter_map}
use Rattle.std.specs.declared.cmp.Ordering.TheVariants.{Less}
use Rattle.em_path.specs.Paths.{IsComponent, last_of}
use Rattle.em_tree.specs.Names.{last_name}
use Rattle.em_tree.proofs.Maps.{order}
use Rattle.em_tree.proofs.Naming.{names_left, name_component, name_greater}
use Rattle.em_tree.proofs.names.collect_names.Goals as goal

pub add-requires-clause-component : goal.add-requires-clause-component
add-requires-clause-component c =
    let names = c.loop-path.names in
    let next = c.next.new.self in
    let whole = names_left names c.loop-path.path-iterator next (filter_map last_of c.args.paths) c.in-Some.path.now c.in-Some-last.name.now c.loop-path.invariant c.in-Some.ensures.steps c.in-Some-last.ensures c.requires.names in
    subst IsComponent (sym c.in_ok-from_slice.ensures) (name_component names c.in-Some-last.name.now (filter_map last_of next) whole)

pub add-requires-clause-greater : goal.add-requires-clause-greater
add-requires-clause-greater c =
    let names = c.loop-path.names in
    let next = c.next.new.self in
    let whole = names_left names c.loop-path.path-iterator next (filter_map last_of c.args.paths) c.in-Some.path.now c.in-Some-last.name.now c.loop-path.invariant c.in-Some.ensures.steps c.in-Some-last.ensures c.requires.names in
    subst (λ (x : List ℕ). IfSome (last_name names) (λ l. order l x ≡ Less)) (sym c.in_ok-from_slice.ensures) (name_greater names c.in-Some-last.name.now (filter_map last_of next) whole)
