use Rattle.std.proofs.Common.{◌∙◌, ◌&&◌, sym, ap, nat_eq}
use Rattle.std.specs.Cmp.Lexicographic.{pointwise}
use Rattle.em_tree.proofs.Maps.{path_entries}
use Rattle.em_tree.proofs.map.PathMapPartialEq.eq.Goals as goal

pub returns : goal.returns
returns g c = rw (← c.self.view_is, ← c.other.view_is) (
    let mine = c.self.inside.held.entries in
    let its = c.other.inside.held.entries in
    c.eq.ensures ∙ ap (λ es. pointwise (λ p q. pointwise nat_eq p.0 q.0 && g.V.PartialEq.eq p.1 q.1) es its) (sym (path_entries mine c.self.invariant))
    ∙ ap (pointwise (λ p q. pointwise nat_eq p.0 q.0 && g.V.PartialEq.eq p.1 q.1) _) (sym (path_entries its c.other.invariant)))
