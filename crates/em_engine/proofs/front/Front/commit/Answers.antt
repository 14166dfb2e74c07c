use Rattle.std.proofs.Common.{◌≡◌, true, sym, subst}
use Rattle.std.specs.Prelude.{IsSomeAnd}
use Rattle.em_engine.specs.Fronts.{Standing, next_of}
use Rattle.em_engine.proofs.Fronting.{commits, the_next}
use Rattle.em_engine.proofs.front.Front.commit.Goals as goal

pub invariant_of-self-2 : goal.invariant_of-self-2
invariant_of-self-2 g c =
    let N : Standing g.row.S.Denot → Type 0 = λ v. IsSomeAnd (next_of v) (λ next. g.S.PartialEq.eq c.args.run.spec next ≡ true) in
    let next = the_next _ (λ n. g.S.PartialEq.eq c.args.run.spec n ≡ true) (subst N (sym c.self.view_is) c.requires.next) in
    let same = g.met.S.Spec.means_same c.args.run.spec next.0 next.2 in
    let gives = c.in-Ok-lay_run.ensures.gives in
    let parts = c.into_parts-parts.ensures.parts in
    rw (c.in-Ok-lay_run.ensures.ok, c.ends-self-inside.ensures, c.spec.ensures, c.outcome.ensures, c.push_reserved.ensures.items, c.push_reserved-2.ensures.items, c.reserve.ensures.items, c.reserve-2.ensures.items, parts) (
      commits g.S.Spec.makes g.S.Spec.ends_after (record { start = c.self.inside.start; state = c.self.inside.state; specs = c.self.inside.specs; ended = c.self.inside.ended; fuel = c.self.inside.fuel.items; deltas = c.self.inside.deltas.items }) c.args.run next.0 c.self.invariant.0 next.1 (same.effects _ _ _ gives.effect) (same.ends c.args.run.outcome),
      c.self.invariant.1,
    )
