use Rattle.std.proofs.Common.{◌≡◌, ◌<◌, ◌∙◌, ap, subst, sym, refl, length}
use Rattle.std.specs.Prelude.{Some}
use Rattle.em_engine.specs.declared.event.Phase.{Phase}
use Rattle.em_engine.specs.Journal.{Replay}
use Rattle.em_engine.specs.Boards.{Seen, told}
use Rattle.em_engine.proofs.Steps.{front_can, read_at}
use Rattle.em_engine.proofs.board.Board.claim_front.Goals as goal

pub begin-requires-clause-can : goal.begin-requires-clause-can
begin-requires-clause-can g c =
    let L : Seen g.row.S.Denot → Type 0 = λ b. c.args.job < length b.phases in
    let N : Seen g.row.S.Denot → Type 0 = λ b. c.args.job ≡ (told b).settled in
    let lt = subst L (sym c.self.view_is) c.requires.job in
    let next = subst N (sym c.self.view_is) c.requires.next ∙ ap (λ (r : Replay). r.settled) c.self.invariant.0.replayed in
    let at = read_at c.self.inside.phases.items c.args.job c.index.result.now lt c.index.ensures ∙ ap (λ (p : Phase g.row.S.Denot). Some p) c.in-Free.is in
    rw (← c.self.view_is) (front_can _ c.self.invariant.0 c.args.job next at)

pub returns-clause-free : goal.returns-clause-free
returns-clause-free g c =
    let L : Seen g.row.S.Denot → Type 0 = λ b. c.args.job < length b.phases in
    let lt = subst L (sym c.self.view_is) c.requires.job in
    let at = read_at c.self.inside.phases.items c.args.job c.index.result.now lt c.index.ensures ∙ ap (λ (p : Phase g.row.S.Denot). Some p) c.in-Free.is in
    rw (← c.self.view_is) (λ _. at, λ _. refl)
