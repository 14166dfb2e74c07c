use Rattle.std.proofs.Common.{◌≡◌, List, refl, sym, subst, length, arith, rules}
use Rattle.em_engine.proofs.Steps.{starts}
use Rattle.std.specs.FinMap.{empty}
use Rattle.em_engine.specs.declared.event.Phase.{Phase}
use Rattle.em_engine.specs.Boards.{AreTied}
use Rattle.em_engine.proofs.Tying.{tied_free}
use Rattle.em_engine.proofs.board.Board.new.Goals as goal

pub invariant_of-result : goal.invariant_of-result
invariant_of-result g c =
    let e : c.len-count.result ≡ length c.args.waits = search rules in
    rw (c.in_ok-versions.ensures, c.in_ok-ready.ensures, c.in_ok-journal.ensures.items, c.in_ok-journal.ensures.len)
    (starts c.args.start _ c.args.waits _ c.in_ok-phases.phases.items c.in_ok-asked.asked.items c.len-count.result _ refl refl c.in_ok-phases.ensures c.in_ok-asked.ensures e (omega (arith, e, c.requires.small)) c.requires.lower (omega (arith, c.in_ok-journal.ensures.exact)), subst (λ (xs : List (Phase g.row.S.Denot)). AreTied g.S.Spec.job_of xs empty) (sym c.in_ok-phases.ensures) (tied_free g.S.Spec.job_of c.len-count.result empty))
