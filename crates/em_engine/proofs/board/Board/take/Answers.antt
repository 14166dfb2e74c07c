use Rattle.std.proofs.Common.{◌≡◌, ◌∙◌, subst, sym, ap, true, slice_get, length}
use Rattle.std.proofs.lemmas.Option.{same_Some}
use Rattle.em_engine.specs.Boards.{Seen}
use Rattle.em_engine.specs.Calls.{can_take}
use Rattle.em_engine.proofs.Steps.{takes, takes_it, took, taken_within, read_at, left_ended}
use Rattle.em_engine.proofs.Tying.{tied_takes}
use Rattle.em_engine.proofs.board.Board.take.Goals as goal

pub invariant_of-self : goal.invariant_of-self
invariant_of-self g c =
    let P : Seen g.row.S.Denot → Type 0 = λ b. can_take (slice_get b.phases c.args.job) ≡ true in
    let can = subst P (sym c.self.view_is) c.requires.left in
    let lt = taken_within c.self.inside.phases.items c.args.job can in
    let at = read_at c.self.inside.phases.items c.args.job c.index.result.now lt c.index.ensures in
    rw (c.replace-phase.ensures.after, c.replace-asked.ensures.after, c.new.ensures) (takes _ c.args.job c.index.result.now c.self.invariant.0 at (left_ended c.index.result.now (sym (ap can_take at) ∙ can) c.in_default.not-Claimed), tied_takes g.S.Spec.job_of c.self.inside.phases.items _ c.args.job c.self.invariant.1)

pub returns : goal.returns
returns g c =
    let P : Seen g.row.S.Denot → Type 0 = λ b. can_take (slice_get b.phases c.args.job) ≡ true in
    let can = subst P (sym c.self.view_is) c.requires.left in
    let lt = taken_within c.self.inside.phases.items c.args.job can in
    let at = read_at c.self.inside.phases.items c.args.job c.index.result.now lt c.index.ensures in
    let at' = read_at c.self.inside.phases.items c.args.job c.index_mut-2.result.now lt c.index_mut-2.ensures.value in
    let same : c.replace-phase.result ≡ c.index.result.now = c.replace-phase.ensures.value ∙ same_Some _ _ (sym at' ∙ at) in
    rw (← c.self.view_is, c.replace-phase.ensures.after, c.left_by.ensures, same)
    (takes_it (record { start = c.self.inside.versions.start; waits = c.self.inside.ready.waits; journal = c.self.inside.journal.items; phases = c.self.inside.phases.items }) c.args.job c.index.result.now c.replace-asked.result at (sym (ap can_take at) ∙ can) c.in_default.not-Claimed
    (λ keeps. c.replace-asked.ensures.value ∙ took _ c.self.invariant.0 c.args.job c.index.result.now c.index_mut.result.now at keeps c.index_mut.ensures.value))
