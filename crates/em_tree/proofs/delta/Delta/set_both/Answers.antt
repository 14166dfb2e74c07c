use Rattle.std.proofs.Common.{◌∙◌, sym, ap}
use Rattle.std.specs.FinMap.{get, insert, remove}
use Rattle.em_tree.proofs.Laying.{present}
use Rattle.em_tree.proofs.Pairs.{insert_swap, taken_back, stays_there, not_found}
use Rattle.em_tree.proofs.delta.Delta.set_both.Goals as goal

pub unreachable-requires : goal.unreachable-requires
unreachable-requires c =
    let there = present c.get.result (get c.args.self.now c.args.p) c.get.ensures (sym c.is_some.ensures ∙ c.if-is_some.true) in
    stays_there c.args.self.now c.args.p c.args.q c.args.m c.requires.other there (ap (λ t. get t c.args.p) (sym c.in_ok-set.ensures.ok) ∙ c.in-Err.ensures.absent)

pub returns-then-is_some-clause-ok : goal.returns-then-is_some-clause-ok
returns-then-is_some-clause-ok c =
    c.in-Ok.ensures.ok ∙ ap (λ t. insert t c.args.p c.args.n) c.in_ok-set.ensures.ok ∙ insert_swap c.args.self.now c.args.p c.args.n c.args.q c.args.m c.requires.other

pub returns-clause-err : goal.returns-clause-err
returns-clause-err c =
    let absent = not_found c.get.result (get c.args.self.now c.args.p) c.get.ensures (sym c.is_some.ensures ∙ c.if-is_some.false) in
    c.unset.ensures ∙ ap (λ t. remove t c.in_ok-place.place.path) (c.in-Err-set.ensures.err ∙ c.in_ok-set-2.ensures.ok) ∙ ap (λ q. remove (insert c.args.self.now c.args.p c.args.n) q) c.in_ok-place.ensures
    ∙ taken_back c.args.self.now c.args.p c.args.n absent
