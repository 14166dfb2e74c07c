use Rattle.std.proofs.Common.{refl}
use Rattle.std.proofs.lemmas.Result.{err_from_is_err_and}
use Rattle.em_tree.specs.Trees.{link_of}
use Rattle.em_view.specs.Walking.{link_below, link_by, link_in}
use Rattle.em_view.proofs.Below.{below_own, below_asked, below_failed}
use Rattle.em_view.proofs.Performing.{ran_out}
use Rattle.em_view.proofs.desk.Desk.link_below.Goals as goal

pub returns-in-Some-clause-performs : goal.returns-in-Some-clause-performs
unfolding link_below
returns-in-Some-clause-performs g c = rw c.in_ok-link_of.ensures (below_own c.args.self.now c.args.p.now c.in-Some.node.now (λ mine. link_by mine c.args.p.now) (link_of c.in-Some.node.now) c.in-Some.ensures refl)

pub returns-in_err-answer-clause-performs : goal.returns-in_err-answer-clause-performs
unfolding link_below
returns-in_err-answer-clause-performs g c =
    let p = err_from_is_err_and c.from_residual-in_err-answer.result c.from_residual-in_err-answer.ensures.1 in
    rw (p.1, p.2) (below_failed c.args.self.now c.args.p.now c.ask.new.self _ (λ mine. link_by mine c.args.p.now) _ c.in_default.ensures refl (rw c.in_ok-copy.ensures at c.in_err-answer.ensures.performs))

pub returns-clause-performs : goal.returns-clause-performs
unfolding link_below
returns-clause-performs g c =
    rw c.link_in.ensures (below_asked c.args.self.now c.args.p.now c.ask.new.self _ (λ mine. link_by mine c.args.p.now) link_in _ c.in_default.ensures refl (rw c.in_ok-copy.ensures at c.in_ok-answer.ensures.performs))

pub returns-in_err-copy-clause-performs : goal.returns-in_err-copy-clause-performs
returns-in_err-copy-clause-performs g c = ran_out _ refl c.from_residual-in_err-copy.ensures.1

pub returns-in_err-link_of-clause-performs : goal.returns-in_err-link_of-clause-performs
returns-in_err-link_of-clause-performs g c = ran_out _ refl c.from_residual.ensures.1
